use Rattle.std.proofs.Common.{◌+◌, arith, ap, subst}
use Rattle.std.proofs.lemmas.Option.{slice_get_within}
use Rattle.plan_schema.specs.Contents.{Contents}
use Rattle.plan_journal.proofs.JournalLaws.{all_sound}
use Rattle.plan_core.specs.Behind.{IsFirstRefused, IsNoCore}
use Rattle.response_program.specs.Views.{view}
use Rattle.response_program.specs.Outcomes.{outcome_of}
use Rattle.response_program.specs.Replayed.{replay_of, HasShown}
use Rattle.response_program.proofs.Shown.{behind_entries, behind_legal}
use Rattle.response_program.proofs.Replays.{refused_at, no_memory, begins}
use Rattle.response_program.proofs.replay.replay_behind.Goals as goal

pub behind-requires-clause-sound : goal.behind-requires-clause-sound
behind-requires-clause-sound g c = all_sound c.args.journal.now.entries c.requires.journal.sound

pub overflow_add-result : goal.overflow_add-result
overflow_add-result g c =
    let entries = c.args.journal.now.entries in
    let before = c.in-Err-Refused.before in
    let refusal = c.in-Err-Refused.field-0-1 in
    let first : IsFirstRefused c.args.contents entries before refusal = subst (IsNoCore c.args.contents entries) c.in-Err-Refused.field-0-is c.in-Err-Refused.ensures.err in
    let inside = slice_get_within entries before first.entry first.at in
    let few = c.requires.journal.few in
    let same = c.in-Err-Refused.before-is in
    omega (arith, inside, few, same)

pub returns-in-Ok : goal.returns-in-Ok
returns-in-Ok g c base journal =
    let old = view g.H.Shelf.held g.H.Shelf.open_faults g.H.Shelf.read_faults g.H.Shelf.write_faults c.args.shelf.now in
    let new = view g.H.Shelf.held g.H.Shelf.open_faults g.H.Shelf.read_faults g.H.Shelf.write_faults c.show.new.shelf in
    let names = replay_of c.args.files.now in
    let contents = c.args.contents in
    let entries = c.args.journal.now.entries in
    let book = c.in-Ok.book in
    let entered = c.in-Ok.ensures.ok in
    let outcome = outcome_of c.show.result in
    begins old new names contents entries outcome (behind_legal contents 16384 entries book entered c.holds.ensures)
    (subst (λ (b : Contents). HasShown old new names.pair b entries outcome) entered.base_is
    (subst (λ es. HasShown old new names.pair book.base es outcome) (behind_entries contents 16384 entries book entered) c.show.ensures)) base journal

pub returns-in-Err-Refused : goal.returns-in-Err-Refused
returns-in-Err-Refused g c base journal =
    let shelf = view g.H.Shelf.held g.H.Shelf.open_faults g.H.Shelf.read_faults g.H.Shelf.write_faults c.args.shelf.now in
    let contents = c.args.contents in
    let entries = c.args.journal.now.entries in
    let before = c.in-Err-Refused.before in
    let refusal = c.in-Err-Refused.field-0-1 in
    let first : IsFirstRefused contents entries before refusal = subst (IsNoCore contents entries) c.in-Err-Refused.field-0-is c.in-Err-Refused.ensures.err in
    refused_at shelf (replay_of c.args.files.now) contents entries _ (record { point = before; number_is = ap (λ n. n + 1) c.in-Err-Refused.before-is; refusal = refusal; first = first }) base journal

pub returns-in-Err-Memory : goal.returns-in-Err-Memory
returns-in-Err-Memory g c base journal = no_memory (view g.H.Shelf.held g.H.Shelf.open_faults g.H.Shelf.read_faults g.H.Shelf.write_faults c.args.shelf.now) (replay_of c.args.files.now)
