use Rattle.std.proofs.Common.{◌≤◌, length, map, string_bytes, sym, ◌∙◌, ap, subst}
use Rattle.std.specs.Prelude.{Some}
use Rattle.program_words.specs.declared.rounds.TheConstants.{PAIR_LIMIT}
use Rattle.response_program.specs.Names.{Names, Differ, NoConsole, names_of, names_to_audit}
use Rattle.response_program.specs.Views.{view}
use Rattle.response_program.specs.Replayed.{AreOfReplay, replay_names}
use Rattle.response_program.proofs.Asking.{asked_told, asked_audit, asked_make, asked_replay, asked_trial}
use Rattle.response_program.proofs.NamesApart.{told_differ, audit_apart, make_apart, replay_apart}
use Rattle.response_program.proofs.Audits.{nothing_audited}
use Rattle.response_program.proofs.Makings.{nothing_made}
use Rattle.response_program.proofs.Replays.{nothing_replayed}
use Rattle.response_program.proofs.Trials.{nothing_tried}
use Rattle.response_program.proofs.Memory.{no_memory}
use Rattle.response_program.proofs.run.response.Goals as goal

pub run_told-requires-clause-memo : goal.run_told-requires-clause-memo
run_told-requires-clause-memo g c κs within = (asked_told (map string_bytes c.args.words.now) c.in-Ok.program c.in-Some-Run.run' c.in-Ok.ensures.ok (sym (ap Some c.in-Some-Run.field-0-is) ∙ c.in-Some-Run.ensures)).memo_some

pub run_told-requires-clause-most : goal.run_told-requires-clause-most
run_told-requires-clause-most g c κs within = (asked_told (map string_bytes c.args.words.now) c.in-Ok.program c.in-Some-Run.run' c.in-Ok.ensures.ok (sym (ap Some c.in-Some-Run.field-0-is) ∙ c.in-Some-Run.ensures)).memo_most

pub run_told-requires-clause-pairs : goal.run_told-requires-clause-pairs
run_told-requires-clause-pairs g c κs within =
    subst (λ (names : Names). length names.pairs ≤ PAIR_LIMIT) (sym c.of-in-Some-Run.ensures)
    (asked_told (map string_bytes c.args.words.now) c.in-Ok.program c.in-Some-Run.run' c.in-Ok.ensures.ok (sym (ap Some c.in-Some-Run.field-0-is) ∙ c.in-Some-Run.ensures)).few

pub run_told-requires-clause-differ : goal.run_told-requires-clause-differ
run_told-requires-clause-differ g c κs within =
    subst Differ (sym c.of-in-Some-Run.ensures)
    (told_differ c.in-Some-Run.run' (asked_told (map string_bytes c.args.words.now) c.in-Ok.program c.in-Some-Run.run' c.in-Ok.ensures.ok (sym (ap Some c.in-Some-Run.field-0-is) ∙ c.in-Some-Run.ensures)))

pub audit_told-requires-clause-files : goal.audit_told-requires-clause-files
audit_told-requires-clause-files g c =
    let words = c.in-Some-Audit.words in
    subst NoConsole (sym c.to_audit.ensures)
    (audit_apart words.base words.journal words.rounds (asked_audit (map string_bytes c.args.words.now) c.in-Ok.program words c.in-Ok.ensures.ok (sym (ap Some c.in-Some-Audit.field-0-is) ∙ c.in-Some-Audit.ensures)).0)

pub audit_told-requires-clause-pairs : goal.audit_told-requires-clause-pairs
audit_told-requires-clause-pairs g c =
    subst (λ (names : Names). length names.pairs ≤ PAIR_LIMIT) (sym c.to_audit.ensures)
    (asked_audit (map string_bytes c.args.words.now) c.in-Ok.program c.in-Some-Audit.words c.in-Ok.ensures.ok (sym (ap Some c.in-Some-Audit.field-0-is) ∙ c.in-Some-Audit.ensures)).1

pub make_told-requires-clause-some : goal.make_told-requires-clause-some
make_told-requires-clause-some g c = (asked_make (map string_bytes c.args.words.now) c.in-Ok.program c.in-Some-Make.making c.in-Ok.ensures.ok (sym (ap Some c.in-Some-Make.field-0-is) ∙ c.in-Some-Make.ensures)).some

pub make_told-requires-clause-few : goal.make_told-requires-clause-few
make_told-requires-clause-few g c = (asked_make (map string_bytes c.args.words.now) c.in-Ok.program c.in-Some-Make.making c.in-Ok.ensures.ok (sym (ap Some c.in-Some-Make.field-0-is) ∙ c.in-Some-Make.ensures)).most

pub make_told-requires-clause-apart : goal.make_told-requires-clause-apart
make_told-requires-clause-apart g c =
    make_apart c.in-Some-Make.making.base c.in-Some-Make.making.input (asked_make (map string_bytes c.args.words.now) c.in-Ok.program c.in-Some-Make.making c.in-Ok.ensures.ok (sym (ap Some c.in-Some-Make.field-0-is) ∙ c.in-Some-Make.ensures)).files

pub replay_told-requires : goal.replay_told-requires
replay_told-requires g c =
    let replaying = c.in-Some-Replay.replaying in
    subst AreOfReplay (sym c.of-in-Some-Replay.ensures)
    (replay_apart replaying.base replaying.journal replaying.input replaying.output
    (asked_replay (map string_bytes c.args.words.now) c.in-Ok.program replaying c.in-Ok.ensures.ok (sym (ap Some c.in-Some-Replay.field-0-is) ∙ c.in-Some-Replay.ensures)))

pub trial_told-requires-clause-some : goal.trial_told-requires-clause-some
trial_told-requires-clause-some g c = (asked_trial (map string_bytes c.args.words.now) c.in-Ok.program c.in-Some-Trial.parts c.in-Some-Trial.start c.in-Ok.ensures.ok (sym (ap Some c.in-Some-Trial.field-0-is) ∙ c.in-Some-Trial.ensures)).0

pub trial_told-requires-clause-few : goal.trial_told-requires-clause-few
trial_told-requires-clause-few g c = (asked_trial (map string_bytes c.args.words.now) c.in-Ok.program c.in-Some-Trial.parts c.in-Some-Trial.start c.in-Ok.ensures.ok (sym (ap Some c.in-Some-Trial.field-0-is) ∙ c.in-Some-Trial.ensures)).1

-- there was no memory for the words
pub returns-in-Err-Memory-clause-audit : goal.returns-in-Err-Memory-clause-audit
returns-in-Err-Memory-clause-audit g c =
    λ base journal rounds is. nothing_audited (view g.H.Shelf.held g.H.Shelf.open_faults g.H.Shelf.read_faults g.H.Shelf.write_faults c.args.shelf.now) (names_to_audit base journal rounds)

pub returns-in-Err-Memory-clause-run : goal.returns-in-Err-Memory-clause-run
returns-in-Err-Memory-clause-run g c = λ run is. no_memory (view g.H.Shelf.held g.H.Shelf.open_faults g.H.Shelf.read_faults g.H.Shelf.write_faults c.args.shelf.now) (names_of run)

pub returns-in-Err-Memory-clause-make : goal.returns-in-Err-Memory-clause-make
returns-in-Err-Memory-clause-make g c =
    λ parts start base input is. nothing_made (view g.H.Shelf.held g.H.Shelf.open_faults g.H.Shelf.read_faults g.H.Shelf.write_faults c.args.shelf.now) parts start base input

pub returns-in-Err-Memory-clause-replay : goal.returns-in-Err-Memory-clause-replay
returns-in-Err-Memory-clause-replay g c =
    λ base journal input output is. nothing_replayed (view g.H.Shelf.held g.H.Shelf.open_faults g.H.Shelf.read_faults g.H.Shelf.write_faults c.args.shelf.now) (replay_names base journal input output)

pub returns-in-Err-Memory-clause-trial : goal.returns-in-Err-Memory-clause-trial
returns-in-Err-Memory-clause-trial g c =
    λ parts start is. nothing_tried (view g.H.Shelf.held g.H.Shelf.open_faults g.H.Shelf.read_faults g.H.Shelf.write_faults c.args.shelf.now) parts start
