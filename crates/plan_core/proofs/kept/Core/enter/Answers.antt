use Rattle.std.proofs.Common.{◌≡◌, ◌+◌, ◌++◌, refl, sym, ◌∙◌, ap, arith}
use Rattle.std.specs.Prelude.{length, None}
use Rattle.scenario_rules.specs.Refused.{record_count, record_counts, full_journal}
use Rattle.plan_core.specs.State.{State, history, point_of}
use Rattle.plan_core.specs.Changes.{yields_to_memory}
use Rattle.plan_core.proofs.Histories.{room_left}
use Rattle.plan_core.proofs.Entered.{change_sound, older_here, entered, stays, same_state, next_state}
use Rattle.plan_core.proofs.Refusing.{refused_by_scenarios, not_refused_here}
use Rattle.plan_core.proofs.kept.Core.enter.Goals as goal

pub overflow_add-point : goal.overflow_add-point
overflow_add-point c =
    let few = c.self.invariant.holds.few in
    let x = c.self.inside in
    let is : c.point-point.result ≡ length (x.began.earlier ++ x.journal.entries) = c.point-point.ensures ∙ ap point_of (sym c.self.view_is) in
    omega arith

pub apply_entry-requires-clause-older : goal.apply_entry-requires-clause-older
apply_entry-requires-clause-older c =
    let x = c.self.inside in
    older_here x.began.base x.began.earlier x.journal.entries x.journal.entries x.memo x.tally x.forest x.forest x.before x.carried 0 c.args.entry c.self.invariant c.point-point.result
    (c.point-point.ensures ∙ ap point_of (sym c.self.view_is))

pub apply_entry-requires-clause-sound : goal.apply_entry-requires-clause-sound
apply_entry-requires-clause-sound c = change_sound c.args.entry c.requires.sound

pub overflow_add-self : goal.overflow_add-self
overflow_add-self c =
    let x = c.self.inside in
    let change = c.args.entry.change in
    let here : full_journal (x.began.earlier ++ x.journal.entries) change ≡ None = ap (λ (s : State). full_journal (history s) change) c.self.view_is ∙ c.requires.room in
    let most = (room_left (x.began.earlier ++ x.journal.entries) change here).1 in
    let so_far : x.carried ≡ record_counts (x.began.earlier ++ x.journal.entries) = c.self.invariant.carried_is in
    let more : c.in-Ok.count ≡ record_count change = c.in-Ok.ensures.count in
    omega arith

pub invariant_of-self : goal.invariant_of-self
invariant_of-self c =
    let x = c.self.inside in
    let change = c.args.entry.change in
    let here : full_journal (x.began.earlier ++ x.journal.entries) change ≡ None = ap (λ (s : State). full_journal (history s) change) c.self.view_is ∙ c.requires.room in
    let point : c.point-point.result ≡ length (x.began.earlier ++ x.journal.entries) = c.point-point.ensures ∙ ap point_of (sym c.self.view_is) in
    entered x.began.base x.began.earlier x.journal.entries c.apply_entry.new.journal.entries x.memo x.tally x.forest c.apply_entry.new.forest x.before x.carried c.in-Ok.count c.args.entry
    c.self.invariant c.requires.sound here (c.in-Ok.ensures.free refl) c.in-Ok.ensures.entries c.in-Ok.ensures.world (c.point-point.result + 1) (ap (λ n. n + 1) point) c.in-Ok.ensures.ids c.in-Ok.ensures.count

pub invariant_of-self-in-Err-Refused : goal.invariant_of-self-in-Err-Refused
invariant_of-self-in-Err-Refused c =
    let x = c.self.inside in
    stays x.began.base x.began.earlier x.journal.entries c.apply_entry.new.journal.entries x.memo x.tally x.forest c.apply_entry.new.forest x.before x.carried 0 c.args.entry
    c.self.invariant c.in-Err-Refused.ensures.same c.in-Err-Refused.ensures.kept

pub invariant_of-self-in-Err-Memory : goal.invariant_of-self-in-Err-Memory
invariant_of-self-in-Err-Memory c =
    let x = c.self.inside in
    stays x.began.base x.began.earlier x.journal.entries c.apply_entry.new.journal.entries x.memo x.tally x.forest c.apply_entry.new.forest x.before x.carried 0 c.args.entry
    c.self.invariant c.in-Err-Memory.ensures.same c.in-Err-Memory.ensures.kept

pub returns-in-Ok-clause-free : goal.returns-in-Ok-clause-free
returns-in-Ok-clause-free c = λ _.
    let x = c.self.inside in
    not_refused_here x.began.base x.began.earlier x.journal.entries x.memo x.tally x.forest x.before x.carried c.args.self.now c.self.invariant c.self.view_is c.args.entry.user c.args.entry.change
    (sym (c.in-Ok.ensures.free refl)) c.requires.room

pub returns-in-Ok-clause-ok : goal.returns-in-Ok-clause-ok
returns-in-Ok-clause-ok c =
    let x = c.self.inside in
    next_state x.began.base x.began.earlier x.journal.entries c.apply_entry.new.journal.entries x.memo x.tally x.forest c.apply_entry.new.forest x.before x.carried 0 c.args.entry
    c.args.self.now c.self.view_is c.in-Ok.ensures.entries

pub returns-in-Err-Refused-clause-free : goal.returns-in-Err-Refused-clause-free
returns-in-Err-Refused-clause-free c = λ no. absurd (let wrong : ⊥ = cc in wrong)

pub returns-in-Err-Refused-clause-err : goal.returns-in-Err-Refused-clause-err
returns-in-Err-Refused-clause-err c =
    let x = c.self.inside in
    record {
      first = refused_by_scenarios x.began.base x.began.earlier x.journal.entries x.memo x.tally x.forest x.before x.carried c.args.self.now c.self.invariant c.self.view_is c.args.entry.user c.args.entry.change
          c.in-Err-Refused.refusal (sym (rw c.in-Err-Refused.field-0-is at c.in-Err-Refused.ensures.fault));
      point_is = c.point-point.ensures;
      same = same_state x.began.base x.began.earlier x.journal.entries c.apply_entry.new.journal.entries x.memo x.tally x.forest c.apply_entry.new.forest x.before x.carried 0 c.args.entry
          c.args.self.now c.self.view_is c.in-Err-Refused.ensures.kept;
    }

pub returns-in-Err-Memory-clause-free : goal.returns-in-Err-Memory-clause-free
returns-in-Err-Memory-clause-free c = λ no. absurd (let wrong : ⊥ = cc in wrong)

pub returns-in-Err-Memory-clause-err : goal.returns-in-Err-Memory-clause-err
returns-in-Err-Memory-clause-err c =
    let x = c.self.inside in
    record {
      late = ap yields_to_memory (not_refused_here x.began.base x.began.earlier x.journal.entries x.memo x.tally x.forest x.before x.carried c.args.self.now c.self.invariant c.self.view_is
          c.args.entry.user c.args.entry.change (sym (rw c.in-Err-Memory.field-0-is at c.in-Err-Memory.ensures.fault)) c.requires.room);
      same = same_state x.began.base x.began.earlier x.journal.entries c.apply_entry.new.journal.entries x.memo x.tally x.forest c.apply_entry.new.forest x.before x.carried 0 c.args.entry
          c.args.self.now c.self.view_is c.in-Err-Memory.ensures.kept;
    }
