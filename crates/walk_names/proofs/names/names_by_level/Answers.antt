use Rattle.std.proofs.Common.{◌≡◌, ◌∙◌, ap, sym, subst, refl}
use Rattle.std.specs.Prelude.{Some, None, filter_map, map}
use Rattle.planning_rules.specs.Refused.{least_name, in_reach}
use Rattle.low_level_codes.specs.Levels.{IsClosure, AreLevels}
use Rattle.low_level_codes.specs.Faults.{WhereCyclic}
use Rattle.walk_rules.specs.Cells.{records}
use Rattle.plan_jobs.specs.Jobs.{asked_by}
use Rattle.walk_names.specs.declared.trouble.Trouble.{Trouble}
use Rattle.walk_names.specs.Bills.{bill_pair}
use Rattle.walk_names.specs.Names.{AreWalkNames, IsTrouble}
use Rattle.walk_names.proofs.Refusing.{no_part, no_calendar, first_refused, second_refused, third_refused, reach_least, fault_refused, walk_names}
use Rattle.walk_names.proofs.names.names_by_level.Goals as goal

pub returns-in-Some-clause-refused : goal.returns-in-Some-clause-refused
returns-in-Some-clause-refused c =
    let contents = records c.args.job.now.cells in
    let asked = asked_by contents c.args.job.now.wanted in
    let asked_is : c.as_slice.result.now ≡ asked = c.as_slice.ensures.value ∙ c.in_ok-asked.ensures in
    (refl, first_refused contents asked c.in-Some.name (ap (least_name (no_part contents asked)) (sym asked_is) ∙ sym c.in-Some.ensures))

pub returns-in-Some-least_missing-clause-refused : goal.returns-in-Some-least_missing-clause-refused
returns-in-Some-least_missing-clause-refused c =
    let contents = records c.args.job.now.cells in
    let asked = asked_by contents c.args.job.now.wanted in
    let asked_is : c.as_slice.result.now ≡ asked = c.as_slice.ensures.value ∙ c.in_ok-asked.ensures in
    let first : least_name (no_part contents asked) asked ≡ None = ap (least_name (no_part contents asked)) (sym asked_is) ∙ sym c.in_default.ensures in
    let bills = filter_map bill_pair contents in
    let bills_are : c.as_slice-2.result.now ≡ bills = c.as_slice-2.ensures.value ∙ c.in_ok-bills.ensures in
    let from_is : c.as_slice-3.result.now ≡ asked = c.as_slice-3.ensures.value ∙ c.in_ok-asked.ensures in
    let closed = c.in_ok-closed.closed.items in
    let is : IsClosure bills asked closed = subst (λ bs. IsClosure bs asked closed) bills_are (subst (λ from. IsClosure c.as_slice-2.result.now from closed) from_is c.in_ok-closed.ensures.members) in
    let second : least_name (no_part contents asked) (in_reach contents asked) ≡ Some c.in-Some-least_missing.name = sym (reach_least contents asked closed is (no_part contents asked)) ∙ ap (least_name (no_part contents asked)) (sym c.as_slice-4.ensures.value) ∙ sym c.in-Some-least_missing.ensures in
    (refl, second_refused contents asked c.in-Some-least_missing.name first second)

pub returns-in-Some-least_without_calendar-clause-refused : goal.returns-in-Some-least_without_calendar-clause-refused
returns-in-Some-least_without_calendar-clause-refused c =
    let contents = records c.args.job.now.cells in
    let asked = asked_by contents c.args.job.now.wanted in
    let asked_is : c.as_slice.result.now ≡ asked = c.as_slice.ensures.value ∙ c.in_ok-asked.ensures in
    let first : least_name (no_part contents asked) asked ≡ None = ap (least_name (no_part contents asked)) (sym asked_is) ∙ sym c.in_default.ensures in
    let bills = filter_map bill_pair contents in
    let bills_are : c.as_slice-2.result.now ≡ bills = c.as_slice-2.ensures.value ∙ c.in_ok-bills.ensures in
    let from_is : c.as_slice-3.result.now ≡ asked = c.as_slice-3.ensures.value ∙ c.in_ok-asked.ensures in
    let closed = c.in_ok-closed.closed.items in
    let is : IsClosure bills asked closed = subst (λ bs. IsClosure bs asked closed) bills_are (subst (λ from. IsClosure c.as_slice-2.result.now from closed) from_is c.in_ok-closed.ensures.members) in
    let second : least_name (no_part contents asked) (in_reach contents asked) ≡ None = sym (reach_least contents asked closed is (no_part contents asked)) ∙ ap (least_name (no_part contents asked)) (sym c.as_slice-4.ensures.value) ∙ sym c.in_default-least_missing.ensures in
    let third : least_name (no_calendar contents asked) (in_reach contents asked) ≡ Some c.in-Some-least_without_calendar.name = sym (reach_least contents asked closed is (no_calendar contents asked)) ∙ ap (least_name (no_calendar contents asked)) (sym c.as_slice-5.ensures.value) ∙ sym c.in-Some-least_without_calendar.ensures in
    (refl, third_refused contents asked c.in-Some-least_without_calendar.name first second third)

pub returns-in-Ok-clause-names : goal.returns-in-Ok-clause-names
returns-in-Ok-clause-names c =
    let contents = records c.args.job.now.cells in
    let asked = asked_by contents c.args.job.now.wanted in
    let asked_is : c.as_slice.result.now ≡ asked = c.as_slice.ensures.value ∙ c.in_ok-asked.ensures in
    let first : least_name (no_part contents asked) asked ≡ None = ap (least_name (no_part contents asked)) (sym asked_is) ∙ sym c.in_default.ensures in
    let bills = filter_map bill_pair contents in
    let bills_are : c.as_slice-2.result.now ≡ bills = c.as_slice-2.ensures.value ∙ c.in_ok-bills.ensures in
    let from_is : c.as_slice-3.result.now ≡ asked = c.as_slice-3.ensures.value ∙ c.in_ok-asked.ensures in
    let closed = c.in_ok-closed.closed.items in
    let is : IsClosure bills asked closed = subst (λ bs. IsClosure bs asked closed) bills_are (subst (λ from. IsClosure c.as_slice-2.result.now from closed) from_is c.in_ok-closed.ensures.members) in
    let second : least_name (no_part contents asked) (in_reach contents asked) ≡ None = sym (reach_least contents asked closed is (no_part contents asked)) ∙ ap (least_name (no_part contents asked)) (sym c.as_slice-4.ensures.value) ∙ sym c.in_default-least_missing.ensures in
    let third : least_name (no_calendar contents asked) (in_reach contents asked) ≡ None = sym (reach_least contents asked closed is (no_calendar contents asked)) ∙ ap (least_name (no_calendar contents asked)) (sym c.as_slice-5.ensures.value) ∙ sym c.in_default-least_without_calendar.ensures in
    let levels : AreLevels bills closed c.in-Ok.levels.items = subst (λ bs. AreLevels bs closed c.in-Ok.levels.items) bills_are (rw c.in-Ok.is at c.in_ok-closed.ensures.levels) in
    subst (AreWalkNames contents asked) (sym (c.in_ok-without_levels-in-Ok.ensures ∙ ap (map (λ pair. pair.0)) c.as_slice-in-Ok.ensures.value)) (walk_names contents asked closed is c.in-Ok.levels.items levels first second third)

pub returns-clause-refused : goal.returns-clause-refused
returns-clause-refused c =
    let contents = records c.args.job.now.cells in
    let asked = asked_by contents c.args.job.now.wanted in
    let asked_is : c.as_slice.result.now ≡ asked = c.as_slice.ensures.value ∙ c.in_ok-asked.ensures in
    let first : least_name (no_part contents asked) asked ≡ None = ap (least_name (no_part contents asked)) (sym asked_is) ∙ sym c.in_default.ensures in
    let bills = filter_map bill_pair contents in
    let bills_are : c.as_slice-2.result.now ≡ bills = c.as_slice-2.ensures.value ∙ c.in_ok-bills.ensures in
    let from_is : c.as_slice-3.result.now ≡ asked = c.as_slice-3.ensures.value ∙ c.in_ok-asked.ensures in
    let closed = c.in_ok-closed.closed.items in
    let is : IsClosure bills asked closed = subst (λ bs. IsClosure bs asked closed) bills_are (subst (λ from. IsClosure c.as_slice-2.result.now from closed) from_is c.in_ok-closed.ensures.members) in
    let second : least_name (no_part contents asked) (in_reach contents asked) ≡ None = sym (reach_least contents asked closed is (no_part contents asked)) ∙ ap (least_name (no_part contents asked)) (sym c.as_slice-4.ensures.value) ∙ sym c.in_default-least_missing.ensures in
    let third : least_name (no_calendar contents asked) (in_reach contents asked) ≡ None = sym (reach_least contents asked closed is (no_calendar contents asked)) ∙ ap (least_name (no_calendar contents asked)) (sym c.as_slice-5.ensures.value) ∙ sym c.in_default-least_without_calendar.ensures in
    let cyclic : WhereCyclic bills closed c.in-Err.fault = subst (λ bs. WhereCyclic bs closed c.in-Err.fault) bills_are (rw c.in-Err.is at c.in_ok-closed.ensures.cyclic) in
    subst (λ (t : Trouble). IsTrouble contents asked c.args.job.now.point t) (sym c.trouble_of.ensures) (fault_refused contents asked closed is c.args.job.now.point c.in-Err.fault first second third cyclic)
