use Rattle.std.proofs.Common.{◌≡◌, ◌∷◌, [], true, ◌∙◌, ap, sym, subst}
use Rattle.std.specs.Prelude.{filter_map}
use Rattle.std.specs.Map.{lookup}
use Rattle.plan_schema.specs.Key.{name_eq}
use Rattle.planning_rules.specs.Refused.{is_part}
use Rattle.low_level_codes.specs.Levels.{IsClosure, AreLevels}
use Rattle.low_level_codes.specs.Faults.{WhereCyclic}
use Rattle.walk_rules.specs.Cells.{records}
use Rattle.walk_names.specs.declared.trouble.Trouble.{Trouble}
use Rattle.walk_names.specs.Bills.{bill_pair}
use Rattle.walk_names.specs.Names.{IsLevelTrouble}
use Rattle.walk_names.proofs.Leveled.{there, looked_up, none_refused, cyclic_refused}
use Rattle.walk_names.proofs.level.level_of.Goals as goal

pub unreachable-requires : goal.unreachable-requires
unreachable-requires c =
    let contents = records c.args.job.now.cells in
    let n = c.args.part.now in
    let bills = filter_map bill_pair contents in
    let closed = c.in_ok-closed.closed.items in
    let part : is_part contents n ≡ true = sym c.is_part_in.ensures ∙ c.if-not-is_part_in.false in
    let is : IsClosure bills (n ∷ []) closed = subst (λ bs. IsClosure bs (n ∷ []) closed) (c.as_slice.ensures.value ∙ c.in_ok-bills.ensures) c.in_ok-closed.ensures.members in
    let levels : AreLevels bills closed c.in-Ok.levels.items = subst (λ ns. AreLevels bills ns c.in-Ok.levels.items) c.as_slice-3.ensures.value (subst (λ bs. AreLevels bs c.as_slice-3.result.now c.in-Ok.levels.items) (c.as_slice-2.ensures.value ∙ c.in_ok-bills.ensures) c.in-Ok.ensures.levels) in
    let has = there contents n closed is part c.in-Ok.levels.items levels in
    c.in_default.not-Some has.0 (c.level_among.ensures ∙ ap (lookup (name_eq n)) c.as_slice-in-Ok.ensures.value ∙ looked_up contents n closed is part c.in-Ok.levels.items levels ∙ has.1)

pub returns-in-Ok-clause-level : goal.returns-in-Ok-clause-level
returns-in-Ok-clause-level c =
    let contents = records c.args.job.now.cells in
    let n = c.args.part.now in
    let bills = filter_map bill_pair contents in
    let closed = c.in_ok-closed.closed.items in
    let part : is_part contents n ≡ true = sym c.is_part_in.ensures ∙ c.if-not-is_part_in.false in
    let is : IsClosure bills (n ∷ []) closed = subst (λ bs. IsClosure bs (n ∷ []) closed) (c.as_slice.ensures.value ∙ c.in_ok-bills.ensures) c.in_ok-closed.ensures.members in
    let levels : AreLevels bills closed c.in-Ok.levels.items = subst (λ ns. AreLevels bills ns c.in-Ok.levels.items) c.as_slice-3.ensures.value (subst (λ bs. AreLevels bs c.as_slice-3.result.now c.in-Ok.levels.items) (c.as_slice-2.ensures.value ∙ c.in_ok-bills.ensures) c.in-Ok.ensures.levels) in
    sym (looked_up contents n closed is part c.in-Ok.levels.items levels) ∙ sym (c.level_among.ensures ∙ ap (lookup (name_eq n)) c.as_slice-in-Ok.ensures.value) ∙ c.in-Some.is

pub returns-in-Ok-clause-allowed : goal.returns-in-Ok-clause-allowed
returns-in-Ok-clause-allowed c =
    let contents = records c.args.job.now.cells in
    let n = c.args.part.now in
    let bills = filter_map bill_pair contents in
    let closed = c.in_ok-closed.closed.items in
    let part : is_part contents n ≡ true = sym c.is_part_in.ensures ∙ c.if-not-is_part_in.false in
    let is : IsClosure bills (n ∷ []) closed = subst (λ bs. IsClosure bs (n ∷ []) closed) (c.as_slice.ensures.value ∙ c.in_ok-bills.ensures) c.in_ok-closed.ensures.members in
    let levels : AreLevels bills closed c.in-Ok.levels.items = subst (λ ns. AreLevels bills ns c.in-Ok.levels.items) c.as_slice-3.ensures.value (subst (λ bs. AreLevels bs c.as_slice-3.result.now c.in-Ok.levels.items) (c.as_slice-2.ensures.value ∙ c.in_ok-bills.ensures) c.in-Ok.ensures.levels) in
    none_refused contents n closed is part c.in-Ok.levels.items levels

pub returns-clause-refused : goal.returns-clause-refused
returns-clause-refused c =
    let contents = records c.args.job.now.cells in
    let n = c.args.part.now in
    let bills = filter_map bill_pair contents in
    let closed = c.in_ok-closed.closed.items in
    let part : is_part contents n ≡ true = sym c.is_part_in.ensures ∙ c.if-not-is_part_in.false in
    let is : IsClosure bills (n ∷ []) closed = subst (λ bs. IsClosure bs (n ∷ []) closed) (c.as_slice.ensures.value ∙ c.in_ok-bills.ensures) c.in_ok-closed.ensures.members in
    let cyclic : WhereCyclic bills closed c.in-Err.fault = subst (λ ns. WhereCyclic bills ns c.in-Err.fault) c.as_slice-3.ensures.value (subst (λ bs. WhereCyclic bs c.as_slice-3.result.now c.in-Err.fault) (c.as_slice-2.ensures.value ∙ c.in_ok-bills.ensures) c.in-Err.ensures.cyclic) in
    subst (λ (t : Trouble). IsLevelTrouble contents n c.args.job.now.point t) (sym c.trouble_of.ensures) (cyclic_refused contents n closed is part c.args.job.now.point c.in-Err.fault cyclic)
