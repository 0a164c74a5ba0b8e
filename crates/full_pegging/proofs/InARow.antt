-- The units of a day, and of a peg, stand in a row.
use Rattle.std.proofs.Common.{◌≡◌, ℕ, suc, ◌+◌, ◌*◌, ◌/◌, ◌∙◌, ap, arith}
use Rattle.std.specs.Prelude.{sum, sum_by, take, slice_index}
use Rattle.std.specs.List.{range_with_len}
use Rattle.plan_schema.specs.declared.key.Key.TheVariants as keys
use Rattle.plan_schema.specs.Contents.{record_at}
use Rattle.planning_rules.specs.Plan.{released, stock_in}
use Rattle.planning_rules.specs.Trace.{end_at, per_in, demand_ends, ends_on}
use Rattle.full_pegging.specs.Weights.{DayIsInARow, PegIsInARow}
use Rattle.full_pegging.proofs.Spreading.{sums_moved, sums_mapped}

-- a sum that is taken once
once : (s : ℕ) → s ≡ 1 * s
once s = omega arith

pub day_is_in_a_row : DayIsInARow
day_is_in_a_row measure ends plans c n t x e =
    let stock = stock_in (record_at c (keys.Stock n)) in
    let demand = demand_ends ends plans c n in
    let there = stock + sum (take (suc t) x.sched) in
    let made = sum (take t x.planned) in
    let many = slice_index x.planned t in
    let f = λ (place : ℕ). measure (end_at n demand place) in
    let place : (unit : ℕ) → there + (made + unit) ≡ (there + made) + unit = λ unit. omega arith in
    let start : (there + made) + 0 ≡ there + made = omega arith in
    ap (λ o. sum_by measure (ends_on n stock o demand t)) e
    ∙ sums_mapped measure (λ unit. end_at n demand (there + (made + unit))) (range_with_len 0 many)
    ∙ ap (λ (g : ℕ → ℕ). sum_by (λ unit. f (g unit)) (range_with_len 0 many)) (λ i unit. place unit i)
    ∙ sums_moved f (there + made) many 0
    ∙ ap (λ s. sum_by f (range_with_len s many)) start
    ∙ once (sum_by f (range_with_len (there + made) many))

pub peg_is_in_a_row : PegIsInARow
peg_is_in_a_row measure ends plans c n t parent qty =
    let before = sum (take t (released (plans parent))) in
    let per = per_in (record_at c (keys.Bill parent n)) in
    sums_mapped measure (λ unit. end_at parent (ends parent) (before + unit / per)) (range_with_len 0 qty)
    ∙ once (sum_by (λ unit. measure (end_at parent (ends parent) (before + unit / per))) (range_with_len 0 qty))
