-- Units on their way: where they end, and what is still to be followed.
use Rattle.std.specs.Prelude.{ℕ, suc, ◌+◌, ◌-◌, ◌*◌, ◌/◌, ◌≤◌, ◌<◌, ◌^◌, nat_lt, cond, List, [], ◌∷◌, Option, Some, None, sum_by, length, slice_index}
use Rattle.plan_schema.specs.declared.name.Name.{Name}
use Rattle.planning_rules.specs.Trace.{End, AtDemand, Surplus}
use Rattle.full_pegging.specs.declared.share.Share.{Share}
use Rattle.full_pegging.specs.declared.share.Share.TheVariants as shares
use Rattle.full_pegging.specs.declared.target.Target.{Target}
use Rattle.full_pegging.specs.declared.target.Target.TheVariants as targets
use Rattle.full_pegging.specs.declared.follow.PartRows.{PartRows}
use Rattle.full_pegging.specs.Rows.{rows_weight}

-- the end that a share is at, and its quantity
abbrev pub shown_share : Share → End × ℕ
shown_share (shares.Demand part order qty) = (AtDemand part order, qty)
shown_share (shares.Surplus part qty) = (Surplus part, qty)

-- what units weigh that have come to their ends
abbrev pub landed_weight : (End → ℕ) → List Share → ℕ
landed_weight measure landed = sum_by (λ share. (shown_share share).1 * measure (shown_share share).0) landed

-- what units weigh that are still to be followed, part by part, where a unit is weighed by its part's place and its number
abbrev pub waiting_weight : (ℕ → ℕ → ℕ) → List PartRows → ℕ
waiting_weight measure [] = 0
waiting_weight measure (part ∷ waiting) = rows_weight (measure 0) part.rows.items + waiting_weight (λ place. measure (suc place)) waiting

-- a planned unit of a day weighs what its place in the supply weighs, which comes behind so many; one of no day is surplus of its part
abbrev pub supply_weight : (End → ℕ) → (ℕ → ℕ) → Name → List ℕ → ℕ → ℕ → ℕ
supply_weight measure places part befores day unit = cond (nat_lt day (length befores)) (places (slice_index befores day + unit)) (measure (Surplus part))

-- a unit of the demand weighs what the demand weighs that it is for, or the unit of the parent that it goes into; one of no stretch of
-- the demand is surplus of its part
abbrev pub target_weight : (End → ℕ) → (ℕ → ℕ → ℕ) → Name → Option Target → ℕ → ℕ
target_weight measure ends part None unit = measure (Surplus part)
target_weight measure ends part (Some (targets.Demand order)) unit = measure (AtDemand part order)
target_weight measure ends part (Some (targets.Parent place per before)) unit = ends place (before + unit / per)

-- units can be handed on to what they are for: to a parent that stands before a place, whose units have numbers that fit
abbrev pub CanFollow : ℕ → Option Target → ℕ → Type 0
CanFollow most (Some (targets.Parent place per before)) many = (place < most) × (1 ≤ per) × (before + many < 2 ^ 64 - 1)
CanFollow most target many = Unit {0}
