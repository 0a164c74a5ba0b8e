-- Where units of a plan end, by their numbers, and what the demand of a part is for.
use Rattle.std.specs.Prelude.{◌≡◌, ℕ, List, [], ◌∷◌, Some, map, sum, take, slice_get, slice_index_or}
use Rattle.std.specs.List.{range_with_len, flat_map}
use Rattle.plan_schema.specs.declared.name.Name.{Name}
use Rattle.plan_schema.specs.declared.key.Key.TheVariants as keys
use Rattle.plan_schema.specs.Contents.{Contents, record_at}
use Rattle.planning_rules.specs.Plan.{plan, released}
use Rattle.planning_rules.specs.Pegs.{Peg, FromDemand, FromParent, peg_qty, pegs_from}
use Rattle.planning_rules.specs.Trace.{End, end_at, per_in, ends_of}
use Rattle.full_pegging.specs.declared.target.Target.{Target}
use Rattle.full_pegging.specs.declared.target.Target.TheVariants as targets

-- where a planned unit of a part ends, by its number; one that isn't planned counts as surplus of the part
abbrev pub unit_end : Contents → Name → ℕ → End
unit_end c n unit = end_at n (ends_of c n) unit

-- units of the parts at the places of some names, weighed by where they end
abbrev pub ends_by : (End → ℕ) → Contents → List Name → ℕ → ℕ → ℕ
ends_by measure c names place unit = measure (unit_end c (slice_index_or names place []) unit)

-- the pegs of a part with their days, day by day
abbrev pub pegs_on : Contents → Name → ℕ → List (ℕ × Peg)
pegs_on c n t = map (λ peg. (t, peg)) (pegs_from (plan c) c n t)

abbrev pub pegs_of : Contents → Name → ℕ → List (ℕ × Peg)
pegs_of c n days = flat_map (pegs_on c n) (range_with_len 0 days)

-- what the units of a peg are for: its demand, or its parent, whose units stand behind those that it has released before the day
abbrev pub IsTarget : Contents → List Name → Name → ℕ × Peg → Target → Type 0
IsTarget c names n (t, FromDemand order qty) (targets.Demand name) = name ≡ order
IsTarget c names n (t, FromParent parent qty) (targets.Parent place per before) =
    (slice_get names place ≡ Some parent) × (per ≡ per_in (record_at c (keys.Bill parent n))) × (before ≡ sum (take t (released (plan c parent))))
IsTarget c names n (t, FromDemand order qty) (targets.Parent place per before) = ⊥
IsTarget c names n (t, FromParent parent qty) (targets.Demand name) = ⊥

-- what the units of pegs are for, one after the other, and how many they are
abbrev pub AreTargets : Contents → List Name → Name → List (ℕ × Peg) → List Target → List ℕ → Type 0
AreTargets c names n [] [] [] = Unit {0}
AreTargets c names n (peg ∷ pegs) (target ∷ targets) (qty ∷ quantities) =
    IsTarget c names n peg target × (qty ≡ peg_qty peg.1) × AreTargets c names n pegs targets quantities
AreTargets c names n _ _ _ = ⊥
