-- What holds of the definition of full pegging.
use Rattle.std.specs.Prelude.{◌≡◌, ℕ, List, true, Some, sum_by, slice_index}
use Rattle.std.specs.List.{range_with_len, flat_map}
use Rattle.plan_schema.specs.declared.name.Name.{Name}
use Rattle.plan_schema.specs.Contents.{Contents, is_ordered}
use Rattle.planning_rules.specs.Days.{days_of}
use Rattle.planning_rules.specs.Netting.{Lists}
use Rattle.planning_rules.specs.Plan.{Planned, plan}
use Rattle.planning_rules.specs.Trace.{End, day_ends, ends_of, shares, trace}

-- the quantities of some shares together
abbrev pub total_share : List (End × ℕ) → ℕ
total_share parts = sum_by (λ share. share.1) parts

-- the shares of a day sum to what is planned on it
abbrev pub SharesSumToPlanned : Type 0
SharesSumToPlanned = (c : Contents) (n : Name) (t : ℕ) (x : Lists) → is_ordered c ≡ true → plan c n ≡ Some (Planned x) → total_share (trace c n t) ≡ slice_index x.planned t

-- over the days of the horizon each planned unit of a name ends once: where its units end is where those of its days end, one day
-- after the other
abbrev pub EachUnitEndsOnce : Type 0
EachUnitEndsOnce = (c : Contents) (n : Name) → ends_of c n ≡ flat_map (day_ends (ends_of c) (plan c) c n) (range_with_len 0 (days_of c))

-- all of them together are shared out, and they are what is planned over all days
abbrev pub AllAreShared : Type 0
AllAreShared = (c : Contents) (n : Name) (x : Lists) → is_ordered c ≡ true → plan c n ≡ Some (Planned x)
    → total_share (shares c (ends_of c n)) ≡ sum_by (slice_index x.planned) (range_with_len 0 (days_of c))
