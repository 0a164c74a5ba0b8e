-- The names of a walk, and why there is none.
use Rattle.std.specs.Prelude.{◌≡◌, ◌↔◌, ℕ, List, [], ◌∷◌, Bool, true, ◌&&◌, ◌||◌, ◌==◌, nat_lt, not, Option, Some, None, is_some, unwrap_or, Contains}
use Rattle.std.specs.List.{AllByRecursion, list_all}
use Rattle.std.specs.Ordering.{is_lt}
use Rattle.plan_schema.specs.declared.name.Name.{Name}
use Rattle.plan_schema.specs.declared.key.Key.TheVariants as keys
use Rattle.plan_schema.specs.declared.refusal.Refusal.{Refusal}
use Rattle.plan_schema.specs.declared.refusal.Refusal.TheVariants as refusals
use Rattle.plan_schema.specs.Key.{name_cmp}
use Rattle.plan_schema.specs.Refusals.{first_of, about}
use Rattle.plan_schema.specs.Contents.{Contents, record_at}
use Rattle.planning_rules.specs.Bills.{level}
use Rattle.planning_rules.specs.Refused.{least_name, is_part, lacks_calendar, is_cyclic, in_reach, level_refusal}
use Rattle.low_level_codes.specs.declared.fault.LevelFault.{LevelFault}
use Rattle.low_level_codes.specs.declared.fault.LevelFault.TheVariants as faults
use Rattle.walk_names.specs.declared.trouble.Trouble.{Trouble}
use Rattle.walk_names.specs.declared.trouble.Trouble.TheVariants.{Refused, Memory}

-- the first of the four refusals of a plan that need no plans
abbrev pub first_four : Contents → List Name → Option Refusal
first_four c asked =
    first_of (about (least_name (λ n. not (is_part c n)) asked) refusals.NoPart
    ∷ about (least_name (λ n. not (is_part c n)) (in_reach c asked)) refusals.MissingPart
    ∷ about (least_name (λ n. lacks_calendar c (record_at c (keys.Part n))) (in_reach c asked)) refusals.MissingCalendar
    ∷ about (least_name (is_cyclic c) (in_reach c asked)) refusals.Cyclic
    ∷ [])

-- one name stands before another: by level, and then by name
abbrev pub goes_before : Contents → Name → Name → Bool
goes_before c a b =
    let i = unwrap_or (level c a) 0 in
    let k = unwrap_or (level c b) 0 in
    nat_lt i k || ((i == k) && is_lt (name_cmp a b))

abbrev pub are_by_level : Contents → List Name → Bool
are_by_level c [] = true
are_by_level c (n ∷ ns) = list_all (goes_before c n) ns && are_by_level c ns

-- the names of a walk: exactly those in reach of the asked ones, by level and then by name, where no refusal applies; and each of them
-- has a level
pub record AreWalkNames (c : Contents) (asked names : List Name) : Type 0 where
  pub allowed : first_four c asked ≡ None
  pub members : (n : Name) → Contains names n ↔ Contains (in_reach c asked) n
  pub ordered : are_by_level c names ≡ true
  pub leveled : AllByRecursion (λ n. is_some (level c n) ≡ true) names

-- a refusal is the first of the four that applies, with the job's point; want of memory says nothing
abbrev pub IsTrouble : Contents → List Name → ℕ → Trouble → Type 0
IsTrouble c asked point (Refused at refusal) = (at ≡ point) × (first_four c asked ≡ Some refusal)
IsTrouble c asked point Memory = Unit {0}

-- the refusal of a question for a level, with the job's point; want of memory says nothing
abbrev pub IsLevelTrouble : Contents → Name → ℕ → Trouble → Type 0
IsLevelTrouble c part point (Refused at refusal) = (at ≡ point) × (level_refusal c part ≡ Some refusal)
IsLevelTrouble c part point Memory = Unit {0}

-- what names without levels come to
abbrev pub fault_trouble : ℕ → LevelFault → Trouble
fault_trouble point (faults.Cyclic name) = Refused point (refusals.Cyclic name)
fault_trouble point faults.Memory = Memory
