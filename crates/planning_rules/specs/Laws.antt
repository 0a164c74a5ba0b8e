-- What holds of the definitions of planning.
use Rattle.std.specs.Prelude.{◌+◌, ◌≤◌, ◌≡◌, ◌↔◌, ℕ, List, ◌∷◌, Bool, true, false, not, ◌||◌, ◌&&◌, Option, Some, None, is_some, is_none, ◌<◌, length, sum_by, Contains}
use Rattle.std.specs.List.{AllByRecursion, list_any, list_all}
use Rattle.std.specs.Ordering.{is_lt}
use Rattle.plan_schema.specs.declared.name.Name.{Name}
use Rattle.plan_schema.specs.declared.key.Key.TheVariants as keys
use Rattle.plan_schema.specs.declared.refusal.Refusal.{Refusal}
use Rattle.plan_schema.specs.declared.refusal.Refusal.TheVariants as refusals
use Rattle.plan_schema.specs.Key.{name_cmp}
use Rattle.plan_schema.specs.Contents.{Contents, record_at}
use Rattle.planning_rules.specs.Bills.{bills_of, is_above, is_ancestor, level}
use Rattle.plan_schema.specs.declared.key.Lot.TheVariants as lots
use Rattle.planning_rules.specs.BestLots.{IsCovered, IsBest, needs, cost, best, first_order}
use Rattle.planning_rules.specs.Amounts.{IsAmount}
use Rattle.planning_rules.specs.Netting.{Input, HasStep, Netted, planned_of, shortages_of, KeepsSafety, above_from}
use Rattle.planning_rules.specs.Plan.{Known, plan, plan_step, gross_on}
use Rattle.planning_rules.specs.Refused.{in_reach, is_cyclic, is_part, lacks_calendar, least_name, level_refusal, plan_refusal}
use Rattle.planning_rules.specs.Pegs.{pegs_from, peg_qty}
use Rattle.planning_rules.specs.Promise.{IsPromise, least_of}

-- exactly one list is that of the planned orders of an input
abbrev pub OneNetting : Type 0
OneNetting = (x : Input) → HasStep x.lot → Netted x (planned_of x) × ((p : List ℕ) → Netted x p → p ≡ planned_of x)

-- each name's plan is one step from those of its parents
abbrev pub PlanIsStep : Type 0
PlanIsStep = (c : Contents) (n : Name) → plan c n ≡ plan_step (plan c) c n

-- who knows the plans of a name's parents finds the name's
abbrev pub WalkIsPlan : Type 0
WalkIsPlan = (c : Contents) (known : Name → Option Known) (n : Name) → AllByRecursion (λ bill. known bill.parent ≡ plan c bill.parent) (bills_of c n) → plan_step known c n ≡ plan c n

-- what is an ancestor over a chain of any length is one
abbrev pub ChainsAreShort : Type 0
ChainsAreShort = (c : Contents) (n a : Name) (steps : ℕ) → is_above steps c n a ≡ true → is_ancestor c n a ≡ true

-- a name without a level has an ancestor, or is itself one, that is its own ancestor
abbrev pub NoLevelIsCyclic : Type 0
NoLevelIsCyclic = (c : Contents) (n : Name) → level c n ≡ None → (y : Name) × (is_ancestor c n y ≡ true) × (is_ancestor c y y ≡ true)

-- a name below or on a cycle has no level
abbrev pub CyclicHasNoLevel : Type 0
CyclicHasNoLevel = (c : Contents) (n a : Name) → is_ancestor c n a ≡ true → is_ancestor c a a ≡ true → level c n ≡ None

-- a name without a level is not planned
abbrev pub NoLevelIsNoPlan : Type 0
NoLevelIsNoPlan = (c : Contents) (n : Name) → level c n ≡ None → plan c n ≡ None

-- the pegs of a day sum to its gross requirements
abbrev pub PegsAreGross : Type 0
PegsAreGross = (plans : Name → Option Known) (c : Contents) (n : Name) (t : ℕ) → sum_by peg_qty (pegs_from plans c n t) ≡ gross_on plans c n t

-- the least balance from a day on is the greatest promise of that day
abbrev pub LeastIsPromise : Type 0
LeastIsPromise = (balances : List ℕ) → 0 < length balances → IsPromise balances (least_of balances)

-- least is the least name of a list that passes a test: it stands in the list and passes, and no name of the list that passes
-- precedes it by bytes
pub record IsLeastPassing (test : Name → Bool) (names : List Name) (least : Name) : Type 0 where
  pub among : Contains names least
  pub passes : test least ≡ true
  pub first : (n : Name) → Contains names n → test n ≡ true → is_lt (name_cmp n least) ≡ false

-- none where no name of the list passes, else the least one that does
abbrev pub IsLeastOf : (Name → Bool) → List Name → Option Name → Type 0
IsLeastOf test names None = (n : Name) → Contains names n → test n ≡ false
IsLeastOf test names (Some least) = IsLeastPassing test names least

-- the least name is that
abbrev pub LeastNameIsLeast : Type 0
LeastNameIsLeast = (test : Name → Bool) (names : List Name) → IsLeastOf test names (least_name test names)

-- a name in reach of asked names is its own ancestor exactly where some asked name has no level
abbrev pub CyclicIsNoLevel : Type 0
CyclicIsNoLevel = (c : Contents) (asked : List Name) → is_some (least_name (is_cyclic c) (in_reach c asked)) ≡ list_any (λ n. is_none (level c n)) asked

-- a level is refused exactly where the asked name is no part or has no level
abbrev pub LevelIsRefused : Type 0
LevelIsRefused = (c : Contents) (n : Name) → is_some (level_refusal c n) ≡ (not (is_part c n) || is_none (level c n))

abbrev pub says_cyclic : Option Refusal → Bool
says_cyclic (Some (refusals.Cyclic name)) = true
says_cyclic _ = false

-- each name in reach is a part that has its calendar
abbrev pub reach_is_whole : Contents → List Name → Bool
reach_is_whole c asked = list_all (λ n. is_part c n && not (lacks_calendar c (record_at c (keys.Part n)))) (in_reach c asked)

-- there a plan is refused as cyclic exactly where some asked name has no level
abbrev pub PlanIsCyclic : Type 0
PlanIsCyclic = (c : Contents) (asked : List Name) → reach_is_whole c asked ≡ true → says_cyclic (plan_refusal c asked) ≡ list_any (λ n. is_none (level c n)) asked

-- exactly one list is the best for what is short
abbrev pub OneBest : Type 0
OneBest = (setup hold : ℕ) (short : List ℕ) → IsBest setup hold short (best setup hold (needs short)) × ((orders : List ℕ) → IsBest setup hold short orders → orders ≡ best setup hold (needs short))

-- no list of orders that is enough costs less than the best, simple or not
abbrev pub BestCostsLeast : Type 0
BestCostsLeast = (setup hold : ℕ) (short orders : List ℕ) → IsCovered short orders → cost setup hold short (best setup hold (needs short)) ≤ cost setup hold short orders

-- the amount of a least-cost lot is the first order of the best list
abbrev pub AmountIsFirst : Type 0
AmountIsFirst = (setup hold short a : ℕ) (later : List ℕ) → IsAmount (lots.Best setup hold) short later a ↔ (a ≡ first_order (best setup hold (needs (short ∷ later))))

-- the planned orders of a part with least-cost lots, each looked for on its own day, are the best list for what is short over the whole
-- horizon
abbrev pub PlannedIsBest : Type 0
PlannedIsBest = (x : Input) (setup hold : ℕ) → x.lot ≡ lots.Best setup hold → planned_of x ≡ best setup hold (needs (shortages_of x))

-- the planned orders of a part with least-cost lots cost no more than any orders that keep each balance at safety or above
abbrev pub PlannedCostsLeast : Type 0
PlannedCostsLeast = (x : Input) (setup hold : ℕ) → x.lot ≡ lots.Best setup hold → (orders : List ℕ) → KeepsSafety x orders
    → cost setup hold (shortages_of x) (planned_of x) ≤ cost setup hold (shortages_of x) orders

-- holding counted on the balance above safety differs by an amount that is the same for all such orders
abbrev pub AboveIsCost : Type 0
AboveIsCost = (x : Input) (setup hold : ℕ) → (more : ℕ) × ((orders : List ℕ) → KeepsSafety x orders → above_from setup hold x 0 0 orders ≡ cost setup hold (shortages_of x) orders + more)
