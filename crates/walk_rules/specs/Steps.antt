-- One part's step from its own cells and the release lists of its parents.
use Rattle.std.specs.Prelude.{◌≡◌, ℕ, ◌+◌, ◌*◌, List, [], ◌∷◌, Bool, true, Option, Some, None, if◌then◌else◌, map, slice_index}
use Rattle.std.specs.List.{range_with_len, list_all}
use Rattle.plan_schema.specs.declared.name.Name.{Name}
use Rattle.plan_schema.specs.declared.key.Key.TheVariants as keys
use Rattle.plan_schema.specs.declared.key.Record.{Record}
use Rattle.plan_schema.specs.declared.key.Record.TheVariants as rows
use Rattle.plan_schema.specs.declared.change.CellName.TheVariants as names
use Rattle.plan_schema.specs.Contents.{Contents, record_at, cell_rows}
use Rattle.planning_rules.specs.Bills.{ParentBill, bills_of, parents, is_effective, level}
use Rattle.planning_rules.specs.Days.{start_of, days_of}
use Rattle.planning_rules.specs.Plan.{Known, plan, plan_step, demands_on, total, released, has_outcome, input_of, known_from}

-- what the parents ask of a component on day t, bill by bill with the release list of its parent
abbrev pub asked_from : ℕ → ℕ → List ParentBill → List (List ℕ) → List (Name × ℕ)
asked_from start t [] lists = []
asked_from start t (bill ∷ bills) [] = []
asked_from start t (bill ∷ bills) (releases ∷ lists) =
    (bill.parent, if is_effective bill.span (start + t) then bill.per * slice_index releases t else 0) ∷ asked_from start t bills lists

-- gross requirements from the release lists of the parents, in the order of their names
abbrev pub gross_from : Contents → Name → List (List ℕ) → List ℕ
gross_from c n lists = map (λ t. total (demands_on c n t) + total (asked_from (start_of c) t (bills_of c n) lists)) (range_with_len 0 (days_of c))

-- a part's step
abbrev pub step_from : Contents → Name → List (List ℕ) → Option Known
step_from c n lists = known_from (input_of c n (gross_from c n lists) (record_at c (keys.Part n)))

-- the calendar that a part's record names
abbrev pub calendar_of : Option Record → Option Name
calendar_of (Some (rows.Part lead lot safety calendar)) = calendar
calendar_of _ = None

abbrev pub calendar_in : Contents → Name → Option Name
calendar_in c n = calendar_of (record_at c (keys.Part n))

-- two contents have the same cells of n: the plan's, the part's, and that of the calendar that the part names
pub record Agree (c d : Contents) (n : Name) : Type 0 where
  pub plan_cell : cell_rows c names.Plan ≡ cell_rows d names.Plan
  pub part_cell : cell_rows c (names.Part n) ≡ cell_rows d (names.Part n)
  pub calendar_cell : (k : Name) → calendar_in c n ≡ Some k → cell_rows c (names.Cal k) ≡ cell_rows d (names.Cal k)

-- a step is one from the releases of the parents
abbrev pub StepFromLists : Type 0
StepFromLists = (plans : Name → Option Known) (c : Contents) (n : Name)
    → plan_step plans c n
    ≡ (if list_all (λ p. has_outcome (plans p)) (parents c n) then step_from c n (map (λ p. released (plans p)) (parents c n)) else None)

-- a step looks at the cells of its part alone
abbrev pub StepIsLocal : Type 0
StepIsLocal = (c d : Contents) (n : Name) (lists : List (List ℕ)) → Agree c d n → step_from c n lists ≡ step_from d n lists

-- where two contents have the same cells of each name of a set that holds the parents of its names, those names have the same
-- levels and the same plans in both
abbrev pub PlanIsLocal : Type 0
PlanIsLocal = (c d : Contents) (among : Name → Bool)
    → ((n : Name) → among n ≡ true → Agree c d n × (list_all among (parents c n) ≡ true))
    → (n : Name) → among n ≡ true → (plan c n ≡ plan d n) × (level c n ≡ level d n)
