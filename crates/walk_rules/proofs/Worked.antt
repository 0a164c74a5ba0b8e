-- Worked examples, by computation: what a query adds to the two numbers and leaves in the memo.
use Rattle.std.specs.Prelude.{◌≡◌, ℕ, [], ◌∷◌, Some, None, map, codes}
use Rattle.std.proofs.Common.{refl}
use Rattle.plan_schema.specs.declared.name.Name.{Name}
use Rattle.plan_schema.specs.declared.change.CellName.{CellName}
use Rattle.plan_schema.specs.declared.change.CellName.TheVariants as names
use Rattle.plan_schema.specs.declared.key.Key.TheVariants as keys
use Rattle.plan_schema.specs.declared.key.Lot.TheVariants as lots
use Rattle.plan_schema.specs.declared.key.Record.TheVariants as rows
use Rattle.plan_schema.specs.Contents.{Contents}
use Rattle.planning_rules.specs.Bills.{level}
use Rattle.planning_rules.specs.Plan.{Planned, plan}
use Rattle.planning_rules.specs.Netting.{Lists}
use Rattle.planning_rules.specs.Pegs.{FromParent, pegs}
use Rattle.record_versions.specs.declared.version.VersionId.{VersionId}
use Rattle.walk_rules.specs.Cells.{Cells, records}
use Rattle.walk_rules.specs.Walks.{State, work_of}

abbrev a : Name
a = codes "A"

abbrev b : Name
b = codes "B"

abbrev c : Name
c = codes "C"

abbrev d1 : Name
d1 = codes "D1"

abbrev at : ℕ → CellName → VersionId
at point cell = record { point = point; cell = cell }

-- the plan's cell: a horizon of five days from 2025-03-03
abbrev plan_cell : VersionId × Contents
plan_cell = (at 0 names.Plan, (keys.Plan, rows.Plan 9193 5) ∷ [])

-- a walk to B finds its gross, its level and its peg in the joined cells ---------------------------------------------------------

abbrev three_each : Cells
three_each = plan_cell
    ∷ (at 0 (names.Part a), (keys.Part a, rows.Part 2 lots.Exact 0 None) ∷ (keys.Stock a, rows.Stock 30) ∷ (keys.Demand a d1, rows.Demand 9195 50) ∷ [])
    ∷ (at 0 (names.Part b), (keys.Part b, rows.Part 1 lots.Exact 0 None) ∷ (keys.Bill a b, rows.Bill 3 None) ∷ [])
    ∷ []

abbrev sixty_late : Lists
sixty_late = record { gross = 60 ∷ 0 ∷ 0 ∷ 0 ∷ 0 ∷ []; sched = 0 ∷ 0 ∷ 0 ∷ 0 ∷ 0 ∷ []; planned = 60 ∷ 0 ∷ 0 ∷ 0 ∷ 0 ∷ []; balance = 0 ∷ 0 ∷ 0 ∷ 0 ∷ 0 ∷ []; release = 60 ∷ 0 ∷ 0 ∷ 0 ∷ 0 ∷ []; late = 60 }

b_is_planned : plan (records three_each) b ≡ Some (Planned sixty_late)
b_is_planned = refl

b_is_below_a : level (records three_each) b ≡ Some 1
b_is_below_a = refl

a_asks_for_sixty : pegs (records three_each) b 0 ≡ FromParent a 60 ∷ []
a_asks_for_sixty = refl

a_walk_finds_the_plan : map (λ part. part.known) (work_of three_each (a ∷ b ∷ []) 10 [] 0 0).parts ≡ map (plan (records three_each)) (a ∷ b ∷ [])
a_walk_finds_the_plan = refl

-- one memo for three queries: A makes batches of a hundred, so its safety stock changes nothing that B and C depend on ------------

abbrev in_batches : ℕ → ℕ → Cells
in_batches point safety = plan_cell
    ∷ (at point (names.Part a), (keys.Part a, rows.Part 0 (lots.Fixed 100) safety None) ∷ (keys.Stock a, rows.Stock 30) ∷ (keys.Demand a d1, rows.Demand 9195 50) ∷ [])
    ∷ (at 0 (names.Part b), (keys.Part b, rows.Part 0 lots.Exact 0 None) ∷ (keys.Bill a b, rows.Bill 1 None) ∷ [])
    ∷ (at 0 (names.Part c), (keys.Part c, rows.Part 0 lots.Exact 0 None) ∷ (keys.Bill b c, rows.Bill 1 None) ∷ [])
    ∷ []

abbrev again : Cells → ℕ → State → State
again cells most s = work_of cells (a ∷ b ∷ c ∷ []) most s.pairs s.netted s.reused

abbrev numbers : State → ℕ × ℕ
numbers s = (s.netted, s.reused)

abbrev one_query : ℕ → State
one_query most = work_of (in_batches 0 0) (a ∷ b ∷ c ∷ []) most [] 0 0

abbrev three_queries : ℕ → State
three_queries most = again (in_batches 1 10) most (again (in_batches 0 0) most (one_query most))

the_first_nets_all : numbers (one_query 100) ≡ (3, 0)
the_first_nets_all = refl

the_rest_is_taken : numbers (three_queries 100) ≡ (4, 5)
the_rest_is_taken = refl

-- a memo of one pair takes nothing
one_pair_is_too_few : numbers (three_queries 1) ≡ (9, 0)
one_pair_is_too_few = refl
