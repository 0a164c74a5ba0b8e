-- The work of a query, round by round, and when a walk is at its end.
use Rattle.std.specs.Prelude.{◌≡◌, ℕ, suc, List, [], ◌∷◌, true, false, Contains}
use Rattle.std.specs.List.{AllByRecursion}
use Rattle.plan_schema.specs.declared.name.Name.{Name}
use Rattle.plan_schema.specs.Contents.{Contents}
use Rattle.planning_rules.specs.Bills.{parents}
use Rattle.walk_rules.specs.Cells.{Cells, records}
use Rattle.walk_rules.specs.Walks.{Parts, State, names_of, is_ready, is_empty, frontier, IsSettled, Took, results_of, with_hits, net_all, work_within}

-- where no pair was dropped, taking in the frontier's results and then all hits is the netting of the frontier and then all hits
abbrev pub SettlingIsWork : Type 0
SettlingIsWork = (cells : Cells) (most : ℕ) (start middle : State)
    → Took cells most start (results_of cells start.parts) 0 middle
    → with_hits cells middle ≡ with_hits cells (net_all cells most start)

-- while the hits leave a frontier, the work goes on from its netting
abbrev pub WorkGoesOn : Type 0
WorkGoesOn = (cells : Cells) (most rounds : ℕ) (s : State)
    → is_empty (frontier (records cells) (with_hits cells s).parts) ≡ false
    → work_within (suc rounds) cells most s ≡ work_within rounds cells most (net_all cells most (with_hits cells s))

-- and where they leave none, it is done
abbrev pub WorkEnds : Type 0
WorkEnds = (cells : Cells) (most rounds : ℕ) (s : State)
    → is_empty (frontier (records cells) (with_hits cells s).parts) ≡ true
    → work_within (suc rounds) cells most s ≡ with_hits cells s

-- each name's parents stand before it
abbrev pub AreUpward : Contents → List Name → List Name → Type 0
AreUpward c before [] = Unit {0}
AreUpward c before (n ∷ ns) = AllByRecursion (Contains before) (parents c n) × AreUpward c (n ∷ before) ns

-- a settled part isn't ready
abbrev pub SettledIsNotReady : Type 0
SettledIsNotReady = (c : Contents) (parts : Parts) (n : Name) → IsSettled c parts n → is_ready c parts n ≡ true → ⊥

-- where the parents of each part stand before it and no part is ready, all are settled
abbrev pub NoneReadyIsSettled : Type 0
NoneReadyIsSettled = (c : Contents) (parts : Parts)
    → AreUpward c [] (names_of parts) → AllByRecursion (λ n. is_ready c parts n ≡ false) (names_of parts)
    → AllByRecursion (IsSettled c parts) (names_of parts)
