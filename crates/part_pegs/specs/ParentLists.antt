-- The release lists of the parents in the bills of a part's cell.
use Rattle.std.specs.Prelude.{List, ℕ, Bool, Option, map}
use Rattle.std.specs.List.{list_all}
use Rattle.plan_schema.specs.declared.name.Name.{Name}
use Rattle.plan_schema.specs.Contents.{Contents}
use Rattle.planning_rules.specs.Plan.{Known, has_outcome, released}
use Rattle.explosion.specs.Sums.{bills_in}

-- what the parents in the bills of some rows release, by the plans that are known
abbrev pub parent_lists : (Name → Option Known) → Contents → List (List ℕ)
parent_lists plans rows = map (λ bill. released (plans bill.parent)) (bills_in rows)

-- each of these parents has an outcome
abbrev pub parents_are_planned : (Name → Option Known) → Contents → Bool
parents_are_planned plans rows = list_all (λ bill. has_outcome (plans bill.parent)) (bills_in rows)
