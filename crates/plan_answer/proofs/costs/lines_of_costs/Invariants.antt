use Rattle.std.proofs.Common.{◌≡◌, ◌∷◌, map, take}
use Rattle.session_rules.specs.Costs.{total_line, cost_line}
use Rattle.plan_answer.proofs.costs.lines_of_costs.Given as goal

abbrev pub invariant-loop-row : goal.invariant-loop-row
invariant-loop-row l = l.lines ≡ total_line l.costs.cost ∷ map (cost_line l.start) (take l.row-index l.costs.rows)
