use Rattle.planning_rules.proofs.BestLotLaws.{best_is_best, one_best, best_is_least}
use Rattle.planning_rules.proofs.PlannedBest.{planned_is_best, planned_costs_least, above_is_cost, amount_is_first}
use Rattle.planning_rules.proofs.laws.one_best.Goals as goal

pub returns-clause-one : goal.returns-clause-one
returns-clause-one c = λ setup hold short. (best_is_best setup hold short, one_best setup hold short)

pub returns-clause-least : goal.returns-clause-least
returns-clause-least c = best_is_least

pub returns-clause-amount : goal.returns-clause-amount
returns-clause-amount c = amount_is_first

pub returns-clause-planned : goal.returns-clause-planned
returns-clause-planned c = planned_is_best

pub returns-clause-costs : goal.returns-clause-costs
returns-clause-costs c = planned_costs_least

pub returns-clause-above : goal.returns-clause-above
returns-clause-above c = above_is_cost
