use Rattle.std.proofs.Common.{◌≡◌, map, sym, ◌∙◌, ap, subst}
use Rattle.std.specs.Prelude.{IfOk}
use Rattle.planning_rules.specs.BestLots.{needs, cost, least_cost}
use Rattle.planning_rules.specs.Shortages.{shortage}
use Rattle.planning_rules.proofs.BestLotLaws.{best_costs}
use Rattle.netting.specs.Shortages.{shortages}
use Rattle.session_rules.specs.Costs.{unplanned_shortages}
use Rattle.plan_answer.proofs.costs.costs_of.Goals as goal

pub returns-clause-cost : goal.returns-clause-cost
returns-clause-cost c =
    let outcome = c.args.outcome.now in
    let short = unplanned_shortages c.args.stock c.args.safety outcome in
    let same : map shortage c.fill_short.new.short ≡ short =
    c.fill_short.ensures.all ∙ (λ i. shortages c.args.stock c.args.safety (c.as_slice-gross.ensures i) (c.requires.sched i)) in
    let least : least_cost c.args.rule.0 c.args.rule.1 (needs short) ≡ cost c.args.rule.0 c.args.rule.1 short outcome.planned =
    sym (ap (cost c.args.rule.0 c.args.rule.1 short) c.requires.best ∙ best_costs c.args.rule.0 c.args.rule.1 short) in
    subst (λ n. IfOk c.costs.result (λ made. made.cost ≡ n)) (ap (λ xs. least_cost c.args.rule.0 c.args.rule.1 (needs xs)) same ∙ least) c.costs.ensures.cost
