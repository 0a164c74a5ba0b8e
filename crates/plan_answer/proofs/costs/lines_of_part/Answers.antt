use Rattle.std.proofs.Common.{◌≡◌, ◌≤◌, ◌∷◌, length, map, sym, ◌∙◌, ap, subst, ℕ, List}
use Rattle.std.specs.Prelude.{IfOk}
use Rattle.walk_rules.specs.Cells.{records}
use Rattle.session_rules.specs.Costs.{total_line, cost_line}
use Rattle.plan_answer.proofs.Costing.{own_cell, plan_is, gross_long, gross_small, sched_long, sched_told, orders_told, lines_told, needs_in_days}
use Rattle.plan_answer.proofs.costs.lines_of_part.Goals as goal

pub stock_in-stock-requires : goal.stock_in-stock-requires
stock_in-stock-requires g c =
    (own_cell c.args.job.now.wanted c.args.job.now.cells c.args.part.now (g.P.Plans.plans c.args.plans.now) c.requires.job c.requires.planned c.args.cell.now c.requires.cell).sound

pub safety_of-safety-requires : goal.safety_of-safety-requires
safety_of-safety-requires g c =
    (own_cell c.args.job.now.wanted c.args.job.now.cells c.args.part.now (g.P.Plans.plans c.args.plans.now) c.requires.job c.requires.planned c.args.cell.now c.requires.cell).sound

pub sched-requires-clause-sound : goal.sched-requires-clause-sound
sched-requires-clause-sound g c =
    (own_cell c.args.job.now.wanted c.args.job.now.cells c.args.part.now (g.P.Plans.plans c.args.plans.now) c.requires.job c.requires.planned c.args.cell.now c.requires.cell).sound

pub sched-requires-clause-rows : goal.sched-requires-clause-rows
sched-requires-clause-rows g c =
    (own_cell c.args.job.now.wanted c.args.job.now.cells c.args.part.now (g.P.Plans.plans c.args.plans.now) c.requires.job c.requires.planned c.args.cell.now c.requires.cell).few

pub costs_of-requires-clause-days : goal.costs_of-requires-clause-days
costs_of-requires-clause-days g c =
    let contents = records c.args.job.now.cells in
    let is = plan_is c.args.job.now.wanted c.args.job.now.cells c.args.part.now (g.P.Plans.plans c.args.plans.now) c.requires.job c.requires.planned c.args.cell.now c.requires.cell c.outcome_of-outcome.result.now c.outcome_of-outcome.ensures in
    subst (λ n. n ≤ 400) (ap (λ (pair : ℕ × ℕ). pair.1) c.horizon-start.ensures.value ∙ sym (gross_long contents c.args.part.now c.outcome_of-outcome.result.now is)) c.horizon-start.ensures.most

pub costs_of-requires-clause-gross : goal.costs_of-requires-clause-gross
costs_of-requires-clause-gross g c =
    let is = plan_is c.args.job.now.wanted c.args.job.now.cells c.args.part.now (g.P.Plans.plans c.args.plans.now) c.requires.job c.requires.planned c.args.cell.now c.requires.cell c.outcome_of-outcome.result.now c.outcome_of-outcome.ensures in
    gross_small (records c.args.job.now.cells) c.args.part.now c.outcome_of-outcome.result.now is

pub costs_of-requires-clause-sched : goal.costs_of-requires-clause-sched
costs_of-requires-clause-sched g c =
    c.as_slice.ensures ∙ c.in_ok-sched.ensures.sched
    ∙ sched_told c.args.job.now.wanted c.args.job.now.cells c.args.part.now (g.P.Plans.plans c.args.plans.now) c.requires.job c.requires.planned c.args.cell.now c.requires.cell c.outcome_of-outcome.result.now c.outcome_of-outcome.ensures
    c.horizon-start.result.0 c.horizon-start.result.1 c.horizon-start.ensures.value

pub costs_of-requires-clause-same : goal.costs_of-requires-clause-same
costs_of-requires-clause-same g c =
    let is = plan_is c.args.job.now.wanted c.args.job.now.cells c.args.part.now (g.P.Plans.plans c.args.plans.now) c.requires.job c.requires.planned c.args.cell.now c.requires.cell c.outcome_of-outcome.result.now c.outcome_of-outcome.ensures in
    ap length (costs_of-requires-clause-sched g c) ∙ sched_long (records c.args.job.now.cells) c.args.part.now c.outcome_of-outcome.result.now is

pub costs_of-requires-clause-best : goal.costs_of-requires-clause-best
costs_of-requires-clause-best g c =
    orders_told c.args.job.now.wanted c.args.job.now.cells c.args.part.now (g.P.Plans.plans c.args.plans.now) c.requires.job c.requires.planned c.args.cell.now c.requires.cell c.outcome_of-outcome.result.now c.outcome_of-outcome.ensures
    c.args.rule c.stock_in-stock.result c.safety_of-safety.result c.requires.rule c.stock_in-stock.ensures.value c.safety_of-safety.ensures.value

pub lines_of_costs-requires-clause-rows : goal.lines_of_costs-requires-clause-rows
lines_of_costs-requires-clause-rows g c =
    let o = c.outcome_of-outcome.result.now in
    let is = plan_is c.args.job.now.wanted c.args.job.now.cells c.args.part.now (g.P.Plans.plans c.args.plans.now) c.requires.job c.requires.planned c.args.cell.now c.requires.cell o c.outcome_of-outcome.ensures in
    needs_in_days c.args.rule.0 c.args.rule.1 c.stock_in-stock.result c.safety_of-safety.result o o.planned c.horizon-start.result.1
    (gross_long (records c.args.job.now.cells) c.args.part.now o is ∙ sym (ap (λ (pair : ℕ × ℕ). pair.1) c.horizon-start.ensures.value)) c.in_ok-costs.costs.rows c.in_ok-costs.ensures.rows

pub returns : goal.returns
returns g c =
    let o = c.outcome_of-outcome.result.now in
    let start = c.horizon-start.result.0 in
    subst (λ (text : List (List ℕ)). IfOk c.lines_of_costs.result (λ lines. lines ≡ text))
    ((λ i. total_line (c.in_ok-costs.ensures.cost i) ∷ map (cost_line start) (c.in_ok-costs.ensures.rows i))
    ∙ lines_told c.args.job.now.wanted c.args.job.now.cells c.args.part.now (g.P.Plans.plans c.args.plans.now) c.requires.job c.requires.planned c.args.cell.now c.requires.cell o c.outcome_of-outcome.ensures
    c.args.rule c.stock_in-stock.result c.safety_of-safety.result c.requires.rule c.stock_in-stock.ensures.value c.safety_of-safety.ensures.value start
    (ap (λ (pair : ℕ × ℕ). pair.0) c.horizon-start.ensures.value))
    c.lines_of_costs.ensures
