use Rattle.std.proofs.Common.{◌≡◌, [], ◌∷◌, inl, refl, sym, ◌∙◌, ap}
use Rattle.std.specs.Prelude.{Some, None}
use Rattle.plan_schema.specs.declared.key.Key.TheVariants as keys
use Rattle.plan_schema.specs.Contents.{record_at}
use Rattle.walk_rules.specs.Cells.{records}
use Rattle.session_rules.specs.Costs.{part_costs, no_costs}
use Rattle.session_rules.specs.Answers.{costs_lines, query_reply}
use Rattle.part_pegs.proofs.OwnPegs.{asked_planned}
use Rattle.plan_answer.proofs.Costing.{own_cell, part_row}
use Rattle.plan_answer.proofs.costs.cost_reply.Goals as goal

pub part_costs-requires : goal.part_costs-requires
part_costs-requires g c =
    (own_cell c.args.job.now.wanted c.args.job.now.cells c.args.part.now (g.P.Plans.plans c.args.plans.now) c.requires.job c.requires.planned c.part_cell-cell.result.now c.part_cell-cell.ensures).sound

pub returns-in_ok-lines-in-Some : goal.returns-in_ok-lines-in-Some
returns-in_ok-lines-in-Some g c =
    let contents = records c.args.job.now.cells in
    let part = c.args.part.now in
    let row = part_row c.args.job.now.wanted c.args.job.now.cells part (g.P.Plans.plans c.args.plans.now) c.requires.job c.requires.planned c.part_cell-cell.result.now c.part_cell-cell.ensures in
    let costs : Some c.in-Some.rule ≡ part_costs (record_at contents (keys.Part part)) = sym c.in-Some.is ∙ c.part_costs.ensures.value ∙ ap part_costs row in
    λ i. query_reply c.args.job.now.point (no_costs part (costs i)) (c.in_ok-lines-in-Some.ensures i)

pub returns-in-None : goal.returns-in-None
returns-in-None g c =
    let contents = records c.args.job.now.cells in
    let part = c.args.part.now in
    let row = part_row c.args.job.now.wanted c.args.job.now.cells part (g.P.Plans.plans c.args.plans.now) c.requires.job c.requires.planned c.part_cell-cell.result.now c.part_cell-cell.ensures in
    let costs : None ≡ part_costs (record_at contents (keys.Part part)) = sym c.in-None.is ∙ c.part_costs.ensures.value ∙ ap part_costs row in
    λ i. query_reply c.args.job.now.point (no_costs part (costs i)) (costs_lines contents part)

pub part_cell-cell-requires-clause-planned : goal.part_cell-cell-requires-clause-planned
part_cell-cell-requires-clause-planned g c =
    asked_planned (records c.args.job.now.cells) (c.args.part.now ∷ []) (g.P.Plans.plans c.args.plans.now) c.args.part.now c.requires.planned (inl refl)
