use Rattle.std.proofs.Common.{◌≡◌, List, ℕ, map, ap, subst}
use Rattle.std.specs.Prelude.{IfOk}
use Rattle.planning_rules.specs.Plan.{plan}
use Rattle.planning_rules.specs.Refused.{in_reach}
use Rattle.planning_rules.proofs.Membership.{contained_in}
use Rattle.query_language.specs.Trees.{query_tree}
use Rattle.query_rules.specs.Queries.{parts_of}
use Rattle.walk_rules.specs.Cells.{records}
use Rattle.plan_jobs.proofs.Gathering.{asked_reached}
use Rattle.query_rules.specs.Lines.{select_line}
use Rattle.plan_answer.proofs.Selecting.{same_rows}
use Rattle.plan_answer.proofs.planned.lines_of_query.Goals as goal

pub returns : goal.returns
returns g c =
    let contents = records c.args.job.now.cells in
    subst (λ (rows : List (List ℕ)). IfOk c.rows_planned.result (λ lines. lines ≡ rows))
    (ap (map select_line)
    (same_rows (g.P.Plans.plans c.args.plans.now) (plan contents) contents (query_tree c.args.query.now)
    (λ n i. c.requires.planned.right n (contained_in (in_reach contents (parts_of contents)) n (asked_reached contents (parts_of contents) n i)))))
    c.rows_planned.ensures
