use Rattle.std.proofs.Common.{◌≡◌, List, ℕ, map, ◌∙◌, ap, subst}
use Rattle.std.specs.Prelude.{IfOk}
use Rattle.query_language.specs.Trees.{query_tree}
use Rattle.walk_rules.specs.Cells.{are_own_cells}
use Rattle.query_rules.specs.Lines.{select_line}
use Rattle.query_rows.specs.Rows.{rows_over}
use Rattle.plan_jobs.proofs.Rows.{apart}
use Rattle.query_rows.proofs.RowLaws.{rows_are_selected}
use Rattle.query_rows.proofs.rows.rows_planned.Goals as goal

pub lines_over-requires : goal.lines_over-requires
lines_over-requires g c = ap are_own_cells c.as_slice.ensures.cells ∙ c.requires

pub returns : goal.returns
returns g c =
    let plans = g.P.Plans.plans c.args.plans.now in
    let query = query_tree c.args.query.now in
    let cells = c.args.job.now.cells in
    subst (λ (rows : List (List ℕ)). IfOk c.lines_over.result (λ lines. lines ≡ rows))
    (ap (map select_line) (ap (rows_over plans query) c.as_slice.ensures.cells ∙ rows_are_selected plans query cells c.requires (apart cells c.as_slice.ensures.ascending)))
    c.lines_over.ensures
