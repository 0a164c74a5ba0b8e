use Rattle.std.proofs.Common.{◌≡◌, ◌++◌, List, ℕ, [], map, sym, ◌∙◌, ap}
use Rattle.plan_schema.specs.declared.name.Name.{Name}
use Rattle.query_language.specs.Trees.{query_tree}
use Rattle.walk_rules.specs.Cells.{are_own_rows}
use Rattle.explosion.proofs.Totals.{append_none}
use Rattle.query_rules.specs.Lines.{select_line}
use Rattle.query_rows.specs.Rows.{rows_in}
use Rattle.query_rows.proofs.RowLaws.{rows_of_other}
use Rattle.query_rows.proofs.rows.add_cell.Goals as goal

pub add_named-requires : goal.add_named-requires
add_named-requires g c = ap (λ name. are_own_rows name c.args.cell.now) (sym c.in-Part.is) ∙ c.requires

pub returns-in-Plan : goal.returns-in-Plan
returns-in-Plan g c =
    let none : rows_in (g.P.Plans.plans c.args.plans.now) (query_tree c.args.query.now) c.args.cell.now ≡ [] =
    rows_of_other (g.P.Plans.plans c.args.plans.now) (query_tree c.args.query.now) c.args.id.now.cell c.args.cell.now c.requires c.in-Plan.is in
    sym (append_none c.args.lines.now) ∙ ap (λ (rows : List (Name × List ℕ)). c.args.lines.now ++ map select_line rows) (sym none)

pub returns-in-Plan-2 : goal.returns-in-Plan-2
returns-in-Plan-2 g c =
    let none : rows_in (g.P.Plans.plans c.args.plans.now) (query_tree c.args.query.now) c.args.cell.now ≡ [] =
    rows_of_other (g.P.Plans.plans c.args.plans.now) (query_tree c.args.query.now) c.args.id.now.cell c.args.cell.now c.requires c.in-Plan.is in
    sym (append_none c.args.lines.now) ∙ ap (λ (rows : List (Name × List ℕ)). c.args.lines.now ++ map select_line rows) (sym none)
