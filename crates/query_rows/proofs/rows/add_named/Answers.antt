use Rattle.std.proofs.Common.{◌≡◌, ◌++◌, List, ℕ, [], map, sym, ◌∙◌, ap, subst}
use Rattle.std.specs.Prelude.{OnOk}
use Rattle.std.specs.Option.{option_copied}
use Rattle.plan_schema.specs.declared.name.Name.{Name}
use Rattle.query_language.specs.Trees.{query_tree}
use Rattle.explosion.proofs.Totals.{append_none}
use Rattle.query_rules.specs.Lines.{select_line}
use Rattle.query_rows.specs.Rows.{rows_in}
use Rattle.query_rows.proofs.RowLaws.{rows_of_part, rows_of_none}
use Rattle.query_rows.proofs.rows.add_named.Goals as goal

pub returns : goal.returns
returns g c =
    subst (λ (rows : List (Name × List ℕ)). OnOk c.add_part.result (c.add_part.new.lines ≡ c.args.lines.now ++ map select_line rows))
    (rows_of_part (g.P.Plans.plans c.args.plans.now) (query_tree c.args.query.now) c.args.name.now c.args.cell.now (option_copied c.known-known.result)
    c.requires c.is_part.ensures.ordered (sym c.is_part.ensures.part ∙ c.if-not-is_part.false) c.known-known.ensures)
    c.add_part.ensures

pub returns-then-not-is_part : goal.returns-then-not-is_part
returns-then-not-is_part g c =
    let none : rows_in (g.P.Plans.plans c.args.plans.now) (query_tree c.args.query.now) c.args.cell.now ≡ [] =
    rows_of_none (g.P.Plans.plans c.args.plans.now) (query_tree c.args.query.now) c.args.name.now c.args.cell.now c.requires c.is_part.ensures.ordered (sym c.is_part.ensures.part ∙ c.if-not-is_part.true) in
    sym (append_none c.args.lines.now) ∙ ap (λ (rows : List (Name × List ℕ)). c.args.lines.now ++ map select_line rows) (sym none)
