use Rattle.std.proofs.Common.{◌≡◌, sym, ◌∙◌, ap, true, cond, ◌||◌}
use Rattle.std.specs.Ordering.{is_eq}
use Rattle.record_versions.proofs.Orders.{same_cell_orders}
use Rattle.plan_schema.specs.Cell.{cell_eq}
use Rattle.plan_jobs.specs.Names.{has_name}
use Rattle.plan_jobs.proofs.Sets.{has_derived, either_way, ordered_keys}
use Rattle.plan_jobs.proofs.names.CellNames.put.Goals as goal

pub returns-clause-with : goal.returns-clause-with
returns-clause-with c = λ other.
    let old = c.self.inside.names.keys in
    let new = c.insert.new.self.keys in
    let by_tree : has_name new other ≡ cond (cell_eq c.args.name other) true (has_name old other) =
    sym (has_derived new other) ∙ c.in_ok-insert.ensures.updates.0 other ∙ (λ i. cond (is_eq (same_cell_orders i c.args.name other)) true (has_derived old other i)) in
    by_tree ∙ either_way (cell_eq c.args.name other) (has_name old other) ∙ ap (λ names. cell_eq c.args.name other || has_name names other) c.self.view_is

pub returns-clause-ordered : goal.returns-clause-ordered
returns-clause-ordered c = ordered_keys c.insert.new.self.keys c.in_ok-insert.ensures.ordered
