use Rattle.std.proofs.Common.{◌∙◌, sym, ap}
use Rattle.std.specs.FinMap.{is_sorted}
use Rattle.record_versions.specs.Versions.{are_ordered_ids}
use Rattle.record_versions.proofs.Orders.{sorted_keys, cell_derived, same_cell_orders}
use Rattle.record_versions.proofs.ids.Ids.len.Goals as goal

pub returns-clause-ordered : goal.returns-clause-ordered
returns-clause-ordered c =
    ap are_ordered_ids (sym c.self.view_is) ∙ ap (λ r. is_sorted r c.self.inside.ids) (sym same_cell_orders) ∙ sorted_keys cell_derived c.self.inside.ids c.len.ensures.sorted
