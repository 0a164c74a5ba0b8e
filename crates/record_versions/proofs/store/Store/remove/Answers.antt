use Rattle.std.proofs.Common.{◌∙◌, ap}
use Rattle.std.specs.Arc.{arc_value}
use Rattle.std.specs.Map.{remove_entry}
use Rattle.std.specs.BTreeMap.{is_at}
use Rattle.record_versions.specs.Versions.{without_cell}
use Rattle.record_versions.specs.Shown.{cells_of}
use Rattle.record_versions.proofs.Orders.{id_derived, same_id_orders}
use Rattle.record_versions.proofs.Cells.{seen_remove}
use Rattle.record_versions.proofs.store.Store.remove.Goals as goal

pub returns : goal.returns
returns c =
    ap cells_of c.remove.ensures.entries ∙ seen_remove arc_value (is_at (id_derived c.args.id.now)) c.self.inside.cells.entries
    ∙ ap (λ r. remove_entry (is_at (r c.args.id.now)) (cells_of c.self.inside.cells.entries)) same_id_orders ∙ ap (λ es. without_cell es c.args.id.now) c.self.view_is
