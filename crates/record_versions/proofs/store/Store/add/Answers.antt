use Rattle.std.proofs.Common.{◌∙◌, ap}
use Rattle.std.specs.Arc.{arc_value}
use Rattle.std.specs.BTreeMap.{insert_entry}
use Rattle.record_versions.specs.Versions.{with_cell}
use Rattle.record_versions.specs.Shown.{cells_of}
use Rattle.record_versions.proofs.Orders.{id_derived, same_id_orders}
use Rattle.record_versions.proofs.Cells.{seen_insert}
use Rattle.record_versions.proofs.store.Store.add.Goals as goal

pub returns-clause-ok : goal.returns-clause-ok
returns-clause-ok c =
    let shown = cells_of c.self.inside.cells.entries in
    let cell = c.in_ok-cell.cell in
    ap cells_of c.in_ok-insert.ensures.entries ∙ seen_insert arc_value id_derived c.self.inside.cells.entries c.args.id cell
    ∙ ap (λ r. insert_entry r shown c.args.id (arc_value cell)) same_id_orders
    ∙ (λ i. with_cell (c.self.view_is i) c.args.id (c.in_ok-cell.ensures.ok i))
