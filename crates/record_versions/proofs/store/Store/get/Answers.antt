use Rattle.std.proofs.Common.{◌∙◌, ap}
use Rattle.std.specs.Arc.{arc_value}
use Rattle.std.specs.Option.{option_map}
use Rattle.std.specs.Map.{lookup}
use Rattle.std.specs.BTreeMap.{is_at}
use Rattle.record_versions.specs.Versions.{cell_at}
use Rattle.record_versions.specs.Shown.{cells_of}
use Rattle.record_versions.proofs.Orders.{id_derived, same_id_orders}
use Rattle.record_versions.proofs.Cells.{seen_lookup, lent_seen}
use Rattle.record_versions.proofs.store.Store.get.Goals as goal

pub returns : goal.returns
returns c =
    let found = ap (option_map arc_value) c.get.ensures.value ∙ seen_lookup arc_value (is_at (id_derived c.args.id.now)) c.self.inside.cells.entries
    ∙ ap (λ r. lookup (is_at (r c.args.id.now)) (cells_of c.self.inside.cells.entries)) same_id_orders ∙ ap (λ es. cell_at es c.args.id.now) c.self.view_is in
    lent_seen arc_value c.get.result ∙ found
