use Rattle.std.proofs.Common.{◌∙◌, sym, ap, subst, ◌∷◌, [], ◌++◌}
use Rattle.std.specs.Prelude.{is_some}
use Rattle.record_versions.specs.Versions.{CellList, IdList, id_at}
use Rattle.scenario_rules.specs.World.{laid_over}
use Rattle.scenario_cells.specs.Held.{KeepsOlder}
use Rattle.scenario_cells.specs.Laid.{IsLaid, ids_of_held}
use Rattle.version_rules.proofs.CellRows.{ordered_laid}
use Rattle.scenario_cells.proofs.HeldLaws.{copied_some}
use Rattle.scenario_cells.proofs.LaidLaws.{laid_next, record_above, parts_next, records_next, cells_keep}
use Rattle.scenario_cells.proofs.laid.lay_row.Goals as goal

pub returns-clause-keeps : goal.returns-clause-keeps
returns-clause-keeps c =
    subst (λ (cells : CellList). KeepsOlder c.args.point c.args.store.now cells) (sym c.in_ok-lay_id.ensures.store)
    (cells_keep c.args.store.now c.args.point c.args.above.now.ids c.args.child.now.base c.args.laid.now.ids c.args.key.now c.args.value.now)

pub returns-clause-laid : goal.returns-clause-laid
returns-clause-laid c = λ first contents done ordered meant older keeps none so_far.
    let cells = c.args.store.now in
    let above = c.args.above.now in
    let child = c.args.child.now in
    let old = c.args.laid.now in
    let key = c.args.key.now in
    let value = c.args.value.now in
    let under = laid_over contents done in
    let had = c.is_some-had.ensures ∙ copied_some c.row.result ∙ ap is_some (c.row.ensures ∙ record_above c.args.point above.ids child first cells contents done old key value ordered meant older keeps so_far none) in
    let o = ordered_laid contents done ordered in
    let parts = parts_next under key value old.parts c.in_ok-parts.parts c.is_some-had.result c.is_some-has.result c.is_part-part.result o so_far.parts had c.is_some-has.ensures c.is_part-part.ensures c.in_ok-parts.ensures in
    let records = records_next under key value old.records c.in_ok-records.records c.is_some-had.result c.is_some-has.result o so_far.records had c.is_some-has.ensures c.in_ok-records.ensures in
    let P : CellList × IdList → Type 0 =
    λ q. IsLaid c.args.point contents (id_at above.ids) (ids_of_held child) (done ++ (key, value) ∷ []) q.0 (record { ids = q.1; parts = c.in_ok-parts.parts; records = c.in_ok-records.records }) in
    subst P (sym (λ i. (c.in_ok-lay_id.ensures.store i, c.in_ok-lay_id.ensures.ids i)))
    (laid_next c.args.point above.ids child first cells contents done old key value ordered meant older keeps so_far c.in_ok-parts.parts c.in_ok-records.records parts records)
