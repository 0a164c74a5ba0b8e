use Rattle.std.proofs.Common.{◌∙◌, sym, ap, subst, ◌∷◌, [], length, ◌+◌}
use Rattle.plan_schema.specs.Base.{part_count}
use Rattle.std.specs.Prelude.{is_some}
use Rattle.scenario_rules.specs.World.{laid_over}
use Rattle.scenario_cells.proofs.HeldLaws.{held_contents, contents_ordered, record_is, copied_some}
use Rattle.scenario_cells.proofs.RoomLaws.{tally_next, tally_first}
use Rattle.scenario_cells.specs.declared.room.Tally.{Tally}
use Rattle.scenario_cells.specs.Room.{IsTallied}
use Rattle.scenario_cells.proofs.room.one_room.Goals as goal

pub returns : goal.returns
returns c = λ value has.
    let cells = c.args.store.now in
    let h = c.args.held.now in
    let key = c.args.key.now in
    let a = held_contents cells h in
    let had = c.is_some-had.ensures ∙ copied_some c.row.result ∙ ap is_some (c.row.ensures ∙ record_is cells h key c.requires.held) in
    let first = subst (λ (t : Tally). IsTallied a [] t) (sym c.no_tally.ensures) (tally_first a) in
    let next = tally_next a [] c.no_tally.result c.tallied-tally.result key value c.is_some-had.result c.args.has (contents_ordered cells h) first had has c.tallied-tally.ensures in
    let new = laid_over a ((key, value) ∷ []) in
    c.full.ensures (part_count new) (length new) (next.parts ∙ ap (λ n. n + c.tallied-tally.result.parts_after) (sym c.requires.held.parts)) (next.records ∙ ap (λ n. n + c.tallied-tally.result.rows_after) (sym c.requires.held.records))
