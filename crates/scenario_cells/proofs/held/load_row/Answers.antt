use Rattle.std.proofs.Common.{◌∙◌, ap}
use Rattle.std.specs.Prelude.{is_some}
use Rattle.scenario_cells.specs.Loads.{held_with}
use Rattle.scenario_cells.proofs.RowLaws.{row_keeps}
use Rattle.scenario_cells.proofs.HeldLaws.{record_is, records_are, parts_are}
use Rattle.scenario_cells.proofs.InPlace.{row_loaded}
use Rattle.scenario_cells.proofs.held.load_row.Goals as goal

pub returns-in_err-records-clause-keeps : goal.returns-in_err-records-clause-keeps
returns-in_err-records-clause-keeps c = row_keeps c.args.store.now c.put_row_in.new.store c.args.point c.args.loaded.now.ids c.args.key.now c.args.value.now c.in_ok-had.ensures.store

pub returns-in_err-parts-clause-keeps : goal.returns-in_err-parts-clause-keeps
returns-in_err-parts-clause-keeps c = row_keeps c.args.store.now c.put_row_in.new.store c.args.point c.args.loaded.now.ids c.args.key.now c.args.value.now c.in_ok-had.ensures.store

pub returns-in_err-add_own-clause-keeps : goal.returns-in_err-add_own-clause-keeps
returns-in_err-add_own-clause-keeps c = row_keeps c.args.store.now c.put_row_in.new.store c.args.point c.args.loaded.now.ids c.args.key.now c.args.value.now c.in_ok-had.ensures.store

pub returns-clause-keeps : goal.returns-clause-keeps
returns-clause-keeps c = row_keeps c.args.store.now c.put_row_in.new.store c.args.point c.args.loaded.now.ids c.args.key.now c.args.value.now c.in_ok-had.ensures.store

pub returns-clause-loaded : goal.returns-clause-loaded
returns-clause-loaded c = λ h held ready.
    let cells = c.args.store.now in
    let l = c.args.loaded.now in
    let key = c.args.key.now in
    let value = c.args.value.now in
    let with = held_with c.args.root h l in
    let had = c.in_ok-had.ensures.had ∙ ap is_some (record_is cells with key held) in
    row_loaded cells c.put_row_in.new.store c.args.point c.args.root h l key value c.put_row_in.new.ids c.add_own.new.own c.in_ok-parts.parts c.in_ok-records.records held ready
    c.in_ok-had.ensures.ids c.in_ok-had.ensures.store c.in_ok-add_own.ensures.ok
    (parts_are cells with key value c.in_ok-parts.parts c.in_ok-had.had c.is_some-has.result c.is_part-part.result held had c.is_some-has.ensures c.is_part-part.ensures c.in_ok-parts.ensures)
    (records_are cells with key value c.in_ok-records.records c.in_ok-had.had c.is_some-has.result held had c.is_some-has.ensures c.in_ok-records.ensures)
