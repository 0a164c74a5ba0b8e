use Rattle.std.proofs.Common.{◌∙◌, ap}
use Rattle.std.specs.Prelude.{is_some}
use Rattle.scenario_cells.proofs.RowLaws.{row_keeps}
use Rattle.scenario_cells.proofs.HeldLaws.{is_changed, record_is, records_are, parts_are}
use Rattle.scenario_cells.proofs.held.change_row.Goals as goal

pub returns-in_err-records-clause-keeps : goal.returns-in_err-records-clause-keeps
returns-in_err-records-clause-keeps c = row_keeps c.args.store.now c.put_row.new.store c.args.point c.args.held.now.ids c.args.key.now c.args.value.now c.in_ok-new.ensures.store

pub returns-in_err-parts-clause-keeps : goal.returns-in_err-parts-clause-keeps
returns-in_err-parts-clause-keeps c = row_keeps c.args.store.now c.put_row.new.store c.args.point c.args.held.now.ids c.args.key.now c.args.value.now c.in_ok-new.ensures.store

pub returns-in_err-base-clause-keeps : goal.returns-in_err-base-clause-keeps
returns-in_err-base-clause-keeps c = row_keeps c.args.store.now c.put_row.new.store c.args.point c.args.held.now.ids c.args.key.now c.args.value.now c.in_ok-new.ensures.store

pub returns-in_err-add_own-clause-keeps : goal.returns-in_err-add_own-clause-keeps
returns-in_err-add_own-clause-keeps c = row_keeps c.args.store.now c.put_row.new.store c.args.point c.args.held.now.ids c.args.key.now c.args.value.now c.in_ok-new.ensures.store

pub returns-clause-keeps : goal.returns-clause-keeps
returns-clause-keeps c = row_keeps c.args.store.now c.put_row.new.store c.args.point c.args.held.now.ids c.args.key.now c.args.value.now c.in_ok-new.ensures.store

pub returns-clause-changed : goal.returns-clause-changed
returns-clause-changed c =
    let cells = c.args.store.now in
    let h = c.args.held.now in
    let key = c.args.key.now in
    let value = c.args.value.now in
    let had = c.in_ok-new.ensures.had ∙ ap is_some (record_is cells h key c.requires.held) in
    is_changed cells c.put_row.new.store c.args.point c.args.root h key value c.in_ok-new.new.ids c.in_ok-base.base c.add_own.new.own c.in_ok-parts.parts c.in_ok-records.records
    c.requires.held c.requires.ready c.in_ok-new.ensures.ids c.in_ok-new.ensures.store c.in_ok-add_own.ensures.ok c.in_ok-base.ensures
    (parts_are cells h key value c.in_ok-parts.parts c.in_ok-new.new.had c.is_some-has.result c.is_part-part.result c.requires.held had c.is_some-has.ensures c.is_part-part.ensures c.in_ok-parts.ensures)
    (records_are cells h key value c.in_ok-records.records c.in_ok-new.new.had c.is_some-has.result c.requires.held had c.is_some-has.ensures c.in_ok-records.ensures)
