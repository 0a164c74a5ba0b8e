use Rattle.scenario_merge.proofs.RowsLaws.{next_row, rows_done}
use Rattle.scenario_merge.proofs.forest.all_rows.Goals as goal

pub loop-name-preserved : goal.loop-name-preserved
loop-name-preserved c =
    next_row c.loop-name.rows.items _ c.tree_row.result (c.in-Some.name.now, c.in-Some.held.now) c.loop-name.name-iterator _ c.args.scenarios.now.entries c.loop-name.invariant c.in-Some.ensures.steps c.tree_row.ensures c.in_ok-push.ensures.items

pub returns : goal.returns
returns c = λ m. rows_done m c.loop-name.rows.items c.loop-name.name-iterator c.args.scenarios.now.entries c.loop-name.invariant c.in-None.ensures.steps.0
