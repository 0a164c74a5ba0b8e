use Rattle.std.proofs.Common.{◌≡◌, ◌++◌, map}
use Rattle.scenario_merge.proofs.RowsLaws.{row_of}
use Rattle.scenario_merge.proofs.forest.all_rows.Given as goal

abbrev pub invariant-loop-name : goal.invariant-loop-name
invariant-loop-name l = l.rows.items ++ map row_of l.name-iterator ≡ map row_of l.scenarios.entries
