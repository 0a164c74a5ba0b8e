use Rattle.std.proofs.Common.{◌≡◌, ◌++◌, map, take}
use Rattle.std.specs.Prelude.{decimal}
use Rattle.row_text.specs.Spelling.{spaced}
use Rattle.query_rows.specs.Rows.{values_of}
use Rattle.query_rows.proofs.line.add_values.Given as goal

abbrev pub invariant-loop-column : goal.invariant-loop-column
invariant-loop-column l = l.text.items ≡ l.initial.text.items ++ spaced (map decimal (map (values_of l.part) (take l.column-index l.columns)))
