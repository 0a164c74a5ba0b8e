use Rattle.std.proofs.Common.{◌≡◌, map, take}
use Rattle.csv.specs.Records.{fields_of}
use Rattle.plan_import.proofs.fields_of_row.Given as goal

abbrev pub invariant-loop-field : goal.invariant-loop-field
invariant-loop-field l = record {
  row : l.field-iterator.row.now ≡ l.fn.row;
  read : map (λ s. s.now) l.fields.items ≡ take l.field-iterator.at (fields_of l.fn.row);
}
