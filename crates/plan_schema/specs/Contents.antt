-- Contents: the records of a scenario, as a list of pairs in key order with one pair for each key.
use Rattle.std.specs.Prelude.{Bool, List, Option, filter}
use Rattle.std.specs.FinMap.{is_sorted}
use Rattle.std.specs.Map.{lookup, remove_entry}
use Rattle.std.specs.BTreeMap.{is_at, insert_entry}
use Rattle.plan_schema.specs.declared.key.Key.{Key}
use Rattle.plan_schema.specs.declared.key.Record.{Record}
use Rattle.plan_schema.specs.declared.change.CellName.{CellName}
use Rattle.plan_schema.specs.Key.{key_cmp, cell_of}
use Rattle.plan_schema.specs.Cell.{cell_eq}

abbrev pub Contents : Type 0
Contents = List (Key × Record)

-- the pairs stand in key order, one for each key
abbrev pub is_ordered : Contents → Bool
is_ordered contents = is_sorted key_cmp contents

-- the record under a key
abbrev pub record_at : Contents → Key → Option Record
record_at contents key = lookup (is_at (key_cmp key)) contents

-- the contents with a record under a key, in place of the one there
abbrev pub with_record : Contents → Key → Record → Contents
with_record contents key value = insert_entry key_cmp contents key value

-- the contents with nothing under a key
abbrev pub without_key : Contents → Key → Contents
without_key contents key = remove_entry (is_at (key_cmp key)) contents

-- the rows of one cell, in key order
abbrev pub cell_rows : Contents → CellName → Contents
cell_rows contents name = filter (λ row. cell_eq (cell_of row.0) name) contents
