-- The rows of a job's cell.
use Rattle.std.specs.Prelude.{Option}
use Rattle.std.specs.Option.{option_map}
use Rattle.plan_schema.specs.declared.change.CellName.{CellName}
use Rattle.plan_schema.specs.Contents.{Contents}
use Rattle.walk_rules.specs.Cells.{Cells, held}

-- the rows of the cell of a name, where the job has one
abbrev pub rows_held : Cells → CellName → Option Contents
rows_held cells name = option_map (λ cell. cell.1) (held cells name)
