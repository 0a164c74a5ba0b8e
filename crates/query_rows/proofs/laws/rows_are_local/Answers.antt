use Rattle.query_rows.proofs.Values.{value_is_from_cell, meets_from_cell}
use Rattle.query_rows.proofs.laws.rows_are_local.Goals as goal

pub returns : goal.returns
returns c = record { values = value_is_from_cell; meets = meets_from_cell }
