use Rattle.full_pegging.proofs.Pegged.{pegs_stand_in_a_row}
use Rattle.full_pegging.proofs.InARow.{day_is_in_a_row, peg_is_in_a_row}
use Rattle.full_pegging.proofs.laws.units_stand_in_rows.Goals as goal

pub returns-clause-day : goal.returns-clause-day
returns-clause-day c = day_is_in_a_row

pub returns-clause-peg : goal.returns-clause-peg
returns-clause-peg c = peg_is_in_a_row

pub returns-clause-pegs : goal.returns-clause-pegs
returns-clause-pegs c = pegs_stand_in_a_row
