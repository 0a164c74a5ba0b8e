use Rattle.journal_disk.proofs.Histories.{empty_stands_for_none, stand_for_one, faulty_stand_for_none}
use Rattle.journal_disk.proofs.laws.stores_stand_for_one_history.Goals as goal

pub returns-clause-empty : goal.returns-clause-empty
returns-clause-empty c = empty_stands_for_none

pub returns-clause-one : goal.returns-clause-one
returns-clause-one c = stand_for_one

pub returns-clause-none : goal.returns-clause-none
returns-clause-none c = faulty_stand_for_none
