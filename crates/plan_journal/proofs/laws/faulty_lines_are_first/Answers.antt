use Rattle.plan_journal.proofs.FaultyLines.{none_goes_on, faulty_is_first}
use Rattle.plan_journal.proofs.laws.faulty_lines_are_first.Goals as goal

pub returns-clause-none : goal.returns-clause-none
returns-clause-none c = none_goes_on

pub returns-clause-first : goal.returns-clause-first
returns-clause-first c = faulty_is_first
