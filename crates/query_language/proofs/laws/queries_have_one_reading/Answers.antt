use Rattle.query_language.proofs.Readings.{query_is_checked, query_derived, query_is_read, one_tree}
use Rattle.query_language.proofs.laws.queries_have_one_reading.Goals as goal

pub returns-clause-checked : goal.returns-clause-checked
returns-clause-checked c = query_is_checked

pub returns-clause-derived : goal.returns-clause-derived
returns-clause-derived c = query_derived

pub returns-clause-read : goal.returns-clause-read
returns-clause-read c = query_is_read

pub returns-clause-alone : goal.returns-clause-alone
returns-clause-alone c = one_tree
