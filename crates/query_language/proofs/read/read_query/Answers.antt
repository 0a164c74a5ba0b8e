use Rattle.query_language.proofs.Readings.{derived_if_read}
use Rattle.query_language.proofs.read.read_query.Goals as goal

pub returns-clause-derived : goal.returns-clause-derived
returns-clause-derived c = derived_if_read c.args.text.now c.query_in.result c.query_in.ensures
