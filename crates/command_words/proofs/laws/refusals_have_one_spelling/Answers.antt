use Rattle.command_words.proofs.Refusals.{refusals_differ, keys_differ}
use Rattle.command_words.proofs.laws.refusals_have_one_spelling.Goals as goal

pub returns-clause-refusals : goal.returns-clause-refusals
returns-clause-refusals c = refusals_differ

pub returns-clause-keys : goal.returns-clause-keys
returns-clause-keys c = keys_differ
