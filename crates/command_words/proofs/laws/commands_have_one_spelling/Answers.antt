use Rattle.command_words.proofs.Commands.{command_alone}
use Rattle.command_words.proofs.CommandsAgain.{command_again}
use Rattle.command_words.proofs.laws.commands_have_one_spelling.Goals as goal

pub returns-clause-again : goal.returns-clause-again
returns-clause-again c = command_again

pub returns-clause-alone : goal.returns-clause-alone
returns-clause-alone c = command_alone
