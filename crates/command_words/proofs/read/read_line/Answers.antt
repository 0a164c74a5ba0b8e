use Rattle.std.proofs.Common.{◌∙◌, rules}
use Rattle.row_text.specs.Texts.{texts}
use Rattle.command_words.proofs.Commands.{sound_if_read}
use Rattle.command_words.proofs.Fewer.{line_few}
use Rattle.command_words.proofs.read.read_line.Goals as goal

pub returns-clause-value : goal.returns-clause-value
returns-clause-value c = c.command_of_words.ensures ∙ line_few c.args.line.now (texts c.as_slice.result.now) (search rules)

pub returns-clause-sound : goal.returns-clause-sound
returns-clause-sound c = sound_if_read c.args.line.now c.command_of_words.result (c.command_of_words.ensures ∙ line_few c.args.line.now (texts c.as_slice.result.now) (search rules))
