use Rattle.std.proofs.Common.{◌≡◌, ◌∙◌, rules}
use Rattle.row_text.specs.Texts.{texts}
use Rattle.command_words.specs.Words.{first_words}
use Rattle.command_words.proofs.Fewer.{row_line_few}
use Rattle.command_words.proofs.read.read_row.Goals as goal

pub returns-clause-value : goal.returns-clause-value
returns-clause-value c =
    let seen : texts c.as_slice.result.now ≡ first_words c.args.line.now = search rules in
    c.read_record.ensures.value ∙ row_line_few c.args.line.now (texts c.as_slice.result.now) seen
