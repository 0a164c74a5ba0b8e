use Rattle.command_words.proofs.Forms.{form_told}
use Rattle.command_words.proofs.laws.replies_are_in_form.Goals as goal

pub returns : goal.returns
returns c = form_told
