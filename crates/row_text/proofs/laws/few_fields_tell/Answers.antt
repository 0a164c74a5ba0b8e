use Rattle.row_text.proofs.Fewer.{row_few, key_few}
use Rattle.row_text.proofs.laws.few_fields_tell.Goals as goal

pub returns : goal.returns
returns c = λ m fields h. (row_few m fields h, key_few m fields h)
