use Rattle.row_text.specs.Texts.{texts}
use Rattle.row_text.proofs.KeyForms.{sound_if_read}
use Rattle.row_text.proofs.key_form.read_key.Goals as goal

pub returns-clause-sound : goal.returns-clause-sound
returns-clause-sound c = sound_if_read (texts c.args.fields.now) c.key_of.result c.key_of.ensures
