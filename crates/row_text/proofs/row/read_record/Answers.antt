use Rattle.row_text.specs.Texts.{texts}
use Rattle.row_text.proofs.Rows.{sound_if_read}
use Rattle.row_text.proofs.row.read_record.Goals as goal

pub returns-clause-sound : goal.returns-clause-sound
returns-clause-sound c = sound_if_read (texts c.args.fields.now) c.row_of.result c.row_of.ensures
