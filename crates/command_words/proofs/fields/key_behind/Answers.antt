use Rattle.std.proofs.Common.{ap, sym, ◌∙◌}
use Rattle.row_text.specs.Row.{key_of}
use Rattle.command_words.specs.Commands.{behind_scenario}
use Rattle.command_words.proofs.Places.{key_fault_within, texts_behind_two}
use Rattle.command_words.proofs.fields.key_behind.Goals as goal

pub in_line-requires : goal.in_line-requires
in_line-requires c = key_fault_within _ _ c.in-Err.fault c.read_key.ensures.value c.in-Err.is

pub returns-in-Ok : goal.returns-in-Ok
returns-in-Ok c = ap behind_scenario (sym c.in-Ok.is ∙ c.read_key.ensures.value ∙ ap key_of (texts_behind_two c.args.words.now c.min.result c.min.ensures))
