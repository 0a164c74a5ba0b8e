use Rattle.std.proofs.Common.{sym, ap, ◌∙◌, ◌++◌}
use Rattle.row_text.specs.Spelling.{spaced, record_fields}
use Rattle.row_text.proofs.Spellings.{row_text-parts}
use Rattle.row_text.proofs.write.row_bytes.Goals as goal

pub returns : goal.returns
returns c = c.push_fields.ensures ∙ ap (λ t. t ++ spaced (record_fields c.args.value.now)) c.key_bytes-text.ensures.text ∙ sym (row_text-parts c.args.key.now c.args.value.now)
