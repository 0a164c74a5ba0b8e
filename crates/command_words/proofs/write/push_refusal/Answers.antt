use Rattle.std.proofs.Common.{◌++◌, ◌∷◌, ap, sym, ◌∙◌, codes}
use Rattle.row_text.specs.Spelling.{spaced}
use Rattle.command_words.specs.Replies.{refusal_words}
use Rattle.command_words.proofs.Texts.{behind_key}
use Rattle.command_words.proofs.write.push_refusal.Goals as goal

pub returns-in-NoRecord-clause-items : goal.returns-in-NoRecord-clause-items
unfolding refusal_words
returns-in-NoRecord-clause-items c =
    c.push_word-in-NoRecord-2.ensures.items
    ∙ ap (λ t. t ++ 32 ∷ c.as_slice.result.now) c.push_word-in-NoRecord.ensures.items
    ∙ behind_key c.args.text.now.items (codes "no-record") c.as_slice.result.now c.in-NoRecord.key (c.as_slice.ensures.value ∙ c.key_bytes.ensures.text)
    ∙ ap (λ r. c.args.text.now.items ++ spaced (refusal_words r)) (sym c.in-NoRecord.is)

pub returns-in-Conflict-clause-items : goal.returns-in-Conflict-clause-items
unfolding refusal_words
returns-in-Conflict-clause-items c =
    c.push_word-in-Conflict-2.ensures.items
    ∙ ap (λ t. t ++ 32 ∷ c.as_slice-in-Conflict.result.now) c.push_word-in-Conflict.ensures.items
    ∙ behind_key c.args.text.now.items (codes "conflict") c.as_slice-in-Conflict.result.now c.in-Conflict.key (c.as_slice-in-Conflict.ensures.value ∙ c.key_bytes-in-Conflict.ensures.text)
    ∙ ap (λ r. c.args.text.now.items ++ spaced (refusal_words r)) (sym c.in-Conflict.is)

pub returns-in-MissingPart-clause-items : goal.returns-in-MissingPart-clause-items
unfolding refusal_words
returns-in-MissingPart-clause-items c =
    c.push_about-in-MissingPart.ensures.items ∙ ap (λ r. c.args.text.now.items ++ spaced (refusal_words r)) (sym c.in-MissingPart.is)

pub returns-in-MissingCalendar-clause-items : goal.returns-in-MissingCalendar-clause-items
unfolding refusal_words
returns-in-MissingCalendar-clause-items c =
    c.push_about-in-MissingCalendar.ensures.items ∙ ap (λ r. c.args.text.now.items ++ spaced (refusal_words r)) (sym c.in-MissingCalendar.is)
