use Rattle.std.proofs.Common.{◌++◌, ◌∷◌, ap, sym, ◌∙◌, codes}
use Rattle.row_text.specs.Spelling.{spaced, row_fields, key_fields}
use Rattle.command_words.specs.Spelling.{words_of_command}
use Rattle.command_words.proofs.Texts.{key_behind}
use Rattle.plan_journal.specs.Entries.{change_words}
use Rattle.plan_journal.proofs.Texts.{row_behind, behind_words}
use Rattle.plan_journal.proofs.write.push_change.Goals as goal

pub returns-in-Put : goal.returns-in-Put
unfolding change_words words_of_command
returns-in-Put c =
    c.push_word.ensures.items
    ∙ ap (λ t. t ++ 32 ∷ c.as_slice.result.now) c.push_about.ensures.items
    ∙ behind_words c.args.text.now.items (codes "PUT") c.in-Put.scenario c.as_slice.result.now (row_fields c.in-Put.key c.in-Put.value)
    (ap (λ t. 32 ∷ t) (c.as_slice.ensures.value ∙ c.row_bytes.ensures) ∙ row_behind c.in-Put.key c.in-Put.value)
    ∙ ap (λ change. c.args.text.now.items ++ spaced (change_words change)) (sym c.in-Put.is)

pub returns-in-Del : goal.returns-in-Del
unfolding change_words words_of_command
returns-in-Del c =
    c.push_word-in-Del.ensures.items
    ∙ ap (λ t. t ++ 32 ∷ c.as_slice-in-Del.result.now) c.push_about-in-Del.ensures.items
    ∙ behind_words c.args.text.now.items (codes "DEL") c.in-Del.scenario c.as_slice-in-Del.result.now (key_fields c.in-Del.key)
    (ap (λ t. 32 ∷ t) (c.as_slice-in-Del.ensures.value ∙ c.key_bytes.ensures.text) ∙ key_behind c.in-Del.key)
    ∙ ap (λ change. c.args.text.now.items ++ spaced (change_words change)) (sym c.in-Del.is)
