use Rattle.std.proofs.Common.{◌+◌, sym, ap, ◌∙◌, take, drop, option_map}
use Rattle.command_words.specs.Forms.{Refused, reasoned}
use Rattle.plan_audit.proofs.Places.{reasoned_some}
use Rattle.plan_audit.proofs.form.no_form.Goals as goal

pub returns-then-at-text : goal.returns-then-at-text
returns-then-at-text c =
    let text = c.args.text.now in
    let at = c.place_of_space-at.result in
    c.refused.ensures ∙ ap (option_map Refused) c.read_point-point.ensures ∙ sym (reasoned_some (take at text) text (at + 1) c.if-at-text.true)
    ∙ ap (λ p. reasoned (take p text) (drop (p + 1) text)) c.place_of_space-at.ensures.value
