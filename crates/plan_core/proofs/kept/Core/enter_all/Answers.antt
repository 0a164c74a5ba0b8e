use Rattle.std.proofs.Common.{◌≡◌, ◌+◌, [], ◌∷◌, ◌++◌, sym, ◌∙◌, ap, subst, take}
use Rattle.std.proofs.lemmas.List.{take_more}
use Rattle.plan_schema.specs.Sound.{is_sound_entry}
use Rattle.plan_core.specs.Behind.{HasEntered}
use Rattle.plan_core.proofs.Again.{sound_at, begun_again, entered_again}
use Rattle.plan_core.proofs.kept.Core.enter_all.Goals as goal

pub enter_again-requires : goal.enter_again-requires
enter_again-requires c =
    ap is_sound_entry c.entry-item.is ∙ sound_at c.args.entries.now c.loop-entry.entry-index c.entry-item.result c.loop-entry-test.true c.requires.sound

pub loop-entry-preserved : goal.loop-entry-preserved
loop-entry-preserved c =
    let entered = c.enter_again.ensures.yes c.if-not-enter_again.false in
    let more = take_more c.args.entries.now c.loop-entry.entry-index c.entry-item.result c.loop-entry-test.true in
    subst (λ done. HasEntered c.args.self.now.base c.args.self.now.most [] done c.enter_again.new.self)
    (ap (λ entry. take c.loop-entry.entry-index c.args.entries.now ++ entry ∷ []) c.entry-item.is ∙ sym more)
    (entered_again c.args.self.now.base c.args.self.now.most (take c.loop-entry.entry-index c.args.entries.now) c.loop-entry.self c.enter_again.new.self c.entry-item.result entered.0 c.loop-entry.invariant entered.1)
