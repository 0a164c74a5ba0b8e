use Rattle.std.proofs.Common.{map, max, ◌∙◌, sym, ap, arith}
use Rattle.std.proofs.lemmas.List.{take_all}
use Rattle.planning_rules.specs.Amounts.{rounded_up, greatest}
use Rattle.planning_rules.specs.Shortages.{shortage}
use Rattle.lot_sizing.proofs.LotLaws.{sound_lot, lot_meets, greatest_first}
use Rattle.lot_sizing.proofs.lot.Goals as goal

pub returns-in-Fixed : goal.returns-in-Fixed
returns-in-Fixed c = lot_meets c.args.rule.now c.args.short.now _ (sound_lot c.args.rule.now c.requires.rule) (rw c.in-Fixed.is (c.round_up.ensures ∙ ap (rounded_up c.in-Fixed.q) c.shortage_of-first.ensures))

pub returns-in-Least : goal.returns-in-Least
returns-in-Least c =
    lot_meets c.args.rule.now c.args.short.now _ (sound_lot c.args.rule.now c.requires.rule)
    (rw c.in-Least.is (c.round_up-in-Least.ensures ∙ ap (rounded_up c.in-Least.step) (c.max.ensures ∙ ap (λ n. max n c.in-Least.least) c.shortage_of-first.ensures)))

pub returns-then-days-short : goal.returns-then-days-short
returns-then-days-short c =
    lot_meets c.args.rule.now c.args.short.now _ (sound_lot c.args.rule.now c.requires.rule) (rw c.in-Period.is (c.greatest_of.ensures ∙ greatest_first c.args.short.now c.in-Period.days c.requires.some))

pub returns-else-days-short : goal.returns-else-days-short
returns-else-days-short c =
    lot_meets c.args.rule.now c.args.short.now _ (sound_lot c.args.rule.now c.requires.rule)
    (rw c.in-Period.is (c.greatest_of-else-days-short.ensures ∙ ap (λ s. greatest (map shortage s)) (sym (take_all c.in-Period.days c.args.short.now (omega arith))) ∙ greatest_first c.args.short.now c.in-Period.days c.requires.some))
