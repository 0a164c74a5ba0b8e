use Rattle.std.proofs.Common.{◌≡◌, sym, ◌∙◌, ap}
use Rattle.planning_rules.specs.Netting.{exceeds, releases}
use Rattle.netting.specs.Inputs.{given}
use Rattle.netting.proofs.NetLaws.{large_release, not_large}
use Rattle.netting.proofs.step.net.Goals as goal

pub returns-then-exceeds_limit-clause-large : goal.returns-then-exceeds_limit-clause-large
returns-then-exceeds_limit-clause-large g c =
    let release : c.in-Ok.release.items ≡ releases c.args.input.calendar c.args.input.lead c.in_ok-days.days.planned.items =
    c.in-Ok.ensures.release ∙ ap (releases c.args.input.calendar c.args.input.lead) c.as_slice.ensures.value in
    large_release (given c.args.input) c.in_ok-days.days.planned.items c.in-Ok.release.items c.in_ok-days.ensures.netted release
    (ap exceeds (sym c.as_slice-2.ensures.value) ∙ sym c.exceeds_limit.ensures ∙ c.if-exceeds_limit.true)

pub returns-clause-fits : goal.returns-clause-fits
returns-clause-fits g c =
    let release : c.in-Ok.release.items ≡ releases c.args.input.calendar c.args.input.lead c.in_ok-days.days.planned.items =
    c.in-Ok.ensures.release ∙ ap (releases c.args.input.calendar c.args.input.lead) c.as_slice.ensures.value in
    rw c.from_vec.ensures (not_large (given c.args.input) c.in_ok-days.days.planned.items c.in-Ok.release.items c.requires.gross c.in_ok-days.ensures.small release
    (ap exceeds (sym c.as_slice-2.ensures.value) ∙ sym c.exceeds_limit.ensures ∙ c.if-exceeds_limit.false))
