use Rattle.std.proofs.Common.{◌≡◌, ◌+◌, sym, ap, ◌∙◌}
use Rattle.plan_schema.specs.Day.{day_text, later}
use Rattle.plan_make.specs.Base.{first_day}
use Rattle.plan_make.proofs.Days.{later_is}
use Rattle.plan_make.proofs.base.day_bytes.Goals as goal

pub unreachable-requires : goal.unreachable-requires
unreachable-requires c = let told = sym c.in-None.is ∙ c.later.ensures ∙ ap (λ first. later first c.args.day) c.first_day.ensures ∙ later_is c.args.day c.requires in cc

pub returns : goal.returns
returns c =
    let told = sym c.in-Some.is ∙ c.later.ensures ∙ ap (λ first. later first c.args.day) c.first_day.ensures ∙ later_is c.args.day c.requires in
    let same : c.in-Some.day ≡ first_day + c.args.day = cc in
    c.text.ensures ∙ ap day_text same
