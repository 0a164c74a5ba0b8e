use Rattle.std.proofs.Common.{◌∙◌, sym, ap}
use Rattle.std.specs.Prelude.{option_to_list}
use Rattle.plan_schema.specs.declared.key.Key.{Key}
use Rattle.planning_rules.specs.Trace.{Surplus, surplus_end}
use Rattle.full_pegging.specs.Shares.{counted_at, shares_by}
use Rattle.full_pegging.proofs.Counting.{none_at, some_at}
use Rattle.full_pegging.proofs.shares.surplus_share.Goals as goal

pub returns-then-qty-eq0 : goal.returns-then-qty-eq0
returns-then-qty-eq0 c =
    let count = counted_at c.args.counts.now.by_key.entries in
    let end = Surplus c.in-Part.part in
    none_at count end (sym (c.at-qty.ensures end c.in-Part.is) ∙ c.if-qty-eq0.true)
    ∙ ap (λ (key : Key). shares_by count (option_to_list (surplus_end (key, c.args.value.now)))) (sym c.in-Part.is)

pub returns : goal.returns
returns c =
    let count = counted_at c.args.counts.now.by_key.entries in
    let end = Surplus c.in-Part.part in
    some_at count end c.at-qty.result (c.at-qty.ensures end c.in-Part.is) c.if-qty-eq0.false
    ∙ ap (λ (key : Key). shares_by count (option_to_list (surplus_end (key, c.args.value.now)))) (sym c.in-Part.is)
