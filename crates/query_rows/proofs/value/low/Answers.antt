use Rattle.std.proofs.Common.{◌∷◌, take, get_or, min, sym, ◌∙◌, ap}
use Rattle.std.proofs.lemmas.List.{take_more}
use Rattle.planning_rules.specs.Promise.{least_of}
use Rattle.query_rows.proofs.Values.{least_more}
use Rattle.query_rows.proofs.value.low.Goals as goal

pub loop-balance-preserved : goal.loop-balance-preserved
loop-balance-preserved c =
    let first = c.in-Some.first.now in
    let at = c.loop-balance.balance-index in
    let balances = c.args.balances.now in
    c.min-low.ensures ∙ ap (λ low. min low (get_or balances at 0)) c.loop-balance.invariant
    ∙ sym (least_more first (take at balances) (get_or balances at 0))
    ∙ ap (λ some. least_of (first ∷ some)) (sym (take_more balances at 0 c.loop-balance-test.true))
