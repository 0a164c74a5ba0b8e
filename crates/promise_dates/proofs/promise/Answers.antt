use Rattle.std.proofs.Common.{◌≡◌, ◌∙◌, ap, get_or, arith}
use Rattle.std.proofs.lemmas.Grind.{common_steps}
use Rattle.promise_dates.specs.Promises.{promises}
use Rattle.promise_dates.proofs.PromiseLaws.{promise_at}
use Rattle.promise_dates.proofs.promise.Goals as goal

pub returns-clause-each : goal.returns-clause-each
returns-clause-each c day =
    let all : c.from_vec.result ≡ promises c.args.outcome.now.balance = grind (arith, common_steps) in
    ap (λ promised. get_or promised day 0) all ∙ promise_at c.args.outcome.now.balance day
