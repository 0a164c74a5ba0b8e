use Rattle.planning_rules.proofs.PromiseLaws.{least_is_promise}
use Rattle.planning_rules.proofs.laws.least_promise.Goals as goal

pub returns : goal.returns
returns c = least_is_promise
