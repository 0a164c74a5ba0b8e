use Rattle.std.proofs.Common.{◌≡◌, ◌∷◌, take}
use Rattle.planning_rules.specs.Promise.{least_of}
use Rattle.query_rows.proofs.value.low.Given as goal

abbrev pub invariant-loop-balance : goal.invariant-loop-balance
invariant-loop-balance l = l.low ≡ least_of (l.initial.low ∷ take l.balance-index l.balances)
