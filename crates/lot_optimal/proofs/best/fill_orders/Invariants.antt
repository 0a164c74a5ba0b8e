use Rattle.std.proofs.Common.{◌≡◌, ◌++◌, take, drop}
use Rattle.planning_rules.specs.BestLots.{best}
use Rattle.lot_optimal.proofs.Ahead.{by_ahead}
use Rattle.lot_optimal.proofs.best.fill_orders.Given as goal

abbrev pub invariant-loop-day : goal.invariant-loop-day
invariant-loop-day l = take l.day l.orders ++ by_ahead l.setup l.hold l.ahead (drop l.day l.wants) ≡ best l.setup l.hold l.wants
