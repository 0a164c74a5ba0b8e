use Rattle.std.proofs.Common.{◌≡◌, take, map}
use Rattle.planning_rules.specs.Amounts.{greatest}
use Rattle.planning_rules.specs.Shortages.{shortage}
use Rattle.lot_sizing.proofs.greatest_of.Given as goal

abbrev pub invariant-loop-s : goal.invariant-loop-s
invariant-loop-s l = l.best ≡ greatest (map shortage (take l.s-index l.short))
