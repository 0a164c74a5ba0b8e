use Rattle.std.proofs.Common.{map, sym, ◌∙◌}
use Rattle.planning_rules.specs.Shortages.{shortage}
use Rattle.lot_optimal.proofs.CheckLaws.{check_is_least}
use Rattle.lot_optimal.proofs.checking.check.Goals as goal

pub returns-clause-least : goal.returns-clause-least
returns-clause-least c passed = check_is_least c.args.setup c.args.hold (map shortage c.args.short.now) c.args.costs.now (sym c.is_proved.ensures ∙ passed)
