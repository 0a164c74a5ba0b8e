use Rattle.low_level_codes.proofs.Ancestors.{closure_closed}
use Rattle.low_level_codes.proofs.ancestry.closure.Goals as goal

pub returns-clause-members : goal.returns-clause-members
returns-clause-members c = c.in_ok-closed.ensures.members c.args.bills.now c.in_ok-graph.ensures

pub returns-clause-closed : goal.returns-clause-closed
returns-clause-closed c = closure_closed c.args.bills.now c.args.from.now c.in_ok-closed.closed.items (returns-clause-members c)
