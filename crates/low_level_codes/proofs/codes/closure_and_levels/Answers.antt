use Rattle.std.proofs.Common.{ap, sym, ◌∙◌, subst}
use Rattle.low_level_codes.specs.Levels.{are_ascending, AreClosed, AreLevels}
use Rattle.low_level_codes.specs.Faults.{WhereCyclic}
use Rattle.low_level_codes.proofs.Ancestors.{closure_closed}
use Rattle.low_level_codes.proofs.Outcomes.{if_ok, if_err}
use Rattle.low_level_codes.proofs.codes.closure_and_levels.Goals as goal

pub returns-clause-members : goal.returns-clause-members
returns-clause-members c = c.in_ok-closed.ensures.members c.args.bills.now c.in_ok-graph.ensures

pub levels_in-levels-requires-clause-ascending : goal.levels_in-levels-requires-clause-ascending
levels_in-levels-requires-clause-ascending c =
    let is = c.in_ok-closed.ensures.members c.args.bills.now c.in_ok-graph.ensures in
    ap are_ascending c.as_slice.ensures.value ∙ is.ascending

pub levels_in-levels-requires-clause-graph : goal.levels_in-levels-requires-clause-graph
levels_in-levels-requires-clause-graph c =
    let bills = c.args.bills.now in
    let is = c.in_ok-closed.ensures.members bills c.in_ok-graph.ensures in
    (bills, c.in_ok-closed.ensures.graph bills c.in_ok-graph.ensures, subst (AreClosed bills) (sym c.as_slice.ensures.value) (closure_closed bills c.args.from.now c.in_ok-closed.closed.items is))

pub returns-clause-levels : goal.returns-clause-levels
returns-clause-levels c =
    let bills = c.args.bills.now in
    let closed = c.in_ok-closed.closed.items in
    let graph = c.in_ok-closed.ensures.graph bills c.in_ok-graph.ensures in
    if_ok c.levels_in-levels.result _ (λ levels. AreLevels bills closed levels.items) (λ levels all. subst (λ names. AreLevels bills names levels.items) c.as_slice.ensures.value (all bills graph)) c.levels_in-levels.ensures.levels

pub returns-clause-cyclic : goal.returns-clause-cyclic
returns-clause-cyclic c =
    let bills = c.args.bills.now in
    let closed = c.in_ok-closed.closed.items in
    let graph = c.in_ok-closed.ensures.graph bills c.in_ok-graph.ensures in
    if_err c.levels_in-levels.result _ (WhereCyclic bills closed) (λ fault all. subst (λ names. WhereCyclic bills names fault) c.as_slice.ensures.value (all bills graph)) c.levels_in-levels.ensures.cyclic
