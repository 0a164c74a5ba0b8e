use Rattle.std.proofs.Common.{◌≤◌, sym, subst, ap, ◌∙◌}
use Rattle.std.specs.List.{sum}
use Rattle.planning_rules.specs.BestLots.{best, first_order}
use Rattle.lot_optimal.proofs.Filled.{needs_small, first_meets}
use Rattle.lot_optimal.proofs.best.first_amount.Goals as goal

pub fill_potentials-requires-clause-total : goal.fill_potentials-requires-clause-total
fill_potentials-requires-clause-total c = subst (λ wants. sum wants ≤ 1000000000000000000) (sym c.fill_needs.ensures) (needs_small c.args.short.now c.requires.reach)

pub first_of-requires-clause-total : goal.first_of-requires-clause-total
first_of-requires-clause-total c = subst (λ wants. sum wants ≤ 1000000000000000000) (sym c.fill_needs.ensures) (needs_small c.args.short.now c.requires.reach)

pub returns-clause-amount : goal.returns-clause-amount
returns-clause-amount c = first_meets c.args.setup c.args.hold c.args.short.now c.first_of.result.amount c.requires.some
    (c.first_of.ensures.amount ∙ ap (λ wants. first_order (best c.args.setup c.args.hold wants)) c.fill_needs.ensures)
