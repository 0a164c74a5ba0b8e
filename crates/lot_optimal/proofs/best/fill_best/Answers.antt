use Rattle.std.proofs.Common.{◌≤◌, sym, subst}
use Rattle.std.specs.List.{sum}
use Rattle.lot_optimal.proofs.Filled.{needs_small}
use Rattle.lot_optimal.proofs.best.fill_best.Goals as goal

pub fill_potentials-requires-clause-total : goal.fill_potentials-requires-clause-total
fill_potentials-requires-clause-total c = subst (λ wants. sum wants ≤ 1000000000000000000) (sym c.fill_needs.ensures) (needs_small c.args.short.now c.requires.reach)

pub fill_orders-requires-clause-total : goal.fill_orders-requires-clause-total
fill_orders-requires-clause-total c = subst (λ wants. sum wants ≤ 1000000000000000000) (sym c.fill_needs.ensures) (needs_small c.args.short.now c.requires.reach)
