use Rattle.std.proofs.Common.{◌∙◌, sym, ap}
use Rattle.std.specs.Ordering.{is_eq}
use Rattle.plan_jobs.proofs.Searched.{found_at}
use Rattle.plan_jobs.proofs.cells.is_at.Goals as goal

pub returns-in-Some : goal.returns-in-Some
returns-in-Some c =
    let there = c.in-Some.ensures.lookup.3 in
    λ yes. found_at c.args.cells.now c.args.name.now c.args.place c.in-Some.cell.now c.requires there.0 there.1 (ap is_eq (sym c.compare.ensures) ∙ sym c.is_eq.ensures ∙ yes)
