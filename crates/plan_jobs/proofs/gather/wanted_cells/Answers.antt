use Rattle.std.proofs.Common.{IfOk, sym, subst}
use Rattle.plan_jobs.specs.declared.job.Wanted.{Wanted}
use Rattle.plan_jobs.specs.Collects.{CollectedFrom}
use Rattle.plan_jobs.proofs.Collecting.{all_collected}
use Rattle.plan_jobs.proofs.gather.wanted_cells.Goals as goal

pub returns-in-All-clause-cells : goal.returns-in-All-clause-cells
returns-in-All-clause-cells c =
    subst (λ (wanted : Wanted). IfOk c.all_cells.result (λ cells. CollectedFrom c.args.store.now c.args.ids.now wanted cells)) (sym c.in-All.is) (all_collected c.args.store.now c.args.ids.now c.all_cells.result c.all_cells.ensures)
