use Rattle.std.proofs.Common.{sym, subst}
use Rattle.plan_jobs.specs.Jobs.{IsJob}
use Rattle.plan_jobs.proofs.Collecting.{is_job}
use Rattle.plan_jobs.proofs.gather.collect.Goals as goal

pub returns-clause-job : goal.returns-clause-job
returns-clause-job c =
    subst (IsJob c.args.wanted) (sym c.in_ok-cells.ensures.cells) (is_job c.args.store.now c.args.ids.now c.requires c.in_ok-cells.ensures.ordered c.args.wanted)
