use Rattle.std.proofs.Common.{◌∙◌, ap}
use Rattle.plan_jobs.specs.Jobs.{asked_by, wants_plan}
use Rattle.walk_rules.specs.Cells.{records}
use Rattle.plan_answer.specs.Asks.{question}
use Rattle.plan_answer.proofs.Asked.{wants_its_plan}
use Rattle.plan_answer.proofs.Settled.{all_planned}
use Rattle.plan_answer.proofs.walks.from_settled.Goals as goal

pub from_plans-requires-clause-traced : goal.from_plans-requires-clause-traced
from_plans-requires-clause-traced c =
    let w = c.args.walk.now in
    record {
      planned = all_planned (records w.job.cells) (asked_by (records w.job.cells) w.job.wanted) w.parts c.requires.settled;
      names = c.holds.ensures.names;
      is_job = c.requires.job;
      wants = ap wants_plan c.requires.wants ∙ wants_its_plan (question c.args.ask.now) c.requires.uses;
    }
