use Rattle.std.proofs.Common.{◌≡◌, ap, sym, ◌∙◌}
use Rattle.std.specs.Prelude.{Some}
use Rattle.plan_schema.specs.declared.refusal.Refusal.TheVariants as refusals
use Rattle.planning_rules.specs.Refused.{plan_refusal}
use Rattle.command_words.specs.declared.reply.Reply.TheVariants as replies
use Rattle.plan_jobs.specs.declared.job.Job.{Job}
use Rattle.plan_jobs.specs.declared.job.Wanted.{Wanted}
use Rattle.plan_jobs.specs.Jobs.{asked_by}
use Rattle.walk_rules.specs.Cells.{records}
use Rattle.plan_answer.specs.Asks.{question}
use Rattle.plan_answer.proofs.Ended.{ended_refusal, all_settled}
use Rattle.plan_answer.proofs.Refusing.{refused_reply}
use Rattle.plan_answer.proofs.walks.from_plan.Goals as goal

pub from_settled-requires-clause-settled : goal.from_settled-requires-clause-settled
from_settled-requires-clause-settled c = all_settled c.args.walk.now c.holds.ensures c.requires.open c.requires.done c.in-None.ensures

pub returns-in-Some : goal.returns-in-Some
returns-in-Some c =
    let w = c.args.walk.now in
    let r = records w.job.cells in
    let large = refusals.TooLarge c.in-Some.name in
    let refused : plan_refusal r (asked_by r w.job.wanted) ≡ Some large = ended_refusal w c.holds.ensures (Some c.in-Some.name) c.in-Some.ensures in
    ap (λ (job : Job). replies.No job.point large) c.job.ensures
    ∙ sym (refused_reply r (question c.args.ask.now) w.job.point large c.requires.uses (ap (λ (wanted : Wanted). plan_refusal r (asked_by r wanted)) (sym c.requires.wants) ∙ refused))
