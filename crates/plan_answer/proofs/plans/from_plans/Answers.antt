use Rattle.std.proofs.Common.{◌≡◌, ◌∙◌, ap, sym, [], ◌∷◌, Option, None}
use Rattle.std.proofs.lemmas.Result.{IfOk-weaker}
use Rattle.plan_schema.specs.Refusals.{first_of}
use Rattle.plan_schema.specs.declared.refusal.Refusal.{Refusal}
use Rattle.query_language.specs.Trees.{query_tree}
use Rattle.command_words.specs.declared.reply.Reply.TheVariants as replies
use Rattle.walk_rules.specs.Cells.{records}
use Rattle.session_rules.specs.Answers.{costs_refusal}
use Rattle.plan_answer.specs.Asks.{question, TellsPlan, Pegs, Promises, TellsCosts, Selects}
use Rattle.plan_answer.specs.Planned.{wants_of}
use Rattle.plan_answer.specs.Replies.{reply_of}
use Rattle.plan_answer.proofs.Refusing.{first_one}
use Rattle.plan_answer.proofs.Settled.{planned_for, reply_for}
use Rattle.plan_answer.proofs.plans.from_plans.Goals as goal

pub lines_of_plan-requires-clause-planned : goal.lines_of_plan-requires-clause-planned
lines_of_plan-requires-clause-planned c =
    planned_for c.args.walk.now c.job-job.result.now c.job-job.ensures (TellsPlan c.in-Plan.part) (c.requires.wants ∙ ap (λ ask. wants_of (question ask)) c.in-Plan.is) c.requires.traced

pub peg_reply-requires-clause-planned : goal.peg_reply-requires-clause-planned
peg_reply-requires-clause-planned c =
    planned_for c.args.walk.now c.job-job.result.now c.job-job.ensures (Pegs c.in-Peg.part c.in-Peg.date) (c.requires.wants ∙ ap (λ ask. wants_of (question ask)) c.in-Peg.is) c.requires.traced

pub lines_of_promise-requires-clause-planned : goal.lines_of_promise-requires-clause-planned
lines_of_promise-requires-clause-planned c =
    planned_for c.args.walk.now c.job-job.result.now c.job-job.ensures (Promises c.in-Atp.part) (c.requires.wants ∙ ap (λ ask. wants_of (question ask)) c.in-Atp.is) c.requires.traced

pub cost_reply-requires-clause-planned : goal.cost_reply-requires-clause-planned
cost_reply-requires-clause-planned c =
    planned_for c.args.walk.now c.job-job.result.now c.job-job.ensures (TellsCosts c.in-Cost.part) (c.requires.wants ∙ ap (λ ask. wants_of (question ask)) c.in-Cost.is) c.requires.traced

pub lines_of_query-requires-clause-planned : goal.lines_of_query-requires-clause-planned
lines_of_query-requires-clause-planned c =
    planned_for c.args.walk.now c.job-job.result.now c.job-job.ensures (Selects (query_tree c.in-Select.query)) (c.requires.wants ∙ ap (λ ask. wants_of (question ask)) c.in-Select.is) c.requires.traced

pub returns-in_ok-lines-in-Plan : goal.returns-in_ok-lines-in-Plan
returns-in_ok-lines-in-Plan c =
    let w = c.args.walk.now in
    let job = c.job-job.result.now in
    let asked = TellsPlan c.in-Plan.part in
    let wants = c.requires.wants ∙ ap (λ ask. wants_of (question ask)) c.in-Plan.is in
    reply_for w job c.job-job.ensures asked wants (replies.Rows job.point c.in_ok-lines-in-Plan.lines) None (planned_for w job c.job-job.ensures asked wants c.requires.traced).allowed
    (ap (replies.Rows job.point) c.in_ok-lines-in-Plan.ensures)
    ∙ ap (λ ask. reply_of w.job.point (records w.job.cells) (question ask)) (sym c.in-Plan.is)

pub returns-in_ok-lines-in-Atp : goal.returns-in_ok-lines-in-Atp
returns-in_ok-lines-in-Atp c =
    let w = c.args.walk.now in
    let job = c.job-job.result.now in
    let asked = Promises c.in-Atp.part in
    let wants = c.requires.wants ∙ ap (λ ask. wants_of (question ask)) c.in-Atp.is in
    reply_for w job c.job-job.ensures asked wants (replies.Rows job.point c.in_ok-lines-in-Atp.lines) None (planned_for w job c.job-job.ensures asked wants c.requires.traced).allowed
    (ap (replies.Rows job.point) c.in_ok-lines-in-Atp.ensures)
    ∙ ap (λ ask. reply_of w.job.point (records w.job.cells) (question ask)) (sym c.in-Atp.is)

pub returns-in-Cost : goal.returns-in-Cost
returns-in-Cost c =
    let w = c.args.walk.now in
    let job = c.job-job.result.now in
    let asked = TellsCosts c.in-Cost.part in
    let wants = c.requires.wants ∙ ap (λ ask. wants_of (question ask)) c.in-Cost.is in
    let own = costs_refusal (records job.cells) c.in-Cost.part in
    let refused : first_of (_ ∷ own ∷ []) ≡ own =
    ap (λ (o : Option Refusal). first_of (o ∷ own ∷ [])) (planned_for w job c.job-job.ensures asked wants c.requires.traced).allowed ∙ first_one own in
    IfOk-weaker c.cost_reply.result _ _
    (λ reply is. reply_for w job c.job-job.ensures asked wants reply own refused is ∙ ap (λ ask. reply_of w.job.point (records w.job.cells) (question ask)) (sym c.in-Cost.is))
    c.cost_reply.ensures
