use Rattle.std.proofs.Common.{◌≡◌, ◌∙◌, ◌+◌, ◌-◌, ◌||◌, ap, sym, map}
use Rattle.std.proofs.lemmas.Simd.{map-map}
use Rattle.std.specs.Prelude.{None, ℕ, nat_lt, nat_le}
use Rattle.plan_schema.specs.declared.key.Key.TheVariants as keys
use Rattle.plan_schema.specs.declared.refusal.Refusal.TheVariants as refusals
use Rattle.plan_schema.specs.Contents.{record_at}
use Rattle.plan_schema.specs.Refusals.{where_so}
use Rattle.planning_rules.specs.Days.{horizon_of}
use Rattle.planning_rules.specs.Pegs.{no_day}
use Rattle.planning_rules.specs.Trace.{trace}
use Rattle.command_words.specs.declared.reply.Reply.TheVariants as replies
use Rattle.plan_jobs.specs.declared.job.Job.{Job}
use Rattle.walk_rules.specs.Cells.{records}
use Rattle.full_pegging.specs.Following.{shown_share}
use Rattle.session_rules.specs.Answers.{share_line, query_reply}
use Rattle.plan_answer.proofs.traces.trace_reply.Goals as goal

pub returns-in_ok-lines-in-Some : goal.returns-in_ok-lines-in-Some
returns-in_ok-lines-in-Some c =
    let w = c.args.walk.now in
    let r = records w.job.cells in
    let date = c.args.date.now in
    let horizon = c.horizon-start.ensures.value ∙ ap (λ (job : Job). horizon_of (record_at (records job.cells) keys.Plan)) c.job-job.ensures in
    let allowed : no_day r date ≡ None =
    ap (λ (h : ℕ × ℕ). where_so (nat_lt date h.0 || nat_le (h.0 + h.1) date) (refusals.NoDay date)) (sym horizon) ∙ ap (λ out. where_so out (refusals.NoDay date)) c.in-Some.ensures.0 in
    let lines =
    c.in_ok-lines-in-Some.ensures
    ∙ sym (map-map share_line shown_share c.as_slice.result.now)
    ∙ ap (λ shares. map share_line (map shown_share shares)) c.as_slice.ensures.value
    ∙ ap (map share_line) (c.in_ok-shares-in-Some.ensures ∙ ap (trace r c.args.part.now) c.in-Some.ensures.1)
    ∙ ap (λ (h : ℕ × ℕ). map share_line (trace r c.args.part.now (date - h.0))) horizon in
    (λ i. replies.Rows (c.job-job.ensures i).point (lines i))
    ∙ ap (λ refusal. query_reply w.job.point refusal (map share_line (trace r c.args.part.now (date - (horizon_of (record_at r keys.Plan)).0)))) (sym allowed)
