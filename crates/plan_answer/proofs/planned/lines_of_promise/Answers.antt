use Rattle.std.proofs.Common.{◌≡◌, List, ℕ, inl, [], ◌∷◌, map, refl, sym, ◌∙◌, ap, subst}
use Rattle.std.specs.Prelude.{IfOk, Some}
use Rattle.std.specs.List.{range_with_len}
use Rattle.plan_schema.specs.declared.key.Key.TheVariants as keys
use Rattle.plan_schema.specs.Contents.{record_at}
use Rattle.planning_rules.specs.Days.{horizon_of}
use Rattle.planning_rules.specs.Plan.{Planned, plan}
use Rattle.planning_rules.specs.Refused.{in_reach}
use Rattle.planning_rules.proofs.Membership.{contained_in}
use Rattle.walk_rules.specs.Cells.{records}
use Rattle.plan_jobs.proofs.Gathering.{asked_reached}
use Rattle.session_rules.specs.Answers.{lists_of, promise_line}
use Rattle.plan_answer.specs.Replies.{promised_line}
use Rattle.plan_answer.proofs.Promising.{promised_same}
use Rattle.plan_answer.proofs.planned.lines_of_promise.Goals as goal

pub returns : goal.returns
returns g c =
    let contents = records c.args.job.now.cells in
    let part = c.args.part.now in
    let there = contained_in (in_reach contents (part ∷ [])) part (asked_reached contents (part ∷ []) part (inl refl)) in
    let planned : plan contents part ≡ Some (Planned c.outcome_of.result.now) = sym (c.requires.planned.right part there) ∙ c.outcome_of.ensures in
    subst (λ (rows : List (List ℕ)). IfOk c.promise_lines.result (λ lines. lines ≡ rows))
    (ap (λ list. map (promised_line c.horizon-start.result.0 list) (range_with_len 0 c.horizon-start.result.1)) c.as_slice.ensures
    ∙ promised_same c.horizon-start.result.0 c.horizon-start.result.1 c.in_ok-promised.promised c.outcome_of.result.now c.in_ok-promised.ensures.each
    ∙ ap (λ (pair : ℕ × ℕ). map (promise_line pair.0 c.outcome_of.result.now) (range_with_len 0 pair.1)) c.horizon-start.ensures.value
    ∙ ap (λ known. map (promise_line (horizon_of (record_at contents keys.Plan)).0 (lists_of known)) (range_with_len 0 (horizon_of (record_at contents keys.Plan)).1)) (sym planned))
    c.promise_lines.ensures
