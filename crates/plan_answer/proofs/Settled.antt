-- A walk all of whose parts are settled, none of them too large, knows the plans of all.
use Rattle.std.proofs.Common.{◌≡◌, List, [], ◌∷◌, refl, sym, ◌∙◌, ap, subst, Bool, true, false, not}
use Rattle.std.specs.Prelude.{Option, Some, None, is_some, Contains}
use Rattle.plan_schema.specs.declared.name.Name.{Name}
use Rattle.plan_schema.specs.declared.key.Key.TheVariants as keys
use Rattle.plan_schema.specs.declared.refusal.Refusal.{Refusal}
use Rattle.plan_schema.specs.declared.refusal.Refusal.TheVariants as refusals
use Rattle.plan_schema.specs.Refusals.{first_of, about}
use Rattle.plan_schema.specs.Contents.{Contents, record_at}
use Rattle.planning_rules.specs.Bills.{parents}
use Rattle.planning_rules.specs.Plan.{Known, Planned, Large, plan, has_outcome}
use Rattle.planning_rules.specs.Refused.{in_reach, least_name, is_part, lacks_calendar, is_cyclic, is_large}
use Rattle.planning_rules.proofs.Membership.{IsIn, in_contained, all_at}
use Rattle.planning_rules.proofs.LeastNames.{least_found}
use Rattle.plan_jobs.proofs.Gathering.{parent_reached}
use Rattle.plan_jobs.specs.declared.job.Job.{Job}
use Rattle.plan_jobs.specs.declared.job.Wanted.{Wanted}
use Rattle.plan_jobs.specs.Jobs.{asked_by}
use Rattle.plan_walk.specs.View.{View}
use Rattle.walk_rules.specs.Cells.{records}
use Rattle.full_pegging.specs.Walking.{IsTraced}
use Rattle.plan_answer.specs.Asks.{Question}
use Rattle.session_rules.specs.Answers.{query_reply}
use Rattle.command_words.specs.declared.reply.Reply.{Reply}
use Rattle.plan_answer.specs.Planned.{wants_of}
use Rattle.plan_answer.specs.Replies.{question_refusal, question_lines, reply_of}
use Rattle.walk_rules.specs.Walks.{Parts, names_of, known_at, IsSettled, is_known, is_blocked}
use Rattle.part_pegs.specs.Planned.{ArePlanned}
use Rattle.plan_answer.specs.Settled.{AreAllSettled}

-- where none of some refusals applies, the last doesn't
last_none : (a b d e f : Option Refusal) → first_of (a ∷ b ∷ d ∷ e ∷ f ∷ []) ≡ None → f ≡ None
last_none None None None None None h = refl
last_none None None None None (Some r) h = cc
last_none None None None (Some r) f h = cc
last_none None None (Some r) e f h = cc
last_none None (Some r) d e f h = cc
last_none (Some r) b d e f h = cc

no_name : (o : Option Name) → about o refusals.TooLarge ≡ None → o ≡ None
no_name None h = refl
no_name (Some n) h = cc

module _ (c : Contents) (asked : List Name) (parts : Parts) (s : AreAllSettled c asked parts) where
  none_large : (n : Name) → IsIn n (in_reach c asked) → is_large (plan c n) ≡ false
  none_large n i = by_cases (is_large (plan c n)) refl
    where
      none : least_name (λ m. is_large (plan c m)) (in_reach c asked) ≡ None
      none = no_name (least_name (λ m. is_large (plan c m)) (in_reach c asked))
          (last_none (about (least_name (λ m. not (is_part c m)) asked) refusals.NoPart) (about (least_name (λ m. not (is_part c m)) (in_reach c asked)) refusals.MissingPart)
          (about (least_name (λ m. lacks_calendar c (record_at c (keys.Part m))) (in_reach c asked)) refusals.MissingCalendar) (about (least_name (is_cyclic c) (in_reach c asked)) refusals.Cyclic)
          (about (least_name (λ m. is_large (plan c m)) (in_reach c asked)) refusals.TooLarge) s.allowed)

      by_cases : (b : Bool) → is_large (plan c n) ≡ b → b ≡ false
      by_cases false e = refl
      by_cases true e =
          let found = least_found (λ m. is_large (plan c m)) (in_reach c asked) n i e in
          let never : Some found.0 ≡ None = sym found.1 ∙ none in cc

  abbrev IsThere : Name → Type 0
  IsThere n = (plan c n ≡ known_at parts n) × (has_outcome (known_at parts n) ≡ true)

  known_there : (n : Name) → IsIn n (in_reach c asked) → (o : Option Known) → known_at parts n ≡ o → is_some o ≡ true → IsThere n
  known_there n i None e h = absurd (let never : ⊥ = cc in never)
  known_there n i (Some (Planned x)) e h = (s.right n (Planned x) e ∙ sym e, ap has_outcome e)
  known_there n i (Some Large) e h =
      let never : true ≡ false = sym (ap is_large (s.right n Large e)) ∙ none_large n i in absurd (let wrong : ⊥ = cc in wrong)

  settled_there : (n : Name) → IsSettled c parts n → IsIn n (in_reach c asked) → IsThere n
  settled_there _ (is_known n h) i = known_there n i (known_at parts n) refl h
  settled_there _ (is_blocked n p up none settled) i =
      let above = settled_there p settled (parent_reached c asked n p i (in_contained (parents c n) p up)) in
      let never : true ≡ false = sym above.1 ∙ none in absurd (let wrong : ⊥ = cc in wrong)

  there : (n : Name) → Contains (in_reach c asked) n → IsThere n
  there n i =
      settled_there n (all_at (IsSettled c parts) n (names_of parts) (in_contained (names_of parts) n ((s.members n).1 i)) s.settled) (in_contained (in_reach c asked) n i)

  pub all_planned : ArePlanned c asked (known_at parts)
  all_planned = record {
    allowed = s.allowed;
    right = λ n i. sym (there n i).0;
    outcomes = λ n i. (there n i).1;
  }

-- a walk that can be traced knows the plans that its question asks for
module _ (w : View) (job : Job) (same : job ≡ w.job) (asked : Question) (wants : w.job.wanted ≡ wants_of asked) where
  pub planned_for : IsTraced w (asked_by (records w.job.cells) w.job.wanted) → ArePlanned (records job.cells) (asked_by (records job.cells) (wants_of asked)) (known_at w.parts)
  planned_for t =
      subst (λ (j : Job). ArePlanned (records j.cells) (asked_by (records j.cells) (wants_of asked)) (known_at w.parts)) (sym same)
      (subst (λ (wanted : Wanted). ArePlanned (records w.job.cells) (asked_by (records w.job.cells) wanted) (known_at w.parts)) wants t.planned)

  -- and what its job's records say is what its answer is
  pub reply_for : (reply : Reply) (refusal : Option Refusal) → question_refusal (records job.cells) asked ≡ refusal → reply ≡ query_reply job.point refusal (question_lines (records job.cells) asked)
      → reply ≡ reply_of w.job.point (records w.job.cells) asked
  reply_for reply refusal refused is =
      is ∙ ap (λ o. query_reply job.point o (question_lines (records job.cells) asked)) (sym refused) ∙ ap (λ (j : Job). reply_of j.point (records j.cells) asked) same
