-- The refusals of questions that ask for plans.
use Rattle.std.proofs.Common.{◌≡◌, ℕ, List, [], ◌∷◌, ◌++◌, refl, sym, ◌∙◌, ap, true, cond}
use Rattle.std.specs.Prelude.{Option, Some, None, not}
use Rattle.plan_schema.specs.declared.name.Name.{Name}
use Rattle.plan_schema.specs.declared.key.Key.TheVariants as keys
use Rattle.plan_schema.specs.declared.refusal.Refusal.{Refusal}
use Rattle.plan_schema.specs.declared.refusal.Refusal.TheVariants as refusals
use Rattle.plan_schema.specs.Refusals.{first_of, about}
use Rattle.plan_schema.specs.Contents.{Contents, record_at}
use Rattle.planning_rules.specs.Pegs.{no_day}
use Rattle.planning_rules.specs.Plan.{plan}
use Rattle.planning_rules.specs.Refused.{in_reach, least_name, is_part, lacks_calendar, is_cyclic, is_large, plan_refusal}
use Rattle.query_rules.specs.Queries.{parts_of}
use Rattle.command_words.specs.declared.reply.Reply.TheVariants as replies
use Rattle.walk_names.specs.declared.trouble.Trouble.TheVariants.{Refused}
use Rattle.walk_names.specs.Names.{first_four, IsTrouble}
use Rattle.plan_jobs.specs.Jobs.{asked_by}
use Rattle.session_rules.specs.Answers.{costs_refusal, query_reply}
use Rattle.plan_answer.specs.Asks.{Question, ShowsCell, TellsLevel, TellsPlan, Pegs, Traces, Promises, TellsCosts, Selects, asks_for_plan}
use Rattle.plan_answer.specs.Planned.{wants_of}
use Rattle.plan_answer.specs.Replies.{question_lines, reply_of}

-- the first of some refusals and more: that of the former where there is one, else that of the latter
first_more : (some more : List (Option Refusal)) (refusal : Refusal) → first_of some ≡ Some refusal → first_of (some ++ more) ≡ Some refusal
first_more [] more refusal h = absurd (let never : ⊥ = cc in never)
first_more (None ∷ some) more refusal h = first_more some more refusal h
first_more (Some other ∷ some) more refusal h = h

first_rest : (some more : List (Option Refusal)) → first_of some ≡ None → first_of (some ++ more) ≡ first_of more
first_rest [] more h = refl
first_rest (None ∷ some) more h = first_rest some more h
first_rest (Some other ∷ some) more h = absurd (let never : ⊥ = cc in never)

pub first_one : (o : Option Refusal) → first_of (o ∷ []) ≡ o
first_one None = refl
first_one (Some refusal) = refl

module _ (c : Contents) (asked : List Name) where
  abbrev four : List (Option Refusal)
  four =
      about (least_name (λ n. not (is_part c n)) asked) refusals.NoPart
      ∷ about (least_name (λ n. not (is_part c n)) (in_reach c asked)) refusals.MissingPart
      ∷ about (least_name (λ n. lacks_calendar c (record_at c (keys.Part n))) (in_reach c asked)) refusals.MissingCalendar
      ∷ about (least_name (is_cyclic c) (in_reach c asked)) refusals.Cyclic
      ∷ []

  abbrev large : Option Refusal
  large = about (least_name (λ n. is_large (plan c n)) (in_reach c asked)) refusals.TooLarge

  -- a plan is refused by the first of the four refusals that applies
  pub refused_before : (refusal : Refusal) → first_four c asked ≡ Some refusal → plan_refusal c asked ≡ Some refusal
  refused_before refusal h = first_more four (large ∷ []) refusal h

  -- and where none does, by what is too large
  pub refused_last : first_four c asked ≡ None → plan_refusal c asked ≡ large
  refused_last h = first_rest four (large ∷ []) h ∙ first_one large

-- a question that asks for plans is refused where these are
pub refused_reply : (c : Contents) (question : Question) (point : ℕ) (refusal : Refusal) → asks_for_plan question ≡ true → plan_refusal c (asked_by c (wants_of question)) ≡ Some refusal
    → reply_of point c question ≡ replies.No point refusal
refused_reply c (ShowsCell cell) point refusal uses h = absurd (let never : ⊥ = cc in never)
refused_reply c (TellsLevel part) point refusal uses h = absurd (let never : ⊥ = cc in never)
refused_reply c (TellsPlan part) point refusal uses h = ap (λ o. query_reply point o (question_lines c (TellsPlan part))) h
refused_reply c (Pegs part day) point refusal uses h = ap (λ o. query_reply point (first_of (o ∷ no_day c day ∷ [])) (question_lines c (Pegs part day))) h
refused_reply c (Traces part day) point refusal uses h = ap (λ o. query_reply point (first_of (o ∷ no_day c day ∷ [])) (question_lines c (Traces part day))) h
refused_reply c (Promises part) point refusal uses h = ap (λ o. query_reply point o (question_lines c (Promises part))) h
refused_reply c (TellsCosts part) point refusal uses h = ap (λ o. query_reply point (first_of (o ∷ costs_refusal c part ∷ [])) (question_lines c (TellsCosts part))) h
refused_reply c (Selects query) point refusal uses h =
    ap (λ b. query_reply point (cond b (plan_refusal c (parts_of c)) None) (question_lines c (Selects query))) uses
    ∙ ap (λ o. query_reply point o (question_lines c (Selects query))) h

-- what a job's walk is refused is what its question is answered
pub refused_plan : (c : Contents) (question : Question) (point at : ℕ) (refusal : Refusal) → asks_for_plan question ≡ true → IsTrouble c (asked_by c (wants_of question)) point (Refused at refusal)
    → reply_of point c question ≡ replies.No at refusal
refused_plan c question point at refusal uses h =
    refused_reply c question point refusal uses (refused_before c (asked_by c (wants_of question)) refusal h.1) ∙ ap (λ k. replies.No k refusal) (sym h.0)
