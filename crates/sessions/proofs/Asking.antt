-- The questions that commands are, and their answers after all entries of a book.
use Rattle.std.proofs.Common.{◌≡◌, ℕ, List, true, ◌&&◌, refl, sym, ap, subst, ◌∙◌}
use Rattle.std.specs.Prelude.{Some, Result, Ok, Err, is_ok, IfOk, option_map}
use Rattle.std.specs.Result.{result_ok}
use Rattle.std.proofs.lemmas.Bool.{and_parts}
use Rattle.plan_schema.specs.declared.name.Name.{Name}
use Rattle.plan_schema.specs.Name.{is_name}
use Rattle.plan_schema.specs.declared.refusal.Refusal.{Refusal}
use Rattle.plan_schema.specs.Contents.{Contents}
use Rattle.query_language.specs.declared.fault.QueryFault.{QueryFault}
use Rattle.query_language.specs.Growing.{tree_of, query_of, if_query}
use Rattle.query_language.specs.Reading.{check_of}
use Rattle.command_words.specs.declared.command.Command.{Command}
use Rattle.command_words.specs.declared.command.Command.TheVariants as commands
use Rattle.command_words.specs.declared.reply.Reply.{Reply}
use Rattle.command_words.specs.declared.reply.Reply.TheVariants as replies
use Rattle.command_words.specs.Spelling.{is_query, is_query_text, is_sound_command}
use Rattle.walk_rules.specs.Cells.{records}
use Rattle.plan_jobs.specs.declared.job.Job.{Job}
use Rattle.plan_jobs.specs.declared.job.Wanted.{Wanted}
use Rattle.plan_jobs.specs.Jobs.{asked_by}
use Rattle.walk_names.specs.declared.trouble.Trouble.{Trouble}
use Rattle.walk_names.specs.declared.trouble.Trouble.TheVariants as troubles
use Rattle.walk_names.specs.Names.{IsTrouble}
use Rattle.plan_answer.specs.Asks.{Question, ShowsCell, TellsLevel, TellsPlan, Pegs, Traces, Promises, TellsCosts, Selects, question_of, wanted_by, asks_for_plan}
use Rattle.plan_answer.specs.Planned.{wants_of}
use Rattle.plan_answer.specs.Replies.{reply_of}
use Rattle.plan_core.specs.State.{State, history}
use Rattle.plan_core.specs.Holds.{HoldsFor}
use Rattle.plan_core.specs.Asks.{IsAsked, IsBarred}
use Rattle.plan_book.specs.Books as books
use Rattle.session_rules.specs.Answers.{answer}
use Rattle.plan_office.specs.declared.fault.OfficeFault.{OfficeFault}
use Rattle.plan_office.specs.declared.fault.OfficeFault.TheVariants as faults
use Rattle.sessions.specs.Sights.{Sight, Looks, IsAskedAt, IsUnaskedAt, state_at}
use Rattle.sessions.specs.Answered.{IsExactOn, IsJobFor, IsJobReply, TellsFault, TellsTrouble}
use Rattle.plan_answer.proofs.Asked.{same_want, asked_answer, barred_answer}
use Rattle.plan_answer.proofs.Refusing.{refused_plan}

-- a sound command that wants something of a scenario is a question
without_fault : (text : List ℕ) (r : Result (Unit {0}) QueryFault) → is_ok r ≡ true → if_query r (tree_of text) ≡ Ok (tree_of text)
without_fault text (Ok _) sound = refl
without_fault text (Err fault) sound = absurd (let never : ⊥ = cc in never)

is_read : (text : List ℕ) → is_query text ≡ true → query_of text ≡ Ok (tree_of text)
unfolding query_of
is_read text sound = without_fault text (check_of text) sound

pub has_question : (command : Command) (want : Name × Wanted) → is_sound_command command ≡ true → wanted_by command ≡ Some want → (asked : Question) × (question_of command ≡ Some asked)
has_question (commands.Show scenario cell) want sound is = (ShowsCell cell, refl)
has_question (commands.Level scenario part) want sound is = (TellsLevel part, refl)
has_question (commands.Plan scenario part) want sound is = (TellsPlan part, refl)
has_question (commands.Peg scenario part day) want sound is = (Pegs part day, refl)
has_question (commands.Trace scenario part day) want sound is = (Traces part day, refl)
has_question (commands.Atp scenario part) want sound is = (Promises part, refl)
has_question (commands.Cost scenario part) want sound is = (TellsCosts part, refl)
has_question (commands.Select scenario text) want sound is =
    let one = and_parts (is_name scenario) (is_query_text text && is_query text) sound in
    let two = and_parts (is_query_text text) (is_query text) one.1 in
    (Selects (tree_of text), ap (λ r. option_map Selects (result_ok r)) (is_read text two.1))
has_question _ want sound is = absurd (let never : ⊥ = cc in never)

-- the answer after all entries of a book
abbrev IsExact : State → Name → Command → Reply → Type 0
IsExact book user command reply = answer book.base (history book) user command ≡ Some reply

-- at a book ------------------------------------------------------------------------------------------------------------------------

module _ (book : State) (user scenario : Name) (command : Command) (wanted : Wanted) (sound : is_sound_command command ≡ true) (wants : wanted_by command ≡ Some (scenario, wanted)) where
  -- its job is one for its question
  job_for : (job : Job) → IsAsked book user scenario wanted job → IsJobFor command job
  job_for job asked =
      let q = has_question command (scenario, wanted) sound wants in
      record { asked = q.0; asks = q.1; wants = asked.wanted_is ∙ same_want command scenario wanted q.0 wants q.1 }

  -- and the reply from the job is the answer
  job_exact : HoldsFor book → (job : Job) → IsAsked book user scenario wanted job → (reply : Reply) → IsJobReply job command reply → IsExact book user command reply
  job_exact holds job asked reply h =
      asked_answer book.base (history book) user scenario command wanted h.asked job.cells holds.whole holds.limits holds.legal wants h.asks asked.allowed asked.collected
      ∙ ap Some (ap (λ point. reply_of point (records job.cells) h.asked) (sym asked.point_is) ∙ sym h.reply_is)

  -- a scenario that the user may not use
  barred_exact : (point : ℕ) (refusal : Refusal) → IsBarred book user scenario point refusal → IsExact book user command (replies.No point refusal)
  barred_exact point refusal h =
      let q = has_question command (scenario, wanted) sound wants in
      barred_answer book.base (history book) user scenario command wanted q.0 refusal wants q.1 h.first ∙ ap (λ n. Some (replies.No n refusal)) (sym h.point_is)

-- a plan that is refused before anything is netted
pub refused_job : (c : Contents) (asked : Question) (wanted : Wanted) (point : ℕ) (trouble : Trouble) → wanted ≡ wants_of asked → asks_for_plan asked ≡ true → IsTrouble c (asked_by c wanted) point trouble
    → (reply : Reply) → TellsTrouble trouble reply → reply ≡ reply_of point c asked
refused_job c asked wanted point (troubles.Refused at refusal) wants uses h reply is =
    is ∙ sym (refused_plan c asked point at refusal uses (subst (λ w. IsTrouble c (asked_by c w) point (troubles.Refused at refusal)) wants h))
refused_job c asked wanted point troubles.Memory wants uses h reply is = absurd is

-- from one fact of a value to another
pub if_ok : {T E : Type 0} {P Q : T → Type 0} (result : Result T E) → IfOk result P → ((value : T) → P value → Q value) → IfOk result Q
if_ok (Ok value) h more = more value h
if_ok (Err fault) h more = tt

-- by what is seen --------------------------------------------------------------------------------------------------------------------

module _ {F : Type 0} (old asked new : Sight F) (user scenario : Name) (command : Command) (wanted : Wanted) (sound : is_sound_command command ≡ true) (wants : wanted_by command ≡ Some (scenario, wanted)) where
  -- the answer of a book that is seen so
  exact_then : (work : books.Work) → Looks old asked → Looks asked new → (reply : Reply) → IsExact (state_at asked work) user command reply → IsExactOn old new user command reply
  exact_then work first then reply exact =
      record {
        at = asked.seen;
        front = first.grows;
        grows = then.grows;
        exact = ap (λ p. answer p.began.base (books.history p.began asked.seen) user command) (sym first.place) ∙ exact;
      }

  -- from the job that was asked for
  pub job_for_at : (job : Job) → IsAskedAt asked user scenario wanted job → IsJobFor command job
  job_for_at job h = job_for (state_at asked h.work) user scenario command wanted sound wants job h.asked

  pub job_exact_on : Looks old asked → Looks asked new → (job : Job) → IsAskedAt asked user scenario wanted job → (reply : Reply) → IsJobReply job command reply → IsExactOn old new user command reply
  job_exact_on first then job h reply is =
      exact_then h.work first then reply (job_exact (state_at asked h.work) user scenario command wanted sound wants h.holds job h.asked reply is)

  -- and from the fault where there is none
  pub unasked_exact_on : Looks old asked → Looks asked new → (fault : OfficeFault) → IsUnaskedAt asked user scenario fault → (reply : Reply) → TellsFault fault reply → IsExactOn old new user command reply
  unasked_exact_on first then (faults.Refused point refusal) h reply is =
      exact_then h.0 first then reply (barred_exact (state_at asked h.0) user scenario command wanted sound wants point refusal h.1 ∙ ap Some (sym is))
  unasked_exact_on first then faults.Memory h reply is = absurd is
  unasked_exact_on first then faults.Failed h reply is = absurd is
  unasked_exact_on first then faults.Worn h reply is = absurd is
