-- What commands are answered in sessions, from the cells that were collected for their questions.
use Rattle.std.proofs.Common.{◌≡◌, List, [], ◌∷◌, length, refl, sym, ◌∙◌, ap, true}
use Rattle.std.specs.Prelude.{Option, Some, None, is_some, is_none, option_map, IsSome}
use Rattle.std.specs.Result.{result_ok}
use Rattle.plan_schema.specs.declared.name.Name.{Name}
use Rattle.plan_schema.specs.declared.change.Entry.{Entry}
use Rattle.plan_schema.specs.declared.refusal.Refusal.{Refusal}
use Rattle.plan_schema.specs.declared.refusal.Refusal.TheVariants as refusals
use Rattle.plan_schema.specs.Contents.{Contents, is_ordered}
use Rattle.plan_schema.specs.Refusals.{first_of, where_so}
use Rattle.scenario_rules.specs.World.{Scenario, scenario_at, contents_in}
use Rattle.scenario_rules.specs.Steps.{world_after}
use Rattle.scenario_rules.specs.Refused.{access_refusal, no_scenario, denied}
use Rattle.scenario_rules.specs.Journal.{IsLegal}
use Rattle.scenario_rules.specs.Whole.{AreWholeContents, AreWithinLimits}
use Rattle.scenario_rules.proofs.HistoryLaws.{legal_is_whole, first_none}
use Rattle.scenario_rules.proofs.Wholeness.{whole_contents}
use Rattle.query_language.specs.Trees.{QueryTree}
use Rattle.query_language.specs.Growing.{query_of}
use Rattle.command_words.specs.declared.command.Command.{Command}
use Rattle.command_words.specs.declared.command.Command.TheVariants as commands
use Rattle.plan_jobs.specs.declared.job.Wanted.{Wanted}
use Rattle.plan_jobs.specs.declared.job.Wanted.TheVariants as wants
use Rattle.plan_jobs.specs.Jobs.{wants_plan}
use Rattle.session_rules.specs.Answers.{answer, query_reply}
use Rattle.plan_answer.specs.Asks.{Question, ShowsCell, TellsLevel, TellsPlan, Pegs, Traces, Promises, TellsCosts, Selects, question_of, wanted_by, asks_for_plan}
use Rattle.plan_answer.specs.Planned.{wants_of}
use Rattle.plan_answer.specs.Replies.{question_refusal, question_lines}
use Rattle.plan_answer.specs.Laws.{reply_in, AskedIsAnswered, BarredIsAnswered, RefusedIsAnswered}
use Rattle.plan_answer.proofs.Answered.{answered}
use Rattle.plan_answer.proofs.Collected.{collected_is_enough}
use Rattle.plan_answer.proofs.Refusing.{first_one, refused_plan}

-- what a command wants is what its question wants ---------------------------------------------------------------------------------

abbrev IsWant : Command → Name → Wanted → Question → Type 0
IsWant command scenario wanted question = wanted_by command ≡ Some (scenario, wanted) → question_of command ≡ Some question → wanted ≡ wants_of question

pair_inside : (a b : Name × Wanted) → Some a ≡ Some b → a.1 ≡ b.1
pair_inside a b h = cc

inside : (a b : Question) → Some a ≡ Some b → a ≡ b
inside a b h = cc

selects : (o : Option QueryTree) (question : Question) → option_map Selects o ≡ Some question → wants.All ≡ wants_of question
selects None question h = absurd (let never : ⊥ = cc in never)
selects (Some query) question h = ap wants_of (inside (Selects query) question h)

pub same_want : (command : Command) (scenario : Name) (wanted : Wanted) (question : Question) → IsWant command scenario wanted question
same_want (commands.Show s cell) scenario wanted question w q = sym (pair_inside (s, wants.Cell cell) (scenario, wanted) w) ∙ ap wants_of (inside (ShowsCell cell) question q)
same_want (commands.Level s part) scenario wanted question w q = sym (pair_inside (s, wants.Part part) (scenario, wanted) w) ∙ ap wants_of (inside (TellsLevel part) question q)
same_want (commands.Plan s part) scenario wanted question w q = sym (pair_inside (s, wants.Part part) (scenario, wanted) w) ∙ ap wants_of (inside (TellsPlan part) question q)
same_want (commands.Peg s part day) scenario wanted question w q = sym (pair_inside (s, wants.Part part) (scenario, wanted) w) ∙ ap wants_of (inside (Pegs part day) question q)
same_want (commands.Trace s part day) scenario wanted question w q = sym (pair_inside (s, wants.Part part) (scenario, wanted) w) ∙ ap wants_of (inside (Traces part day) question q)
same_want (commands.Atp s part) scenario wanted question w q = sym (pair_inside (s, wants.Part part) (scenario, wanted) w) ∙ ap wants_of (inside (Promises part) question q)
same_want (commands.Cost s part) scenario wanted question w q = sym (pair_inside (s, wants.Part part) (scenario, wanted) w) ∙ ap wants_of (inside (TellsCosts part) question q)
same_want (commands.Select s text) scenario wanted question w q = sym (pair_inside (s, wants.All) (scenario, wanted) w) ∙ selects (result_ok (query_of text)) question q
same_want _ scenario wanted question w q = absurd (let never : ⊥ = cc in never)

-- what asks for plans wants a plan
pub wants_its_plan : (asked : Question) → asks_for_plan asked ≡ true → wants_plan (wants_of asked) ≡ true
wants_its_plan (ShowsCell cell) uses = absurd (let never : ⊥ = cc in never)
wants_its_plan (TellsLevel part) uses = absurd (let never : ⊥ = cc in never)
wants_its_plan (TellsPlan part) uses = refl
wants_its_plan (Pegs part day) uses = refl
wants_its_plan (Traces part day) uses = refl
wants_its_plan (Promises part) uses = refl
wants_its_plan (TellsCosts part) uses = refl
wants_its_plan (Selects query) uses = refl

-- a scenario that may be used ------------------------------------------------------------------------------------------------------

there : (o : Option Scenario) (s : Name) → where_so (is_none o) (refusals.NoScenario s) ≡ None → IsSome o
there None s h = absurd (let never : ⊥ = cc in never)
there (Some x) s h = search

-- its contents are in key order
used_ordered : (base : Contents) (history : List Entry) (user scenario : Name) → AreWholeContents base → AreWithinLimits base → IsLegal base history → access_refusal (world_after base history) user scenario ≡ None
    → is_ordered (contents_in (world_after base history) scenario) ≡ true
used_ordered base history user scenario whole limits legal allowed =
    let world = world_after base history in
    (whole_contents world scenario (legal_is_whole base history whole limits legal)
    (there (scenario_at world scenario) scenario (first_none (no_scenario world scenario) (denied world user scenario) allowed))).ordered

-- answers --------------------------------------------------------------------------------------------------------------------------

module _ (base : Contents) (history : List Entry) (user scenario : Name) (command : Command) (wanted : Wanted) (question : Question)
    (wants : wanted_by command ≡ Some (scenario, wanted)) (asks : question_of command ≡ Some question) where
  -- by the first of access and of the question's own refusals
  by_access : (o : Option Refusal) → access_refusal (world_after base history) user scenario ≡ o
      → answer base history user command
      ≡ Some (query_reply (length history) (first_of (o ∷ question_refusal (contents_in (world_after base history) scenario) question ∷ [])) (question_lines (contents_in (world_after base history) scenario) question))
  by_access o is =
      let world = world_after base history in
      let c = contents_in world scenario in
      answered base history user command (ap is_some wants)
      ∙ (λ i. reply_in world (length history) user (wants i) (asks i))
      ∙ ap (λ r. Some (query_reply (length history) (first_of (r ∷ question_refusal c question ∷ [])) (question_lines c question))) is

pub asked_answer : AskedIsAnswered
asked_answer base history user scenario command wanted question cells whole limits legal wants asks allowed collected =
    let c = contents_in (world_after base history) scenario in
    by_access base history user scenario command wanted question wants asks None allowed
    ∙ ap (λ r. Some (query_reply (length history) r (question_lines c question))) (first_one (question_refusal c question))
    ∙ ap Some (sym (collected_is_enough c wanted cells question (length history) (used_ordered base history user scenario whole limits legal allowed) collected (same_want command scenario wanted question wants asks)))

pub barred_answer : BarredIsAnswered
barred_answer base history user scenario command wanted question refusal wants asks barred = by_access base history user scenario command wanted question wants asks (Some refusal) barred

pub refused_answer : RefusedIsAnswered
refused_answer = refused_plan
