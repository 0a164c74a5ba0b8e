-- What questions are answered is what the commands of sessions are, from all contents of a scenario and from the cells collected of them.
use Rattle.std.specs.Prelude.{◌≡◌, ℕ, true, List, [], ◌∷◌, Option, Some, None, length, is_some}
use Rattle.plan_schema.specs.declared.name.Name.{Name}
use Rattle.plan_schema.specs.declared.change.Entry.{Entry}
use Rattle.plan_schema.specs.declared.refusal.Refusal.{Refusal}
use Rattle.plan_schema.specs.Contents.{Contents, is_ordered}
use Rattle.plan_schema.specs.Refusals.{first_of}
use Rattle.scenario_rules.specs.World.{World, contents_in}
use Rattle.scenario_rules.specs.Steps.{world_after}
use Rattle.scenario_rules.specs.Refused.{access_refusal}
use Rattle.scenario_rules.specs.Journal.{IsLegal}
use Rattle.scenario_rules.specs.Whole.{AreWholeContents, AreWithinLimits}
use Rattle.command_words.specs.declared.command.Command.{Command}
use Rattle.command_words.specs.declared.reply.Reply.{Reply}
use Rattle.command_words.specs.Spelling.{is_sound_command}
use Rattle.command_words.specs.declared.reply.Reply.TheVariants as replies
use Rattle.walk_rules.specs.Cells.{Cells, records}
use Rattle.walk_names.specs.declared.trouble.Trouble.TheVariants.{Refused}
use Rattle.walk_names.specs.Names.{IsTrouble}
use Rattle.plan_jobs.specs.declared.job.Wanted.{Wanted}
use Rattle.plan_jobs.specs.Collects.{IsCollected}
use Rattle.plan_jobs.specs.Jobs.{asked_by}
use Rattle.session_rules.specs.Answers.{answer, query_reply}
use Rattle.plan_answer.specs.Asks.{Question, question_of, wanted_by, asks_for_plan}
use Rattle.plan_answer.specs.Planned.{wants_of}
use Rattle.plan_answer.specs.Replies.{question_refusal, question_lines, reply_of}

-- the reply to a question about a scenario of a world, at a point: refused where the user has no access, before all else
abbrev pub reply_in : World → ℕ → Name → Option (Name × Wanted) → Option Question → Option Reply
reply_in world point user (Some (scenario, wanted)) (Some question) =
    Some (query_reply point (first_of (access_refusal world user scenario ∷ question_refusal (contents_in world scenario) question ∷ []))
    (question_lines (contents_in world scenario) question))
reply_in world point user wanted question = None

-- a command that is a question about one scenario is answered so after a history
abbrev pub QuestionIsAnswered : Type 0
QuestionIsAnswered = (base : Contents) (history : List Entry) (user : Name) (command : Command)
    → is_some (wanted_by command) ≡ true
    → answer base history user command ≡ reply_in (world_after base history) (length history) user (wanted_by command) (question_of command)

-- a command that can be spelled is a question exactly where it wants something of a scenario
abbrev pub AsksWhereItWants : Type 0
AsksWhereItWants = (command : Command) → is_sound_command command ≡ true → is_some (question_of command) ≡ is_some (wanted_by command)

-- from the cells that were collected for a question from contents in key order it is answered as from all of these
abbrev pub CollectedIsEnough : Type 0
CollectedIsEnough = (c : Contents) (wanted : Wanted) (cells : Cells) (question : Question) (point : ℕ)
    → is_ordered c ≡ true → IsCollected c wanted cells → wanted ≡ wants_of question
    → reply_of point (records cells) question ≡ reply_of point c question

-- a command that is a question of a scenario that the user may use is answered, after a legal history, so from the cells that were
-- collected for it
abbrev pub AskedIsAnswered : Type 0
AskedIsAnswered = (base : Contents) (history : List Entry) (user scenario : Name) (command : Command) (wanted : Wanted) (question : Question) (cells : Cells)
    → AreWholeContents base → AreWithinLimits base → IsLegal base history
    → wanted_by command ≡ Some (scenario, wanted) → question_of command ≡ Some question
    → access_refusal (world_after base history) user scenario ≡ None
    → IsCollected (contents_in (world_after base history) scenario) wanted cells
    → answer base history user command ≡ Some (reply_of (length history) (records cells) question)

-- one of a scenario that the user may not use is refused so
abbrev pub BarredIsAnswered : Type 0
BarredIsAnswered = (base : Contents) (history : List Entry) (user scenario : Name) (command : Command) (wanted : Wanted) (question : Question) (refusal : Refusal)
    → wanted_by command ≡ Some (scenario, wanted) → question_of command ≡ Some question
    → access_refusal (world_after base history) user scenario ≡ Some refusal
    → answer base history user command ≡ Some (replies.No (length history) refusal)

-- where a job has no walk, since its plan is refused, its question is answered so
abbrev pub RefusedIsAnswered : Type 0
RefusedIsAnswered = (c : Contents) (question : Question) (point at : ℕ) (refusal : Refusal)
    → asks_for_plan question ≡ true → IsTrouble c (asked_by c (wants_of question)) point (Refused at refusal)
    → reply_of point c question ≡ replies.No at refusal
