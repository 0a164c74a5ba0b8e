-- What a command that is no change is answered, by what is seen of a book.
use Rattle.std.specs.Prelude.{◌≡◌, ℕ, ◌≤◌, Bool, length, Some}
use Rattle.plan_schema.specs.declared.name.Name.{Name}
use Rattle.command_words.specs.declared.command.Command.{Command}
use Rattle.command_words.specs.declared.reply.Reply.{Reply}
use Rattle.command_words.specs.declared.reply.Reply.TheVariants as replies
use Rattle.walk_rules.specs.Cells.{records}
use Rattle.walk_names.specs.declared.trouble.Trouble.{Trouble}
use Rattle.walk_names.specs.declared.trouble.Trouble.TheVariants.{Refused, Memory}
use Rattle.plan_jobs.specs.declared.job.Job.{Job}
use Rattle.session_rules.specs.Answers.{answer}
use Rattle.session_rules.specs.Sessions.{IsCommandReply}
use Rattle.plan_answer.specs.Asks.{Question, question_of}
use Rattle.plan_answer.specs.Planned.{wants_of}
use Rattle.plan_answer.specs.Replies.{reply_of}
use Rattle.turn_table.specs.Story.{Begins}
use Rattle.plan_book.specs.Books.{Story, history}
use Rattle.plan_office.specs.declared.fault.OfficeFault.{OfficeFault}
use Rattle.plan_office.specs.declared.fault.OfficeFault.TheVariants as faults
use Rattle.sessions.specs.Sights.{Sight, known}

module _ {F : Type 0} (old new : Sight F) (user : Name) (command : Command) where
  -- the answer at a history that goes on from what was known before, and from which what is known then goes on
  pub record IsExactOn (reply : Reply) : Type 0 where
    pub at : Story
    pub front : Begins old.seen at
    pub grows : Begins at new.seen
    pub exact : answer old.place.began.base (history old.place.began at) user command ≡ Some reply

  -- a legal reply in what is known then, whatever session asks and whatever point that was known before came before
  abbrev pub IsAnsweredOn : Reply → Type 0
  IsAnsweredOn reply = (may_change : Bool) (session floor last : ℕ) → last ≤ length (known old)
      → IsCommandReply may_change old.place.began.base (known new) session floor last user command reply

-- a job is one for the question that a command is
pub record IsJobFor (command : Command) (job : Job) : Type 0 where
  pub asked : Question
  pub asks : question_of command ≡ Some asked
  pub wants : job.wanted ≡ wants_of asked

-- the reply to the question that a command is, over the records of its job
pub record IsJobReply (job : Job) (command : Command) (reply : Reply) : Type 0 where
  pub asked : Question
  pub asks : question_of command ≡ Some asked
  pub reply_is : reply ≡ reply_of job.point (records job.cells) asked

-- the reply where a question has no job: why it may not be asked
abbrev pub TellsFault : OfficeFault → Reply → Type 0
TellsFault (faults.Refused point refusal) reply = reply ≡ replies.No point refusal
TellsFault fault reply = ⊥

-- the reply where a job has no walk: why its plan is refused
abbrev pub TellsTrouble : Trouble → Reply → Type 0
TellsTrouble (Refused point refusal) reply = reply ≡ replies.No point refusal
TellsTrouble Memory reply = ⊥
