-- What a trial comes to: the promise that its users rely on.
use Rattle.std.specs.Prelude.{◌≡◌, ◌≢◌, ℕ, ◌≤◌, Bool, true, false, ◌==◌, if◌then◌else◌, List, [], ◌∷◌, ◌++◌, length, count_by, bytes_eq, codes, is_none, Some, Ok, Err}
use Rattle.std.specs.List.{slice_split}
use Rattle.plan_schema.specs.declared.name.Name.{Name}
use Rattle.plan_schema.specs.declared.change.Entry.{Entry}
use Rattle.plan_schema.specs.Contents.{Contents}
use Rattle.plan_schema.specs.Outside.{Rose}
use Rattle.plan_import.specs.BaseFile.{base_of}
use Rattle.plan_make.specs.Base.{base_text}
use Rattle.plan_make.specs.Input.{input_text}
use Rattle.plan_walk.specs.declared.round.Tally.{Tally}
use Rattle.command_words.specs.declared.reply.Reply.{Reply}
use Rattle.command_words.specs.declared.reply.Reply.TheVariants as replies
use Rattle.scenario_rules.specs.Journal.{IsLegal}
use Rattle.scenario_rules.specs.Refused.{refused}
use Rattle.session_rules.specs.Requests.{Wish, Makes, Request, requests_of, user_after, guest}
use Rattle.request_loop.specs.Serving.{is_past_limit}
use Rattle.sessions.specs.Serving.{HasAnswered}
use Rattle.response_program.specs.declared.ending.Trial.{Trial}
use Rattle.response_program.specs.declared.ending.Totals.{Totals}
use Rattle.response_program.specs.Names.{console}
use Rattle.response_program.specs.Views.{View, NoneFell}
use Rattle.response_program.specs.Outcomes.{Outcome, Tried, NoMemory, Refused, NotOpened, NotWritten, TooLong, HasCause, status_of, console_line}
use Rattle.response_program.specs.Desks.{session_of}
use Rattle.response_program.specs.Runs.{Tells}

-- a reply for want of memory
abbrev pub is_want : Reply → Bool
is_want replies.Mem = true
is_want reply = false

-- how many pieces between line feeds are the word of such a reply
unfoldable pub mem_lines : List ℕ → ℕ
mem_lines output = count_by (λ line. bytes_eq line (codes "MEM")) (slice_split (λ byte. byte == 10) output)

-- at least so many results are told as dropped
pub record DropsMost (count : ℕ) (totals : Totals) : Type 0 where
  pub work : Tally
  pub told : totals.work ≡ Some work
  pub most : count ≤ work.dropped

-- what a history comes to with what a session wants in a line: a change that isn't refused is entered
abbrev pub with_wish : Contents → ℕ → Name → ℕ → Wish → List Entry → List Entry
with_wish contents session user line (Makes change) history =
    if is_none (refused contents history user change) then history ++ record { session = session; line = line; user = user; change = change } ∷ []
    else history
with_wish contents session user line wish history = history

-- what it comes to with requests of the session, in order, where there is memory for each
abbrev pub entered_all : Contents → ℕ → Name → List Request → List Entry → List Entry
entered_all contents session user [] history = history
entered_all contents session user (request ∷ requests) history =
    entered_all contents session (user_after user request.wish) requests (with_wish contents session user request.line request.wish history)

module _ (parts : ℕ) (base input : List ℕ) where
  -- The base reads to contents, and the input was served over them, alone: each request got a legal reply at the history that its changes
  -- came to. The trial tells its parts, how many requests the input has, and how many entries that history has; and it tells no fewer
  -- results as dropped than there are replies for want of memory. So where it tells none, the history is that of all changes of the input
  -- that aren't refused, each at the entries before it.
  pub record IsTried (trial : Trial) : Type 0 where
    pub parts_is : trial.parts ≡ parts
    pub contents : Contents
    pub base_is : base_of base ≡ Ok contents
    pub requests_is : trial.requests ≡ length (requests_of input)
    pub entries : List Entry
    pub legal : IsLegal contents entries
    pub counted : trial.totals.entries ≡ length entries
    pub given : List Reply
    pub answered : HasAnswered (session_of contents 1 []) entries (requests_of input) given
    pub drops : DropsMost (count_by is_want given) trial.totals
    pub exact : drops.work.dropped ≡ 0 → entries ≡ entered_all contents 1 guest (requests_of input) []

  -- how a trial may come out. A base that is made should read to contents, and an input that is made be within the limits; no clause says
  -- so, and a trial tells where it isn't so.
  abbrev pub Tries : Outcome → Type 0
  Tries (Tried trial) = IsTried trial
  Tries NoMemory = Unit {0}
  Tries (Refused fault) = base_of base ≡ Err fault
  Tries (TooLong session) = is_past_limit input ≡ true
  Tries outcome = ⊥

  -- it may also be that the console couldn't be made, or that it failed when all was tried
  abbrev pub IsTrial : Outcome → Type 0
  IsTrial (NotOpened name) = name ≡ console
  IsTrial (NotWritten name) = (name ≡ console) × ((trial : Trial) × IsTried trial)
  IsTrial outcome = Tries outcome

-- The program made a base and an input of so many parts, from a start, and served them without files, and answered a status. No count of
-- faults fell, and the console is told to have failed only where its count of that kind rose. Everything but the console is as before.
-- Status 0: the console's line tells the trial of the texts that the parts and the start give.
-- But for want of memory the console holds the line of the outcome, unless the console itself failed.
pub record HasTried (old new : View) (parts start status : ℕ) : Type 0 where
  pub outcome : Outcome
  pub status_is : status ≡ status_of outcome
  pub comes : IsTrial parts (base_text parts start) (input_text parts start) outcome
  pub none_fell : NoneFell old new
  pub cause : HasCause old new outcome
  pub others : (name : List ℕ) → name ≢ console → new.held name ≡ old.held name
  pub told : outcome ≢ NoMemory → Tells old → (Rose (old.opens console) (new.opens console) → ⊥) → (Rose (old.writes console) (new.writes console) → ⊥)
      → new.held console ≡ Some (console_line outcome)
