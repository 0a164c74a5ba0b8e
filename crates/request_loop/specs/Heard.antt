-- What a line comes to.
use Rattle.std.specs.Prelude.{◌≡◌, ◌⊎◌, ℕ, ◌+◌, ◌-◌, ◌^◌, min, Bool, true, false, List, [], ◌∷◌, ◌++◌, Option, None, Result, Ok, Err}
use Rattle.plan_schema.specs.declared.name.Name.{Name}
use Rattle.plan_schema.specs.Outside.{extended, TookFront}
use Rattle.command_words.specs.declared.reply.Reply.{Reply}
use Rattle.command_words.specs.Replies.{reply_text}
use Rattle.session_rules.specs.Requests.{Line, is_blank_line, Request, user_after}
use Rattle.request_loop.specs.Reading.{Rows, stepped, is_end}
use Rattle.request_loop.specs.Gathered.{AreGathered}
use Rattle.request_loop.specs.Handed.{IsCleared}
use Rattle.request_loop.specs.declared.answers.Why.{Why}
use Rattle.request_loop.specs.declared.gathering.Gathering.{Gathering}
use Rattle.request_loop.specs.declared.hear.Heard.{Heard}
use Rattle.request_loop.specs.declared.hear.Heard.TheVariants as heard
use Rattle.request_loop.specs.declared.hear.Stop.{Stop}
use Rattle.request_loop.specs.declared.hear.Stop.TheVariants as stop

-- a line completes no request: it is blank, or it leaves a LOAD that goes on
abbrev pub CompletesNone : Option Rows → Line → Option Rows → Type 0
CompletesNone kept line next = ((is_blank_line line ≡ true) × (next ≡ kept)) ⊎ ((is_blank_line line ≡ false) × (stepped kept line ≡ ([], next)))

-- it completes one, and nothing is kept of it
pub record Completes (kept : Option Rows) (line : Line) (request : Request) : Type 0 where
  pub some : is_blank_line line ≡ false
  pub all : stepped kept line ≡ (request ∷ [], None)

-- what a line comes to behind which the session goes on
abbrev pub heard_of : Result (Unit {0}) Stop → Result Heard Stop
heard_of (Ok done) = Ok heard.Answered
heard_of (Err found) = Err found

-- how many requests were answered behind a line, of so many before it
abbrev pub counted_after : ℕ → Result Heard Stop → ℕ
counted_after requests (Ok heard.Answered) = min (requests + 1) (2 ^ 64 - 1)
counted_after requests (Err stop.Quit) = min (requests + 1) (2 ^ 64 - 1)
counted_after requests came = requests

-- a text was put behind what a page held, of which some was written; or the sink took a front of both, and no more
abbrev pub HasPut : {K : Type 0} → (K → Option (List ℕ)) → K → K → List ℕ → List ℕ → List ℕ → Result (Unit {0}) Stop → Type 0
HasPut taken sink sink_then page page_then text (Ok done) = (written : List ℕ) × (taken sink_then ≡ extended (taken sink) written) × (written ++ page_then ≡ page ++ text)
HasPut taken sink sink_then page page_then text (Err (stop.Sink fault)) = TookFront (taken sink) (taken sink_then) (page ++ text)
HasPut taken sink sink_then page page_then text (Err found) = ⊥

module _ {S K : Type 0} (gives : S → Name → Request → Reply → S → Type 0) (stops : S → Name → Request → Why → S → Type 0) (taken : K → Option (List ℕ)) where
  -- a request was answered, and its reply put into the page, or as much of it written as the sink took
  pub record IsAnswered (old new : S) (user : Name) (request : Request) (page page_then : List ℕ) (sink sink_then : K) (result : Result (Unit {0}) Stop) : Type 0 where
    pub reply : Reply
    pub step : gives old user request reply new
    pub page_between : List ℕ
    pub between : K
    pub cleared : IsCleared taken sink between page page_between request
    pub put : HasPut taken between sink_then page_between page_then (reply_text reply) result

  -- it was handed on, and nothing more is answered
  pub record IsStopped (old new : S) (user : Name) (request : Request) (page page_then : List ℕ) (sink sink_then : K) (why : Why) : Type 0 where
    pub stopped : stops old user request why new
    pub cleared : IsCleared taken sink sink_then page page_then request

  -- what was to be written before it couldn't be
  pub record IsUnwritten (old new : S) (page : List ℕ) (sink sink_then : K) : Type 0 where
    pub same : new ≡ old
    pub front : TookFront (taken sink) (taken sink_then) page

  -- what a request that was handed on came to, behind which the session goes on
  abbrev pub IsTaken : S → S → Name → Request → List ℕ → List ℕ → K → K → Result (Unit {0}) Stop → Type 0
  IsTaken old new user request page page_then sink sink_then (Ok done) = IsAnswered old new user request page page_then sink sink_then (Ok done)
  IsTaken old new user request page page_then sink sink_then (Err (stop.Sink fault)) = IsUnwritten old new page sink sink_then ⊎ IsAnswered old new user request page page_then sink sink_then (Err (stop.Sink fault))
  IsTaken old new user request page page_then sink sink_then (Err (stop.Kept why)) = IsStopped old new user request page page_then sink sink_then why
  IsTaken old new user request page page_then sink sink_then (Err found) = ⊥

  -- what any request came to, and who speaks behind it
  abbrev pub HasCome : S → S → Name → Name → Request → Bool → List ℕ → List ℕ → K → K → Result Heard Stop → Type 0
  HasCome old new user then request is_last page page_then sink sink_then (Ok heard.Answered) = IsAnswered old new user request page page_then sink sink_then (Ok tt) × (then ≡ user_after user request.wish) × (is_last ≡ false)
  HasCome old new user then request is_last page page_then sink sink_then (Err stop.Quit) = IsAnswered old new user request page page_then sink sink_then (Ok tt) × (is_last ≡ true)
  HasCome old new user then request is_last page page_then sink sink_then (Err found) = IsTaken old new user request page page_then sink sink_then (Err found)
  HasCome old new user then request is_last page page_then sink sink_then (Ok heard.Nothing) = ⊥

  -- nothing was answered
  pub record IsPassed (old new : S) (user then : Name) (kept : Option Rows) (rows_then : Option Gathering) (line : Line) (page page_then : List ℕ) (sink sink_then : K) : Type 0 where
    pub next : Option Rows
    pub gathered : AreGathered next rows_then
    pub none : CompletesNone kept line next
    pub same : new ≡ old
    pub user_is : then ≡ user
    pub page_is : page_then ≡ page
    pub taken_is : taken sink_then ≡ taken sink

  -- a request was handed on
  pub record HasHandedOn (old new : S) (user then : Name) (kept : Option Rows) (rows_then : Option Gathering) (line : Line) (page page_then : List ℕ) (sink sink_then : K) (result : Result Heard Stop) : Type 0 where
    pub request : Request
    pub completes : Completes kept line request
    pub none_left : rows_then ≡ None
    pub came : HasCome old new user then request (is_end kept line) page page_then sink sink_then result

  abbrev pub IsHeard : S → S → Name → Name → Option Rows → Option Gathering → Line → List ℕ → List ℕ → K → K → Result Heard Stop → Type 0
  IsHeard old new user then kept rows_then line page page_then sink sink_then (Ok heard.Nothing) = IsPassed old new user then kept rows_then line page page_then sink sink_then
  IsHeard old new user then kept rows_then line page page_then sink sink_then (Ok heard.Answered) = HasHandedOn old new user then kept rows_then line page page_then sink sink_then (Ok heard.Answered)
  IsHeard old new user then kept rows_then line page page_then sink sink_then (Err found) = HasHandedOn old new user then kept rows_then line page page_then sink sink_then (Err found)
