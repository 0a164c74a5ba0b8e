-- What serving an input comes to.
use Rattle.std.specs.Prelude.{◌≡◌, ◌⊎◌, ℕ, ◌+◌, ◌≤◌, Bool, true, false, not, ◌&&◌, ◌||◌, nat_lt, List, [], ◌∷◌, ◌++◌, length, take, Option, Some, None, Result, Ok, Err}
use Rattle.std.specs.List.{list_any}
use Rattle.plan_schema.specs.declared.name.Name.{Name}
use Rattle.plan_schema.specs.declared.change.Change.{Change}
use Rattle.plan_schema.specs.Outside.{extended}
use Rattle.plan_schema.specs.declared.limits.TheConstants.{BYTE_LIMIT, LINE_LIMIT}
use Rattle.plan_schema.specs.declared.outside.SinkFault.{SinkFault}
use Rattle.plan_schema.specs.declared.outside.SinkFault.TheVariants as sinks
use Rattle.byte_lines.specs.Lines.{lines_of, lines_from, lines_after}
use Rattle.byte_lines.specs.declared.rounds.Served.{Served}
use Rattle.byte_lines.specs.declared.rounds.Served.TheVariants as ends
use Rattle.command_words.specs.declared.command.Command.TheVariants as commands
use Rattle.command_words.specs.declared.reply.Reply.{Reply}
use Rattle.session_rules.specs.Requests.{Wish, Makes, Asks, Request, requests_of, guest}
use Rattle.request_loop.specs.Exchanges.{Exchange, requests_in, text_of, speaker}
use Rattle.request_loop.specs.Chains.{IsChain}
use Rattle.request_loop.specs.Printed.{IsHeld, IsPrinted}
use Rattle.request_loop.specs.Reading.{Rows, counted_lines, requests_ending, requests_from, whole_requests}
use Rattle.request_loop.specs.Gathered.{AreGathered}
use Rattle.request_loop.specs.declared.gathering.Gathering.{Gathering}
use Rattle.request_loop.specs.declared.answers.Why.{Why}
use Rattle.request_loop.specs.declared.answers.Why.TheVariants as whys
use Rattle.request_loop.specs.declared.hear.Stop.{Stop}
use Rattle.request_loop.specs.declared.hear.Stop.TheVariants as stop

abbrev pub byte_limit : ℕ
byte_limit = BYTE_LIMIT

abbrev pub line_limit : ℕ
line_limit = LINE_LIMIT

-- the lines that end within the limits
unfoldable pub lines_within : List ℕ → List (Option (List ℕ))
lines_within input = take line_limit (lines_from (Some []) (take byte_limit input)).0

abbrev pub is_quit_wish : Wish → Bool
is_quit_wish (Asks commands.Quit) = true
is_quit_wish wish = false

abbrev pub has_quit : List Request → Bool
has_quit requests = list_any (λ request. is_quit_wish request.wish) requests

-- an input is too long: it has more bytes or more lines than it may have, and no QUIT within the limits
unfoldable pub is_past_limit : List ℕ → Bool
is_past_limit input = (nat_lt byte_limit (length input) || nat_lt line_limit (length (lines_of input))) && not (has_quit (requests_from (counted_lines 1 (lines_within input)) None))

-- the whole requests within the limits
abbrev pub heard_within : List ℕ → List Request
heard_within input = whole_requests (counted_lines 1 (lines_within input)) None

-- how a session ends where its sink took no more
abbrev pub sink_end : SinkFault → Served
sink_end sinks.Failed = ends.WriteFault
sink_end sinks.Memory = ends.Memory

abbrev pub why_of : Served → Option Why
why_of ends.BookFault = Some whys.Failed
why_of ends.Worn = Some whys.Worn
why_of served = None

module _ {S : Type 0} (gives : S → Name → Request → Reply → S → Type 0) (stops : S → Name → Request → Why → S → Type 0) where
  -- a whole session
  pub record IsServed (old new : S) (input : List ℕ) (before after : Option (List ℕ)) (count : ℕ) : Type 0 where
    pub log : List Exchange
    pub asked : requests_in log ≡ requests_of input
    pub chain : IsChain gives old guest log new
    pub text : after ≡ extended before (text_of log)
    pub counted : count ≡ length log
    pub within : is_past_limit input ≡ false

  -- the request behind some was handed on, and nothing more is answered: all replies before were written, where it was a change
  pub record HasStopped (old new : S) (log : List Exchange) (requests : List Request) (before after : Option (List ℕ)) (why : Why) : Type 0 where
    pub request : Request
    pub later : List Request
    pub asked : requests ≡ requests_in log ++ request ∷ later
    pub stopped : stops old (speaker guest log) request why new
    pub written : (change : Change) → request.wish ≡ Makes change → after ≡ extended before (text_of log)

  -- a session that may have stopped before its end: the first requests were answered in a chain, and what follows of them was written;
  -- where the input is too long, they are all whole ones within its limits, or the one behind them that stopped it is one of these too
  pub record IsServedShort (old new : S) (input : List ℕ) (before after : Option (List ℕ)) (served : Served) : Type 0 where
    pub log : List Exchange
    pub later : List Request
    pub asked : requests_of input ≡ requests_in log ++ later
    pub last : S
    pub chain : IsChain gives old guest log last
    pub printed : IsPrinted before after log
    pub rest : (new ≡ last) ⊎ ((why : Why) × HasStopped last new log (requests_of input) before after why)
    pub told : (why : Why) → why_of served ≡ Some why → HasStopped last new log (requests_of input) before after why
    pub heard : (why : Why) → why_of served ≡ Some why → is_past_limit input ≡ true → HasStopped last new log (heard_within input) before after why
    pub over : served ≡ ends.Limit → requests_in log ≡ heard_within input

  pub record Serves (old new : S) (input : List ℕ) (before after : Option (List ℕ)) (served : Served) : Type 0 where
    pub whole : (count : ℕ) → served ≡ ends.Ended count → IsServed old new input before after count
    pub short : IsServedShort old new input before after served
    pub limit : served ≡ ends.Limit → is_past_limit input ≡ true

  -- an input was served: the one that the source told, where it tells; else one that begins with what was read
  pub record HasServed (old new : S) (left before after : Option (List ℕ)) (served : Served) : Type 0 where
    pub input : List ℕ
    pub told : (i : List ℕ) → left ≡ Some i → i ≡ input
    pub serves : Serves old new input before after served

  -- line by line: the first lines were read, and these are left; so many requests of them were answered, and none is QUIT
  pub record SoFar (old now : S) (input : List ℕ) (left : List (Option (List ℕ))) (lines requests : ℕ) (user : Name) (rows : Option Gathering) (page : List ℕ) (before taken : Option (List ℕ)) : Type 0 where
    pub read : List (Option (List ℕ))
    pub whole : lines_of input ≡ read ++ left
    pub counted : length read ≡ lines
    pub few : lines ≤ line_limit
    pub log : List Exchange
    pub kept : Option Rows
    pub gathered : AreGathered kept rows
    pub rest : (ending : Option Rows → List Request) (more : List (Option (List ℕ))) → requests_ending ending (counted_lines 1 (read ++ more)) None ≡ requests_in log ++ requests_ending ending (counted_lines (lines + 1) more) kept
    pub no_quit : has_quit (requests_in log) ≡ false
    pub many : length log ≡ requests
    pub few_requests : requests ≤ lines
    pub user_is : user ≡ speaker guest log
    pub chain : IsChain gives old guest log now
    pub held : IsHeld before taken page log

  -- the input is too long: as many lines were read as there may be, and there is one more
  pub record IsOver (old new : S) (input page : List ℕ) (before taken : Option (List ℕ)) : Type 0 where
    pub log : List Exchange
    pub later : List Request
    pub asked : requests_of input ≡ requests_in log ++ later
    pub chain : IsChain gives old guest log new
    pub held : IsHeld before taken page log
    pub read : List (Option (List ℕ))
    pub left : List (Option (List ℕ))
    pub whole : lines_of input ≡ read ++ left
    pub full : length read ≡ line_limit
    pub heard : whole_requests (counted_lines 1 read) None ≡ requests_in log
    pub limit : is_past_limit input ≡ true

  -- the session ended with QUIT, whose reply is in the page
  pub record HasQuit (old new : S) (input : List ℕ) (lines requests : ℕ) (page : List ℕ) (before taken : Option (List ℕ)) : Type 0 where
    pub read : List (Option (List ℕ))
    pub left : List (Option (List ℕ))
    pub whole : lines_of input ≡ read ++ left
    pub counted : length read ≡ lines
    pub few : lines ≤ line_limit
    pub log : List Exchange
    pub all : (more : List (Option (List ℕ))) → requests_from (counted_lines 1 (read ++ more)) None ≡ requests_in log
    pub has : has_quit (requests_in log) ≡ true
    pub many : length log ≡ requests
    pub chain : IsChain gives old guest log new
    pub held : IsHeld before taken page log

  -- a request was handed on, and nothing more is answered; the page holds replies to those before it, but none where it is a change
  pub record IsKeptShort (old new : S) (input page : List ℕ) (before taken : Option (List ℕ)) (why : Why) : Type 0 where
    pub log : List Exchange
    pub request : Request
    pub later : List Request
    pub asked : requests_of input ≡ requests_in log ++ request ∷ later
    pub last : S
    pub chain : IsChain gives old guest log last
    pub stopped : stops last (speaker guest log) request why new
    pub held : IsHeld before taken page log
    pub cleared : (change : Change) → request.wish ≡ Makes change → page ≡ []

  -- it was handed on by the last of so many lines, so it is a whole one, whatever stands behind these
  pub record IsKeptInside (old new : S) (input : List ℕ) (lines : ℕ) (page : List ℕ) (before taken : Option (List ℕ)) (why : Why) : Type 0 where
    pub short : IsKeptShort old new input page before taken why
    pub read : List (Option (List ℕ))
    pub left : List (Option (List ℕ))
    pub whole : lines_of input ≡ read ++ left
    pub counted : length read ≡ lines
    pub few : lines ≤ line_limit
    pub all : (more : List (Option (List ℕ))) → (later : List Request) × (whole_requests (counted_lines 1 (read ++ more)) None ≡ requests_in short.log ++ short.request ∷ later)

  -- it was handed on where all lines were read
  pub record IsKeptLast (old new : S) (input page : List ℕ) (before taken : Option (List ℕ)) (why : Why) : Type 0 where
    pub short : IsKeptShort old new input page before taken why
    pub few : length (lines_of input) ≤ line_limit

  -- what some lines came to
  abbrev pub ServedMore : S → S → List ℕ → List (Option (List ℕ)) → ℕ → ℕ → Name → Option Gathering → List ℕ → Option (List ℕ) → Option (List ℕ) → Result (Unit {0}) Stop → Type 0
  ServedMore old new input left lines requests user rows page before taken (Ok done) = SoFar old new input left lines requests user rows page before taken
  ServedMore old new input left lines requests user rows page before taken (Err stop.Limit) = IsOver old new input page before taken
  ServedMore old new input left lines requests user rows page before taken (Err stop.Quit) = HasQuit old new input lines requests page before taken
  ServedMore old new input left lines requests user rows page before taken (Err (stop.Sink fault)) = IsServedShort old new input before taken ends.WriteFault
  ServedMore old new input left lines requests user rows page before taken (Err (stop.Kept why)) = IsKeptInside old new input lines page before taken why

  -- all requests of the input were answered, so many, and the page holds the last replies
  pub record HasAnswered (old new : S) (input : List ℕ) (requests : ℕ) (page : List ℕ) (before taken : Option (List ℕ)) : Type 0 where
    pub few : length (lines_of input) ≤ line_limit
    pub log : List Exchange
    pub asked : requests_of input ≡ requests_in log
    pub many : length log ≡ requests
    pub chain : IsChain gives old guest log new
    pub held : IsHeld before taken page log

  -- what the lines up to the end came to
  abbrev pub ServedLast : S → S → List ℕ → ℕ → ℕ → Name → List ℕ → Option (List ℕ) → Option (List ℕ) → Result (Unit {0}) Stop → Type 0
  ServedLast old new input lines requests user page before taken (Ok done) = HasAnswered old new input requests page before taken
  ServedLast old new input lines requests user page before taken (Err stop.Limit) = IsOver old new input page before taken
  ServedLast old new input lines requests user page before taken (Err stop.Quit) = HasQuit old new input lines requests page before taken
  ServedLast old new input lines requests user page before taken (Err (stop.Sink fault)) = IsServedShort old new input before taken ends.WriteFault
  ServedLast old new input lines requests user page before taken (Err (stop.Kept why)) = IsKeptLast old new input page before taken why

  -- some bytes of an input were read, and whatever follows them, so many lines of it were served
  pub record Going (old now : S) (lines requests : ℕ) (user : Name) (rows : Option Gathering) (kept : Option (List ℕ)) (page : List ℕ) (room : ℕ) (left_before left before taken : Option (List ℕ)) : Type 0 where
    pub front : List ℕ
    pub bytes : length front + room ≡ byte_limit
    pub kept_is : (lines_from (Some []) front).1 ≡ kept
    pub counted : length (lines_from (Some []) front).0 ≡ lines
    pub told : (i : List ℕ) → left_before ≡ Some i → (rest : List ℕ) × (left ≡ Some rest) × (i ≡ front ++ rest)
    pub so_far : (rest : List ℕ) → SoFar old now (front ++ rest) (lines_after kept rest) lines requests user rows page before taken
