-- What a session comes to: legal replies to its requests, or a front of their text, and the entries of its accepted changes.
use Rattle.std.specs.Prelude.{◌≡◌, ℕ, ◌+◌, ◌≤◌, Bool, true, false, List, ◌++◌, length, take, Option}
use Rattle.std.specs.List.{flat_map, range_with_len, AllByRecursion}
use Rattle.plan_schema.specs.declared.change.Entry.{Entry}
use Rattle.plan_schema.specs.Contents.{Contents}
use Rattle.plan_schema.specs.Outside.{extended}
use Rattle.byte_lines.specs.declared.rounds.Served.{Served}
use Rattle.byte_lines.specs.declared.rounds.Served.TheVariants as ends
use Rattle.command_words.specs.declared.reply.Reply.{Reply}
use Rattle.command_words.specs.Replies.{reply_text}
use Rattle.plan_book.specs.declared.ground.Ground.{Ground}
use Rattle.plan_book.specs.Books.{Story, history, story_of, point_of}
use Rattle.plan_office.specs.Turns.{Known}
use Rattle.session_rules.specs.Requests.{Request, requests_of, guest}
use Rattle.session_rules.specs.Sessions.{AreReplies, point_after}
use Rattle.session_rules.specs.Runs.{accepted_points, accepted_entries, ArePinned, IsRising}
use Rattle.request_loop.specs.Serving.{is_past_limit}

-- a session: whether it may change anything, the records that its book began with, the entries before the session, and its number
pub record Setting : Type 0 where
  pub may_change : Bool
  pub base : Contents
  pub earlier : List Entry
  pub session : ℕ

-- a session over a book
abbrev pub setting : Bool → ℕ → Ground → Story → Setting
setting may_change session began story = record { may_change = may_change; base = began.base; earlier = history began story; session = session }

-- the numbers of so many entries behind others
abbrev pub numbers_behind : ℕ → ℕ → List ℕ
numbers_behind count more = range_with_len (count + 1) more

-- sessions, by when replies to requests are right ------------------------------------------------------------------------------------

module _ (right : List Request → List Reply → Type 0) where
  -- a whole session: each of its requests, so many, has its reply, and the sink took their text
  pub record IsWhole (input : List ℕ) (before after : Option (List ℕ)) (count : ℕ) : Type 0 where
    pub given : List Reply
    pub answered : right (requests_of input) given
    pub text : after ≡ extended before (flat_map reply_text given)
    pub counted : count ≡ length (requests_of input)
    pub within : is_past_limit input ≡ false

  -- a session that may have stopped: its first requests have their replies, and the sink took their text, but of the last one maybe a
  -- front alone
  pub record IsShort (input : List ℕ) (before after : Option (List ℕ)) : Type 0 where
    pub requests : ℕ
    pub whole : List Reply
    pub last : List Reply
    pub one : length last ≤ 1
    pub answered : right (take requests (requests_of input)) (whole ++ last)
    pub bytes : ℕ
    pub text : after ≡ extended before (flat_map reply_text whole ++ take bytes (flat_map reply_text last))

  -- a session ended: it is whole where it says so, and short else; it tells that the input is too long only where it is
  pub record HasEnded (input : List ℕ) (before after : Option (List ℕ)) (served : Served) : Type 0 where
    pub whole : (count : ℕ) → served ≡ ends.Ended count → IsWhole input before after count
    pub short : IsShort input before after
    pub limit : served ≡ ends.Limit → is_past_limit input ≡ true

-- a session over a book of its own ---------------------------------------------------------------------------------------------------

module _ (s : Setting) where
  -- these are legal replies to these requests at these entries, and the entries past those before the session are those of its
  -- accepted changes, once each and in order, each at its number; and each point that is printed is the number of entries behind its
  -- request, so no reply speaks of what its own session enters later
  pub record HasAnswered (entries : List Entry) (requests : List Request) (given : List Reply) : Type 0 where
    pub legal : AreReplies s.may_change s.base entries s.session (length s.earlier) (length s.earlier) guest requests given
    pub entered : entries ≡ s.earlier ++ accepted_entries s.session guest requests given
    pub numbered : accepted_points requests given ≡ numbers_behind (length s.earlier) (length (accepted_entries s.session guest requests given))
    pub pinned : ArePinned (length s.earlier) requests given

  -- a whole session, one that may have stopped, and how a session ended
  abbrev pub IsServed : List Entry → List ℕ → Option (List ℕ) → Option (List ℕ) → ℕ → Type 0
  IsServed entries input before after count = IsWhole (HasAnswered entries) input before after count

  abbrev pub IsServedShort : List Entry → List ℕ → Option (List ℕ) → Option (List ℕ) → Type 0
  IsServedShort entries input before after = IsShort (HasAnswered entries) input before after

  abbrev pub Serves : List Entry → List ℕ → Option (List ℕ) → Option (List ℕ) → Served → Type 0
  Serves entries input before after served = HasEnded (HasAnswered entries) input before after served

-- a session in turns -----------------------------------------------------------------------------------------------------------------

-- These are legal replies to these requests in what the pass has seen at the end, with any floor that it had seen at the beginning, which
-- no point goes below; no point is above what it has seen at the end. Of the pass's number the accepted changes were entered, once each
-- and in order, and nothing else; their points rise, above all that it had seen at the beginning.
pub record HasAnsweredInTurns (began : Ground) (p q : Known) (requests : List Request) (given : List Reply) : Type 0 where
  pub legal : (floor : ℕ) → floor ≤ point_of began p.seen → AreReplies true began.base (history began q.seen) p.number floor floor guest requests given
  pub below : AllByRecursion (λ reply. point_after 0 reply ≤ point_of began q.seen) given
  pub entered : q.own ≡ p.own ++ story_of (accepted_entries p.number guest requests given)
  pub rises : IsRising (point_of began p.seen) (accepted_points requests given) (point_of began q.seen)

abbrev pub ServesInTurns : Ground → Known → Known → List ℕ → Option (List ℕ) → Option (List ℕ) → Served → Type 0
ServesInTurns began p q input before after served = HasEnded (HasAnsweredInTurns began p q) input before after served
