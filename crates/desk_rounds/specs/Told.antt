-- What rounds that were run come to, where their sources and sinks tell what they hold: a legal run, or one that was cut short.
use Rattle.std.specs.Prelude.{◌≡◌, ℕ, ◌+◌, ◌≤◌, ◌==◌, ◌⊎◌, true, false, List, [], ◌∷◌, ◌++◌, length, take, filter, map, Option, Some, IsSome}
use Rattle.std.specs.List.{flat_map, AllByRecursion}
use Rattle.plan_schema.specs.declared.change.Entry.{Entry}
use Rattle.plan_schema.specs.Contents.{Contents}
use Rattle.byte_lines.specs.declared.rounds.Desk.{Desk as Served}
use Rattle.byte_lines.specs.Desks.{all_desks}
use Rattle.command_words.specs.declared.reply.Reply.{Reply}
use Rattle.command_words.specs.Replies.{reply_text}
use Rattle.scenario_rules.specs.Journal.{IsLegal}
use Rattle.session_rules.specs.Requests.{requests_of, guest}
use Rattle.session_rules.specs.Sessions.{AreReplies, point_after}
use Rattle.session_rules.specs.Runs.{Desk, IsRun, accepted_entries, entries_of}
use Rattle.request_loop.specs.Serving.{is_past_limit}
use Rattle.turn_table.specs.Passes.{IsStoryOf}
use Rattle.plan_book.specs.declared.ground.Ground.{Ground}
use Rattle.plan_book.specs.Books.{Story, history, entries_in}
use Rattle.plan_office.specs.Turns.{Known}
use Rattle.plan_schema.specs.Outside.{Rose}
use Rattle.desk_rounds.specs.RoundsRun.{all_ended, is_wanting}
use Rattle.desk_rounds.specs.Three.{EachThree}

-- a session that may have stopped: what it was sent and what it wrote, the replies to its first requests, so many, and a last one, of
-- whose text the output may have a front alone
pub record Spoken : Type 0 where
  pub input : List ℕ
  pub output : List ℕ
  pub requests : ℕ
  pub whole : List Reply
  pub last : List Reply

-- the replies are legal in the history of a run behind earlier entries, with the floor of their round; no point of theirs is above its
-- ceiling; and the entries of the session are those of its accepted changes, once each and in order
pub record IsSpoken (base : Contents) (earlier entries : List Entry) (session floor ceiling : ℕ) (spoken : Spoken) : Type 0 where
  pub one : length spoken.last ≤ 1
  pub legal : AreReplies true base (earlier ++ entries) session floor floor guest (take spoken.requests (requests_of spoken.input)) (spoken.whole ++ spoken.last)
  pub below : AllByRecursion (λ reply. point_after 0 reply ≤ ceiling) (spoken.whole ++ spoken.last)
  pub entered : filter (λ entry. entry.session == session) entries ≡ accepted_entries session guest (take spoken.requests (requests_of spoken.input)) (spoken.whole ++ spoken.last)
  pub bytes : ℕ
  pub text : spoken.output ≡ flat_map reply_text spoken.whole ++ take bytes (flat_map reply_text spoken.last)

-- each of its requests has its reply, whole
pub record IsWholly (spoken : Spoken) : Type 0 where
  pub all : length (requests_of spoken.input) ≤ spoken.requests
  pub no_part : spoken.last ≡ []
  pub within : is_past_limit spoken.input ≡ false

module _ (base : Contents) (earlier entries : List Entry) where
  abbrev pub AreSpokenAt : ℕ → ℕ → ℕ → List Spoken → Type 0
  AreSpokenAt floor ceiling session [] = Unit {0}
  AreSpokenAt floor ceiling session (spoken ∷ more) = IsSpoken base earlier entries session floor ceiling spoken × AreSpokenAt floor ceiling (session + 1) more

  -- Rounds that were cut short, the first desk of which has this number: all sessions of the rounds before the last are whole, those of
  -- the last one may have stopped, and of further rounds, which weren't begun, nothing was written.
  abbrev pub AreCutRounds : ℕ → List (List Spoken) → Type 0
  AreCutRounds session [] = Unit {0}
  AreCutRounds session (round ∷ rounds) =
      AreSpokenAt (length earlier + entries_of entries 0 session) (length earlier + entries_of entries 0 (session + length round)) session round
      × ((AllByRecursion IsWholly round × AreCutRounds (session + length round) rounds) ⊎ AllByRecursion (λ later. AllByRecursion (λ (spoken : Spoken). spoken.output ≡ []) later) rounds)

-- the meanings of sources and of sinks
module _ {S K : Type 0} (left : S → Option (List ℕ)) (taken : K → Option (List ℕ)) where
  -- a source tells what it has, and a sink that it has taken nothing yet
  abbrev pub IsTelling : Served S K → Type 0
  IsTelling desk = IsSome (left desk.source) × (taken desk.sink ≡ Some [])

  -- each desk was sent what its source had left, and wrote what its sink has taken
  abbrev pub Hold : List (Served S K) → List (Served S K) → (inputs outputs : List (List ℕ)) → Type 0
  Hold [] [] [] [] = Unit {0}
  Hold (old ∷ olds) (new ∷ news) (input ∷ inputs) (output ∷ outputs) = (left old.source ≡ Some input) × (taken new.sink ≡ Some output) × Hold olds news inputs outputs
  Hold olds news inputs outputs = ⊥

  -- Rounds behind which a pass may hand its book out: over each story that the book may have, whose history is legal, they are a legal run
  -- where all sessions ended.
  abbrev pub AreLegalIn : Known → List (List (Served S K)) → List (List (Served S K)) → Type 0
  AreLegalIn q olds news = (began : Ground) (story : Story) → q.basis ≡ Some began → IsStoryOf q story → IsLegal began.base (history began story)
      → AllByRecursion IsTelling (all_desks olds) → AllByRecursion (λ round. all_ended round ≡ true) news
      → (rounds : List (List Desk)) × Hold (all_desks olds) (all_desks news) (map (λ desk. desk.input) (all_desks rounds)) (map (λ desk. desk.output) (all_desks rounds))
      × (map length rounds ≡ map length olds) × IsRun began.base began.earlier (entries_in story) rounds × AllByRecursion (λ (desk : Desk). is_past_limit desk.input ≡ false) (all_desks rounds)

  -- their counts of faults
  module _ (reads : S → ℕ) (writes : K → ℕ) where
    -- a session met no fault: no read of its input and no write of its output failed, its input isn't too long, and neither memory nor turns
    -- nor what keeps the changes were wanting
    pub record IsUnhurt (old new : Served S K) (spoken : Spoken) : Type 0 where
      pub read : Rose (reads old.source) (reads new.source) → ⊥
      pub written : Rose (writes old.sink) (writes new.sink) → ⊥
      pub within : is_past_limit spoken.input ≡ false
      pub not_wanting : is_wanting new.served ≡ false

    -- a session that met none is whole: in the first round, and in each behind rounds whose sessions all met none
    abbrev pub AreWholeUnhurt : List (List (Served S K)) → List (List (Served S K)) → List (List Spoken) → Type 0
    AreWholeUnhurt [] [] [] = Unit {0}
    AreWholeUnhurt (old ∷ olds) (new ∷ news) (round ∷ rounds) =
        EachThree (λ desk then spoken. IsUnhurt desk then spoken → IsWholly spoken) old new round
        × (EachThree IsUnhurt old new round → AreWholeUnhurt olds news rounds)
    AreWholeUnhurt olds news rounds = ⊥

    -- and a run that was cut short, whether or not all sessions ended
    abbrev pub AreCutIn : Known → List (List (Served S K)) → List (List (Served S K)) → Type 0
    AreCutIn q olds news = (began : Ground) (story : Story) → q.basis ≡ Some began → IsStoryOf q story → IsLegal began.base (history began story)
        → AllByRecursion IsTelling (all_desks olds)
        → (rounds : List (List Spoken)) × Hold (all_desks olds) (all_desks news) (map (λ spoken. spoken.input) (all_desks rounds)) (map (λ spoken. spoken.output) (all_desks rounds))
        × (map length rounds ≡ map length olds) × AreCutRounds began.base began.earlier (entries_in story) 1 rounds × AreWholeUnhurt olds news rounds
