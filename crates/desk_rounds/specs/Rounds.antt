-- Rounds of desks at one office: what each desk's session says of its pass, and what all of them come to.
use Rattle.std.specs.Prelude.{◌≡◌, ℕ, true, ◌+◌, ◌≤◌, List, [], ◌∷◌, length, map, Some}
use Rattle.std.specs.List.{flat_map, AllByRecursion}
use Rattle.byte_lines.specs.declared.rounds.Served.TheVariants as ends
use Rattle.command_words.specs.declared.reply.Reply.{Reply}
use Rattle.command_words.specs.Replies.{reply_text}
use Rattle.scenario_rules.specs.Journal.{IsLegal}
use Rattle.session_rules.specs.Requests.{requests_of, guest}
use Rattle.session_rules.specs.Sessions.{AreReplies, point_after}
use Rattle.session_rules.specs.Runs.{Desk, accepted_points, accepted_entries, IsRising, IsRun}
use Rattle.turn_table.specs.Story as story
use Rattle.turn_table.specs.Story.{Begins}
use Rattle.turn_table.specs.Passes.{HasOwn}
use Rattle.plan_book.specs.declared.ground.Ground.{Ground}
use Rattle.plan_book.specs.Books.{Story, history, entries_in, story_of, point_of}
use Rattle.plan_office.specs.Turns.{Known}
use Rattle.sessions.specs.Serving.{ServesInTurns}

-- a desk that was served, with the story that its pass had seen before and has seen since
pub record Place : Type 0 where
  pub desk : Desk
  pub seen : Story
  pub then : Story

abbrev pub desks_of : List Place → List Desk
desks_of places = map (λ place. place.desk) places

module _ (began : Ground) where
  -- What serving says of a desk whose pass has this number: the pass saw more; the replies are legal in what it has seen since, with any
  -- floor that is no higher than what it had seen before; the entries of its number in this are those of the accepted changes, in
  -- order; and the points of these rise, above what it had seen before.
  pub record IsPlaceServed (number : ℕ) (place : Place) : Type 0 where
    pub grows : Begins place.seen place.then
    pub legal : (floor : ℕ) → floor ≤ point_of began place.seen → AreReplies true began.base (history began place.then) number floor floor guest (requests_of place.desk.input) place.desk.replies_given
    pub text : place.desk.output ≡ flat_map reply_text place.desk.replies_given
    pub fresh : story.entries_of number place.seen ≡ []
    pub made : story.entries_of number place.then ≡ story_of (accepted_entries number guest (requests_of place.desk.input) place.desk.replies_given)
    pub rises : IsRising (point_of began place.seen) (accepted_points (requests_of place.desk.input) place.desk.replies_given) (point_of began place.then)
    pub below : AllByRecursion (λ reply. point_after 0 reply ≤ point_of began place.then) place.desk.replies_given

  -- a place of a round: its pass had seen all that the main pass had before the round, and the main pass has seen since what it has
  pub record IsPlace (number : ℕ) (before after : Story) (place : Place) : Type 0 where
    pub served : IsPlaceServed number place
    pub starts : Begins before place.seen
    pub ends : Begins place.then after

  abbrev pub ArePlaces : ℕ → Story → Story → List Place → Type 0
  ArePlaces number before after [] = Unit {0}
  ArePlaces number before after (place ∷ places) = IsPlace number before after place × ArePlaces (number + 1) before after places

  -- rounds, before the first of which the main pass had seen this, and behind the last of which the story is that
  abbrev pub AreServed : ℕ → Story → List (List Place) → Story → Type 0
  AreServed number before [] whole = Begins before whole
  AreServed number before (places ∷ rounds) whole = (after : Story) × Begins before after × ArePlaces number before after places × AreServed (number + length places) after rounds whole

  -- in the whole story the entries of each number are those that its pass knew of
  abbrev pub AreKeptOf : Story → ℕ → List Place → Type 0
  AreKeptOf whole number [] = Unit {0}
  AreKeptOf whole number (place ∷ places) = (story.entries_of number whole ≡ story.entries_of number place.then) × AreKeptOf whole (number + 1) places

  abbrev pub AreKeptIn : Story → ℕ → List (List Place) → Type 0
  AreKeptIn whole number [] = (k : ℕ) → number ≤ k → story.entries_of k whole ≡ []
  AreKeptIn whole number (places ∷ rounds) = AreKeptOf whole number places × AreKeptIn whole (number + length places) rounds

-- the law: rounds that were served, over a story whose entries are theirs, are a legal run
abbrev pub RoundsAreLegal : Type 0
RoundsAreLegal = (began : Ground) (whole : Story) (rounds : List (List Place)) → AreServed began 1 [] rounds whole → AreKeptIn began whole 1 rounds → story.entries_of 0 whole ≡ []
    → IsLegal began.base (history began whole) → IsRun began.base began.earlier (entries_in whole) (map desks_of rounds)

-- the law: a desk that was served to its end with a pass that had entered nothing yet is a place of a round
abbrev pub DesksArePlaces : Type 0
DesksArePlaces = (began : Ground) (p q : Known) (input output : List ℕ) (count : ℕ) → HasOwn p → p.own ≡ [] → HasOwn q → q.number ≡ p.number → Begins p.seen q.seen
    → ServesInTurns began p q input (Some []) (Some output) (ends.Ended count)
    → (given : List Reply) × IsPlaceServed began p.number (record { desk = record { input = input; output = output; replies_given = given }; seen = p.seen; then = q.seen })
