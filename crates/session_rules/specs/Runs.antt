-- Legal runs: sessions in rounds over one history, behind the entries of earlier runs.
use Rattle.std.specs.Prelude.{◌≡◌, ℕ, true, ◌+◌, ◌<◌, ◌≤◌, ◌&&◌, nat_le, nat_lt, ◌==◌, List, [], ◌∷◌, ◌++◌, length, count_by}
use Rattle.std.specs.List.{flat_map, AllByRecursion}
use Rattle.plan_schema.specs.declared.name.Name.{Name}
use Rattle.plan_schema.specs.declared.change.Entry.{Entry}
use Rattle.plan_schema.specs.Contents.{Contents}
use Rattle.command_words.specs.declared.reply.Reply.{Reply}
use Rattle.command_words.specs.declared.reply.Reply.TheVariants as replies
use Rattle.scenario_rules.specs.Journal.{IsLegal}
use Rattle.session_rules.specs.Requests.{Wish, Makes, Request, requests_of, user_after}
use Rattle.session_rules.specs.Sessions.{IsSession, point_after}

-- what one session was sent and wrote, and its replies
pub record Desk : Type 0 where
  pub input : List ℕ
  pub output : List ℕ
  pub replies_given : List Reply

-- how many entries are of sessions from `first` up to, and without, `end`
abbrev pub entries_of : List Entry → ℕ → ℕ → ℕ
entries_of history first end = count_by (λ entry. nat_le first entry.session && nat_lt entry.session end) history

-- the point of an accepted change
abbrev pub accepted_point : Wish → Reply → List ℕ
accepted_point (Makes change) (replies.Ok point) = point ∷ []
accepted_point wish reply = []

abbrev pub accepted_points : List Request → List Reply → List ℕ
accepted_points (request ∷ requests) (reply ∷ more) = accepted_point request.wish reply ++ accepted_points requests more
accepted_points requests more = []

-- each point that is printed is the number of entries behind its request: so many before the first, and one for each change that was
-- accepted since
abbrev pub ArePinned : ℕ → List Request → List Reply → Type 0
ArePinned count (request ∷ requests) (reply ∷ more) =
    let then = count + length (accepted_point request.wish reply) in (point_after then reply ≡ then) × ArePinned then requests more
ArePinned count requests more = Unit {0}

-- the entry that an accepted change becomes
abbrev pub accepted_entry : ℕ → ℕ → Name → Wish → Reply → List Entry
accepted_entry session line user (Makes change) (replies.Ok point) = record { session = session; line = line; user = user; change = change } ∷ []
accepted_entry session line user wish reply = []

-- the entries of a session's accepted changes, in order; `user` speaks first
abbrev pub accepted_entries : ℕ → Name → List Request → List Reply → List Entry
accepted_entries session user (request ∷ requests) (reply ∷ more) =
    accepted_entry session request.line user request.wish reply ++ accepted_entries session (user_after user request.wish) requests more
accepted_entries session user requests more = []

-- the points of the changes that were accepted at some desks, and in some rounds
abbrev pub accepted_at : List Desk → List ℕ
accepted_at desks = flat_map (λ desk. accepted_points (requests_of desk.input) desk.replies_given) desks

abbrev pub accepted_in : List (List Desk) → List ℕ
accepted_in rounds = flat_map accepted_at rounds

module _ (base : Contents) (history : List Entry) where
  -- a session at a desk is legal, and prints no point above the ceiling
  pub record IsDesk (session floor ceiling : ℕ) (desk : Desk) : Type 0 where
    pub legal : IsSession true base history session floor (requests_of desk.input) desk.replies_given desk.output
    pub below : AllByRecursion (λ reply. point_after 0 reply ≤ ceiling) desk.replies_given

  -- the desks of a round, numbered from `session` on
  abbrev pub AreDesks : ℕ → ℕ → ℕ → List Desk → Type 0
  AreDesks floor ceiling session [] = Unit {0}
  AreDesks floor ceiling session (desk ∷ desks) = IsDesk session floor ceiling desk × AreDesks floor ceiling (session + 1) desks

-- numbers rise, the first of them above `low`, and none is above `high`
abbrev pub IsRising : ℕ → List ℕ → ℕ → Type 0
IsRising low [] high = low ≤ high
IsRising low (n ∷ ns) high = (low < n) × IsRising n ns high

-- a run behind earlier entries: the history is these, and then the entries of the run's own sessions
module _ (base : Contents) (earlier entries : List Entry) where
  -- rounds, the first desk of which has the number `session`: the floor of a round is the number of entries before it, the earlier ones
  -- and those of earlier rounds, and its ceiling that number and the entries of the round itself
  abbrev pub AreRounds : ℕ → List (List Desk) → Type 0
  AreRounds session [] = Unit {0}
  AreRounds session (desks ∷ rounds) =
      AreDesks base (earlier ++ entries) (length earlier + entries_of entries 0 session) (length earlier + entries_of entries 0 (session + length desks)) session desks
      × AreRounds (session + length desks) rounds

  -- a legal run: the history is legal, so is each session, and each entry past the earlier ones is printed by exactly one accepted
  -- change
  pub record IsRun (rounds : List (List Desk)) : Type 0 where
    pub history_is : IsLegal base (earlier ++ entries)
    pub sessions : AreRounds 1 rounds
    pub once : (point : ℕ) → length earlier < point → point ≤ length (earlier ++ entries) → count_by (λ p. p == point) (accepted_in rounds) ≡ 1
