-- What contracts see of a book: the changes that it began with, those of its story, its memo, and how much it did.
use Rattle.std.specs.Prelude.{◌≡◌, ℕ, ◌≤◌, List, ◌++◌, length, map}
use Rattle.plan_schema.specs.declared.name.Name.{Name}
use Rattle.plan_schema.specs.declared.change.Change.{Change}
use Rattle.plan_schema.specs.declared.change.Entry.{Entry}
use Rattle.scenario_rules.specs.World.{World}
use Rattle.scenario_rules.specs.Steps.{world_after}
use Rattle.walk_rules.specs.Memo.{Pairs}
use Rattle.plan_walk.specs.declared.round.Tally.{Tally}
use Rattle.plan_core.specs.State.{State}
use Rattle.plan_book.specs.declared.ground.Ground.{Ground}

-- entries, each with the number of the session that made it
abbrev pub Story : Type 0
Story = List (ℕ × Entry)

-- the entries of a story
abbrev pub entries_in : Story → List Entry
entries_in story = map (λ told. told.1) story

-- entries as a story
abbrev pub story_of : List Entry → Story
story_of entries = map (λ entry. (entry.session, entry)) entries

-- the pairs of a memo with the most recently used first, how many there may be, and how much was done
pub record Work : Type 0 where
  pub pairs : Pairs
  pub most : ℕ
  pub tally : Tally

-- the entry that a change becomes
abbrev pub entry_for : ℕ → ℕ → Name → Change → Entry
entry_for session line user change = record { session = session; line = line; user = user; change = change }

-- all accepted changes of a book, the earlier ones first, the scenarios after them, and how many there are
abbrev pub history : Ground → Story → List Entry
history began story = began.earlier ++ entries_in story

abbrev pub world_of : Ground → Story → World
world_of began story = world_after began.base (history began story)

abbrev pub point_of : Ground → Story → ℕ
point_of began story = length (history began story)

-- a book as one value
abbrev pub state_in : Ground → Story → Work → State
state_in began story work = record {
  base = began.base;
  earlier = began.earlier;
  entries = entries_in story;
  pairs = work.pairs;
  most = work.most;
  tally = work.tally;
}

-- the meanings of the book come first
module _ {B : Type 0} (story : B → Story) where
  abbrev pub state_by : (B → Ground) → (B → Work) → B → State
  state_by basis work book = state_in (basis book) (story book) (work book)

  abbrev pub point_by : (B → Ground) → B → ℕ
  point_by basis book = point_of (basis book) (story book)

  -- nothing was entered: the book keeps what it began with and its story, and its count of faults doesn't fall
  pub record IsSameStory (faults : B → ℕ) (basis : B → Ground) (old new : B) : Type 0 where
    pub kept : basis new ≡ basis old
    pub told : story new ≡ story old
    pub later : faults old ≤ faults new
