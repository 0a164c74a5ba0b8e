-- What contracts see of a book that is kept on a disk.
use Rattle.std.specs.Prelude.{◌⊎◌, ℕ, List, [], ◌∷◌, ◌++◌, Option}
use Rattle.plan_schema.specs.declared.change.Entry.{Entry}
use Rattle.plan_core.specs.State.{State, history}
use Rattle.plan_book.specs.Books.{Work, Story, story_of, state_by}
use Rattle.plan_book.specs.declared.ground.Ground.{Ground}
use Rattle.journal_disk.specs.Disks.{Moment}
use Rattle.journal_disk.specs.Images.{IsImageOf}
use Rattle.journal_disk.specs.Stored.{Holds, moment_of, IsImageUpTo}
use Rattle.journal_disk.specs.declared.store.Store.{Store}

-- the book, and the store that its entries are on
pub record Kept (D : Type 0) : Type 0 where
  pub book : State
  pub store : Store D

-- the store holds all entries of the book. The disk's meaning comes first.
abbrev pub IsKept : {D : Type 0} → (D → Moment) → State → Store D → Type 0
IsKept moment book store = Holds moment store (history book)

-- its story, what it began with, and its work
abbrev pub story_in : {D : Type 0} → Kept D → Story
story_in kept = story_of kept.book.entries

abbrev pub ground_in : {D : Type 0} → Kept D → Ground
ground_in kept = record { base = kept.book.base; earlier = kept.book.earlier }

abbrev pub work_in : {D : Type 0} → Kept D → Work
work_in kept = record { pairs = kept.book.pairs; most = kept.book.most; tally = kept.book.tally }

-- the same as one value
abbrev pub state_in : {D : Type 0} → Kept D → State
state_in kept = state_by story_in ground_in work_in kept

-- how many calls of its disk failed. The disk's meaning comes first.
abbrev pub faults_in : {D : Type 0} → (D → Moment) → Kept D → ℕ
faults_in moment kept = (moment_of moment kept.store).faults

-- what a crash during a change may leave: an image of the history from before it, or of this and the change's entry; or where the last
-- entry was doubted before, of the history without that
abbrev pub IsImageDuring : List Entry → Option ℕ → Entry → List ℕ → Type 0
IsImageDuring history doubted entry image = IsImageUpTo history doubted image ⊎ IsImageOf (history ++ entry ∷ []) image
