-- A book that stands at a point of a journal.
use Rattle.std.specs.Prelude.{◌≡◌, ℕ, ◌≤◌, List, length, take}
use Rattle.plan_schema.specs.declared.change.Entry.{Entry}
use Rattle.plan_schema.specs.Contents.{Contents}
use Rattle.plan_core.specs.State.{State, history}

-- the book began with these records, and has the first entries of these, so many
pub record StandsAt (base : Contents) (entries : List Entry) (book : State) (point : ℕ) : Type 0 where
  pub began : book.base ≡ base
  pub entered : history book ≡ take point entries
  pub within : point ≤ length entries

-- it stands at some point, no further than this one
pub record IsOnTheWay (base : Contents) (entries : List Entry) (point : ℕ) (book : State) : Type 0 where
  pub at : ℕ
  pub stands : StandsAt base entries book at
  pub before : at ≤ point
