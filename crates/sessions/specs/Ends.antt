-- What the end of a session says of its book, or of its pass.
use Rattle.std.specs.Prelude.{◌≡◌, ℕ, ◌<◌, ◌≤◌, true}
use Rattle.plan_schema.specs.Outside.{Rose}
use Rattle.byte_lines.specs.declared.rounds.Served.{Served}
use Rattle.byte_lines.specs.declared.rounds.Served.TheVariants as ends
use Rattle.turn_table.specs.Story.{Begins}
use Rattle.turn_table.specs.Passes.{is_worn}
use Rattle.plan_book.specs.declared.ground.Ground.{Ground}
use Rattle.plan_office.specs.Turns.{Known}

-- a book keeps what it began with; its count of faults doesn't fall, and a fault of the book is told only where it rose. The meanings of
-- the book come first.
pub record BookEnding {B : Type 0} (faults : B → ℕ) (basis : B → Ground) (book book_then : B) (served : Served) : Type 0 where
  pub kept : basis book_then ≡ basis book
  pub later : faults book ≤ faults book_then
  pub failed : served ≡ ends.BookFault → Rose (faults book) (faults book_then)

-- A pass may be served with as before, and knows what it knew, but for what its turns told and counted: it has seen all that it had, and
-- maybe more. A fault of the book is told only where a turn of the pass was given back as failed, and that the tickets are used up only
-- where those of the pass are.
pub record PassEnding (p q : Known) (served : Served) : Type 0 where
  pub kept : q ≡ record p { seen = q.seen; own = q.own; draws = q.draws; ticket = q.ticket; faults = q.faults }
  pub grows : Begins p.seen q.seen
  pub later : p.faults ≤ q.faults
  pub failed : served ≡ ends.BookFault → p.faults < q.faults
  pub worn : served ≡ ends.Worn → is_worn q ≡ true
