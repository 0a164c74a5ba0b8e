-- The steps of a change.
use Rattle.std.specs.Prelude.{ℕ}
use Rattle.plan_schema.specs.Outside.{Rose}
use Rattle.plan_core.specs.State.{State}
use Rattle.plan_book.specs.declared.fault.BookFault.{BookFault}
use Rattle.plan_book.specs.declared.fault.BookFault.TheVariants.{Refused, Memory, Failed}
use Rattle.journal_disk.specs.declared.store.Store.{Store}
use Rattle.kept_book.specs.Kept.{Kept}

-- a book with the store that it is kept on
abbrev pub kept_on : {D : Type 0} → State → Store D → Kept D
kept_on book store = record { book = book; store = store }

-- why an entry wasn't written: there was no memory for its text, or the disk failed
abbrev pub IsNotWritten : ℕ → ℕ → BookFault → Type 0
IsNotWritten before now (Refused point refusal) = ⊥
IsNotWritten before now Memory = Unit {0}
IsNotWritten before now Failed = Rose before now
