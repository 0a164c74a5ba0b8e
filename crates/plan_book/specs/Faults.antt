-- Faults of a book in memory.
use Rattle.std.specs.Prelude.{ℕ, Result, Ok, Err}
use Rattle.walk_names.specs.declared.trouble.Trouble.{Trouble}
use Rattle.walk_names.specs.declared.trouble.Trouble.TheVariants as troubles
use Rattle.plan_book.specs.declared.fault.BookFault.{BookFault}
use Rattle.plan_book.specs.declared.fault.BookFault.TheVariants.{Refused, Memory}

-- the fault that a core's trouble is
abbrev pub fault_for : Trouble → BookFault
fault_for (troubles.Refused point refusal) = Refused point refusal
fault_for troubles.Memory = Memory

-- the answer to a change where a core answers so
abbrev pub book_answer : Result ℕ Trouble → Result ℕ BookFault
book_answer (Ok number) = Ok number
book_answer (Err trouble) = Err (fault_for trouble)
