-- What a call of an office comes to: one turn of its pass, in which the book is taken, called once and given back.
use Rattle.std.specs.Prelude.{◌≡◌, ℕ, ◌+◌, ◌^◌, ◌<◌, Bool, true, false, cond, ◌++◌, Some, None, Result, Ok, Err}
use Rattle.plan_schema.specs.declared.change.Entry.{Entry}
use Rattle.turn_table.specs.Story.{past}
use Rattle.turn_table.specs.Passes.{Knowledge, DrawsOne, IsStoryOf, AreFaultsOf, HasOwn, is_worn}
use Rattle.version_rules.specs.Meaning.{meaning_after}
use Rattle.walk_rules.specs.Cells.{Cells, Stands}
use Rattle.plan_core.specs.Holds.{HoldsFor}
use Rattle.plan_book.specs.declared.ground.Ground.{Ground}
use Rattle.plan_book.specs.declared.fault.BookFault.{BookFault}
use Rattle.plan_book.specs.declared.fault.BookFault.TheVariants as books
use Rattle.plan_book.specs.Books.{Story, Work, history, state_by}
use Rattle.plan_office.specs.declared.fault.OfficeFault.{OfficeFault}
use Rattle.plan_office.specs.declared.fault.OfficeFault.TheVariants.{Refused, Memory, Failed, Worn}

-- what a pass knows of a book
abbrev pub Known : Type 0
Known = Knowledge Entry Ground

-- faults ---------------------------------------------------------------------------------------------------------------------------

-- the office's fault that a book's is
abbrev pub fault_for : BookFault → OfficeFault
fault_for (books.Refused point refusal) = Refused point refusal
fault_for books.Memory = Memory
fault_for books.Failed = Failed

module _ {T : Type 0} where
  -- whether a book failed at a call
  abbrev pub has_failed : Result T BookFault → Bool
  has_failed (Err books.Failed) = true
  has_failed answer = false

  -- a book's answer as the office's
  abbrev pub from_book : Result T BookFault → Result T OfficeFault
  from_book (Ok value) = Ok value
  from_book (Err fault) = Err (fault_for fault)

  -- the answer of a call that fails only for want of memory, as a book's
  abbrev pub for_memory : {E : Type 0} → Result T E → Result T BookFault
  for_memory (Ok value) = Ok value
  for_memory (Err fault) = Err books.Memory

-- turns ----------------------------------------------------------------------------------------------------------------------------

-- what a pass knows behind a turn in which the story that it took became the one that it gave back
abbrev pub after_turn : Known → Known → Story → Story → Bool → Known
after_turn p q taken given failed = record p { draws = q.draws; ticket = q.ticket; seen = given; own = p.own ++ past taken given; faults = p.faults + cond failed 1 0; held = None }

-- a pass that got no turn: its tickets are used up, and it knows what it knew
pub record IsWornOut (p q : Known) : Type 0 where
  pub draws : DrawsOne p q
  pub pass : q ≡ record p { draws = q.draws; ticket = q.ticket }
  pub worn : is_worn q ≡ true
  pub own : HasOwn q

-- cells stand at the history that a pass has seen: each is what its version means after it
abbrev pub StandsFor : Known → Cells → Type 0
StandsFor p cells = (began : Ground) → p.basis ≡ Some began → Stands (meaning_after began.base (history began p.seen)) cells

-- the meanings of the book come first
module _ {B : Type 0} (story : B → Story) (faults : B → ℕ) (basis : B → Ground) (work : B → Work) where
  -- One turn of a pass: it took one book and gave another back. The story that it took goes on from all that it had seen, and has of the
  -- numbers that it knows what it knows; and the history that it has seen then is legal.
  pub record IsTurn (p q : Known) (taken given : B) (failed : Bool) : Type 0 where
    pub draws : DrawsOne p q
    pub served : is_worn q ≡ false
    pub story_is : IsStoryOf p (story taken)
    pub faults_are : AreFaultsOf p (faults taken)
    pub basis_is : p.basis ≡ Some (basis taken)
    pub pass : q ≡ after_turn p q (story taken) (story given) failed
    pub own : HasOwn q
    pub holds : HoldsFor (state_by story basis work given)

  -- a turn, failed or not, in which the book came to this
  pub record Turned (p q : Known) (failed : Bool) (came : B → B → Type 0) : Type 0 where
    pub taken : B
    pub given : B
    pub turn : IsTurn p q taken given failed
    pub call : came taken given

  -- A call of an office: it is worn out, or it had a turn, in which the book came to this and answered so. The turn counts as failed
  -- exactly where the book answered that it failed.
  abbrev pub IsCall : {T : Type 0} → Known → Known → (B → B → Result T BookFault → Type 0) → Result T OfficeFault → Type 0
  IsCall p q came (Ok value) = Turned p q false (λ taken given. came taken given (Ok value))
  IsCall p q came (Err (Refused point refusal)) = Turned p q false (λ taken given. came taken given (Err (books.Refused point refusal)))
  IsCall p q came (Err Memory) = Turned p q false (λ taken given. came taken given (Err books.Memory))
  IsCall p q came (Err Failed) = Turned p q true (λ taken given. came taken given (Err books.Failed))
  IsCall p q came (Err Worn) = IsWornOut p q

-- the book that is handed out at the end: its story goes on from all that the pass had seen, and has of each number joined into the pass
-- the entries that are kept for it, of its own number its own, and of no further number any
pub record IsBookOf (p : Known) (began : Ground) (story : Story) (faults : ℕ) : Type 0 where
  pub basis_is : p.basis ≡ Some began
  pub story_is : IsStoryOf p story
  pub faults_are : AreFaultsOf p faults
  pub drawn : p.first + p.draws < 2 ^ 62
