-- An answer that is what the definitions say, but for want of memory.
use Rattle.std.specs.Prelude.{◌≡◌, ◌≢◌, ◌≤◌, ℕ, List, Option, Some, Result, Ok, Err, IfOk, IfErr}
use Rattle.plan_schema.specs.declared.change.Entry.{Entry}
use Rattle.plan_schema.specs.Outside.{Rose}
use Rattle.plan_journal.specs.Held.{Held}
use Rattle.plan_journal.specs.declared.fault.JournalFault.{JournalFault}
use Rattle.plan_journal.specs.declared.fault.JournalFault.TheVariants.{Read, Form, Large, Memory}
use Rattle.plan_journal.specs.Laws.{IsJournal}
use Rattle.plan_journal.specs.Reading.{journal_read}

-- a fault is the one that the definitions give; lines never make the source fail, nor are there too many
abbrev pub TellsFault : Result (List Entry) ℕ → JournalFault → Type 0
TellsFault told Read = ⊥
TellsFault told (Form number) = told ≡ Err number
TellsFault told Large = ⊥
TellsFault told Memory = Unit {0}

-- an answer is the one that the definitions give
abbrev pub Tells : Result (List Entry) ℕ → Result Held JournalFault → Type 0
Tells told (Ok journal) = told ≡ Ok journal.entries
Tells told (Err fault) = TellsFault told fault

-- a journal was read from a source: with Ok its entries, with another fault than that of the source or of memory the first thing that
-- is wrong with the bytes, where the source tells them; what it gives is a journal; the count of faults rose where the source failed,
-- and the source's label stays. The first three arguments are the source's meanings.
pub record JournalRead {S : Type 0} (left : S → Option (List ℕ)) (faults : S → ℕ) (label : S → List ℕ) (old new : S) (result : Result Held JournalFault) : Type 0 where
  pub ok : (before : List ℕ) → left old ≡ Some before → IfOk result (λ journal. journal_read before ≡ Ok journal.entries)
  pub err : (before : List ℕ) → left old ≡ Some before → IfErr result (λ fault. fault ≢ Read → fault ≢ Memory → journal_read before ≡ Err fault)
  pub journal : IfOk result (λ journal. IsJournal journal.entries)
  pub later : faults old ≤ faults new
  pub failed : result ≡ Err Read → Rose (faults old) (faults new)
  pub same : label new ≡ label old
