-- What `create` and `recover` answer.
use Rattle.std.specs.Prelude.{◌≡◌, ℕ, ◌≤◌, ◌<◌, List, [], length, Some, Result, Ok, Err, IfOk, OnOk}
use Rattle.plan_schema.specs.Outside.{Rose}
use Rattle.plan_schema.specs.declared.limits.TheConstants.{BYTE_LIMIT}
use Rattle.plan_journal.specs.Journal.{AreSound}
use Rattle.journal_disk.specs.Disks.{Moment, Only, Looked, EachMoment}
use Rattle.journal_disk.specs.Stores.{StandsFor, IsFaultyAt, empty_store}
use Rattle.journal_disk.specs.declared.fault.StoreFault.{StoreFault}
use Rattle.journal_disk.specs.declared.fault.StoreFault.TheVariants.{Failed, Form, Large, Memory}
use Rattle.journal_disk.specs.declared.recovered.Recovered.{Recovered}

-- there are no bytes, where the disk tells them
abbrev pub IsEmpty : Moment → Type 0
IsEmpty moment = (bytes : List ℕ) → moment.told ≡ Some bytes → bytes ≡ []

-- a store without entries was made, and is on the disk
abbrev pub IsCreated : Moment → Moment → Type 0
IsCreated old new = (bytes : List ℕ) → old.told ≡ Some bytes → (new.told ≡ Some empty_store) × Only empty_store new

-- what is told of bytes that are read as a store
abbrev pub TellsStore : List ℕ → Result Recovered StoreFault → Type 0
TellsStore bytes (Ok found) = StandsFor bytes found.journal.entries found.end
TellsStore bytes (Err Failed) = ⊥
TellsStore bytes (Err (Form place)) = IsFaultyAt bytes place
TellsStore bytes (Err Large) = ⊥
TellsStore bytes (Err Memory) = Unit {0}

-- what is told of a disk's bytes: more than 1,073,741,824 of them come before a fault of form, and are never read
abbrev pub TellsDisk : List ℕ → Result Recovered StoreFault → Type 0
TellsDisk bytes (Ok found) = (length bytes ≤ BYTE_LIMIT) × StandsFor bytes found.journal.entries found.end
TellsDisk bytes (Err Failed) = Unit {0}
TellsDisk bytes (Err (Form place)) = (length bytes ≤ BYTE_LIMIT) × IsFaultyAt bytes place
TellsDisk bytes (Err Large) = BYTE_LIMIT < length bytes
TellsDisk bytes (Err Memory) = Unit {0}

-- all the bytes of a disk were read, where the disk tells them and they are at most 1,073,741,824
pub record IsReadWhole (old new : Moment) (result : Result (List ℕ) StoreFault) : Type 0 where
  pub whole : (bytes : List ℕ) → old.told ≡ Some bytes → IfOk result (λ read. read ≡ bytes)
  pub large : (bytes : List ℕ) → old.told ≡ Some bytes → result ≡ Err Large → BYTE_LIMIT < length bytes
  pub no_form : (place : ℕ) → result ≡ Err (Form place) → ⊥
  pub fits : IfOk result (λ read. length read ≤ BYTE_LIMIT)
  pub same : Looked old new
  pub later : old.faults ≤ new.faults
  pub failed : result ≡ Err Failed → Rose old.faults new.faults

-- a store was recovered: the answer is what the bytes tell, where the disk tells them, and the entries are sound wherever they are from; the
-- bytes stay, a crash at any moment leaves what it might have left before, and with Ok the bytes alone; the count of faults rose where
-- the disk failed
pub record IsRecovered (old new : Moment) (result : Result Recovered StoreFault) : Type 0 where
  pub tells : (bytes : List ℕ) → old.told ≡ Some bytes → TellsDisk bytes result
  pub sound : IfOk result (λ found. AreSound found.journal.entries)
  pub within : IfOk result (λ found. found.end < BYTE_LIMIT)
  pub told : new.told ≡ old.told
  pub images : (image : List ℕ) → new.images image → old.images image
  pub any_moment : EachMoment old new old.images
  pub durable : OnOk result ((bytes : List ℕ) → old.told ≡ Some bytes → Only bytes new)
  pub later : old.faults ≤ new.faults
  pub failed : result ≡ Err Failed → Rose old.faults new.faults
