-- What sources give, sinks take and shelves hold.
use Rattle.std.specs.Prelude.{◌≡◌, ◌≢◌, ◌⊎◌, ℕ, ◌+◌, ◌-◌, ◌^◌, ◌<◌, ◌≤◌, List, [], ◌++◌, length, take, drop, min, Option, Some, None, option_map, Result, Ok, Err, OnOk, OnErr}
use Rattle.plan_schema.specs.declared.outside.Failed.{Failed}
use Rattle.plan_schema.specs.declared.outside.SinkFault.{SinkFault}
use Rattle.plan_schema.specs.declared.outside.SinkFault.TheVariants as sinks
use Rattle.plan_schema.specs.declared.outside.ShelfFault.{ShelfFault}
use Rattle.plan_schema.specs.declared.outside.ShelfFault.TheVariants as shelves

-- a count rose, or stands at the last value that 64 bits hold
abbrev pub Rose : ℕ → ℕ → Type 0
Rose before now = min (before + 1) (2 ^ 64 - 1) ≤ now

-- a count grew by so much, or stands at the last value that 64 bits hold
pub record GrewBy (before more now : ℕ) : Type 0 where
  pub later : before ≤ now
  pub most : now ≤ before + more
  pub least : min (before + more) (2 ^ 64 - 1) ≤ now

-- sources --------------------------------------------------------------------------------------------------------------

-- the first n bytes that were left came into the buffer; none came only at the end, or into an empty buffer
pub record GaveFront (before : List ℕ) (after : Option (List ℕ)) (into : List ℕ) (n : ℕ) : Type 0 where
  pub within : n ≤ length before
  pub rest : after ≡ Some (drop n before)
  pub given : take n into ≡ take n before
  pub end : 0 < length into → n ≡ 0 → before ≡ []

-- the same, where the source tells what is left
abbrev pub Gave : Option (List ℕ) → Option (List ℕ) → List ℕ → ℕ → Type 0
Gave None after into n = after ≡ None
Gave (Some before) after into n = GaveFront before after into n

-- what a failed read leaves: some last bytes of what was left, maybe all
abbrev pub LeavesEnd : Option (List ℕ) → Option (List ℕ) → Type 0
LeavesEnd None after = after ≡ None
LeavesEnd (Some before) after = (gone : ℕ) × (gone ≤ length before) × (after ≡ Some (drop gone before))

-- a read gives the first bytes that are left, as many as it says and the buffer holds; a failed one gives nothing, and may lose some
abbrev pub Gives : Option (List ℕ) → Option (List ℕ) → List ℕ → Result ℕ Failed → Type 0
Gives before after into (Ok n) = (n ≤ length into) × Gave before after into n
Gives before after into (Err fault) = LeavesEnd before after

-- a source's count of faults doesn't fall, and rose where a read failed
pub record ReadCause {T : Type 0} (before now : ℕ) (result : Result T Failed) : Type 0 where
  pub later : before ≤ now
  pub failed : OnErr result (Rose before now)

-- sinks ----------------------------------------------------------------------------------------------------------------

-- what has been taken, and then these bytes
abbrev pub extended : Option (List ℕ) → List ℕ → Option (List ℕ)
extended taken bytes = option_map (λ before. before ++ bytes) taken

-- a write takes the first bytes of the piece, as many as it says, at least one where there are any; a failed one takes nothing
abbrev pub Takes : Option (List ℕ) → Option (List ℕ) → List ℕ → Result ℕ SinkFault → Type 0
Takes before after piece (Ok n) = (n ≤ length piece) × (0 < length piece → 0 < n) × (after ≡ extended before (take n piece))
Takes before after piece (Err fault) = after ≡ before

-- a sink's count of faults doesn't fall, and rose where the sink failed
pub record WriteCause {T : Type 0} (before now : ℕ) (result : Result T SinkFault) : Type 0 where
  pub later : before ≤ now
  pub failed : result ≡ Err sinks.Failed → Rose before now

-- some first bytes of a text were taken
pub record TookFront (before after : Option (List ℕ)) (text : List ℕ) : Type 0 where
  pub count : ℕ
  pub within : count ≤ length text
  pub front : after ≡ extended before (take count text)

-- a writer wrote a text: with Ok all of it was taken, else a front of it; the count of faults rose where the sink failed; the
-- sink's label stays. The first three arguments are the sink's meanings: what it has taken, its count of faults and its label.
pub record Wrote {S T : Type 0} (taken : S → Option (List ℕ)) (faults : S → ℕ) (label : S → List ℕ) (old new : S) (text : List ℕ) (result : Result T SinkFault) : Type 0 where
  pub ok : OnOk result (taken new ≡ extended (taken old) text)
  pub err : OnErr result (TookFront (taken old) (taken new) text)
  pub cause : WriteCause (faults old) (faults new) result
  pub same : label new ≡ label old

-- shelves --------------------------------------------------------------------------------------------------------------

-- a meaning of a shelf stays for each name but one
abbrev pub StaysBut : {A : Type 0} → List ℕ → (List ℕ → A) → (List ℕ → A) → Type 0
StaysBut name before after = (other : List ℕ) → other ≢ name → after other ≡ before other

-- a meaning of a shelf stays for each name
abbrev pub Stays : {A : Type 0} → (List ℕ → A) → (List ℕ → A) → Type 0
Stays before after = (name : List ℕ) → after name ≡ before name

-- opening counts no fault but its own name's, and one more where the shelf failed
pub record OpenCause {T : Type 0} (name : List ℕ) (before now : List ℕ → ℕ) (result : Result T ShelfFault) : Type 0 where
  pub later : before name ≤ now name
  pub failed : result ≡ Err shelves.Failed → Rose (before name) (now name)
  pub others : (other : List ℕ) → other ≢ name → now other ≡ before other

-- what a name holds after an output was begun under it: what it held, or nothing
abbrev pub IsKeptOrEmpty : Option (List ℕ) → Option (List ℕ) → Type 0
IsKeptOrEmpty before now = (now ≡ before) ⊎ (now ≡ Some [])

-- a part was given back: its faults were counted under its name, and no other count changed
pub record Counted (name : List ℕ) (more : ℕ) (before now : List ℕ → ℕ) : Type 0 where
  pub here : GrewBy (before name) more (now name)
  pub others : (other : List ℕ) → other ≢ name → now other ≡ before other
