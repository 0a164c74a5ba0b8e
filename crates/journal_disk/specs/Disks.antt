-- What the calls of a disk do, and what a crash may leave.
use Rattle.std.specs.Prelude.{◌≡◌, ◌⊎◌, ℕ, ◌+◌, ◌<◌, ◌≤◌, max, List, [], ◌++◌, length, take, drop, Option, Some, Result, Err}
use Rattle.plan_schema.specs.Outside.{Rose}
use Rattle.plan_schema.specs.declared.outside.ShelfFault.{ShelfFault}
use Rattle.plan_schema.specs.declared.outside.ShelfFault.TheVariants as shelves

-- a disk at a moment
pub record Moment : Type 1 where
  -- the bytes that a read gives, where the disk tells
  pub told : Option (List ℕ)
  -- the images: what a crash now may leave
  pub images : List ℕ → Type 0
  -- a number that doesn't fall
  pub time : ℕ
  -- what a crash at some moment from a time on might have left, during a call or between two
  pub since : ℕ → List ℕ → Type 0
  -- how many calls failed; the count never falls
  pub faults : ℕ

-- time goes on: since a time a crash might have left what it might have left before, or what it may leave now
pub record GoesOn (old new : Moment) : Type 0 where
  pub later : old.time ≤ new.time
  pub nothing_else : (time : ℕ) (image : List ℕ) → time ≤ old.time → new.since time image → old.since time image ⊎ new.images image
  pub keeps : (time : ℕ) (image : List ℕ) → time ≤ old.time → old.since time image → new.since time image

-- a call that changes neither the bytes nor what a crash may leave
pub record Looked (old new : Moment) : Type 0 where
  pub told : new.told ≡ old.told
  pub images : (image : List ℕ) → new.images image → old.images image
  pub kept : (image : List ℕ) → old.images image → new.images image
  pub time : GoesOn old new

-- a buffer begins with the first n bytes from a place on; none came only behind the last byte, or into an empty buffer
pub record GaveFrom (rest into : List ℕ) (n : ℕ) : Type 0 where
  pub within : n ≤ length rest
  pub given : take n into ≡ take n rest
  pub end : 0 < length into → n ≡ 0 → rest ≡ []

-- a read gave n bytes: where the disk tells its bytes, the first of those from a place on
pub record Gave (moment : Moment) (place : ℕ) (into : List ℕ) (n : ℕ) : Type 0 where
  pub fits : n ≤ length into
  pub bytes : (bytes : List ℕ) → moment.told ≡ Some bytes → GaveFrom (drop place bytes) into n

-- there are so many bytes, where the disk tells them
abbrev pub HasPlace : Moment → ℕ → Type 0
HasPlace moment place = (bytes : List ℕ) → moment.told ≡ Some bytes → place ≤ length bytes

-- bytes with a piece at a place
abbrev pub with_piece : ℕ → List ℕ → List ℕ → List ℕ
with_piece place piece bytes = take place bytes ++ piece ++ drop (place + length piece) bytes

-- a read gives the piece at its place, and all else as before
abbrev pub IsWritten : ℕ → List ℕ → Moment → Moment → Type 0
IsWritten place piece old new = (bytes : List ℕ) → old.told ≡ Some bytes → new.told ≡ Some (with_piece place piece bytes)

-- any bytes in a range of n bytes and past the old end, the same elsewhere
pub record Torn (place n : ℕ) (old new : List ℕ) : Type 0 where
  pub before : take place new ≡ take place old
  pub after : drop (place + n) new ≡ drop (place + n) old
  pub no_shorter : length old ≤ length new
  pub no_longer : length new ≤ max (length old) (place + n)

-- a write that failed may have written anything in its range
abbrev pub IsTorn : ℕ → ℕ → Moment → Moment → Type 0
IsTorn place n old new = (bytes : List ℕ) → old.told ≡ Some bytes → (now : List ℕ) × (new.told ≡ Some now) × Torn place n bytes now

-- what a crash may leave is what it might have left before, torn in a range
abbrev pub Tears : ℕ → ℕ → Moment → Moment → Type 0
Tears place n old new = (image : List ℕ) → new.images image → (before : List ℕ) × old.images before × Torn place n before image

-- a crash leaves these bytes and nothing else
abbrev pub Only : List ℕ → Moment → Type 0
Only bytes moment = (image : List ℕ) → moment.images image → image ≡ bytes

-- a crash leaves the bytes as they are read
abbrev pub IsOnDisk : Moment → Type 0
IsOnDisk moment = (bytes : List ℕ) → moment.told ≡ Some bytes → Only bytes moment

-- at every moment since old, each image has P
pub record EachMoment (old new : Moment) (P : List ℕ → Type 0) : Type 0 where
  pub later : old.time ≤ new.time
  pub each : (image : List ℕ) → new.since old.time image → P image
  -- for a run that began earlier
  pub before : (time : ℕ) (image : List ℕ) → time ≤ old.time → new.since time image → old.since time image ⊎ P image

-- a shelf's count of faults doesn't fall, and rose where a disk couldn't be opened
pub record OpenedCause {T : Type 0} (before now : ℕ) (result : Result T ShelfFault) : Type 0 where
  pub later : before ≤ now
  pub failed : result ≡ Err shelves.Failed → Rose before now
