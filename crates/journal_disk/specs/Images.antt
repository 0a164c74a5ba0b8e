-- What a crash may leave of a disk on which a store is kept.
use Rattle.std.specs.Prelude.{◌≡◌, ◌⊎◌, ℕ, ◌+◌, ◌≤◌, true, List, [], ◌∷◌, ◌++◌, length, Some}
use Rattle.std.specs.Int.{w32, to_be_bytes}
use Rattle.plan_schema.specs.declared.change.Entry.{Entry}
use Rattle.plan_schema.specs.declared.limits.TheConstants.{BYTE_LIMIT}
use Rattle.plan_schema.specs.Sound.{is_sound_entry}
use Rattle.plan_journal.specs.Entries.{entry_text}
use Rattle.journal_disk.specs.Disks.{Moment, EachMoment}
use Rattle.journal_disk.specs.Stores.{Reaches, StandsFor}

-- how many bytes the blocks of entries have that are numbered from a number on
abbrev pub block_bytes : ℕ → List Entry → ℕ
block_bytes number [] = 0
block_bytes number (entry ∷ more) = (5 + length (entry_text number entry)) + block_bytes (number + 1) more

-- the place of the closed gate behind entries
unfoldable pub end_behind : List Entry → ℕ
end_behind entries = 8 + block_bytes 1 entries

-- what is written behind a gate: the length of a text, the text, and a closed gate
abbrev pub behind_gate : List ℕ → List ℕ
behind_gate text = to_be_bytes w32 (length text) ++ (text ++ 0 ∷ [])

-- the text of the sound entry that comes next is written behind a gate
pub record IsNext (entries : List Entry) (entry : Entry) (block : List ℕ) : Type 0 where
  pub sound : is_sound_entry entry ≡ true
  pub is : block ≡ behind_gate (entry_text (length entries + 1) entry)

-- an image of entries: bytes that stand for them, and are few enough to be recovered
pub record IsImageOf (entries : List Entry) (image : List ℕ) : Type 0 where
  pub stands : StandsFor image entries (end_behind entries)
  pub fits : length image ≤ BYTE_LIMIT

-- the open blocks of entries, whatever stands behind them
abbrev pub Leads : List Entry → List ℕ → Type 0
Leads entries front = (rest : List ℕ) → Reaches (front ++ rest) entries rest (length front)

-- an image with a gate behind entries, and one more entry and a closed gate behind that: where the first gate is open, it is an image of
-- all, and where it is closed, of the entries but the last
pub record IsGated (entries : List Entry) (entry : Entry) (gate : ℕ) (image : List ℕ) : Type 0 where
  pub front : List ℕ
  pub leads : Leads entries front
  pub sound : is_sound_entry entry ≡ true
  pub behind : List ℕ
  pub is : image ≡ front ++ gate ∷ (behind_gate (entry_text (length entries + 1) entry) ++ behind)
  pub fits : length image ≤ BYTE_LIMIT

-- an image of entries with one more, or without it
abbrev pub IsImageAround : List Entry → Entry → List ℕ → Type 0
IsImageAround entries entry image = IsImageOf entries image ⊎ IsImageOf (entries ++ entry ∷ []) image

-- what a crash may leave has P, where the disk tells its bytes
abbrev pub EachImage : Moment → (List ℕ → Type 0) → Type 0
EachImage moment P = (bytes : List ℕ) → moment.told ≡ Some bytes → (image : List ℕ) → moment.images image → P image

-- what a crash at any moment of a call may leave has P, and the disk still tells its bytes
pub record EachMomentTold (old new : Moment) (P : List ℕ → Type 0) : Type 0 where
  pub moments : EachMoment old new P
  pub bytes : List ℕ
  pub told : new.told ≡ Some bytes

-- the same, where the disk told its bytes before the call
abbrev pub EachTold : Moment → Moment → (List ℕ → Type 0) → Type 0
EachTold old new P = (bytes : List ℕ) → old.told ≡ Some bytes → EachMomentTold old new P

-- entries are on the disk, with the closed gate behind them at a place
pub record IsSettled (moment : Moment) (entries : List Entry) (end : ℕ) : Type 0 where
  pub end_is : end ≡ end_behind entries
  pub images : EachImage moment (IsImageOf entries)

-- entries are on the disk, and one more behind the closed gate at a place
pub record IsBehind (moment : Moment) (entries : List Entry) (entry : Entry) (place : ℕ) : Type 0 where
  pub place_is : place ≡ end_behind entries
  pub images : EachImage moment (IsGated entries entry 0)

-- entries are on the disk, and one more behind a gate at a place, of which isn't known whether it is open
pub record IsDoubted (moment : Moment) (entries : List Entry) (entry : Entry) (place : ℕ) : Type 0 where
  pub place_is : place ≡ end_behind entries
  pub images : EachImage moment (λ image. (gate : ℕ) × IsGated entries entry gate image)
