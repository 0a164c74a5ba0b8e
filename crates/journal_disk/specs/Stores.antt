-- What the bytes of a store stand for.
use Rattle.std.specs.Prelude.{◌≡◌, ◌≢◌, ◌⊎◌, ℕ, ◌+◌, true, List, [], ◌∷◌, ◌++◌, length, codes}
use Rattle.std.specs.Int.{w32, to_be_bytes}
use Rattle.plan_schema.specs.declared.change.Entry.{Entry}
use Rattle.plan_schema.specs.Sound.{is_sound_entry}
use Rattle.plan_journal.specs.Journal.{AreSound}
use Rattle.plan_journal.specs.Entries.{entry_text}

-- a store's first bytes
abbrev pub store_head : List ℕ
store_head = codes "PLANSTO1"

-- a store without entries
abbrev pub empty_store : List ℕ
empty_store = store_head ++ 0 ∷ []

-- bytes begin with a block whose gate is open: a byte other than 0, the length of a text in four bytes, the greatest first, and the text
pub record IsBlock (text bytes behind : List ℕ) : Type 0 where
  pub gate : ℕ
  pub open_gate : gate ≢ 0
  pub is : bytes ≡ gate ∷ (to_be_bytes w32 (length text) ++ (text ++ behind))

-- bytes are open blocks of entries, numbered from a number on, and then the rest
abbrev pub AreBlocks : ℕ → List Entry → List ℕ → List ℕ → Type 0
AreBlocks number [] bytes rest = bytes ≡ rest
AreBlocks number (entry ∷ more) bytes rest = (behind : List ℕ) × IsBlock (entry_text number entry) bytes behind × AreBlocks (number + 1) more behind rest

-- bytes are a store's first ones and open blocks of sound entries up to a place, and then the rest
pub record Reaches (bytes : List ℕ) (entries : List Entry) (rest : List ℕ) (place : ℕ) : Type 0 where
  pub sound : AreSound entries
  pub blocks : List ℕ
  pub head : bytes ≡ store_head ++ blocks
  pub blocks_are : AreBlocks 1 entries blocks rest
  pub place_is : place + length rest ≡ length bytes

-- bytes stand for entries: a closed gate, the byte 0, stands behind their blocks, at the end; anything may follow
abbrev pub StandsFor : List ℕ → List Entry → ℕ → Type 0
StandsFor bytes entries end = (behind : List ℕ) × Reaches bytes entries (0 ∷ behind) end

-- no store goes on with these bytes: neither a closed gate stands there, nor the open block of a sound entry with this number
pub record IsBroken (number : ℕ) (rest : List ℕ) : Type 0 where
  pub not_closed : (behind : List ℕ) → rest ≡ 0 ∷ behind → ⊥
  pub not_open : (entry : Entry) (behind : List ℕ) → is_sound_entry entry ≡ true → IsBlock (entry_text number entry) rest behind → ⊥

-- the bytes don't begin as a store does
abbrev pub HasNoHead : List ℕ → Type 0
HasNoHead bytes = (rest : List ℕ) → bytes ≡ store_head ++ rest → ⊥

-- open blocks lead up to a place, with which no store goes on
pub record BreaksAt (bytes : List ℕ) (place : ℕ) : Type 0 where
  pub entries : List Entry
  pub rest : List ℕ
  pub reaches : Reaches bytes entries rest place
  pub broken : IsBroken (length entries + 1) rest

-- the bytes stand for nothing: the fault's place is 0 where they don't begin as a store does, else that of the first gate that is missing, or
-- whose entry isn't whole or isn't the text of a sound entry with its number
abbrev pub IsFaultyAt : List ℕ → ℕ → Type 0
IsFaultyAt bytes place = (HasNoHead bytes × (place ≡ 0)) ⊎ BreaksAt bytes place
