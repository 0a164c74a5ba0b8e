-- What holds between reading and writing.
use Rattle.std.specs.Prelude.{◌≡◌, ◌<◌, ◌≤◌, ◌^◌, ℕ, List, take, true, false, Ok, decimal}
use Rattle.plan_schema.specs.declared.key.Key.{Key}
use Rattle.plan_schema.specs.declared.key.Key.TheVariants as keys
use Rattle.plan_schema.specs.declared.key.Lot.{Lot}
use Rattle.plan_schema.specs.declared.key.Record.{Record}
use Rattle.plan_schema.specs.Key.{key_eq}
use Rattle.plan_schema.specs.Sound.{is_sound_key, is_sound_lot, is_sound_row}
use Rattle.row_text.specs.Number.{number_of}
use Rattle.row_text.specs.Row.{row_of, key_of, lot_of}
use Rattle.row_text.specs.Spelling.{row_fields, key_fields, lot_text}

-- a sound row is read from the fields in which it is written
abbrev pub RowIsReadAgain : Type 0
RowIsReadAgain = (key : Key) (value : Record) → is_sound_row key value ≡ true → row_of (row_fields key value) ≡ Ok (key, value)

-- a row that is read is sound, and its fields are those in which it is written
abbrev pub RowIsReadAlone : Type 0
RowIsReadAlone = (fields : List (List ℕ)) (row : Key × Record) → row_of fields ≡ Ok row → (fields ≡ row_fields row.0 row.1) × (is_sound_row row.0 row.1 ≡ true)

-- a sound key but the horizon's is read from its key form
abbrev pub KeyIsReadAgain : Type 0
KeyIsReadAgain = (key : Key) → is_sound_key key ≡ true → key_eq key keys.Plan ≡ false → key_of (key_fields key) ≡ Ok key

-- a key that is read is sound and not the horizon's, and its fields are its key form
abbrev pub KeyIsReadAlone : Type 0
KeyIsReadAlone = (fields : List (List ℕ)) (key : Key) → key_of fields ≡ Ok key → (fields ≡ key_fields key) × (is_sound_key key ≡ true) × (key_eq key keys.Plan ≡ false)

abbrev pub LotIsReadAgain : Type 0
LotIsReadAgain = (lot : Lot) → is_sound_lot lot ≡ true → lot_of (lot_text lot) ≡ Ok lot

abbrev pub LotIsReadAlone : Type 0
LotIsReadAlone = (text : List ℕ) (lot : Lot) → lot_of text ≡ Ok lot → (text ≡ lot_text lot) × (is_sound_lot lot ≡ true)

abbrev pub NumberIsReadAgain : Type 0
NumberIsReadAgain = (low high n : ℕ) → high < 2 ^ 64 → low ≤ n → n ≤ high → number_of low high (decimal n) ≡ Ok n

abbrev pub NumberIsReadAlone : Type 0
NumberIsReadAlone = (low high : ℕ) (text : List ℕ) (n : ℕ) → high < 2 ^ 64 → number_of low high text ≡ Ok n → (text ≡ decimal n) × (low ≤ n) × (n ≤ high)

-- what stands behind the first eight fields is not looked at: a row has seven at most, and the first one too many is the fault
abbrev pub FewFieldsTell : Type 0
FewFieldsTell = (m : ℕ) (fields : List (List ℕ)) → 8 ≤ m → (row_of (take m fields) ≡ row_of fields) × (key_of (take m fields) ≡ key_of fields)
