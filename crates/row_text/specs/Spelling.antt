-- The one spelling of each row: its table word and its fields, parted by single spaces.
use Rattle.std.specs.Prelude.{ℕ, Bool, false, slice_index_or, List, [], ◌∷◌, ◌++◌, Option, Some, None, if◌then◌else◌, codes, decimal}
use Rattle.std.specs.List.{flat_map}
use Rattle.plan_schema.specs.declared.key.Lot.{Lot}
use Rattle.plan_schema.specs.declared.key.Lot.TheVariants.{Exact, Fixed, Least, Period, Best}
use Rattle.plan_schema.specs.declared.key.Key.{Key}
use Rattle.plan_schema.specs.declared.key.Key.TheVariants as keys
use Rattle.plan_schema.specs.declared.key.Span.{Span}
use Rattle.plan_schema.specs.declared.key.Record.{Record}
use Rattle.plan_schema.specs.declared.key.Record.TheVariants as records
use Rattle.plan_schema.specs.Day.{day_text}

-- words behind others, each behind a space
abbrev pub spaced : List (List ℕ) → List ℕ
spaced words = flat_map (λ word. 32 ∷ word) words

-- words parted by single spaces
abbrev pub words_text : List (List ℕ) → List ℕ
words_text [] = []
words_text (word ∷ words) = word ++ spaced words

-- `L4L`, `FOQ:q`, `MM:least:step`, `POQ:days` or `WW:setup:hold`
unfoldable pub lot_text : Lot → List ℕ
lot_text Exact = codes "L4L"
lot_text (Fixed q) = codes "FOQ:" ++ decimal q
lot_text (Least least step) = codes "MM:" ++ decimal least ++ 58 ∷ decimal step
lot_text (Period p) = codes "POQ:" ++ decimal p
lot_text (Best setup hold) = codes "WW:" ++ decimal setup ++ 58 ∷ decimal hold

-- a calendar's name, or `-` for none
unfoldable pub calendar_text : Option (List ℕ) → List ℕ
calendar_text None = codes "-"
calendar_text (Some name) = name

-- `1` for a weekday that works, `0` for one that doesn't
abbrev pub mark : Bool → ℕ
mark works = if works then 49 else 48

unfoldable pub week_text : List Bool → List ℕ
week_text week =
    mark (slice_index_or week 0 false) ∷ mark (slice_index_or week 1 false) ∷ mark (slice_index_or week 2 false)
    ∷ mark (slice_index_or week 3 false) ∷ mark (slice_index_or week 4 false) ∷ mark (slice_index_or week 5 false)
    ∷ mark (slice_index_or week 6 false) ∷ []

-- the days of a span, where there is one
unfoldable pub span_fields : Option Span → List (List ℕ)
span_fields None = []
span_fields (Some span) = day_text span.from ∷ day_text span.to ∷ []

-- the table word, and the fields of a key
unfoldable pub key_fields : Key → List (List ℕ)
key_fields keys.Plan = codes "PLAN" ∷ []
key_fields (keys.Cal name) = codes "CAL" ∷ name ∷ []
key_fields (keys.Holiday name day) = codes "HOLIDAY" ∷ name ∷ day_text day ∷ []
key_fields (keys.Part name) = codes "PART" ∷ name ∷ []
key_fields (keys.Stock part) = codes "STOCK" ∷ part ∷ []
key_fields (keys.Demand part order) = codes "DEMAND" ∷ part ∷ order ∷ []
key_fields (keys.Receipt part order) = codes "RECEIPT" ∷ part ∷ order ∷ []
key_fields (keys.Bill parent component) = codes "BILL" ∷ parent ∷ component ∷ []

-- the fields of a record
unfoldable pub record_fields : Record → List (List ℕ)
record_fields (records.Plan start days) = day_text start ∷ decimal days ∷ []
record_fields (records.Cal week) = week_text week ∷ []
record_fields records.Holiday = []
record_fields (records.Part lead lot safety calendar) = decimal lead ∷ lot_text lot ∷ decimal safety ∷ calendar_text calendar ∷ []
record_fields (records.Stock qty) = decimal qty ∷ []
record_fields (records.Demand day qty) = day_text day ∷ decimal qty ∷ []
record_fields (records.Receipt day qty) = day_text day ∷ decimal qty ∷ []
record_fields (records.Bill per span) = decimal per ∷ span_fields span

-- the fields of a row, and its text; the same of its key form
unfoldable pub row_fields : Key → Record → List (List ℕ)
row_fields key record_ = key_fields key ++ record_fields record_

unfoldable pub row_text : Key → Record → List ℕ
row_text key record_ = words_text (row_fields key record_)

unfoldable pub key_text : Key → List ℕ
key_text key = words_text (key_fields key)
