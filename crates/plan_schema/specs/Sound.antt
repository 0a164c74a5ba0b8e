-- Which keys, rows and changes are sound: those that the grammar of rows and commands can spell.
use Rattle.std.specs.Prelude.{ℕ, ◌+◌, Bool, true, false, not, ◌&&◌, ◌==◌, nat_le, List, length, Option, Some, None}
use Rattle.std.specs.List.{list_all}
use Rattle.plan_schema.specs.declared.key.Key.{Key}
use Rattle.plan_schema.specs.declared.key.Key.TheVariants as keys
use Rattle.plan_schema.specs.declared.key.Lot.{Lot}
use Rattle.plan_schema.specs.declared.key.Lot.TheVariants.{Exact, Fixed, Least, Period, Best}
use Rattle.plan_schema.specs.declared.key.Span.{Span}
use Rattle.plan_schema.specs.declared.key.Record.{Record}
use Rattle.plan_schema.specs.declared.key.Record.TheVariants as records
use Rattle.plan_schema.specs.declared.change.Change.{Change}
use Rattle.plan_schema.specs.declared.change.Change.TheVariants as changes
use Rattle.plan_schema.specs.declared.change.Entry.{Entry}
use Rattle.plan_schema.specs.Name.{is_name}
use Rattle.plan_schema.specs.Day.{is_day}
use Rattle.plan_schema.specs.Key.{name_eq, key_eq}
use Rattle.plan_schema.specs.declared.limits.TheConstants.{LOAD_LIMIT, SESSION_LIMIT, LINE_LIMIT}

-- the names in a key are names, and its days are days
abbrev pub key_has_names : Key → Bool
key_has_names keys.Plan = true
key_has_names (keys.Cal name) = is_name name
key_has_names (keys.Holiday name day) = is_name name && is_day day
key_has_names (keys.Part name) = is_name name
key_has_names (keys.Stock part) = is_name part
key_has_names (keys.Demand part order) = is_name part && is_name order
key_has_names (keys.Receipt part order) = is_name part && is_name order
key_has_names (keys.Bill parent component) = is_name parent && is_name component

abbrev pub calendar_is_name : Option (List ℕ) → Bool
calendar_is_name None = true
calendar_is_name (Some name) = is_name name

abbrev pub span_has_days : Option Span → Bool
span_has_days None = true
span_has_days (Some span) = is_day span.from && is_day span.to

-- the names in a record are names, and its days are days
abbrev pub record_has_names : Record → Bool
record_has_names (records.Plan start days) = is_day start
record_has_names (records.Cal week) = true
record_has_names records.Holiday = true
record_has_names (records.Part lead lot safety calendar) = calendar_is_name calendar
record_has_names (records.Stock qty) = true
record_has_names (records.Demand day qty) = is_day day
record_has_names (records.Receipt day qty) = is_day day
record_has_names (records.Bill per span) = span_has_days span

abbrev pub are_apart : Key → Bool
are_apart (keys.Bill parent component) = not (name_eq parent component)
are_apart _ = true

-- a key that a row can have: no bill makes a part its own component
abbrev pub is_sound_key : Key → Bool
is_sound_key key = key_has_names key && are_apart key

-- a quantity of stock, demand, receipts, safety or lots is at most 1,000,000,000
abbrev pub is_quantity : ℕ → Bool
is_quantity qty = nat_le qty 1_000_000_000

abbrev pub is_sound_lot : Lot → Bool
is_sound_lot Exact = true
is_sound_lot (Fixed qty) = nat_le 1 qty && is_quantity qty
is_sound_lot (Least least step) = is_quantity least && nat_le 1 step && is_quantity step
is_sound_lot (Period days) = nat_le 1 days && nat_le days 400
is_sound_lot (Best setup hold) = is_quantity setup && nat_le hold 1_000_000

abbrev pub is_sound_span : Option Span → Bool
is_sound_span None = true
is_sound_span (Some span) = nat_le span.from span.to

-- a record is of its key's table, and its numbers are within their limits
abbrev pub is_within : Key → Record → Bool
is_within keys.Plan (records.Plan start days) = nat_le 1 days && nat_le days 400 && nat_le (start + days) 36525
is_within (keys.Cal name) (records.Cal week) = length week == 7
is_within (keys.Holiday name day) records.Holiday = true
is_within (keys.Part name) (records.Part lead lot safety calendar) = nat_le lead 365 && is_sound_lot lot && is_quantity safety
is_within (keys.Stock part) (records.Stock qty) = is_quantity qty
is_within (keys.Demand part order) (records.Demand day qty) = is_quantity qty
is_within (keys.Receipt part order) (records.Receipt day qty) = is_quantity qty
is_within (keys.Bill parent component) (records.Bill per span) = nat_le 1 per && nat_le per 1_000_000 && is_sound_span span
is_within _ _ = false

-- a sound row: a key that a row can have, with a record of its table within the limits
abbrev pub is_sound_row : Key → Record → Bool
is_sound_row key value = is_sound_key key && record_has_names value && is_within key value

abbrev pub are_sound_rows : List (Key × Record) → Bool
are_sound_rows rows = list_all (λ row. is_sound_row row.0 row.1) rows

-- the scenarios that a change names have names
abbrev pub change_has_names : Change → Bool
change_has_names (changes.Put scenario key value) = is_name scenario
change_has_names (changes.Del scenario key) = is_name scenario
change_has_names (changes.Load scenario rows) = is_name scenario
change_has_names (changes.Branch parent child) = is_name parent && is_name child
change_has_names (changes.Share scenario) = is_name scenario
change_has_names (changes.Update scenario) = is_name scenario
change_has_names (changes.Commit scenario) = is_name scenario
change_has_names (changes.Drop scenario) = is_name scenario

-- a change within the limits: its rows are sound, a key that it deletes is one that a row can have and not the horizon's,
-- and it loads 1 to 1,000 rows
abbrev pub change_is_within : Change → Bool
change_is_within (changes.Put scenario key value) = is_sound_row key value
change_is_within (changes.Del scenario key) = is_sound_key key && not (key_eq key keys.Plan)
change_is_within (changes.Load scenario rows) = nat_le 1 (length rows) && nat_le (length rows) LOAD_LIMIT && are_sound_rows rows
change_is_within _ = true

-- a sound change: one that the grammar of commands can spell
abbrev pub is_sound_change : Change → Bool
is_sound_change change = change_has_names change && change_is_within change

-- a sound entry: of a session from 1 to 16 and a line from 1 to 1,000,000, with a sound change
abbrev pub is_sound_entry : Entry → Bool
is_sound_entry entry =
    nat_le 1 entry.session && nat_le entry.session SESSION_LIMIT && nat_le 1 entry.line && nat_le entry.line LINE_LIMIT
    && is_name entry.user && is_sound_change entry.change
