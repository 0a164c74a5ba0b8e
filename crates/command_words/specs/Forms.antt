-- The form of a reply: what its text tells by itself, byte for byte, so that whoever reads it knows what kind of reply it is, its
-- point, and where it ends.
use Rattle.std.specs.Prelude.{ℕ, zero, suc, ◌+◌, ◌^◌, Bool, true, not, ◌&&◌, nat_eq, nat_lt, nat_le, List, [], ◌∷◌, length, take, drop, Option, Some, None, option_map, Result, Ok, Err, if◌then◌else◌, codes}
use Rattle.std.specs.List.{list_all, position_or_len, starts_with}
use Rattle.std.specs.Cmp.Lexicographic.{pointwise}
use Rattle.plan_schema.specs.declared.fault.Rule.{Rule}
use Rattle.plan_schema.specs.declared.refusal.Refusal.{Refusal}
use Rattle.plan_schema.specs.declared.refusal.Refusal.TheVariants as refusal
use Rattle.plan_schema.specs.Name.{is_name}
use Rattle.plan_schema.specs.Day.{is_day}
use Rattle.plan_schema.specs.Sound.{key_has_names}
use Rattle.row_text.specs.Number.{number_of}
use Rattle.command_words.specs.declared.reply.Bad.{Bad}
use Rattle.command_words.specs.declared.reply.Bad.TheVariants as bad
use Rattle.command_words.specs.declared.reply.Reply.{Reply}
use Rattle.command_words.specs.declared.reply.Reply.TheVariants as reply

-- done at a point; a query's lines at a point, and how many; refused at a point; not in the grammar; no memory
pub data Form : Type 0 where
  Done : ℕ → Form
  Listed : ℕ → ℕ → Form
  Refused : ℕ → Form
  Faulty : Form
  NoMemory : Form

-- the form of a reply
abbrev pub form : Reply → Form
form (reply.Ok point) = Done point
form (reply.Rows point lines) = Listed point (length lines)
form (reply.No point why) = Refused point
form (reply.Bad why) = Faulty
form reply.Mem = NoMemory

-- how many lines follow the first
abbrev pub lines_in : Form → ℕ
lines_in (Listed point count) = count
lines_in _ = 0

-- reading it -----------------------------------------------------------------------------------------------------------------

-- the greatest number of 18 digits, the most lines behind the first, and the most bytes of a line
abbrev pub most_point : ℕ
most_point = 999_999_999_999_999_999

abbrev pub most_lines : ℕ
most_lines = 200_000

abbrev pub longest_line : ℕ
longest_line = 1_024

-- what is read, and then what follows from it; nothing ends the reading
abbrev pub if_read_on : {A B : Type 0} → Option A → (A → Option B) → Option B
if_read_on None more = None
if_read_on (Some x) more = more x

-- where a byte stands first in a text; behind its end where it doesn't
abbrev pub place_of : ℕ → List ℕ → ℕ
place_of byte text = position_or_len (λ other. nat_eq other byte) text

-- a line that a text begins with, and what stands behind its line feed; a line that is too long is none
abbrev pub line_cut : List ℕ → Option (List ℕ × List ℕ)
line_cut text =
    if nat_lt (place_of 10 text) (length text) && nat_le (place_of 10 text) longest_line
    then Some (take (place_of 10 text) text, drop (place_of 10 text + 1) text) else None

-- what stands behind so many lines
abbrev pub lines_cut : ℕ → List ℕ → Option (List ℕ)
lines_cut zero text = Some text
lines_cut (suc more) text = if_read_on (line_cut text) (λ cut. lines_cut more cut.1)

-- what was read, if anything was
abbrev pub if_read : Result ℕ Rule → Option ℕ
if_read (Ok number) = Some number
if_read (Err rule) = None

-- a point, and a number of lines
abbrev pub point_of : List ℕ → Option ℕ
point_of digits = if_read (number_of 0 most_point digits)

abbrev pub count_of : List ℕ → Option ℕ
count_of digits = if_read (number_of 0 most_lines digits)

abbrev pub listed : Option ℕ → Option ℕ → Option Form
listed (Some point) (Some count) = Some (Listed point count)
listed (Some point) None = None
listed None count = None

-- behind `OK @`: a point alone, or a point, a space and a number of lines
abbrev pub counted : List ℕ → List ℕ → Option Form
counted point [] = option_map Done (point_of point)
counted point (space ∷ count) = listed (point_of point) (count_of count)

abbrev pub ok_form : List ℕ → Option Form
ok_form text = counted (take (place_of 32 text) text) (drop (place_of 32 text) text)

-- behind `NO @`: a point, a space, and one byte or more that say why
abbrev pub reasoned : List ℕ → List ℕ → Option Form
reasoned point [] = None
reasoned point (byte ∷ why) = option_map Refused (point_of point)

abbrev pub no_form : List ℕ → Option Form
no_form text = reasoned (take (place_of 32 text) text) (drop (place_of 32 text + 1) text)

-- behind `BAD `: one byte or more that say why
abbrev pub bad_form : List ℕ → Option Form
bad_form [] = None
bad_form (byte ∷ why) = Some Faulty

-- the form that the first line of a reply tells
abbrev pub form_of_line : List ℕ → Option Form
form_of_line line =
    if pointwise nat_eq line (codes "MEM") then Some NoMemory
    else (if starts_with nat_eq line (codes "OK @") then ok_form (drop 4 line)
    else (if starts_with nat_eq line (codes "NO @") then no_form (drop 4 line)
    else (if starts_with nat_eq line (codes "BAD ") then bad_form (drop 4 line) else None)))

-- the whole reply in form that a text begins with: its form, and what stands behind its last line
unfoldable pub whole_reply : List ℕ → Option (Form × List ℕ)
whole_reply text =
    if_read_on (line_cut text) (λ first. if_read_on (form_of_line first.0) (λ told.
    option_map (λ behind. (told, behind)) (lines_cut (lines_in told) first.1)))

-- replies within the limits ------------------------------------------------------------------------------------------------

-- the names that a refusal is about are names, and its day is a day
abbrev pub refusal_has_names : Refusal → Bool
refusal_has_names (refusal.NoScenario name) = is_name name
refusal_has_names (refusal.Denied name) = is_name name
refusal_has_names (refusal.Taken name) = is_name name
refusal_has_names (refusal.Root name) = is_name name
refusal_has_names (refusal.HasChildren name) = is_name name
refusal_has_names (refusal.Depth name) = is_name name
refusal_has_names (refusal.Full what) = true
refusal_has_names (refusal.NoRecord key) = key_has_names key
refusal_has_names (refusal.Conflict key) = key_has_names key
refusal_has_names (refusal.NoPart name) = is_name name
refusal_has_names (refusal.MissingPart name) = is_name name
refusal_has_names (refusal.MissingCalendar name) = is_name name
refusal_has_names (refusal.Cyclic name) = is_name name
refusal_has_names (refusal.TooLarge name) = is_name name
refusal_has_names (refusal.NoDay day) = is_day day
refusal_has_names (refusal.NoCosts name) = is_name name
refusal_has_names refusal.ReadOnly = true

-- a number that 32 bits hold
abbrev pub is_small : ℕ → Bool
is_small number = nat_lt number (2 ^ 32)

abbrev pub bad_is_small : Bad → Bool
bad_is_small bad.Long = true
bad_is_small bad.Word = true
bad_is_small (bad.Field fault) = is_small fault.field
bad_is_small (bad.Query fault) = is_small fault.place
bad_is_small (bad.Row row fault) = is_small row && is_small fault.field
bad_is_small (bad.RowLong row) = is_small row
bad_is_small bad.Short = true

-- a line that can follow the first
abbrev pub is_line : List ℕ → Bool
is_line line = nat_le (length line) longest_line && list_all (λ byte. not (nat_eq byte 10)) line

-- a reply within the limits: its point has at most 18 digits, it has at most 200,000 further lines, none of them too long, and what
-- it names are names and days
abbrev pub is_within_limits : Reply → Bool
is_within_limits (reply.Ok point) = nat_le point most_point
is_within_limits (reply.Rows point lines) = nat_le point most_point && nat_le (length lines) most_lines && list_all is_line lines
is_within_limits (reply.No point why) = nat_le point most_point && refusal_has_names why
is_within_limits (reply.Bad why) = bad_is_small why
is_within_limits reply.Mem = true
