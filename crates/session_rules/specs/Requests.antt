-- The requests of an input. A request is a line that isn't blank, or a LOAD with the rows of the lines that follow it.
use Rattle.std.specs.Prelude.{ℕ, zero, suc, Bool, true, false, not, nat_lt, List, [], ◌∷◌, length, take, drop, map, filter, Option, Some, None, Result, Ok, Err, if◌then◌else◌, codes}
use Rattle.std.specs.List.{filter_map, enumerate_from}
use Rattle.std.specs.Result.{result_ok}
use Rattle.plan_schema.specs.declared.name.Name.{Name}
use Rattle.plan_schema.specs.declared.key.Key.{Key}
use Rattle.plan_schema.specs.declared.key.Record.{Record}
use Rattle.plan_schema.specs.declared.change.Change.{Change}
use Rattle.plan_schema.specs.declared.change.Change.TheVariants as changes
use Rattle.plan_schema.specs.declared.fault.FieldFault.{FieldFault}
use Rattle.row_text.specs.Row.{row_of}
use Rattle.byte_lines.specs.Lines.{lines_of}
use Rattle.command_words.specs.Words.{words_of, is_blank}
use Rattle.command_words.specs.Changes.{change_of}
use Rattle.command_words.specs.Commands.{command_of}
use Rattle.command_words.specs.declared.command.Command.{Command}
use Rattle.command_words.specs.declared.command.Command.TheVariants as commands
use Rattle.command_words.specs.declared.reply.Bad.{Bad}
use Rattle.command_words.specs.declared.reply.Bad.TheVariants as bads

-- a line with its number from 1: its text, or nothing where it is too long
abbrev pub Line : Type 0
Line = ℕ × Option (List ℕ)

-- lines ------------------------------------------------------------------------------------------------------------------

abbrev pub is_blank_line : Line → Bool
is_blank_line (number, None) = false
is_blank_line (number, Some text) = is_blank text

-- the lines of an input that count for requests, each with its number among all
abbrev pub request_lines : List ℕ → List Line
request_lines input = filter (λ line. not (is_blank_line line)) (enumerate_from 1 (lines_of input))

-- commands ---------------------------------------------------------------------------------------------------------------

-- what a line is read as: a command, or why it is none
unfoldable pub reading : Line → Result Command Bad
reading (number, None) = Err bads.Long
reading (number, Some text) = command_of text

-- requests ---------------------------------------------------------------------------------------------------------------

-- what a request wants: a change, another command, or nothing that the grammar has
pub data Wish : Type 0 where
  Makes : Change → Wish
  Asks : Command → Wish
  IsBad : Bad → Wish

-- a request, with the number of its first line
pub record Request : Type 0 where
  pub line : ℕ
  pub wish : Wish

-- what a command wants, where it is no LOAD
abbrev pub wanted : Command → Option Change → Wish
wanted command (Some change) = Makes change
wanted command None = Asks command

abbrev pub wish_of : Command → Wish
wish_of command = wanted command (change_of command)

abbrev pub read_wish : Result Command Bad → Wish
read_wish (Ok command) = wish_of command
read_wish (Err bad) = IsBad bad

-- the row that a line of a LOAD is, the k-th of its rows, or why it is none
abbrev pub in_row : ℕ → Result (Key × Record) FieldFault → Result (Key × Record) Bad
in_row k (Ok row) = Ok row
in_row k (Err fault) = Err (bads.Row k fault)

abbrev pub row_reading : ℕ → Line → Result (Key × Record) Bad
row_reading k (number, None) = Err (bads.RowLong k)
row_reading k (number, Some text) = in_row k (row_of (words_of text))

abbrev pub fault_in : Result (Key × Record) Bad → Option Bad
fault_in (Ok row) = None
fault_in (Err bad) = Some bad

abbrev pub first_fault : List (Result (Key × Record) Bad) → Option Bad
first_fault [] = None
first_fault (row ∷ rows) = cond_some (fault_in row) (first_fault rows)
  where
    cond_some : Option Bad → Option Bad → Option Bad
    cond_some None later = later
    cond_some (Some bad) later = Some bad

-- a LOAD of these rows: the first bad one tells why it isn't in the grammar; else there may be too few; else it is a change
abbrev pub load_of : Name → ℕ → List (Result (Key × Record) Bad) → Option Bad → Wish
load_of scenario count rows (Some bad) = IsBad bad
load_of scenario count rows None =
    if nat_lt (length rows) count then IsBad bads.Short else Makes (changes.Load scenario (filter_map result_ok rows))

abbrev pub load_wish : Name → ℕ → List Line → Wish
load_wish scenario count lines =
    let rows = map (λ row. row_reading row.0 row.1) (enumerate_from 1 lines) in
    load_of scenario count rows (first_fault rows)

-- the request that begins with a line so read, where these lines follow it
abbrev pub request_of : ℕ → Result Command Bad → List Line → Request
request_of number (Ok (commands.Load scenario count)) lines = record { line = number; wish = load_wish scenario count (take count lines) }
request_of number read lines = record { line = number; wish = read_wish read }

-- how many lines a request takes behind its first
abbrev pub taken_by : Result Command Bad → ℕ
taken_by (Ok (commands.Load scenario count)) = count
taken_by read = 0

abbrev pub is_quit : Result Command Bad → Bool
is_quit (Ok commands.Quit) = true
is_quit read = false

-- the requests of some lines, one behind the other, up to the end or to the first QUIT; each takes one line or more, so as many
-- steps as there are lines lead to the end
unfoldable pub requests_within : ℕ → List Line → List Request
requests_within zero lines = []
requests_within (suc steps) [] = []
requests_within (suc steps) (line ∷ lines) =
    request_of line.0 (reading line) lines
    ∷ (if is_quit (reading line) then [] else requests_within steps (drop (taken_by (reading line)) lines))

abbrev pub requests_of_lines : List Line → List Request
requests_of_lines lines = requests_within (length lines) lines

-- the requests of an input
abbrev pub requests_of : List ℕ → List Request
requests_of input = requests_of_lines (request_lines input)

-- users ------------------------------------------------------------------------------------------------------------------

-- who speaks before the first HELLO
abbrev pub guest : Name
guest = codes "guest"

-- who speaks after a request
abbrev pub user_after : Name → Wish → Name
user_after user (Asks (commands.Hello name)) = name
user_after user wish = user
