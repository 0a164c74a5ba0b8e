-- Commands by the words of their line. The first word is the command; fields are counted from 1 after it, looked at in order, and the
-- first faulty one is given.
use Rattle.std.specs.Prelude.{ℕ, ◌+◌, nat_eq, List, drop, Option, Some, None, Result, Ok, Err, if◌then◌else◌, codes}
use Rattle.std.specs.Cmp.Lexicographic.{pointwise}
use Rattle.plan_schema.specs.declared.fault.Rule.TheVariants.{Shape}
use Rattle.plan_schema.specs.declared.fault.FieldFault.{FieldFault}
use Rattle.plan_schema.specs.declared.key.Key.{Key}
use Rattle.plan_schema.specs.declared.key.Record.{Record}
use Rattle.plan_schema.specs.declared.change.CellName.{CellName}
use Rattle.plan_schema.specs.declared.change.CellName.TheVariants as cells
use Rattle.row_text.specs.Row as rows
use Rattle.row_text.specs.Row.{◌>>=◌, text_at, name_at, number_at, day_at, end_at}
use Rattle.query_language.specs.Reading.{check_of}
use Rattle.query_language.specs.declared.fault.QueryFault.{QueryFault}
use Rattle.command_words.specs.Words.{words_of, query_of}
use Rattle.command_words.specs.Verbs.{verb_of}
use Rattle.command_words.specs.declared.verb.Verb.{Verb}
use Rattle.command_words.specs.declared.verb.Verb.TheVariants as verbs
use Rattle.command_words.specs.declared.command.Command.{Command}
use Rattle.command_words.specs.declared.command.Command.TheVariants as commands
use Rattle.command_words.specs.declared.reply.Bad.{Bad}
use Rattle.command_words.specs.declared.reply.Bad.TheVariants as bads

-- fields of several commands ------------------------------------------------------------------------------------------------

-- one name
unfoldable pub only_name : List (List ℕ) → Result (List ℕ) FieldFault
only_name words = do
  name ← name_at words 1
  _ ← end_at words 2
  Ok name

-- two names
unfoldable pub two_names : List (List ℕ) → Result (List ℕ × List ℕ) FieldFault
two_names words = do
  first ← name_at words 1
  second ← name_at words 2
  _ ← end_at words 3
  Ok (first, second)

-- a row or a key form behind the scenario: its table word, the row's field 0, is the line's field 2
abbrev pub behind_scenario : {A : Type 0} → Result A FieldFault → Result A FieldFault
behind_scenario (Ok x) = Ok x
behind_scenario (Err fault) = Err (record { field = fault.field + 2; rule = fault.rule })

-- the commands --------------------------------------------------------------------------------------------------------------

-- HELLO: user
unfoldable pub hello_of : List (List ℕ) → Result Command FieldFault
hello_of words = do
  user ← only_name words
  Ok (commands.Hello user)

-- POINT
unfoldable pub point_of : List (List ℕ) → Result Command FieldFault
point_of words = do
  _ ← end_at words 1
  Ok commands.Point

-- PUT: scenario; row
unfoldable pub put_of : List (List ℕ) → Result Command FieldFault
put_of words = do
  scenario ← name_at words 1
  row ← behind_scenario (rows.row_of (drop 2 words))
  Ok (commands.Put scenario row.0 row.1)

-- DEL: scenario; key form
unfoldable pub del_of : List (List ℕ) → Result Command FieldFault
del_of words = do
  scenario ← name_at words 1
  key ← behind_scenario (rows.key_of (drop 2 words))
  Ok (commands.Del scenario key)

-- LOAD: scenario; number of rows
unfoldable pub load_of : List (List ℕ) → Result Command FieldFault
load_of words = do
  scenario ← name_at words 1
  count ← number_at words 2 1 1_000
  _ ← end_at words 3
  Ok (commands.Load scenario count)

-- BRANCH: parent scenario; new name
unfoldable pub branch_of : List (List ℕ) → Result Command FieldFault
branch_of words = do
  names ← two_names words
  Ok (commands.Branch names.0 names.1)

-- SHARE: scenario
unfoldable pub share_of : List (List ℕ) → Result Command FieldFault
share_of words = do
  scenario ← only_name words
  Ok (commands.Share scenario)

-- UPDATE: scenario
unfoldable pub update_of : List (List ℕ) → Result Command FieldFault
update_of words = do
  scenario ← only_name words
  Ok (commands.Update scenario)

-- COMMIT: scenario
unfoldable pub commit_of : List (List ℕ) → Result Command FieldFault
commit_of words = do
  scenario ← only_name words
  Ok (commands.Commit scenario)

-- DROP: scenario
unfoldable pub drop_of : List (List ℕ) → Result Command FieldFault
drop_of words = do
  scenario ← only_name words
  Ok (commands.Drop scenario)

-- TREE
unfoldable pub tree_of : List (List ℕ) → Result Command FieldFault
tree_of words = do
  _ ← end_at words 1
  Ok commands.Tree

-- a cell: `PLAN`, or `CAL` and a name, or `PART` and a name
unfoldable pub plan_cell_of : List (List ℕ) → Result CellName FieldFault
plan_cell_of words = do
  _ ← end_at words 3
  Ok cells.Plan

unfoldable pub cal_cell_of : List (List ℕ) → Result CellName FieldFault
cal_cell_of words = do
  name ← name_at words 3
  _ ← end_at words 4
  Ok (cells.Cal name)

unfoldable pub part_cell_of : List (List ℕ) → Result CellName FieldFault
part_cell_of words = do
  name ← name_at words 3
  _ ← end_at words 4
  Ok (cells.Part name)

unfoldable pub cell_of_word : List ℕ → List (List ℕ) → Result CellName FieldFault
cell_of_word word words =
    if pointwise nat_eq word (codes "PLAN") then plan_cell_of words
    else (if pointwise nat_eq word (codes "CAL") then cal_cell_of words
    else (if pointwise nat_eq word (codes "PART") then part_cell_of words
    else Err (record { field = 2; rule = Shape })))

-- SHOW: scenario; cell
unfoldable pub show_of : List (List ℕ) → Result Command FieldFault
show_of words = do
  scenario ← name_at words 1
  word ← text_at words 2
  cell ← cell_of_word word words
  Ok (commands.Show scenario cell)

-- LEVEL: scenario; part
unfoldable pub level_of : List (List ℕ) → Result Command FieldFault
level_of words = do
  names ← two_names words
  Ok (commands.Level names.0 names.1)

-- PLAN: scenario; part
unfoldable pub plan_of : List (List ℕ) → Result Command FieldFault
plan_of words = do
  names ← two_names words
  Ok (commands.Plan names.0 names.1)

-- PEG: scenario; part; date
unfoldable pub peg_of : List (List ℕ) → Result Command FieldFault
peg_of words = do
  scenario ← name_at words 1
  part ← name_at words 2
  day ← day_at words 3
  _ ← end_at words 4
  Ok (commands.Peg scenario part day)

-- TRACE: scenario; part; date
unfoldable pub trace_of : List (List ℕ) → Result Command FieldFault
trace_of words = do
  scenario ← name_at words 1
  part ← name_at words 2
  day ← day_at words 3
  _ ← end_at words 4
  Ok (commands.Trace scenario part day)

-- COST: scenario; part
unfoldable pub cost_of : List (List ℕ) → Result Command FieldFault
cost_of words = do
  names ← two_names words
  Ok (commands.Cost names.0 names.1)

-- ATP: scenario; part
unfoldable pub atp_of : List (List ℕ) → Result Command FieldFault
atp_of words = do
  names ← two_names words
  Ok (commands.Atp names.0 names.1)

-- SELECT: scenario; query, which is the rest of the line and mustn't be missing
unfoldable pub select_of : List ℕ → List (List ℕ) → Result Command FieldFault
select_of line words = do
  scenario ← name_at words 1
  _ ← text_at words 2
  Ok (commands.Select scenario (query_of line))

-- RECLAIM
unfoldable pub reclaim_of : List (List ℕ) → Result Command FieldFault
reclaim_of words = do
  _ ← end_at words 1
  Ok commands.Reclaim

-- QUIT
unfoldable pub quit_of : List (List ℕ) → Result Command FieldFault
quit_of words = do
  _ ← end_at words 1
  Ok commands.Quit

-- lines ---------------------------------------------------------------------------------------------------------------------

-- the command that a line is, by its verb
unfoldable pub command_of_verb : Verb → List ℕ → List (List ℕ) → Result Command FieldFault
command_of_verb verbs.Hello line words = hello_of words
command_of_verb verbs.Point line words = point_of words
command_of_verb verbs.Put line words = put_of words
command_of_verb verbs.Del line words = del_of words
command_of_verb verbs.Load line words = load_of words
command_of_verb verbs.Branch line words = branch_of words
command_of_verb verbs.Share line words = share_of words
command_of_verb verbs.Update line words = update_of words
command_of_verb verbs.Commit line words = commit_of words
command_of_verb verbs.Drop line words = drop_of words
command_of_verb verbs.Tree line words = tree_of words
command_of_verb verbs.Show line words = show_of words
command_of_verb verbs.Level line words = level_of words
command_of_verb verbs.Plan line words = plan_of words
command_of_verb verbs.Peg line words = peg_of words
command_of_verb verbs.Trace line words = trace_of words
command_of_verb verbs.Cost line words = cost_of words
command_of_verb verbs.Atp line words = atp_of words
command_of_verb verbs.Select line words = select_of line words
command_of_verb verbs.Reclaim line words = reclaim_of words
command_of_verb verbs.Quit line words = quit_of words

-- a fault of a query is a fault of the line
abbrev pub with_query : Result (Unit {0}) QueryFault → Command → Result Command Bad
with_query (Ok _) command = Ok command
with_query (Err fault) command = Err (bads.Query fault)

-- a query must be one of the language
abbrev pub in_query : Command → Result Command Bad
in_query (commands.Select scenario query) = with_query (check_of query) (commands.Select scenario query)
in_query command = Ok command

-- a fault of a field is a fault of the line; the query is looked into last
abbrev pub in_fields : Result Command FieldFault → Result Command Bad
in_fields (Ok command) = in_query command
in_fields (Err fault) = Err (bads.Field fault)

-- a first word that is no command
abbrev pub with_verb : Option Verb → List ℕ → List (List ℕ) → Result Command Bad
with_verb (Some verb) line words = in_fields (command_of_verb verb line words)
with_verb None line words = Err bads.Word

-- a line without words has no first word
abbrev pub with_word : Result (List ℕ) FieldFault → List ℕ → List (List ℕ) → Result Command Bad
with_word (Ok word) line words = with_verb (verb_of word) line words
with_word (Err fault) line words = Err bads.Word

-- the command that a line is
unfoldable pub command_of : List ℕ → Result Command Bad
command_of line = with_word (text_at (words_of line) 0) line (words_of line)

-- the row that a line inside a LOAD is: its first word is the table word, the row's field 0
unfoldable pub row_of : List ℕ → Result (Key × Record) FieldFault
row_of line = rows.row_of (words_of line)
