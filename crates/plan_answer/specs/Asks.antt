-- The questions that commands are.
use Rattle.std.specs.Prelude.{ℕ, Bool, true, false, Option, Some, None, option_map}
use Rattle.std.specs.Result.{result_ok}
use Rattle.plan_schema.specs.declared.name.Name.{Name}
use Rattle.plan_schema.specs.declared.change.CellName.{CellName}
use Rattle.query_language.specs.Growing.{query_of}
use Rattle.query_language.specs.Trees.{QueryTree, query_tree}
use Rattle.query_rules.specs.Queries as queries
use Rattle.command_words.specs.declared.command.Command.{Command}
use Rattle.command_words.specs.declared.command.Command.TheVariants as commands
use Rattle.plan_jobs.specs.declared.job.Wanted.{Wanted}
use Rattle.plan_jobs.specs.declared.job.Wanted.TheVariants as wants
use Rattle.plan_answer.specs.declared.ask.Ask.{Ask}
use Rattle.plan_answer.specs.declared.ask.Ask.TheVariants as asks

-- a question about one scenario: for a cell's records, a part's level, its plan, where its gross requirements on a day come from, what
-- its planned receipt on a day is for, what can be promised of it, what its orders cost, and for the parts that meet a condition
pub data Question : Type 0 where
  ShowsCell : CellName → Question
  TellsLevel : Name → Question
  TellsPlan : Name → Question
  Pegs : Name → ℕ → Question
  Traces : Name → ℕ → Question
  Promises : Name → Question
  TellsCosts : Name → Question
  Selects : QueryTree → Question

-- the question that one in memory is
abbrev pub question : Ask → Question
question (asks.Show cell) = ShowsCell cell
question (asks.Level part) = TellsLevel part
question (asks.Plan part) = TellsPlan part
question (asks.Peg part day) = Pegs part day
question (asks.Trace part day) = Traces part day
question (asks.Atp part) = Promises part
question (asks.Cost part) = TellsCosts part
question (asks.Select query) = Selects (query_tree query)

-- the question that a command is
abbrev pub question_of : Command → Option Question
question_of (commands.Show scenario cell) = Some (ShowsCell cell)
question_of (commands.Level scenario part) = Some (TellsLevel part)
question_of (commands.Plan scenario part) = Some (TellsPlan part)
question_of (commands.Peg scenario part day) = Some (Pegs part day)
question_of (commands.Trace scenario part day) = Some (Traces part day)
question_of (commands.Atp scenario part) = Some (Promises part)
question_of (commands.Cost scenario part) = Some (TellsCosts part)
question_of (commands.Select scenario text) = option_map Selects (result_ok (query_of text))
question_of command = None

-- the scenario that a question is about, and what it wants of it
abbrev pub wanted_by : Command → Option (Name × Wanted)
wanted_by (commands.Show scenario cell) = Some (scenario, wants.Cell cell)
wanted_by (commands.Level scenario part) = Some (scenario, wants.Part part)
wanted_by (commands.Plan scenario part) = Some (scenario, wants.Part part)
wanted_by (commands.Peg scenario part day) = Some (scenario, wants.Part part)
wanted_by (commands.Trace scenario part day) = Some (scenario, wants.Part part)
wanted_by (commands.Atp scenario part) = Some (scenario, wants.Part part)
wanted_by (commands.Cost scenario part) = Some (scenario, wants.Part part)
wanted_by (commands.Select scenario text) = Some (scenario, wants.All)
wanted_by command = None

-- whether plans stand in the answer
abbrev pub asks_for_plan : Question → Bool
asks_for_plan (ShowsCell cell) = false
asks_for_plan (TellsLevel part) = false
asks_for_plan (TellsPlan part) = true
asks_for_plan (Pegs part day) = true
asks_for_plan (Traces part day) = true
asks_for_plan (Promises part) = true
asks_for_plan (TellsCosts part) = true
asks_for_plan (Selects query) = queries.asks_for_plan query
