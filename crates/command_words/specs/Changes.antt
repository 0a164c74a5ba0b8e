-- Commands that make a change.
use Rattle.std.specs.Prelude.{Option, Some, None}
use Rattle.plan_schema.specs.declared.change.Change.{Change}
use Rattle.plan_schema.specs.declared.change.Change.TheVariants as changes
use Rattle.command_words.specs.declared.command.Command.{Command}
use Rattle.command_words.specs.declared.command.Command.TheVariants as commands

-- the change that a command makes by itself; a LOAD needs the rows of the lines behind it
abbrev pub change_of : Command → Option Change
change_of (commands.Put scenario key value) = Some (changes.Put scenario key value)
change_of (commands.Del scenario key) = Some (changes.Del scenario key)
change_of (commands.Branch parent child) = Some (changes.Branch parent child)
change_of (commands.Share scenario) = Some (changes.Share scenario)
change_of (commands.Update scenario) = Some (changes.Update scenario)
change_of (commands.Commit scenario) = Some (changes.Commit scenario)
change_of (commands.Drop scenario) = Some (changes.Drop scenario)
change_of _ = None
