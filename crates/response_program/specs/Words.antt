-- Which command lines are served so far.
use Rattle.std.specs.Prelude.{Option, Some, None}
use Rattle.program_words.specs.declared.program.Program.{Program}
use Rattle.program_words.specs.declared.program.Program.TheVariants as program
use Rattle.program_words.specs.declared.program.Still.{Still}
use Rattle.program_words.specs.declared.program.Still.TheVariants as still
use Rattle.response_program.specs.declared.asked.Asked.{Asked}
use Rattle.response_program.specs.declared.asked.Asked.TheVariants as asked

-- what is asked for where no sessions are served that write a journal
abbrev pub still_asked : Still → Asked
still_asked (still.Audit base journal rounds) = asked.Audit (record { base = base; journal = journal; rounds = rounds })
still_asked (still.Replay base journal input output) = asked.Replay (record { base = base; journal = journal; input = input; output = output })
still_asked (still.Make parts start base input) = asked.Make (record { parts = parts; start = start; base = base; input = input })
still_asked (still.Trial parts start) = asked.Trial parts start

-- what a command line asks for that is served: all but sessions over a store
abbrev pub served_by : Program → Option Asked
served_by (program.Run run) = Some (asked.Run run)
served_by (program.Still words) = Some (still_asked words)
served_by (program.Keep words) = None

abbrev pub served : Option Program → Option Asked
served None = None
served (Some words) = served_by words
