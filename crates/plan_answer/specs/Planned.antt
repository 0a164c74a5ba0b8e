-- What questions want.
use Rattle.plan_jobs.specs.declared.job.Wanted.{Wanted}
use Rattle.plan_jobs.specs.declared.job.Wanted.TheVariants as wants
use Rattle.plan_answer.specs.Asks.{Question, ShowsCell, TellsLevel, TellsPlan, Pegs, Traces, Promises, TellsCosts, Selects}

-- what a question wants of its scenario
abbrev pub wants_of : Question → Wanted
wants_of (ShowsCell cell) = wants.Cell cell
wants_of (TellsLevel part) = wants.Part part
wants_of (TellsPlan part) = wants.Part part
wants_of (Pegs part day) = wants.Part part
wants_of (Traces part day) = wants.Part part
wants_of (Promises part) = wants.Part part
wants_of (TellsCosts part) = wants.Part part
wants_of (Selects query) = wants.All
