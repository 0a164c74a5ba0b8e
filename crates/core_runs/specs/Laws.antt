-- What holds of runs.
use Rattle.std.specs.Prelude.{◌≡◌, List, ◌++◌, length}
use Rattle.plan_schema.specs.declared.change.Entry.{Entry}
use Rattle.plan_core.specs.State.{State, history}
use Rattle.core_runs.specs.declared.step.CoreStep.{CoreStep}
use Rattle.core_runs.specs.declared.step.CoreReply.{CoreReply}
use Rattle.core_runs.specs.Machine.{Machine}
use Rattle.core_runs.specs.Runs.{IsRun, IsLegalRun}

-- each step has one reply
abbrev pub EachHasReply : Type 0
EachHasReply = (old new : State) (asked : List CoreStep) (replied : List CoreReply) → IsLegalRun old asked replied new → length replied ≡ length asked

-- a run and a run from its end are one run
abbrev pub RunsGoOn : Type 0
RunsGoOn = (old between new : Machine) (first later : List CoreStep) (first_replied later_replied : List CoreReply)
    → IsRun old first first_replied between → IsRun between later later_replied new → IsRun old (first ++ later) (first_replied ++ later_replied) new

-- the accepted changes stay in their order, with those of the run behind them
pub record IsLonger (old new : State) : Type 0 where
  pub entered : List Entry
  pub history_is : history new ≡ history old ++ entered

abbrev pub HistoriesAreKept : Type 0
HistoriesAreKept = (old new : State) (asked : List CoreStep) (replied : List CoreReply) → IsLegalRun old asked replied new → IsLonger old new
