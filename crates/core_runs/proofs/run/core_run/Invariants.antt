use Rattle.std.proofs.Common.{take}
use Rattle.core_runs.specs.Machine.{unasked}
use Rattle.core_runs.specs.Runs.{IsRun, AreInWork}
use Rattle.core_runs.proofs.run.core_run.Given as goal

abbrev pub invariant-loop-step : goal.invariant-loop-step
invariant-loop-step l = record {
  run : IsRun (unasked l.fn.core) (take l.step-index l.step-items) l.replies (record { core = l.core; walks = l.walks.items });
  in_work : AreInWork l.core l.walks.items;
}
