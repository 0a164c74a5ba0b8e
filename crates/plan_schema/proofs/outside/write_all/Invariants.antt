use Rattle.std.proofs.Common.{◌≡◌, ◌≤◌, ◌-◌, take, length}
use Rattle.plan_schema.specs.Outside.{extended}
use Rattle.plan_schema.proofs.outside.write_all.Given as goal

abbrev pub invariant-loop-done : goal.invariant-loop-done
invariant-loop-done g l =
    record {
      short : l.done ≤ length l.bytes;
      taken : g.S.Sink.taken l.sink ≡ extended (g.S.Sink.taken l.fn.sink) (take l.done l.bytes);
      later : g.S.Sink.faults l.fn.sink ≤ g.S.Sink.faults l.sink;
      same : g.S.Sink.label l.sink ≡ g.S.Sink.label l.fn.sink;
    }

abbrev pub decreases-loop-done : goal.decreases-loop-done
decreases-loop-done g l = length l.initial.bytes - l.done
