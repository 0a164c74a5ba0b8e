use Rattle.std.proofs.Common.{◌≡◌, ◌≤◌, ◌-◌, ℕ, List, length, Some, None}
use Rattle.byte_lines.proofs.ReadSteps.{ReadSoFar}
use Rattle.byte_lines.proofs.reading.read_all.Given as goal

abbrev pub invariant-loop-bytes : goal.invariant-loop-bytes
invariant-loop-bytes g l =
    record {
      few : length l.bytes ≤ l.most;
      told : (before : List ℕ) → g.S.Source.left l.fn.source ≡ Some before → ReadSoFar before (g.S.Source.left l.source) l.bytes;
      untold : g.S.Source.left l.fn.source ≡ None → g.S.Source.left l.source ≡ None;
      later : g.S.Source.faults l.fn.source ≤ g.S.Source.faults l.source;
      same : g.S.Source.label l.source ≡ g.S.Source.label l.fn.source;
    }

abbrev pub decreases-loop-bytes : goal.decreases-loop-bytes
decreases-loop-bytes g l = l.most - length l.bytes
