use Rattle.std.proofs.Common.{◌≡◌, ℕ, List, Some}
use Rattle.plan_audit.specs.Ahead.{still}
use Rattle.plan_audit.specs.Buffers.{ahead_of}
use Rattle.plan_audit.proofs.Causes.{IsQuiet}
use Rattle.plan_audit.proofs.Lines.{IsNoLine}
use Rattle.plan_audit.proofs.ahead.Ahead.take_line.Given as goal

abbrev pub invariant-loop-count : goal.invariant-loop-count
invariant-loop-count g l =
    ((all : List ℕ) → still (ahead_of l.fn.self) (g.S.Source.left l.fn.source) ≡ Some all → IsNoLine l.count all (still (ahead_of l.self) (g.S.Source.left l.source)) l.fn.text.items l.text.items)
    × IsQuiet g.S.Source.faults g.S.Source.label l.fn.source l.source
