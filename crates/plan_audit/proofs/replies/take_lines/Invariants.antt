use Rattle.std.proofs.Common.{◌≡◌, ℕ, List, Some}
use Rattle.plan_audit.specs.Ahead.{still}
use Rattle.plan_audit.specs.Buffers.{ahead_of}
use Rattle.plan_audit.proofs.Causes.{IsQuiet}
use Rattle.plan_audit.proofs.Lines.{IsLinesSoFar}
use Rattle.plan_audit.proofs.replies.take_lines.Given as goal

abbrev pub invariant-loop-line : goal.invariant-loop-line
invariant-loop-line g l =
    ((all : List ℕ) → still (ahead_of l.fn.ahead) (g.S.Source.left l.fn.source) ≡ Some all → IsLinesSoFar l.line l.count all (still (ahead_of l.ahead) (g.S.Source.left l.source)) l.fn.text.items l.text.items)
    × IsQuiet g.S.Source.faults g.S.Source.label l.fn.source l.source
