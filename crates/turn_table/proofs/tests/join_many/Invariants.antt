use Rattle.std.proofs.Common.{All}
use Rattle.turn_table.specs.Passes.{IsFree}
use Rattle.turn_table.proofs.tests.join_many.Given as goal

abbrev pub invariant-loop-pass : goal.invariant-loop-pass
invariant-loop-pass l = IsFree l.turn l.main × All (IsFree l.turn) l.passes.items

abbrev pub decreases-loop-pass : goal.decreases-loop-pass
decreases-loop-pass l = goal.left-loop-pass l
