use Rattle.std.proofs.Common.{◌≡◌, ◌-◌, All, length}
use Rattle.turn_table.specs.Passes.{IsFree}
use Rattle.turn_table.proofs.tests.split_many.Given as goal

abbrev pub invariant-loop-passes : goal.invariant-loop-passes
invariant-loop-passes l = IsFree l.turn l.main × (l.main.number ≡ 0) × (l.main.splits ≡ length l.passes.items) × All (IsFree l.turn) l.passes.items

abbrev pub decreases-loop-passes : goal.decreases-loop-passes
decreases-loop-passes l = l.count - length l.passes.items
