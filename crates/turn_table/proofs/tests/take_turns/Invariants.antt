use Rattle.turn_table.specs.Passes.{IsFree}
use Rattle.turn_table.proofs.tests.take_turns.Given as goal

abbrev pub invariant-loop-entry : goal.invariant-loop-entry
invariant-loop-entry g l = IsFree l.turn l.pass
