use Rattle.std.proofs.Common.{◌≡◌, ◌≤◌, drop, length, true}
use Rattle.byte_lines.specs.Desks.{no_desks}
use Rattle.byte_lines.proofs.rounds.Rounds.pop.Given as goal

abbrev pub invariant-loop-at : goal.invariant-loop-at
invariant-loop-at g l = record {
  within : l.at ≤ length l.self-inside.rounds.items;
  same : l.self-inside.rounds.items ≡ l.fn.self;
  none : no_desks (drop l.at l.self-inside.rounds.items) ≡ true;
}

abbrev pub decreases-loop-at : goal.decreases-loop-at
decreases-loop-at g l = l.at
