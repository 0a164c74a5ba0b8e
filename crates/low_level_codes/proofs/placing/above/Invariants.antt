use Rattle.std.proofs.Common.{◌≡◌, ◌≤◌, map, drop}
use Rattle.planning_rules.specs.Bills.{above_all}
use Rattle.low_level_codes.specs.Graphs.{level_at}
use Rattle.low_level_codes.proofs.Above.{at_least}
use Rattle.low_level_codes.proofs.placing.above.Given as goal

abbrev pub invariant-loop-place : goal.invariant-loop-place
invariant-loop-place l = record {
  lead : above_all (map (level_at l.levels) l.places) ≡ at_least l.above (above_all (map (level_at l.levels) (drop l.place-index l.places)));
  low : l.above ≤ l.fn.most;
}
