use Rattle.std.proofs.Common.{◌≡◌, length, take}
use Rattle.low_level_codes.specs.Graphs.{shown}
use Rattle.low_level_codes.specs.Numbers.{IsGraph}
use Rattle.low_level_codes.proofs.graph.Graph.of.Given as goal

abbrev pub invariant-loop-bill : goal.invariant-loop-bill
invariant-loop-bill l = record {
  ups : length l.graph.ups.items ≡ length l.graph.names;
  downs : length l.graph.downs.items ≡ length l.graph.names;
  graph : IsGraph (take l.bill-index l.bills) l.graph.names (shown l.graph.ups.items) (shown l.graph.downs.items);
}
