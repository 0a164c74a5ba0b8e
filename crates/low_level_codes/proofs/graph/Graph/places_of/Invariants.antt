use Rattle.std.proofs.Common.{◌≡◌, length, take, List}
use Rattle.plan_schema.specs.declared.name.Name.{Name}
use Rattle.low_level_codes.specs.Graphs.{shown}
use Rattle.low_level_codes.specs.Numbers.{IsGraph, StandAt}
use Rattle.low_level_codes.proofs.graph.Graph.places_of.Given as goal

abbrev pub invariant-loop-name : goal.invariant-loop-name
invariant-loop-name l = record {
  ups : length l.self.ups.items ≡ length l.self.names;
  downs : length l.self.downs.items ≡ length l.self.names;
  stand : StandAt l.self.names l.places.items (take l.name-index l.names);
  graph : (bills : List (Name × Name)) → IsGraph bills l.initial.self.names (shown l.initial.self.ups.items) (shown l.initial.self.downs.items) → IsGraph bills l.self.names (shown l.self.ups.items) (shown l.self.downs.items);
}
