use Rattle.std.proofs.Common.{◌≡◌, length, ◌+◌, map}
use Rattle.std.specs.Prelude.{is_some}
use Rattle.low_level_codes.specs.Graphs.{shown}
use Rattle.low_level_codes.proofs.Places.{pending}
use Rattle.low_level_codes.proofs.Placings.{Placing}
use Rattle.low_level_codes.proofs.placing.place.Given as goal

abbrev pub invariant-loop-place : goal.invariant-loop-place
invariant-loop-place l = record {
  placing : Placing (shown l.ups) l.levels.items l.todo.items l.placed;
  next : length l.next.items ≡ length l.ups;
}

abbrev pub decreases-loop-place : goal.decreases-loop-place
decreases-loop-place l = length l.todo.items + pending (map is_some l.levels.items) (shown l.downs)
