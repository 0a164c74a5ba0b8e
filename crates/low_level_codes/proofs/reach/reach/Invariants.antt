use Rattle.std.proofs.Common.{length, ◌+◌}
use Rattle.low_level_codes.specs.Graphs.{shown}
use Rattle.low_level_codes.proofs.Places.{pending}
use Rattle.low_level_codes.proofs.Reaching.{Reaching}
use Rattle.low_level_codes.proofs.reach.reach.Given as goal

abbrev pub invariant-loop-place : goal.invariant-loop-place
invariant-loop-place l = Reaching (shown l.ups) l.from l.seen.items l.todo.items

abbrev pub decreases-loop-place : goal.decreases-loop-place
decreases-loop-place l = length l.todo.items + pending l.seen.items (shown l.ups)
