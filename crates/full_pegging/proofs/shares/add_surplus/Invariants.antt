use Rattle.std.proofs.Common.{map}
use Rattle.planning_rules.specs.Trace.{surplus_end}
use Rattle.full_pegging.specs.Following.{shown_share}
use Rattle.full_pegging.specs.Shares.{counted_at}
use Rattle.full_pegging.proofs.Sharing.{SharedSoFar}
use Rattle.full_pegging.proofs.shares.add_surplus.Given as goal

abbrev pub invariant-loop-key : goal.invariant-loop-key
invariant-loop-key l = SharedSoFar surplus_end (counted_at l.counts.by_key.entries) l.cell l.key-iterator (map shown_share l.initial.shares.items) (map shown_share l.shares.items)
