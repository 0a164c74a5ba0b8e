use Rattle.std.proofs.Common.{length}
use Rattle.full_pegging.proofs.merging.+merged.Given as goal

abbrev pub decreases-merged : goal.decreases-merged
decreases-merged l = length l.rows.now
