use Rattle.version_reclaim.specs.Collected.{AreIn}
use Rattle.version_reclaim.proofs.LiveLaws.{IsCollected}
use Rattle.version_reclaim.proofs.collect.live.Given as goal

abbrev pub invariant-loop-place : goal.invariant-loop-place
invariant-loop-place l = IsCollected l.forest l.place l.live.items × AreIn l.live.items l.beside
