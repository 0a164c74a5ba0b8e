use Rattle.std.proofs.Common.{◌≡◌, ◌++◌}
use Rattle.record_versions.specs.Versions.{IdList}
use Rattle.version_reclaim.specs.Collected.{AreIn, IsWithIds}
use Rattle.version_reclaim.proofs.collect.put_ids.Given as goal

abbrev pub invariant-loop-cell : goal.invariant-loop-cell
invariant-loop-cell l = (done : IdList) × (l.ids ≡ done ++ l._cell-iterator) × IsWithIds done l.initial.live.items l.live.items × AreIn l.live.items l.others
