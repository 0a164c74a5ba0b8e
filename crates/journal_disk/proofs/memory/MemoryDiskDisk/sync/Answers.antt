use Rattle.std.proofs.Common.{◌∙◌}
use Rattle.journal_disk.specs.Memory.{after_sync}
use Rattle.journal_disk.proofs.Past.{settled_on}
use Rattle.journal_disk.proofs.memory.MemoryDiskDisk.sync.Goals as goal

pub returns-in-Ok-clause-time : goal.returns-in-Ok-clause-time
returns-in-Ok-clause-time c =
    let was = c.is_failing.ensures in
    settled_on _ _ _ _ _ _ _ _ (c.in-Ok.ensures.bytes ∙ was.bytes) c.in-Ok.ensures.synced (c.in-Ok.ensures.past ∙ (λ i. after_sync (was.past i) (was.synced i)))
