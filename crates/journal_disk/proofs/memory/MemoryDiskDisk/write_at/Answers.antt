use Rattle.std.proofs.Common.{[], ◌∷◌, ◌++◌, ◌∙◌}
use Rattle.journal_disk.specs.Memory.{kept_back}
use Rattle.journal_disk.proofs.Past.{written_on}
use Rattle.journal_disk.proofs.memory.MemoryDiskDisk.write_at.Goals as goal

pub returns-in-Ok-replace-clause-time : goal.returns-in-Ok-replace-clause-time
returns-in-Ok-replace-clause-time c =
    let was = c.is_failing.ensures in
    written_on _ _ _ _ _ _ _ _ (c.in-Ok-replace.ensures.synced ∙ (λ i. kept_back (was.synced i) (was.bytes i))) (c.in-Ok-replace.ensures.past ∙ (λ i. was.past i ++ was.bytes i ∷ []))
