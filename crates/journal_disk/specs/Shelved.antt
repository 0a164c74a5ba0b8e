-- The disks that a shelf in memory has.
use Rattle.std.specs.Prelude.{ℕ, List, Option}
use Rattle.journal_disk.specs.declared.memory.MemoryDisk.{MemoryDisk}
use Rattle.journal_disk.specs.declared.memory_disks.MemoryDisks.{MemoryDisks}
use Rattle.journal_disk.specs.DiskRows.{disk_at}

-- the disk under a name
abbrev pub disk_under : MemoryDisks → List ℕ → Option MemoryDisk
disk_under shelf name = disk_at shelf.rows name
