-- What a disk in memory held at its last sync.
use Rattle.std.specs.Prelude.{ℕ, List, unwrap_or}
use Rattle.journal_disk.specs.declared.memory.MemoryDisk.{MemoryDisk}

-- the bytes as they stood after the last sync
abbrev pub synced_bytes : MemoryDisk → List ℕ
synced_bytes disk = unwrap_or disk.synced disk.bytes
