-- What a shelf of disks in memory has under each name.
use Rattle.std.specs.Prelude.{ℕ, List, [], Option, Some, None, if◌then◌else◌, nat_eq}
use Rattle.std.specs.Cmp.Lexicographic.{pointwise}
use Rattle.journal_disk.specs.declared.memory.MemoryDisk.{MemoryDisk}
use Rattle.journal_disk.specs.declared.disk_rows.DiskRows.{DiskRows, End, Row'}

-- the disk under a name, in the first row that has it
abbrev pub disk_at : DiskRows → List ℕ → Option MemoryDisk
disk_at End name = None
disk_at (Row' other disk place rest) name = if pointwise nat_eq other name then disk else disk_at rest name

-- the bytes of a disk, and none where there is no disk
abbrev pub bytes_of : Option MemoryDisk → List ℕ
bytes_of None = []
bytes_of (Some disk) = disk.bytes

-- what a name holds
abbrev pub held_in : DiskRows → List ℕ → List ℕ
held_in rows name = bytes_of (disk_at rows name)
