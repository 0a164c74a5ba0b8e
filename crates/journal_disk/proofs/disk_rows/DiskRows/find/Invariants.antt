use Rattle.std.proofs.Common.{◌≡◌}
use Rattle.journal_disk.specs.DiskRows.{disk_at}
use Rattle.journal_disk.proofs.disk_rows.DiskRows.find.Given as goal

abbrev pub invariant-loop-rows : goal.invariant-loop-rows
invariant-loop-rows l = disk_at l.rows l.name ≡ disk_at l.self l.name
