use Rattle.std.proofs.Common.{◌≡◌, ◌≤◌, ◌-◌, ℕ, List, length, Some}
use Rattle.plan_schema.specs.declared.limits.TheConstants.{BYTE_LIMIT}
use Rattle.journal_disk.specs.Disks.{Looked}
use Rattle.journal_disk.proofs.Pieces.{IsFront}
use Rattle.journal_disk.proofs.recovery.read_whole.Given as goal

abbrev pub invariant-loop-buffer : goal.invariant-loop-buffer
invariant-loop-buffer g l =
    record {
      front : (all : List ℕ) → (g.D.Disk.moment l.fn.disk).told ≡ Some all → IsFront all l.bytes;
      size : (all : List ℕ) → (g.D.Disk.moment l.fn.disk).told ≡ Some all → l.size ≡ length all;
      few : length l.bytes ≤ l.size;
      fits : l.size ≤ BYTE_LIMIT;
      same : Looked (g.D.Disk.moment l.fn.disk) (g.D.Disk.moment l.disk);
      later : (g.D.Disk.moment l.fn.disk).faults ≤ (g.D.Disk.moment l.disk).faults;
    }

abbrev pub decreases-loop-buffer : goal.decreases-loop-buffer
decreases-loop-buffer g l = l.size - length l.bytes
