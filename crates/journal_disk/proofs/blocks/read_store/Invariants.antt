use Rattle.std.proofs.Common.{◌≤◌, ◌+◌, ◌-◌, length}
use Rattle.journal_disk.specs.Stores.{Reaches}
use Rattle.journal_disk.proofs.blocks.read_store.Given as goal

abbrev pub invariant-loop-journal : goal.invariant-loop-journal
invariant-loop-journal l =
    record {
      reaches : Reaches l.bytes l.journal.entries l.rest (length l.bytes - length l.rest);
      few : length l.journal.entries + length l.rest ≤ length l.bytes;
    }

abbrev pub decreases-loop-journal : goal.decreases-loop-journal
decreases-loop-journal l = length l.rest
