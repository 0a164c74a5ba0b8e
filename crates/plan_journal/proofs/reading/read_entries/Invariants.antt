use Rattle.std.proofs.Common.{◌≡◌, ◌+◌, ◌≤◌, length}
use Rattle.plan_journal.specs.Cuts.{parts_of}
use Rattle.plan_journal.specs.Places.{nothing}
use Rattle.plan_journal.specs.Reading.{entries_from}
use Rattle.plan_journal.proofs.reading.read_entries.Given as goal

abbrev pub invariant-loop-line : goal.invariant-loop-line
invariant-loop-line l = record {
  same : entries_from l.frame l.reading l.number (parts_of l.rest) ≡ entries_from l.frame nothing l.fn.number (parts_of l.text);
  few : l.number + length l.rest ≤ 2 + length l.text;
}

abbrev pub decreases-loop-line : goal.decreases-loop-line
decreases-loop-line l = length l.rest
