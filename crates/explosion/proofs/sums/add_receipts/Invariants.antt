use Rattle.std.proofs.Common.{length}
use Rattle.explosion.proofs.Totals.{AddedReceipts}
use Rattle.explosion.proofs.sums.add_receipts.Given as goal

abbrev pub invariant-loop-key : goal.invariant-loop-key
invariant-loop-key l = AddedReceipts l.start (length l.initial.sums) l.cell l.key-iterator l.sums
