use Rattle.std.proofs.Common.{◌≡◌, ◌≤◌, ◌*◌, take, sum}
use Rattle.query_rows.proofs.value.sum.Given as goal

abbrev pub invariant-loop-qty : goal.invariant-loop-qty
invariant-loop-qty l = record {
  summed : l.sum ≡ sum (take l.qty-index l.quantities);
  small : l.sum ≤ l.qty-index * 18_446_744_073_709_551_616;
}
