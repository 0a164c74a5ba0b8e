use Rattle.std.proofs.Common.{◌≡◌, take}
use Rattle.std.specs.Prelude.{sum}
use Rattle.full_pegging.proofs.streams.total.Given as goal

abbrev pub invariant-loop-qty : goal.invariant-loop-qty
invariant-loop-qty l = l.sum ≡ sum (take l.qty-index l.quantities)
