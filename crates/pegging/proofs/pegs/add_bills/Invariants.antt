use Rattle.std.proofs.Common.{map}
use Rattle.pegging.specs.Pegs.{shown}
use Rattle.pegging.proofs.Pegged.{PeggedBills}
use Rattle.pegging.proofs.pegs.add_bills.Given as goal

abbrev pub invariant-loop-key : goal.invariant-loop-key
invariant-loop-key l = PeggedBills l.start l.at l.releases l.cell l.key-iterator l.next (map shown l.initial.pegs) (map shown l.pegs)
