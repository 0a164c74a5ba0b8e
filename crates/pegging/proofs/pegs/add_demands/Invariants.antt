use Rattle.std.proofs.Common.{map}
use Rattle.pegging.specs.Pegs.{shown}
use Rattle.pegging.proofs.Pegged.{PeggedDemands}
use Rattle.pegging.proofs.pegs.add_demands.Given as goal

abbrev pub invariant-loop-key : goal.invariant-loop-key
invariant-loop-key l = PeggedDemands l.start l.at l.cell l.key-iterator (map shown l.initial.pegs) (map shown l.pegs)
