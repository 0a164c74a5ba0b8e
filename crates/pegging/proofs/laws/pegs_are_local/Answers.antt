use Rattle.pegging.proofs.Local.{pegs_own}
use Rattle.pegging.proofs.laws.pegs_are_local.Goals as goal

pub returns : goal.returns
returns c = pegs_own
