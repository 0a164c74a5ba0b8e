use Rattle.std.proofs.Common.{length}
use Rattle.response_program.proofs.in_rounds.+take_back.Given as goal

abbrev pub decreases-take_back : goal.decreases-take_back
decreases-take_back g l = length l.pairs.now
