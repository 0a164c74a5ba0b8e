use Rattle.desk_rounds.proofs.RoundLaws.{rounds_are_legal}
use Rattle.desk_rounds.proofs.laws.rounds_are_legal.Goals as goal

pub returns : goal.returns
returns c = rounds_are_legal
