use Rattle.desk_rounds.proofs.Places.{desks_are_places}
use Rattle.desk_rounds.proofs.laws.desks_are_places.Goals as goal

pub returns : goal.returns
returns c = desks_are_places
