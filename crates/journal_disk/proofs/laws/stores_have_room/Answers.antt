use Rattle.journal_disk.proofs.Sizes.{histories_fit}
use Rattle.journal_disk.proofs.laws.stores_have_room.Goals as goal

pub returns : goal.returns
returns c = histories_fit
