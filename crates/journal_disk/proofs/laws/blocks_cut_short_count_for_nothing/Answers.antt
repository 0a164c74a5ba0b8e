use Rattle.journal_disk.proofs.CutShort.{cut_short}
use Rattle.journal_disk.proofs.laws.blocks_cut_short_count_for_nothing.Goals as goal

pub returns : goal.returns
returns c = cut_short
