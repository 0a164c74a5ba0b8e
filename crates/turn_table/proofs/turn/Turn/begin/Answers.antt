use Rattle.turn_table.proofs.Opening.{opening-keeps}
use Rattle.turn_table.proofs.turn.Turn.begin.Goals as goal

pub vacant-made-requires : goal.vacant-made-requires
vacant-made-requires g c = opening-keeps g.T.Storied.story g.T.Storied.faults g.T.Storied.basis c.args.first c.requires.low
