use Rattle.std.specs.Arc.{arc_value}
use Rattle.shared_memo.proofs.Mapped.{within-mapped}
use Rattle.shared_memo.proofs.Memo.len.Goals as goal

pub returns-clause-within : goal.returns-clause-within
returns-clause-within g c = rw (← c.self.view_is) (within-mapped arc_value g.K.PartialEq.eq c.self.inside.cache c.len.ensures.valid)
