use Rattle.std.proofs.Common.{sym, ap}
use Rattle.std.specs.Arc.{arc_value}
use Rattle.shared_memo.specs.Pairs.{memo}
use Rattle.shared_memo.proofs.Mapped.{with_pair-mapped, present-mapped}
use Rattle.shared_memo.proofs.Memo.put.Goals as goal

pub returns-in-Ok-clause-ok : goal.returns-in-Ok-clause-ok
returns-in-Ok-clause-ok g c =
    rw (← c.self.view_is, c.in-Ok.ensures.entries) (ap (λ ps. memo ps c.self.inside.cache.cap) (sym (with_pair-mapped arc_value g.K.PartialEq.eq c.self.inside.cache c.args.key c.args.value)))

pub returns-clause-present : goal.returns-clause-present
returns-clause-present g c = rw (← c.self.view_is) (λ h. c.in-Err.ensures.succeeds (present-mapped arc_value (g.K.PartialEq.eq c.args.key) c.self.inside.cache.entries h))
