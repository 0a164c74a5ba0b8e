use Rattle.std.proofs.Common.{sym, ap, refl}
use Rattle.std.specs.Arc.{arc_value}
use Rattle.shared_memo.specs.Pairs.{memo}
use Rattle.shared_memo.proofs.Mapped.{in_front-mapped, found-mapped}
use Rattle.shared_memo.proofs.Memo.get.Goals as goal

pub returns : goal.returns
returns g c =
    let test = g.K.PartialEq.eq c.args.key.now in
    let es = c.self.inside.cache.entries in
    rw (← c.self.view_is) (
      (refl, λ _. tt, rw c.get.follows.holds-at-none (ap (λ ps. memo ps c.self.inside.cache.cap) (sym (in_front-mapped arc_value test es)))),
      record { front = tt; value = found-mapped arc_value test es c.get.result c.get.ensures.value },
    )
