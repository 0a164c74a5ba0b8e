use Rattle.std.proofs.Common.{◌≡◌, ◌<◌, ◌∙◌, ap, length, arith}
use Rattle.std.proofs.Math.Seq.{take-suc, take-length}
use Rattle.std.specs.Arc.{arc_value}
use Rattle.std.specs.Fn.{FnReturnsAt}
use Rattle.shared_memo.proofs.Mapped.{keeps-all, without_all-next}
use Rattle.shared_memo.proofs.Memo.keep_only.Goals as goal

pub loop-key-preserved : goal.loop-key-preserved
loop-key-preserved g c =
    let inv = c.loop-key.invariant in
    let eq = g.K.PartialEq.eq in
    let ks = c.deref-key-items.result.now in
    let at : c.loop-key.key-index < length c.deref-key-items.result.now = omega arith in
    let more = rw (← c.key-item.is) at (take-suc ks c.loop-key.key-index c.key-item.result at) in
    record {
      entries = without_all-next eq ks c.loop-key.key-index c.key-item.result c.self.inside.cache.entries c.loop-key.self-inside.cache.entries c.pop.new.self.entries inv.entries (ap (λ x. x.entries) c.pop.ensures.entries) more;
      cap = ap (λ x. x.cap) c.pop.ensures.entries ∙ inv.cap;
    }

pub returns-clause-ok : goal.returns-clause-ok
returns-clause-ok g c =
    let inv = c.loop-key.invariant in
    let eq = g.K.PartialEq.eq in
    let es = c.self.inside.cache.entries in
    let laws = g.met.K.Eq.laws in
    let ended : c.loop-key.key-index ≡ length c.deref-key-items.result.now = omega arith in
    let all = rw (ended, take-length) at inv.entries in
    rw (← c.self.view_is, all, c.deref-key-items.ensures.value) (keeps-all eq arc_value (FnReturnsAt g.F.Fn c.args.keep) es c.in_ok-refused.refused.items laws.symm laws.refl c.len-count.ensures.valid.0
    (rw (← c.self.view_is) at c.in_ok-refused.ensures))
