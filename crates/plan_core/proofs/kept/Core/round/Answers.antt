use Rattle.std.proofs.Common.{◌++◌, refl, sym, subst}
use Rattle.version_rules.specs.Meaning.{meaning_after}
use Rattle.walk_rules.specs.Cells.{Stands}
use Rattle.plan_core.specs.State.{State, state_of, meaning_of}
use Rattle.plan_core.proofs.Settled.{memo_changed, has_round}
use Rattle.plan_core.proofs.kept.Core.round.Goals as goal

pub settle-requires-clause-meant : goal.settle-requires-clause-meant
settle-requires-clause-meant c =
    let x = c.self.inside in
    let m = meaning_after x.began.base (x.began.earlier ++ x.journal.entries) in
    (m, c.self.invariant.holds.right, subst (λ (s : State). Stands (meaning_of s) c.args.walk.now.job.cells) (sym c.self.view_is) c.requires.stands)

pub invariant_of-self : goal.invariant_of-self
invariant_of-self c =
    let x = c.self.inside in
    let m = meaning_after x.began.base (x.began.earlier ++ x.journal.entries) in
    memo_changed x.began.base x.began.earlier x.journal.entries x.memo c.settle.new.memo x.tally x.forest x.before x.carried c.self.invariant
    (c.settle.ensures.right m c.self.invariant.holds.right (subst (λ (s : State). Stands (meaning_of s) c.args.walk.now.job.cells) (sym c.self.view_is) c.requires.stands))

pub invariant_of-self-2 : goal.invariant_of-self-2
invariant_of-self-2 c =
    let x = c.self.inside in
    let m = meaning_after x.began.base (x.began.earlier ++ x.journal.entries) in
    memo_changed x.began.base x.began.earlier x.journal.entries x.memo c.settle.new.memo x.tally x.forest x.before x.carried c.self.invariant
    (c.settle.ensures.right m c.self.invariant.holds.right (subst (λ (s : State). Stands (meaning_of s) c.args.walk.now.job.cells) (sym c.self.view_is) c.requires.stands))

pub returns-clause-ok : goal.returns-clause-ok
returns-clause-ok c =
    let x = c.self.inside in
    has_round x.began.base x.began.earlier x.journal.entries x.memo c.settle.new.memo x.tally x.forest x.before x.carried c.args.self.now c.count.new.self c.args.walk.now c.settle.new.self c.args.solved
    c.in_ok-round.round c.in_ok-round.work c.self.view_is c.settle.ensures.most c.in_ok-round.ensures.settles (state_of x.began.base x.began.earlier x.journal.entries c.settle.new.memo x.tally) refl c.count.ensures
