use Rattle.std.proofs.Common.{◌∙◌, ap}
use Rattle.plan_core.specs.State.{State, state_of, added}
use Rattle.plan_core.proofs.Settled.{tally_changed}
use Rattle.plan_core.proofs.kept.Core.count.Goals as goal

pub invariant_of-self : goal.invariant_of-self
invariant_of-self c =
    let x = c.self.inside in
    tally_changed x.began.base x.began.earlier x.journal.entries x.memo x.memo x.tally x.forest x.before x.carried c.self.invariant c.added-self-inside.result

pub returns : goal.returns
returns c =
    let x = c.self.inside in
    (λ i. state_of x.began.base x.began.earlier x.journal.entries x.memo (c.added-self-inside.ensures i)) ∙ ap (λ (s : State). record s { tally = added s.tally c.args.work }) c.self.view_is
