use Rattle.std.proofs.Common.{◌∙◌, sym}
use Rattle.plan_core.proofs.Refusing.{refused_by_scenarios, refused_by_journal}
use Rattle.plan_core.proofs.kept.Core.refusal.Goals as goal

pub returns-in-Some : goal.returns-in-Some
returns-in-Some c =
    let x = c.self.inside in
    sym (refused_by_scenarios x.began.base x.began.earlier x.journal.entries x.memo x.tally x.forest x.before x.carried c.args.self.now c.self.invariant c.self.view_is c.args.user.now c.args.change.now
    c.in-Some.refusal c.in-Some.ensures)

pub returns-in-None : goal.returns-in-None
returns-in-None c =
    let x = c.self.inside in
    c.journal_refusal.ensures
    ∙ sym (refused_by_journal x.began.base x.began.earlier x.journal.entries x.memo x.tally x.forest x.before x.carried c.args.self.now c.self.invariant c.self.view_is c.args.user.now c.args.change.now c.in-None.ensures)
