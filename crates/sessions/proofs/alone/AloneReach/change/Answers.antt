use Rattle.plan_book.specs.Books.{entry_for}
use Rattle.sessions.proofs.OwnCalls.{own_unmade}
use Rattle.sessions.proofs.alone.AloneReach.change.Goals as goal

pub returns-in_err-number-clause-made : goal.returns-in_err-number-clause-made
returns-in_err-number-clause-made g c =
    let terms = c.args.self.now.terms in
    own_unmade g.B.Storied.story g.B.Storied.faults g.B.Storied.basis terms c.args.book.now c.change.new.self (entry_for terms.session c.args.line c.args.user.now c.args.change) c.from_residual.result c.in_err-number.field-0.0
    c.from_residual.ensures c.if-not-self.false c.in_err-number.ensures.changed
