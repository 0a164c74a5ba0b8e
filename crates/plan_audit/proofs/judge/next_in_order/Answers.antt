use Rattle.std.proofs.Common.{subst, sym}
use Rattle.plan_audit.specs.Ahead.{still}
use Rattle.plan_audit.specs.Replies.{ReplyTaken}
use Rattle.plan_audit.specs.Cases.{terms_of}
use Rattle.plan_audit.proofs.Requests.{short_is, formless_is, point_is}
use Rattle.plan_audit.proofs.judge.next_in_order.Goals as goal

pub returns-in-End-clause-found : goal.returns-in-End-clause-found
returns-in-End-clause-found g c user request all told =
    short_is (terms_of c.args.case.now) c.args.judge.now user request all
    (subst (λ n. ReplyTaken all (still c.next.new.self.ahead (g.K.Source.left c.next.new.source)) c.next.new.self.text n) c.in-End.is (c.in_ok-next.ensures.reply all told))

pub returns-in-NotInForm-clause-found : goal.returns-in-NotInForm-clause-found
returns-in-NotInForm-clause-found g c user request all told =
    let h = subst (λ n. ReplyTaken all (still c.next.new.self.ahead (g.K.Source.left c.next.new.source)) c.next.new.self.text n) c.in-NotInForm.is (c.in_ok-next.ensures.reply all told) in
    formless_is (terms_of c.args.case.now) c.args.judge.now user request all h.0 h.1

pub returns-then-not-is_in_order-clause-found : goal.returns-then-not-is_in_order-clause-found
returns-then-not-is_in_order-clause-found g c user request all told =
    point_is (terms_of c.args.case.now) c.args.judge.now user request all c.next.new.self.text (still c.next.new.self.ahead (g.K.Source.left c.next.new.source)) c.in-Reply.form
    (subst (λ n. ReplyTaken all (still c.next.new.self.ahead (g.K.Source.left c.next.new.source)) c.next.new.self.text n) c.in-Reply.is (c.in_ok-next.ensures.reply all told))
    (sym c.if-not-is_in_order.ensures)
