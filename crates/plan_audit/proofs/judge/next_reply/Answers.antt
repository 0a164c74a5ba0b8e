use Rattle.std.proofs.Common.{◌≡◌, true, sym, subst}
use Rattle.plan_audit.specs.Judging.{is_in_order, point_in}
use Rattle.plan_audit.specs.Replies.{form_for}
use Rattle.plan_audit.specs.Cases.{terms_of}
use Rattle.plan_audit.proofs.Stands.{behind_stays, behind_reached}
use Rattle.plan_audit.proofs.judge.next_reply.Goals as goal

pub returns-in_err-form-clause-behind : goal.returns-in_err-form-clause-behind
returns-in_err-form-clause-behind g c =
    behind_stays (terms_of c.args.case.now) c.args.judge.now c.next_in_order.new.judge c.requires c.next_in_order.ensures.stays.book c.next_in_order.ensures.stays.last

pub returns-clause-behind : goal.returns-clause-behind
returns-clause-behind g c =
    let stays = c.next_in_order.ensures.stays in
    behind_reached (terms_of c.args.case.now) c.next_in_order.new.judge c.reach.new.self (form_for c.in_ok-form.form)
    (behind_stays (terms_of c.args.case.now) c.args.judge.now c.next_in_order.new.judge c.requires stays.book stays.last) (subst (λ n. is_in_order n c.args.case.now.ceiling (point_in (form_for c.in_ok-form.form)) ≡ true) (sym stays.last) c.in_ok-form.ensures.next.in_order) c.reach.ensures.last c.reach.ensures.rest.book
