use Rattle.std.proofs.Common.{Some, None, take, refl, sym, ap, ◌∙◌}
use Rattle.command_words.specs.declared.reply.Reply.TheVariants as replies
use Rattle.session_rules.specs.Answers.{change_answer}
use Rattle.plan_audit.specs.Judging.{is_text_of}
use Rattle.plan_audit.specs.Cases.{terms_of}
use Rattle.plan_audit.proofs.Stands.{behind_still, refusal_there, same_told}
use Rattle.plan_audit.proofs.judge.is_right_refusal.Goals as goal

pub returns-in_err-go_on-clause-behind : goal.returns-in_err-go_on-clause-behind
returns-in_err-go_on-clause-behind c =
    let t = terms_of c.args.case.now in
    let b = c.requires.behind in
    behind_still t c.args.judge.now (record c.args.judge.now { book = c.go_on.new.book }) c.args.point b refl c.requires.reached (c.go_on.ensures.err t.base b.point b.stands)

pub returns-in-Some-clause-right : goal.returns-in-Some-clause-right
returns-in-Some-clause-right c =
    let t = terms_of c.args.case.now in
    let b = c.requires.behind in
    same_told c.is_text_of.result c.text.result.now c.args.judge.now.replies.text (Some (replies.No c.args.point c.in-Some.refusal)) (change_answer t.base (take c.args.point t.entries) c.args.user.now c.args.change.now) c.text.ensures
    (refusal_there t.base t.entries c.go_on.new.book c.args.point c.args.user.now c.args.change.now (Some c.in-Some.refusal) (c.in_ok-go_on.ensures.ok t.base b.point b.stands) (sym c.in-Some.is ∙ c.refusal.ensures))
    c.is_text_of.ensures

pub returns-in-None-clause-right : goal.returns-in-None-clause-right
returns-in-None-clause-right c =
    let t = terms_of c.args.case.now in
    let b = c.requires.behind in
    ap (is_text_of c.args.judge.now.replies.text)
    (refusal_there t.base t.entries c.go_on.new.book c.args.point c.args.user.now c.args.change.now None (c.in_ok-go_on.ensures.ok t.base b.point b.stands) (sym c.in-None.is ∙ c.refusal.ensures))
