use Rattle.std.proofs.Common.{Some, take, refl, sym, ◌∙◌}
use Rattle.session_rules.specs.Answers.{answer}
use Rattle.plan_audit.specs.Cases.{terms_of}
use Rattle.plan_audit.proofs.Stands.{behind_still, behind_at, stands_still, answer_there, same_told}
use Rattle.plan_audit.proofs.judge.is_answer_at.Goals as goal

pub returns-in_err-go_on-clause-behind : goal.returns-in_err-go_on-clause-behind
returns-in_err-go_on-clause-behind c =
    let t = terms_of c.args.case.now in
    let b = c.requires.behind in
    behind_still t c.args.judge.now (record c.args.judge.now { book = c.go_on.new.book }) c.args.point b refl c.requires.reached (c.go_on.ensures.err t.base b.point b.stands)

pub returns-in_err-reply-clause-behind : goal.returns-in_err-reply-clause-behind
returns-in_err-reply-clause-behind c =
    let t = terms_of c.args.case.now in
    let b = c.requires.behind in
    behind_at t c.args.judge.now (record c.args.judge.now { book = c.answer_at.new.book }) c.args.point b refl c.requires.reached
    (stands_still t.base t.entries c.go_on.new.book c.answer_at.new.book c.args.point c.answer_at.ensures.story (c.in_ok-go_on.ensures.ok t.base b.point b.stands))

pub returns-clause-behind : goal.returns-clause-behind
returns-clause-behind c =
    let t = terms_of c.args.case.now in
    let b = c.requires.behind in
    behind_at t c.args.judge.now (record c.args.judge.now { book = c.answer_at.new.book }) c.args.point b refl c.requires.reached
    (stands_still t.base t.entries c.go_on.new.book c.answer_at.new.book c.args.point c.answer_at.ensures.story (c.in_ok-go_on.ensures.ok t.base b.point b.stands))

pub returns-clause-right : goal.returns-clause-right
returns-clause-right c =
    let t = terms_of c.args.case.now in
    let b = c.requires.behind in
    same_told c.is_text_of.result c.text.result.now c.args.judge.now.replies.text (Some c.in_ok-reply.reply) (answer t.base (take c.args.point t.entries) c.args.user.now c.args.command.now) c.text.ensures
    (sym c.in_ok-reply.ensures.answer ∙ answer_there t.base t.entries c.go_on.new.book c.args.point c.args.user.now c.args.command.now (c.in_ok-go_on.ensures.ok t.base b.point b.stands))
    c.is_text_of.ensures
