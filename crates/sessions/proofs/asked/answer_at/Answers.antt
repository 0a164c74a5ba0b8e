use Rattle.std.proofs.Common.{Some, ap, ◌∙◌, sym}
use Rattle.plan_book.specs.Books.{history}
use Rattle.command_words.specs.declared.reply.Reply.TheVariants as replies
use Rattle.sessions.proofs.Exact.{no_memory_for, no_memory_answer}
use Rattle.sessions.proofs.AtBook.{exact_at}
use Rattle.sessions.proofs.asked.answer_at.Goals as goal

pub returns-in-Hello-clause-answer : goal.returns-in-Hello-clause-answer
returns-in-Hello-clause-answer g c =
    let book = c.args.book.now in
    let basis = g.B.Storied.basis in
    no_memory_answer (basis book).base (history (basis book) (g.B.Storied.story book)) c.args.user.now c.args.command.now (no_memory_for c.args.command.now c.in-Hello.is)
    ∙ ap (λ n. Some (replies.Ok n)) (sym c.point.ensures)

pub returns-in-Ok-clause-answer : goal.returns-in-Ok-clause-answer
returns-in-Ok-clause-answer g c =
    let h = c.in-Ok.ensures in
    exact_at g.B.Storied.story g.B.Storied.faults g.B.Storied.basis c.new-alone.result.terms c.args.book.now c.answer.new.state c.args.user.now c.args.command.now c.in-Ok.reply h.looks h.exact
