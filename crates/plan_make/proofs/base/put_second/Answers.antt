use Rattle.std.proofs.Common.{[], Ok, subst, sym, ap, ◌∙◌, append-nil}
use Rattle.command_words.specs.Pages.{Gathered}
use Rattle.command_words.specs.Replies.{ended}
use Rattle.command_words.proofs.Pages.{gathered_whole}
use Rattle.plan_make.proofs.Bills.{second_none, second_some}
use Rattle.plan_make.proofs.base.put_second.Goals as goal

pub returns-then-second-first : goal.returns-then-second-first
returns-then-second-first g c =
    subst (λ t. Gathered {T = Unit {0}} g.S.Sink.taken g.S.Sink.faults g.S.Sink.label c.args.sink.now c.args.sink.now c.args.page.now.items c.args.page.now.items t (Ok tt))
    (sym (second_none c.args.part c.args.first.now c.args.second.now c.if-second-first.true))
    (gathered_whole g.S.Sink.taken g.S.Sink.faults g.S.Sink.label c.args.sink.now c.args.page.now.items c.args.page.now.items [] tt (sym (append-nil c.args.page.now.items)))

pub returns : goal.returns
returns g c =
    subst (λ t. Gathered g.S.Sink.taken g.S.Sink.faults g.S.Sink.label c.args.sink.now c.put_line.new.sink c.args.page.now.items c.put_line.new.page.items t c.put_line.result)
    (ap ended (c.as_slice.ensures.value ∙ c.bill_line.ensures) ∙ sym (second_some c.args.part c.args.first.now c.args.second.now c.if-second-first.false))
    c.put_line.ensures
