use Rattle.std.proofs.Common.{rules, ◌<◌, [], ◌∷◌, length, sym, subst}
use Rattle.response_program.specs.Desks.{DeskView}
use Rattle.response_program.specs.InRounds.{begun}
use Rattle.response_program.proofs.Queues.{empty_queue, front, on_ok, on_err}
use Rattle.response_program.proofs.Filled.{some_then}
use Rattle.response_program.proofs.Filling.{named_rest, more_gone, fill_none, fill_more}
use Rattle.response_program.proofs.in_rounds.+fill_rounds.Goals as goal

pub returns-in-None-clause-ok : goal.returns-in-None-clause-ok
returns-in-None-clause-ok g _ c =
    fill_none g.S.Source.left g.S.Source.faults g.S.Source.label g.K.Sink.taken g.K.Sink.faults g.K.Sink.label c.args.begins c.args.rounds.now c.args.pairs.now c.args.waiting.now.items
    (empty_queue c.args.waiting.now.items c.pop_front.new.self.items c.pop_front.result c.in-None.is c.pop_front.ensures.items c.pop_front.ensures.rest) c.requires.named

pub fill_rounds-requires : goal.fill_rounds-requires
fill_rounds-requires g _ c κs within =
    let items_are = front c.args.waiting.now.items c.pop_front.new.self.items c.pop_front.result c.in-Some.desk c.in-Some.is c.pop_front.ensures.items in
    let rest = c.in-Some-split_first.rest.now in
    let placed = c.in-Some-split_first.placed.now in (
      search rules,
      (
        search rules,
        (
          search rules,
          (
            (named_rest c.args.pairs.now rest placed c.args.waiting.now.items c.pop_front.new.self.items c.in-Some.desk c.in-Some-split_first.ensures.cases.0 items_are c.requires.named).1,
            subst (λ rounds. 0 < length (begun placed.ends_round rounds)) (sym c.in-Ok.ensures) (some_then placed.ends_round c.args.begins c.args.rounds.now c.into_desk.result c.requires.some),
          ),
        ),
      ),
    )

pub returns-in-Ok-clause-ok : goal.returns-in-Ok-clause-ok
returns-in-Ok-clause-ok g _ c =
    let items_are = front c.args.waiting.now.items c.pop_front.new.self.items c.pop_front.result c.in-Some.desk c.in-Some.is c.pop_front.ensures.items in
    let rest = c.in-Some-split_first.rest.now in
    let placed = c.in-Some-split_first.placed.now in
    let named = named_rest c.args.pairs.now rest placed c.args.waiting.now.items c.pop_front.new.self.items c.in-Some.desk c.in-Some-split_first.ensures.cases.0 items_are c.requires.named in
    on_ok c.fill_rounds.result (λ h.
    fill_more g.S.Source.left g.S.Source.faults g.S.Source.label g.K.Sink.taken g.K.Sink.faults g.K.Sink.label c.args.begins c.args.rounds.now c.seat_desk.new.rounds c.fill_rounds.new.rounds c.args.pairs.now rest placed
    c.args.waiting.now.items c.pop_front.new.self.items c.in-Some.desk c.into_desk.result c.in-Some-split_first.ensures.cases.0 items_are named.0 c.into_desk.ensures.view c.into_desk.ensures.source c.into_desk.ensures.sink
    c.into_desk.ensures.unserved c.in-Ok.ensures h) c.fill_rounds.ensures.ok

pub returns-in-Ok-clause-err : goal.returns-in-Ok-clause-err
returns-in-Ok-clause-err g _ c =
    on_err c.fill_rounds.result (λ h.
    more_gone c.args.waiting.now.items c.pop_front.new.self.items c.in-Some.desk c.fill_rounds.new.waiting.items
    (front c.args.waiting.now.items c.pop_front.new.self.items c.pop_front.result c.in-Some.desk c.in-Some.is c.pop_front.ensures.items) h) c.fill_rounds.ensures.err

pub returns-in-Err-clause-err : goal.returns-in-Err-clause-err
returns-in-Err-clause-err g _ c =
    let desk : DeskView = c.in-Some.desk in
    (desk ∷ [], front c.args.waiting.now.items c.pop_front.new.self.items c.pop_front.result c.in-Some.desk c.in-Some.is c.pop_front.ensures.items)

pub returns-in-None-split_first-clause-err : goal.returns-in-None-split_first-clause-err
returns-in-None-split_first-clause-err g _ c =
    let desk : DeskView = c.in-Some.desk in
    (desk ∷ [], front c.args.waiting.now.items c.pop_front.new.self.items c.pop_front.result c.in-Some.desk c.in-Some.is c.pop_front.ensures.items)
