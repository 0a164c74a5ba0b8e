use Rattle.std.proofs.Common.{sym, subst}
use Rattle.response_program.specs.Views.{view}
use Rattle.response_program.specs.Desks as desks
use Rattle.response_program.specs.Desks.{DeskView, AreGivenBack}
use Rattle.response_program.proofs.Queues.{empty_queue, front}
use Rattle.response_program.proofs.desks.+close_desks.Goals as goal

pub returns-in-Some-clause-given : goal.returns-in-Some-clause-given
returns-in-Some-clause-given g _ c =
    let old = view g.H.Shelf.held g.H.Shelf.open_faults g.H.Shelf.read_faults g.H.Shelf.write_faults c.args.shelf.now in
    let between = view g.H.Shelf.held g.H.Shelf.open_faults g.H.Shelf.read_faults g.H.Shelf.write_faults c.close_desk.new.shelf in
    let new = view g.H.Shelf.held g.H.Shelf.open_faults g.H.Shelf.read_faults g.H.Shelf.write_faults c.close_desks.new.shelf in
    subst (λ ds. AreGivenBack old ds new) (sym (front c.args.waiting.now.items c.pop_front.new.self.items c.pop_front.result c.in-Some.desk c.in-Some.is c.pop_front.ensures.items))
    (desks.more old between new c.in-Some.desk c.pop_front.new.self.items c.close_desk.ensures c.close_desks.ensures.given)

pub returns-in-None-clause-given : goal.returns-in-None-clause-given
returns-in-None-clause-given g _ c =
    let old = view g.H.Shelf.held g.H.Shelf.open_faults g.H.Shelf.read_faults g.H.Shelf.write_faults c.args.shelf.now in
    subst (λ ds. AreGivenBack old ds old) (sym (empty_queue c.args.waiting.now.items c.pop_front.new.self.items c.pop_front.result c.in-None.is c.pop_front.ensures.items c.pop_front.ensures.rest))
    (desks.none old)
