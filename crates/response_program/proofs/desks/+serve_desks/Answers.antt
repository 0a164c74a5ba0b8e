use Rattle.std.proofs.Common.{◌+◌, None, Some, sym, ap, subst}
use Rattle.std.specs.Prelude.{option_map}
use Rattle.response_program.specs.Views.{view}
use Rattle.response_program.specs.Outcomes.{outcome_of}
use Rattle.response_program.specs.Desks.{AreDone}
use Rattle.response_program.proofs.Done.{done_none, done_stopped, done_ended}
use Rattle.response_program.proofs.Queues.{empty_queue, front}
use Rattle.response_program.proofs.desks.+serve_desks.Goals as goal

pub returns-in-None-clause-done : goal.returns-in-None-clause-done
returns-in-None-clause-done g _ c =
    let old = view g.H.Shelf.held g.H.Shelf.open_faults g.H.Shelf.read_faults g.H.Shelf.write_faults c.args.shelf.now in
    subst (λ ds. AreDone c.args.book.now.base c.args.session c.args.book.now.entries c.args.book.now.entries ds None old old)
    (sym (empty_queue c.args.waiting.now.items c.pop_front.new.self.items c.pop_front.result c.in-None.is c.pop_front.ensures.items c.pop_front.ensures.rest))
    (done_none c.args.book.now.base c.args.session c.args.book.now.entries old)

pub returns-in-Some-stop-clause-done : goal.returns-in-Some-stop-clause-done
returns-in-Some-stop-clause-done g _ c =
    let old = view g.H.Shelf.held g.H.Shelf.open_faults g.H.Shelf.read_faults g.H.Shelf.write_faults c.args.shelf.now in
    let between = view g.H.Shelf.held g.H.Shelf.open_faults g.H.Shelf.read_faults g.H.Shelf.write_faults c.close_desk.new.shelf in
    let new = view g.H.Shelf.held g.H.Shelf.open_faults g.H.Shelf.read_faults g.H.Shelf.write_faults c.close_desks.new.shelf in
    let outcome = outcome_of c.in-Some-stop.ending in
    subst (λ ds. AreDone c.args.book.now.base c.args.session c.args.book.now.entries c.serve_one-stop.new.book.entries ds (Some outcome) old new)
    (sym (front c.args.waiting.now.items c.pop_front.new.self.items c.pop_front.result c.in-Some.desk c.in-Some.is c.pop_front.ensures.items))
    (done_stopped c.args.book.now.base c.args.session c.args.book.now.entries c.serve_one-stop.new.book.entries c.in-Some.desk c.serve_one-stop.new.desk c.pop_front.new.self.items
    (option_map outcome_of c.serve_one-stop.result) outcome old between new c.serve_one-stop.ensures.served (ap (option_map outcome_of) c.in-Some-stop.is) c.close_desk.ensures c.close_desks.ensures.given)

pub returns-in-None-stop-clause-done : goal.returns-in-None-stop-clause-done
returns-in-None-stop-clause-done g _ c =
    let old = view g.H.Shelf.held g.H.Shelf.open_faults g.H.Shelf.read_faults g.H.Shelf.write_faults c.args.shelf.now in
    let between = view g.H.Shelf.held g.H.Shelf.open_faults g.H.Shelf.read_faults g.H.Shelf.write_faults c.close_desk.new.shelf in
    let new = view g.H.Shelf.held g.H.Shelf.open_faults g.H.Shelf.read_faults g.H.Shelf.write_faults c.serve_desks.new.shelf in
    let stop = option_map outcome_of c.serve_desks.result in
    subst (λ ds. AreDone c.args.book.now.base c.args.session c.args.book.now.entries c.serve_desks.new.book.entries ds stop old new)
    (sym (front c.args.waiting.now.items c.pop_front.new.self.items c.pop_front.result c.in-Some.desk c.in-Some.is c.pop_front.ensures.items))
    (done_ended c.args.book.now.base c.args.session c.args.book.now.entries c.serve_one-stop.new.book.entries c.serve_desks.new.book.entries c.in-Some.desk c.serve_one-stop.new.desk c.pop_front.new.self.items
    (option_map outcome_of c.serve_one-stop.result) stop old between new c.serve_one-stop.ensures.served (ap (option_map outcome_of) c.in-None-stop.is) c.close_desk.ensures
    (subst (λ base. AreDone base (c.args.session + 1) c.serve_one-stop.new.book.entries c.serve_desks.new.book.entries c.pop_front.new.self.items stop between new) c.serve_one-stop.ensures.base c.serve_desks.ensures.done))
