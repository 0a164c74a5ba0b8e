use Rattle.std.proofs.Common.{◌∙◌, sym, ap, subst}
use Rattle.plan_book.specs.Books.{history}
use Rattle.request_loop.specs.Serving as loop
use Rattle.sessions.specs.Alone.{sight_of}
use Rattle.sessions.specs.Serving.{setting, Serves}
use Rattle.sessions.proofs.FromChain.{gives}
use Rattle.sessions.proofs.Ended.{stops}
use Rattle.sessions.proofs.OwnBook.{failed, worn, book_ended, never_worn, serves_book}
use Rattle.sessions.proofs.serving.serve_alone.Goals as goal

pub returns : goal.returns
returns g c =
    let story = g.B.Storied.story in
    let faults = g.B.Storied.faults in
    let basis = g.B.Storied.basis in
    let terms = c.new-session.result.reach.terms in
    let sight = sight_of story faults basis terms in
    let fails = failed story faults basis terms in
    let wears = worn story faults basis terms in
    let old = c.args.book.now in
    let new = c.serve_requests.new.state in
    let before = g.K.Sink.taken c.args.sink.now in
    let after = g.K.Sink.taken c.serve_requests.new.sink in
    let served = c.serve_requests.result in
    let h = c.serve_requests.ensures.served in
    record {
      cause = c.serve_requests.ensures.cause;
      book = book_ended story faults basis terms old new h.input before after served h.serves.short;
      worn = never_worn story faults basis terms old new h.input before after served h.serves.short;
      served = λ input told.
          subst (λ t. Serves (setting t.may_change t.session (basis old) (story old)) (history (basis new) (story new)) input before after served) (ap (λ a. a.terms) c.new-session.ensures ∙ c.new-alone.ensures)
          (serves_book story faults basis terms old new input before after served
          (subst (λ i. loop.Serves (gives sight) (stops sight fails wears) old new i before after served) (sym (h.told input told)) h.serves));
    }
