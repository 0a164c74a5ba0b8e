-- One pass more was joined.
use Rattle.std.proofs.Common.{◌≡◌, List, [], ◌∷◌, ◌++◌, sym, ap, ◌∙◌, append_assoc}
use Rattle.std.specs.Prelude.{reverse}
use Rattle.std.specs.List.{AllByRecursion}
use Rattle.std.proofs.lemmas.List.{reverse-append}
use Rattle.std.proofs.lemmas.List.Sums.{fold_push}
use Rattle.turn_table.specs.Story.{Begins}
use Rattle.turn_table.specs.Passes.{TurnId, IsFree, joined_pass}
use Rattle.plan_book.specs.Books.{Story}
use Rattle.sessions.proofs.Seen.{begins_on}
use Rattle.plan_office.specs.Turns.{Known}
use Rattle.desk_rounds.specs.PassLists.{JoinedSoFar}

all_on : (done : List Known) (x : Known) (seen then : Story) → AllByRecursion (λ other. Begins other.seen seen) done → Begins seen then → Begins x.seen then → AllByRecursion (λ other. Begins other.seen then) (done ++ x ∷ [])
all_on [] x seen then h k last = (last, tt)
all_on (d ∷ done) x seen then h k last = (begins_on d.seen seen then h.0 k, all_on done x seen then h.1 k last)

pub front_ready : (turn : TurnId) (left : List Known) (x : Known) → AllByRecursion (IsFree turn) (left ++ x ∷ []) → AllByRecursion (IsFree turn) left × IsFree turn x
front_ready turn [] x h = (tt, h.0)
front_ready turn (p ∷ left) x h = let rest = front_ready turn left x h.1 in ((h.0, rest.0), rest.1)

pub joined_more : (turn : TurnId) (p q r x : Known) (all left : List Known) → JoinedSoFar turn p q all (left ++ x ∷ []) → r ≡ joined_pass q x → IsFree turn r → Begins q.seen r.seen → Begins x.seen r.seen → JoinedSoFar turn p r all left
joined_more turn p q r x all left h pass free grows seen =
    record {
      done = h.done ++ x ∷ [];
      parts = h.parts ∙ append_assoc left (x ∷ []) (reverse h.done) ∙ ap (λ more. left ++ more) (sym (reverse-append h.done (x ∷ [])));
      joined = record {
        pass = pass ∙ ap (λ k. joined_pass k x) h.joined.pass ∙ sym (fold_push joined_pass p h.done x);
        free = free;
        grows = begins_on p.seen q.seen r.seen h.joined.grows grows;
        seen = all_on h.done x q.seen r.seen h.joined.seen grows seen;
      };
      ready = (front_ready turn left x h.ready).0;
    }
