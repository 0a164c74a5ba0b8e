-- What is seen of a book goes on from state to state.
use Rattle.std.proofs.Common.{◌≡◌, ℕ, ◌≤◌, List, [], ◌∷◌, ◌++◌, length, Bool, refl, sym, ap, subst, ◌∙◌, arith, append_assoc, length-append}
use Rattle.plan_schema.specs.declared.name.Name.{Name}
use Rattle.plan_schema.specs.declared.change.Entry.{Entry}
use Rattle.plan_schema.specs.Contents.{Contents}
use Rattle.command_words.specs.declared.reply.Reply.{Reply}
use Rattle.turn_table.specs.Story.{Begins}
use Rattle.turn_table.proofs.Stories.{begins-itself}
use Rattle.plan_book.specs.Books.{Story, history, entries_in}
use Rattle.plan_office.proofs.Turns.{history_more}
use Rattle.session_rules.specs.Requests.{Request, Wish}
use Rattle.session_rules.specs.Sessions.{IsReplyTo, AreReplies}
use Rattle.session_rules.specs.Runs.{IsRising}
use Rattle.session_rules.proofs.SessionLaws.{stay}
use Rattle.sessions.specs.Sights.{Sight, known, Looks}

pub begins_on : (a b c : Story) → Begins a b → Begins b c → Begins a c
begins_on a b c first then = (first.0 ++ then.0, then.1 ∙ ap (λ story. story ++ then.0) first.1 ∙ append_assoc a first.0 then.0)

module _ {F : Type 0} where
  pub looks_same : (s : Sight F) → Looks s s
  looks_same s = record { place = refl; grows = begins-itself s.seen; own = refl; later = omega arith }

  pub looks_at : (old new : Sight F) → new ≡ old → Looks old new
  looks_at old new same = subst (λ s. Looks old s) (sym same) (looks_same old)

  -- the history that is known grows
  pub known_grows : (old new : Sight F) → new.place ≡ old.place → Begins old.seen new.seen → (more : List Entry) × (known new ≡ known old ++ more)
  known_grows old new place grows =
      (entries_in grows.0, ap (λ p. history p.began new.seen) place ∙ ap (history old.place.began) grows.1 ∙ history_more old.place.began old.seen grows.0)

  pub known_longer : (old new : Sight F) → new.place ≡ old.place → Begins old.seen new.seen → length (known old) ≤ length (known new)
  known_longer old new place grows =
      let more = known_grows old new place grows in
      let all = ap length more.1 in
      let parts = length-append (known old) more.0 in
      omega (arith, all, parts)

-- a legal reply stays so as the history grows
pub reply_stays : (may_change : Bool) (base : Contents) (history more whole : List Entry) (session floor last : ℕ) (user : Name) (line : ℕ) (wish : Wish) (reply : Reply) → whole ≡ history ++ more
    → IsReplyTo may_change base history session floor last user line wish reply → IsReplyTo may_change base whole session floor last user line wish reply
reply_stays may_change base history more whole session floor last user line wish reply is legal =
    let request : Request = record { line = line; wish = wish } in
    (subst (λ h. AreReplies may_change base h session floor last user (request ∷ []) (reply ∷ [])) (sym is) (stay may_change base history more session floor last user (request ∷ []) (reply ∷ []) (legal, tt))).0

-- numbers that rise do so between wider bounds
pub rising_to : (low high top : ℕ) (ns : List ℕ) → IsRising low ns high → high ≤ top → IsRising low ns top
rising_to low high top [] h k = omega arith
rising_to low high top (n ∷ ns) h k = (h.0, rising_to n high top ns h.1 k)
