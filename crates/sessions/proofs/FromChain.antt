-- From a chain of answers to a session.
use Rattle.std.proofs.Common.{◌≡◌, ℕ, ◌≤◌, List, [], ◌∷◌, ◌++◌, length, refl, sym, ap, subst, ◌∙◌, arith}
use Rattle.plan_schema.specs.declared.name.Name.{Name}
use Rattle.plan_schema.specs.declared.change.Entry.{Entry}
use Rattle.command_words.specs.declared.reply.Reply.{Reply}
use Rattle.turn_table.specs.Story.{Begins}
use Rattle.plan_book.specs.Books.{Story, history, story_of}
use Rattle.session_rules.specs.Requests.{Request, Wish, user_after, guest}
use Rattle.session_rules.specs.Sessions.{IsReplyTo}
use Rattle.session_rules.specs.Runs.{accepted_point, accepted_entry, IsRising}
use Rattle.request_loop.specs.Exchanges.{Exchange}
use Rattle.request_loop.specs.Chains.{IsChain}
use Rattle.request_loop.specs.Legal.{AreGood, IsLegalSession}
use Rattle.request_loop.proofs.Legal.{chains_are_legal}
use Rattle.sessions.specs.Sights.{Sight, Place, known, Looks}
use Rattle.sessions.specs.Replied.{IsReplied, Gives}
use Rattle.sessions.proofs.Seen.{begins_on, looks_at, known_grows}

module _ {F S : Type 0} (sight : S → Sight F) where
  abbrev pub gives : S → Name → Request → Reply → S → Type 0
  gives old user request reply new = Gives sight old new user request reply

  -- what a chain keeps
  pub record Keeps (old new : Sight F) : Type 0 where
    pub place : new.place ≡ old.place
    pub grows : Begins old.seen new.seen
    pub later : old.faults ≤ new.faults

  pub keeps_on : (a b c : Sight F) → Keeps a b → Keeps b c → Keeps a c
  keeps_on a b c first then =
      let one = first.later in
      let two = then.later in
      record { place = then.place ∙ first.place; grows = begins_on a.seen b.seen c.seen first.grows then.grows; later = omega (arith, one, two) }

  pub looks_keep : (old new : Sight F) → Looks old new → Keeps old new
  looks_keep old new looks = record { place = looks.place; grows = looks.grows; later = looks.later }

  pub replied_keeps : (old new : Sight F) (user : Name) (line : ℕ) (wish : Wish) (reply : Reply) → IsReplied old new user line wish reply → Keeps old new
  replied_keeps old new user line wish reply it = record { place = it.place; grows = it.grows; later = it.later }

  pub chain_keeps : (log : List Exchange) (old new : S) (user : Name) → IsChain gives old user log new → Keeps (sight old) (sight new)
  chain_keeps [] old new user h = looks_keep (sight old) (sight new) (looks_at (sight old) (sight new) (ap sight h))
  chain_keeps (x ∷ log) old new user h =
      keeps_on (sight old) (sight h.0) (sight new)
      (replied_keeps (sight old) (sight h.0) user x.request.line x.request.wish x.reply h.1)
      (chain_keeps log h.0 new (user_after user x.request.wish) h.2)

  module _ (first : S) where
    abbrev pub place : Place F
    place = (sight first).place

    -- the states that go on from the first, the history that is known at them, and what the session entered
    abbrev pub Fits : S → Type 0
    Fits state = (sight state).place ≡ place

    abbrev pub known_at : S → List Entry
    known_at state = history place.began (sight state).seen

    abbrev pub own_at : S → Story
    own_at state = (sight state).own

    pub fits_known : (state : S) → Fits state → known (sight state) ≡ known_at state
    fits_known state fits = ap (λ p. history p.began (sight state).seen) fits

    pub good : AreGood gives Fits known_at own_at place.may_change place.began.base place.session
    good old new user request reply fits it =
        let then : Fits new = it.place ∙ fits in
        let before : known (sight old) ≡ known_at old = fits_known old fits in
        let after : known (sight new) ≡ known_at new = fits_known new then in
        let more = known_grows (sight old) (sight new) it.place it.grows in
        record {
          fits_still = then;
          more = more.0;
          grows = sym after ∙ more.1 ∙ ap (λ h. h ++ more.0) before;
          legal = λ floor last low few.
              subst (λ p. IsReplyTo p.may_change p.began.base (known_at new) p.session floor last user request.line request.wish reply) fits
              (subst (λ h. IsReplyTo (sight old).place.may_change (sight old).place.began.base h (sight old).place.session floor last user request.line request.wish reply) after
              (it.legal floor last (subst (λ h. floor ≤ length h) (sym before) low) (subst (λ h. last ≤ length h) (sym before) few)));
          entered = it.entered ∙ ap (λ p. (sight old).own ++ story_of (accepted_entry p.session request.line user request.wish reply)) fits;
          rises = subst (λ (h : List Entry × List Entry). IsRising (length h.0) (accepted_point request.wish reply) (length h.1)) (λ i. (before i, after i)) it.rises;
        }

    pub chain_legal : (log : List Exchange) (new : S) → IsChain gives first guest log new
        → IsLegalSession gives Fits known_at own_at place.may_change place.began.base place.session first new guest log
    chain_legal log new chain = chains_are_legal gives Fits known_at own_at place.may_change place.began.base place.session good log first new guest (let same : Fits first = refl in same) chain
