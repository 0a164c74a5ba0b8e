-- Sessions that take turns at an office.
use Rattle.std.proofs.Common.{◌≡◌, ℕ, ◌≤◌, ◌<◌, List, [], ◌∷◌, ◌++◌, true, Option, Some, sym, ap, subst, ◌∙◌, arith}
use Rattle.std.specs.Prelude.{unwrap_or}
use Rattle.std.specs.List.{AllByRecursion}
use Rattle.plan_schema.specs.declared.change.Entry.{Entry}
use Rattle.byte_lines.specs.declared.rounds.Served.{Served}
use Rattle.command_words.specs.declared.reply.Reply.{Reply}
use Rattle.turn_table.specs.Passes.{is_worn}
use Rattle.plan_book.specs.declared.ground.Ground.{Ground}
use Rattle.plan_book.specs.Books.{history, story_of, point_of}
use Rattle.plan_office.specs.Turns.{Known}
use Rattle.session_rules.specs.Requests.{Request, guest}
use Rattle.session_rules.specs.Sessions.{AreReplies, point_after}
use Rattle.session_rules.specs.Runs.{accepted_points, IsRising}
use Rattle.session_rules.proofs.SessionLaws.{stay}
use Rattle.request_loop.specs.Exchanges.{Exchange, requests_in, replies_in}
use Rattle.request_loop.specs.Chains.{IsChain}
use Rattle.request_loop.specs.Serving as loop
use Rattle.request_loop.specs.declared.answers.Why.TheVariants as whys
use Rattle.sessions.specs.InTurns.{sight_of, unturned, nothing}
use Rattle.sessions.specs.Ends.{PassEnding}
use Rattle.sessions.specs.Serving.{HasAnsweredInTurns, ServesInTurns}
use Rattle.sessions.specs.Sights.{Looks}
use Rattle.sessions.proofs.Ended.{KeepsFronts, ShortLoop, stops, session_keeps, session_stopped, session_served}
use Rattle.sessions.proofs.FromChain.{gives, chain_legal, chain_keeps}
use Rattle.sessions.proofs.Fronts.{front_legal, front_entries, front_points, front_all}
use Rattle.sessions.proofs.Seen.{known_grows, known_longer, rising_to}

abbrev pub failed : Known → Known → Type 0
failed old new = old.faults < new.faults

abbrev pub worn : Known → Type 0
worn pass = is_worn pass ≡ true

all_below : (low high : ℕ) (given : List Reply) → low ≤ high → AllByRecursion (λ reply. point_after 0 reply ≤ low) given → AllByRecursion (λ reply. point_after 0 reply ≤ high) given
all_below low high [] h all = tt
all_below low high (reply ∷ given) h all = (let here = all.0 in omega arith, all_below low high given h all.1)

module _ (began : Ground) (p q : Known) where
  pub turn_fronts : KeepsFronts (HasAnsweredInTurns began p q)
  turn_fronts shown later quiet h =
      record {
        legal = λ floor low. front_legal true began.base (history began q.seen) p.number floor floor guest shown later (h.legal floor low);
        below = front_all (λ reply. point_after 0 reply ≤ point_of began q.seen) shown later h.below;
        entered = h.entered ∙ ap (λ more. p.own ++ story_of more) (front_entries p.number guest shown later quiet);
        rises = subst (λ points. IsRising (point_of began p.seen) points (point_of began q.seen)) (front_points shown later quiet) h.rises;
      }

  -- the requests of a chain have legal replies, at what is seen behind it
  chain_answers : p.basis ≡ Some began → (log : List Exchange) (last : Known) → IsChain (gives sight_of) p guest log last → HasAnsweredInTurns began p last (requests_in log) (replies_in log)
  chain_answers basis log last chain =
      let session = chain_legal sight_of p log last chain in
      let same : unwrap_or p.basis nothing ≡ began = ap (λ o. unwrap_or o nothing) basis in
      record {
        legal = λ floor low.
            subst (λ b. (floor ≤ point_of b p.seen) → AreReplies true b.base (history b last.seen) p.number floor floor guest (requests_in log) (replies_in log)) same (λ low. session.legal floor floor low low) low;
        below = subst (λ b. AllByRecursion (λ reply. point_after 0 reply ≤ point_of b last.seen) (replies_in log)) same session.below;
        entered = session.entered;
        rises = subst (λ b. IsRising (point_of b p.seen) (accepted_points (requests_in log) (replies_in log)) (point_of b last.seen)) same session.rises;
      }

  -- and at what is seen later
  later_answers : (last : Known) (requests : List Request) (given : List Reply) → last.basis ≡ Some began → Looks (sight_of last) (sight_of q) → HasAnsweredInTurns began p last requests given → HasAnsweredInTurns began p q requests given
  later_answers last requests given basis looks h =
      let same : unwrap_or last.basis nothing ≡ began = ap (λ o. unwrap_or o nothing) basis in
      let more : (more : List Entry) × (history began q.seen ≡ history began last.seen ++ more) =
      subst (λ b. (more : List Entry) × (history b q.seen ≡ history b last.seen ++ more)) same
      (let grows = known_grows (sight_of last) (sight_of q) looks.place looks.grows in (grows.0, sym (ap (λ place. history place.began q.seen) looks.place) ∙ grows.1)) in
      let longer : point_of began last.seen ≤ point_of began q.seen =
      subst (λ b. point_of b last.seen ≤ point_of b q.seen) same
      (subst (λ b. point_of (unwrap_or last.basis nothing) last.seen ≤ point_of b q.seen) (ap (λ place. place.began) looks.place) (known_longer (sight_of last) (sight_of q) looks.place looks.grows)) in
      record {
        legal = λ floor low.
            subst (λ entries. AreReplies true began.base entries p.number floor floor guest requests given) (sym more.1)
            (stay true began.base (history began last.seen) more.0 p.number floor floor guest requests given (h.legal floor low));
        below = all_below (point_of began last.seen) (point_of began q.seen) given longer h.below;
        entered = looks.own ∙ h.entered;
        rises = rising_to (point_of began p.seen) (point_of began last.seen) (point_of began q.seen) (accepted_points requests given) h.rises longer;
      }

  answers : p.basis ≡ Some began → (log : List Exchange) (last : Known) → IsChain (gives sight_of) p guest log last → Looks (sight_of last) (sight_of q) → HasAnsweredInTurns began p q (requests_in log) (replies_in log)
  answers basis log last chain looks =
      let kept : last.basis ≡ Some began = ap (λ place. place.rest.basis) (chain_keeps sight_of log p last guest chain).place ∙ basis in
      later_answers last (requests_in log) (replies_in log) kept looks (chain_answers basis log last chain)

module _ (p q : Known) (input : List ℕ) (before after : Option (List ℕ)) (served : Served) where
  rest_kept : unturned q ≡ unturned p → p.held ≡ q.held → q ≡ record p { seen = q.seen; own = q.own; draws = q.draws; ticket = q.ticket; faults = q.faults }
  rest_kept rest held = λ i. record (rest i) { seen = q.seen; own = q.own; draws = q.draws; ticket = q.ticket; faults = q.faults; held = sym held i }

  pub pass_ended : p.held ≡ q.held → ShortLoop sight_of failed worn p q input before after served → PassEnding p q served
  pass_ended held h =
      let keeps = session_keeps sight_of failed worn p q input before after served h in
      let so_far = (chain_keeps sight_of h.log p h.last guest h.chain).later in
      record {
        kept = rest_kept (ap (λ place. place.rest) keeps.place) held;
        grows = keeps.grows;
        later = keeps.later;
        failed = λ is. (let rose : h.last.faults < q.faults = session_stopped sight_of failed worn p q input before after served h whys.Failed (ap loop.why_of is) in omega (arith, so_far, rose));
        worn = λ is. session_stopped sight_of failed worn p q input before after served h whys.Worn (ap loop.why_of is);
      }

  pub serves_in_turns : (began : Ground) → p.basis ≡ Some began → loop.Serves (gives sight_of) (stops sight_of failed worn) p q input before after served → ServesInTurns began p q input before after served
  serves_in_turns began basis h = session_served sight_of failed worn p q input before after served (HasAnsweredInTurns began p q) (turn_fronts began p q) (answers began p q basis) h
