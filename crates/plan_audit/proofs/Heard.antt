-- The requests that were heard, one behind the other, and what was seen of their replies.
use Rattle.std.proofs.Common.{◌≡◌, ℕ, ◌≤◌, Bool, true, false, List, [], ◌∷◌, ◌++◌, Option, Some, None, Result, Ok, Err, refl, sym, ap, ◌∙◌, subst, arith, inl, inr}
use Rattle.std.specs.Prelude.{◌⊎◌, if◌then◌else◌}
use Rattle.plan_schema.specs.declared.name.Name.{Name}
use Rattle.plan_schema.specs.Outside.{Rose}
use Rattle.command_words.specs.declared.reply.Reply.{Reply}
use Rattle.session_rules.specs.Requests.{Request, requests_of, user_after, guest}
use Rattle.byte_lines.specs.declared.rounds.Served.{Served}
use Rattle.byte_lines.specs.declared.rounds.Served.TheVariants as ends
use Rattle.request_loop.specs.declared.answers.Why.{Why}
use Rattle.request_loop.specs.Exchanges.{Exchange, requests_in, speaker}
use Rattle.request_loop.specs.Chains.{IsChain}
use Rattle.request_loop.specs.Serving.{is_past_limit, heard_within, why_of, HasStopped, Serves}
use Rattle.plan_audit.specs.declared.case.Judge.{Judge}
use Rattle.plan_audit.specs.declared.case.Found.{Found}
use Rattle.plan_audit.specs.declared.case.Found.TheVariants as found
use Rattle.plan_audit.specs.declared.session.Halt.{Halt}
use Rattle.plan_audit.specs.declared.session.SessionFault.TheVariants as session
use Rattle.plan_audit.specs.Inputs.{heard}
use Rattle.plan_audit.specs.Judging.{Seen, Broken, if_sound, all_seen}
use Rattle.plan_audit.specs.Cases.{Terms, seen_by, seen_next, IsFound, StaysSource}
use Rattle.plan_audit.specs.Sessions.{to_read, IsStep, IsHalted, IsHalt, AreSeen, IsHeardTo, fault_found, fault_of}

-- a front of the requests was answered
module _ (t : Terms) where
  abbrev all_of : Seen → List Request → Result Seen Broken
  all_of seen requests = all_seen t.base t.entries t.session t.floor t.ceiling seen requests

  -- one more
  one_seen : (seen mid : Seen) (request : Request) (requests : List Request) → seen_next t seen request ≡ Ok mid → all_of seen (request ∷ requests) ≡ all_of mid requests
  unfolding all_seen
  one_seen seen mid request requests e = ap (λ r. if_sound r (λ next. all_of next requests)) e

  one_broken : (seen : Seen) (broken : Broken) (request : Request) (requests : List Request) → seen_next t seen request ≡ Err broken → all_of seen (request ∷ requests) ≡ Err broken
  unfolding all_seen
  one_broken seen broken request requests e = ap (λ r. if_sound r (λ next. all_of next requests)) e

  none_left : (seen : Seen) → all_of seen [] ≡ Ok seen
  unfolding all_seen
  none_left seen = refl

  -- those of a front, and then the others
  seen_front : (front : List Request) (seen mid : Seen) (more : List Request) → all_of seen front ≡ Ok mid → all_of seen (front ++ more) ≡ all_of mid more
  unfolding all_seen
  seen_front [] seen mid more e = let same : seen ≡ mid = cc in ap (λ s. all_of s more) same
  seen_front (request ∷ front) seen mid more e = by (seen_next t seen request) refl e (λ next h. seen_front front next mid more h)
    where
      by : (r : Result Seen Broken) → seen_next t seen request ≡ r → if_sound r (λ next. all_of next front) ≡ Ok mid
          → ((next : Seen) → all_of next front ≡ Ok mid → all_of next (front ++ more) ≡ all_of mid more) → all_of seen (request ∷ (front ++ more)) ≡ all_of mid more
      by (Err broken) is e more_of = let no = e in cc
      by (Ok next) is e more_of = one_seen seen next request (front ++ more) is ∙ more_of next e

module _ {X K N : Type 0} (judge : X → Judge) (output : X → K) (name : X → N) (halt : X → Option Halt) (left : K → Option (List ℕ)) (faults : K → ℕ) (label : K → List ℕ) (t : Terms) where
  abbrev pub Gives : X → Name → Request → Reply → X → Type 0
  Gives old user request reply new = (name new ≡ name old) × IsStep left faults label t (judge old) (judge new) (output old) (output new) user request

  abbrev pub Stops : X → Name → Request → Why → X → Type 0
  Stops old user request why new = (name new ≡ name old) × IsHalt left faults label t (judge old) (output old) (output new) user request (halt new)

  abbrev reads : X → Option (List ℕ)
  reads x = to_read left faults label t (judge x) (output x)

  -- the source is the same, and it fared so
  record Stays (old new : X) : Type 0 where
    same : name new ≡ name old
    source : StaysSource faults label (output old) (output new)

  stays_twice : (a b c : X) → Stays a b → Stays b c → Stays a c
  stays_twice a b c h k =
      let first = h.source.later in let second = k.source.later in
      record { same = k.same ∙ h.same; source = record { later = omega (arith, first, second); same = k.source.same ∙ h.source.same } }

  chain_stays : (log : List Exchange) (old new : X) (user : Name) → IsChain Gives old user log new → Stays old new
  chain_stays [] old new user h = record { same = ap name h; source = record { later = let e = ap (λ x. faults (output x)) h in omega (arith, e); same = ap (λ x. label (output x)) h } }
  chain_stays (x ∷ log) old new user h =
      stays_twice old h.0 new (record { same = h.1.0; source = h.1.1.source }) (chain_stays log h.0 new (user_after user x.request.wish) h.2)

  -- a chain of replies that break no rule
  record IsSeenTo (old new : X) (user : Name) (log : List Exchange) (all : List ℕ) : Type 0 where
    rest : List ℕ
    told : reads new ≡ Some rest
    seen : all_of t (seen_by (judge old) user all) (requests_in log) ≡ Ok (seen_by (judge new) (speaker user log) rest)

  chain_seen : (log : List Exchange) (old new : X) (user : Name) (all : List ℕ) → IsChain Gives old user log new → reads old ≡ Some all → IsSeenTo old new user log all
  chain_seen [] old new user all h is =
      record { rest = all; told = ap reads h ∙ is; seen = none_left t (seen_by (judge old) user all) ∙ ap (λ x. Ok (seen_by (judge x) user all)) (sym h) }
  chain_seen (x ∷ log) old new user all h is =
      let one = h.1.1.seen all is in
      let more = chain_seen log h.0 new (user_after user x.request.wish) one.0 h.2 one.1 in
      record { rest = more.rest; told = more.told; seen = one_seen t (seen_by (judge old) user all) (seen_by (judge h.0) (user_after user x.request.wish) one.0) x.request (requests_in log) one.2 ∙ more.seen }

  module _ (old new : X) (input : List ℕ) (before after : Option (List ℕ)) (served : Served) (s : Serves Gives Stops old new input before after served) where
    -- whatever came of it
    pub served_stays : (name new ≡ name old) × StaysSource faults label (output old) (output new)
    served_stays = by s.short.rest
      where
        so_far : Stays old s.short.last
        so_far = chain_stays s.short.log old s.short.last guest s.short.chain

        by : (new ≡ s.short.last) ⊎ ((why : Why) × HasStopped Gives Stops s.short.last new s.short.log (requests_of input) before after why) → (name new ≡ name old) × StaysSource faults label (output old) (output new)
        by (inl same) = let h = subst (Stays old) (sym same) so_far in (h.same, h.source)
        by (inr stopped) =
            let h = stays_twice old s.short.last new so_far (record { same = stopped.1.stopped.0; source = stopped.1.stopped.1.source }) in
            (h.same, h.source)

    -- it stopped: the source of the output rose where it failed
    halt_rose : (line : ℕ) (f : Found) (last : X) (user : Name) (request : Request) → fault_found line f ≡ session.Output → IsFound t (judge last) user request (reads last) (faults (output last)) (faults (output new)) f → faults (output old) ≤ faults (output last) → Rose (faults (output old)) (faults (output new))
    halt_rose line found.Read last user request is rose low = omega (arith, rose, low)
    halt_rose line found.Memory last user request is rose low = absurd (let no : ⊥ = cc in no)
    halt_rose line (found.Breaks rule) last user request is rose low = absurd (let no : ⊥ = cc in no)

    pub stopped_rose : (why : Why) → why_of served ≡ Some why → fault_of (halt new) ≡ session.Output → Rose (faults (output old)) (faults (output new))
    stopped_rose why is fault = by (halt new) refl (s.short.told why is).stopped.1.halted fault
      where
        low : faults (output old) ≤ faults (output s.short.last)
        low = (chain_stays s.short.log old s.short.last guest s.short.chain).source.later

        by : (h : Option Halt) → halt new ≡ h → IsHalted left faults label t (judge s.short.last) (output s.short.last) (output new) (speaker guest s.short.log) (s.short.told why is).request h → fault_of h ≡ session.Output → Rose (faults (output old)) (faults (output new))
        by None e it fault = absurd it
        by (Some h) e it fault = halt_rose h.line h.found s.short.last (speaker guest s.short.log) (s.short.told why is).request fault it.1 low

    module _ (all : List ℕ) (is : reads old ≡ Some all) where
      to_last : IsSeenTo old s.short.last guest s.short.log all
      to_last = chain_seen s.short.log old s.short.last guest all s.short.chain is

      heard_as : (b : Bool) → is_past_limit input ≡ b → heard input ≡ (if b then heard_within input else requests_of input)
      unfolding heard
      heard_as b e = ap (λ b. if b then heard_within input else requests_of input) e

      -- it was heard to its end
      pub whole_seen : (count : ℕ) → served ≡ ends.Ended count → (is_past_limit input ≡ false) × AreSeen t (judge old) (judge new) input all (reads new)
      whole_seen count e =
          let w = s.whole count e in
          let seen = chain_seen w.log old new guest all w.chain is in
          (w.within, record { user = speaker guest w.log; rest = seen.rest; left = seen.told; all = ap (all_of t (seen_by (judge old) guest all)) (heard_as false w.within ∙ sym w.asked) ∙ seen.seen })

      -- it is too long
      pub long_seen : served ≡ ends.Limit → (is_past_limit input ≡ true) × ((seen : Seen) × (all_of t (seen_by (judge old) guest all) (heard input) ≡ Ok seen))
      long_seen e =
          let long = s.limit e in
          let seen = to_last in
          (long, (seen_by (judge s.short.last) (speaker guest s.short.log) seen.rest, ap (all_of t (seen_by (judge old) guest all)) (heard_as true long ∙ sym (s.short.over e)) ∙ seen.seen))

      -- it stopped, and this is what was found
      found_seen : (requests : List Request) (why : Why) → HasStopped Gives Stops s.short.last new s.short.log requests before after why → heard input ≡ requests → IsHeardTo t (judge old) (judge new) input all (reads new) (Err (fault_of (halt new)))
      found_seen requests why h same = by (halt new) h.stopped.1.halted
        where
          here : reads s.short.last ≡ Some to_last.rest
          here = to_last.told

          asked : heard input ≡ requests_in s.short.log ++ h.request ∷ h.later
          asked = same ∙ h.asked

          broken : (line : ℕ) (f : Found) → line ≡ h.request.line → IsFound t (judge s.short.last) (speaker guest s.short.log) h.request (reads s.short.last) (faults (output s.short.last)) (faults (output new)) f
              → IsHeardTo t (judge old) (judge new) input all (reads new) (Err (fault_found line f))
          broken line found.Read at it = tt
          broken line found.Memory at it = tt
          broken line (found.Breaks rule) at it =
              ap (all_of t (seen_by (judge old) guest all)) asked ∙ seen_front t (requests_in s.short.log) (seen_by (judge old) guest all) (seen_by (judge s.short.last) (speaker guest s.short.log) to_last.rest) (h.request ∷ h.later) to_last.seen
              ∙ one_broken t (seen_by (judge s.short.last) (speaker guest s.short.log) to_last.rest) (record { line = h.request.line; rule = rule }) h.request h.later (it to_last.rest here)
              ∙ ap (λ n. Err (record { line = n; rule = rule })) (sym at)

          by : (found : Option Halt) → IsHalted left faults label t (judge s.short.last) (output s.short.last) (output new) (speaker guest s.short.log) h.request found → IsHeardTo t (judge old) (judge new) input all (reads new) (Err (fault_of found))
          by None it = absurd it
          by (Some halted) it = broken halted.line halted.found it.0 it.1

      pub stop_seen : (why : Why) → why_of served ≡ Some why → IsHeardTo t (judge old) (judge new) input all (reads new) (Err (fault_of (halt new)))
      stop_seen why e = by (is_past_limit input) refl
        where
          by : (b : Bool) → is_past_limit input ≡ b → IsHeardTo t (judge old) (judge new) input all (reads new) (Err (fault_of (halt new)))
          by true long = found_seen (heard_within input) why (s.short.heard why e long) (heard_as true long)
          by false short = found_seen (requests_of input) why (s.short.told why e) (heard_as false short)
