-- What rounds that were run tell: a legal run where all sessions ended, and else one that was cut short.
use Rattle.std.proofs.Common.{◌≡◌, ℕ, suc, ◌+◌, ◌≤◌, ◌<◌, Bool, true, false, ◌&&◌, List, [], ◌∷◌, ◌++◌, length, map, Option, Some, refl, sym, ap, subst, ◌∙◌, arith, inl, inr}
use Rattle.std.specs.Prelude.{◌⊎◌, ◌==◌, nat_lt, MatchBool}
use Rattle.std.specs.List.{AllByRecursion}
use Rattle.std.proofs.lemmas.Bool.{cases_Bool}
use Rattle.std.proofs.lemmas.Bool.Decides.{nat_tests}
use Rattle.std.proofs.lemmas.List.{map-append, length-map}
use Rattle.plan_schema.specs.declared.change.Entry.{Entry}
use Rattle.byte_lines.specs.declared.rounds.Desk.{Desk}
use Rattle.byte_lines.specs.Desks.{all_desks}
use Rattle.session_rules.specs.Runs.{entries_of}
use Rattle.session_rules.specs.Runs.{Desk as Session}
use Rattle.request_loop.specs.Serving.{is_past_limit}
use Rattle.turn_table.specs.Story as story
use Rattle.turn_table.specs.Story.{Begins}
use Rattle.turn_table.specs.Passes.{TurnId}
use Rattle.plan_book.specs.declared.ground.Ground.{Ground}
use Rattle.plan_book.specs.Books.{Story, entries_in}
use Rattle.sessions.proofs.Seen.{begins_on}
use Rattle.plan_office.specs.Turns.{Known}
use Rattle.desk_rounds.specs.Rounds.{Place, desks_of, ArePlaces, AreServed, AreKeptOf, AreKeptIn}
use Rattle.desk_rounds.specs.RoundsRun.{all_ended, ended_as}
use Rattle.desk_rounds.specs.RunOver.{HasNoneFrom, IsDeskOf, AreDesksOf, AreRunOver, AreRun}
use Rattle.desk_rounds.specs.Three.{EachThree}
use Rattle.desk_rounds.specs.Told.{Spoken, IsWholly, AreSpokenAt, AreCutRounds, IsTelling, Hold, IsUnhurt, AreWholeUnhurt, AreLegalIn, AreCutIn}
use Rattle.desk_rounds.proofs.Alls.{all_both, all_first, all_second}
use Rattle.desk_rounds.proofs.RoundLaws.{AreOwn, own_of_entries, all_own, front_none, squeeze, points, begins_length, IsSettled, floor_low, ceiling_high, rounds_are_legal}
use Rattle.desk_rounds.proofs.RunsOver.{first_or_more}
use Rattle.desk_rounds.proofs.DesksTold.{some_of, input_is, told, front_entered, front_spoken, front_output, unhurt_ended, placed}

both_true : (a b : Bool) → (a && b) ≡ true → (a ≡ true) × (b ≡ true)
both_true true b h = (refl, h)
both_true false b h = (let never : false ≡ true = h in cc)

true_both : (a b : Bool) → a ≡ true → b ≡ true → (a && b) ≡ true
true_both true b h k = k
true_both false b h k = (let never : false ≡ true = h in cc)

either : (k n : ℕ) → (k < n) ⊎ (n ≤ k)
either k n = elim (cases_Bool (nat_lt k n)) [ inl a ↦ inl (grind (arith, nat_tests)) | inr b ↦ inr (grind (arith, nat_tests)) ]

module _ {S K : Type 0} (left : S → Option (List ℕ)) (taken : K → Option (List ℕ)) where
  pub hold_both : (ds ts : List (Desk S K)) (ins outs : List (List ℕ)) (ds' ts' : List (Desk S K)) (ins' outs' : List (List ℕ)) → Hold left taken ds ts ins outs → Hold left taken ds' ts' ins' outs' → Hold left taken (ds ++ ds') (ts ++ ts') (ins ++ ins') (outs ++ outs')
  hold_both [] [] [] [] ds' ts' ins' outs' h k = k
  hold_both (d ∷ ds) (t ∷ ts) (i ∷ ins) (o ∷ outs) ds' ts' ins' outs' h k = (h.0, h.1, hold_both ds ts ins outs ds' ts' ins' outs' h.2 k)
  hold_both [] [] [] (o ∷ outs) ds' ts' ins' outs' h k = absurd h
  hold_both [] [] (i ∷ ins) outs ds' ts' ins' outs' h k = absurd h
  hold_both [] (t ∷ ts) ins outs ds' ts' ins' outs' h k = absurd h
  hold_both (d ∷ ds) [] ins outs ds' ts' ins' outs' h k = absurd h
  hold_both (d ∷ ds) (t ∷ ts) [] outs ds' ts' ins' outs' h k = absurd h
  hold_both (d ∷ ds) (t ∷ ts) (i ∷ ins) [] ds' ts' ins' outs' h k = absurd h

  -- a round before others holds what both hold, by what each of theirs has for an input and an output
  pub hold_more : {X : Type 0} (f g : X → List ℕ) (ds ts : List (Desk S K)) (xs : List X) (ds' ts' : List (Desk S K)) (xs' : List X) → Hold left taken ds ts (map f xs) (map g xs) → Hold left taken ds' ts' (map f xs') (map g xs')
      → Hold left taken (ds ++ ds') (ts ++ ts') (map f (xs ++ xs')) (map g (xs ++ xs'))
  hold_more f g ds ts xs ds' ts' xs' h k =
      subst (λ ins. Hold left taken (ds ++ ds') (ts ++ ts') ins (map g (xs ++ xs'))) (sym (map-append f xs xs'))
      (subst (λ outs. Hold left taken (ds ++ ds') (ts ++ ts') (map f xs ++ map f xs') outs) (sym (map-append g xs xs')) (hold_both ds ts (map f xs) (map g xs) ds' ts' (map f xs') (map g xs') h k))

module _ {S K : Type 0} (left : S → Option (List ℕ)) (reads : S → ℕ) (source_label : S → List ℕ) (taken : K → Option (List ℕ)) (writes : K → ℕ) (sink_label : K → List ℕ) (turn : TurnId) (began : Ground) (basis : Option Ground) (based : basis ≡ Some began)
    (whole : Story) where
  abbrev IsOf : ℕ → Story → Story → Desk S K → Desk S K → Type 0
  IsOf number before after d t = IsDeskOf left reads source_label taken writes sink_label turn basis whole number before after d t

  abbrev AreOf : ℕ → Story → Story → List (Desk S K) → List (Desk S K) → Type 0
  AreOf number before after ds ts = AreDesksOf left reads source_label taken writes sink_label turn basis whole number before after ds ts

  abbrev AreOver : ℕ → Story → List (List (Desk S K)) → List (List (Desk S K)) → Type 0
  AreOver number before olds news = AreRunOver left reads source_label taken writes sink_label turn basis whole number before olds news

  abbrev Unhurt : Desk S K → Desk S K → Spoken → Type 0
  Unhurt d t spoken = IsUnhurt left taken reads writes d t spoken

  abbrev Tell : Desk S K → Type 0
  Tell desk = IsTelling left taken desk

  -- a legal run --------------------------------------------------------------------------------------------------------------------------

  pub record LegalRound (number : ℕ) (before after : Story) (ds ts : List (Desk S K)) : Type 0 where
    pub places : List Place
    pub are : ArePlaces began number before after places
    pub kept : AreKeptOf began whole number places
    pub long : length places ≡ length ds
    pub hold : Hold left taken ds ts (map (λ desk. desk.input) (desks_of places)) (map (λ desk. desk.output) (desks_of places))
    pub within : AllByRecursion (λ (desk : Session). is_past_limit desk.input ≡ false) (desks_of places)

  legal_round : (number : ℕ) (before after : Story) (ds ts : List (Desk S K)) → AreOf number before after ds ts → AllByRecursion Tell ds → all_ended ts ≡ true → LegalRound number before after ds ts
  legal_round number before after [] [] h tell ended = record { places = []; are = tt; kept = tt; long = refl; hold = tt; within = tt }
  legal_round number before after (d ∷ ds) (t ∷ ts) h tell ended =
      let sure = both_true (ended_as t.served) (all_ended ts) ended in
      let one = placed left reads source_label taken writes sink_label turn began basis based whole number before after d t h.0 tell.0 sure.0 in
      let rest = legal_round (number + 1) before after ds ts h.1 tell.1 sure.1 in
      record {
        places = one.place ∷ rest.places;
        are = (one.is, rest.are);
        kept = (one.kept, rest.kept);
        long = ap suc rest.long;
        hold = (one.source, one.sink, rest.hold);
        within = (one.within, rest.within);
      }
  legal_round number before after [] (t ∷ ts) h tell ended = absurd h
  legal_round number before after (d ∷ ds) [] h tell ended = absurd h

  pub record LegalRounds (number : ℕ) (before : Story) (olds news : List (List (Desk S K))) : Type 0 where
    pub rounds : List (List Place)
    pub served : AreServed began number before rounds whole
    pub kept : AreKeptIn began whole number rounds
    pub long : map length (map desks_of rounds) ≡ map length olds
    pub hold : Hold left taken (all_desks olds) (all_desks news) (map (λ desk. desk.input) (all_desks (map desks_of rounds))) (map (λ desk. desk.output) (all_desks (map desks_of rounds)))
    pub within : AllByRecursion (λ (desk : Session). is_past_limit desk.input ≡ false) (all_desks (map desks_of rounds))

  going_on : (b : Bool) (P Q : Type 0) → MatchBool b P Q → b ≡ true → P
  going_on true P Q h sure = h
  going_on false P Q h sure = (let never : false ≡ true = sure in absurd (apart never))
    where
      apart : false ≡ true → ⊥
      apart never = cc

  pub legal_rounds : (number : ℕ) (before : Story) (olds news : List (List (Desk S K))) → AreOver number before olds news → AllByRecursion Tell (all_desks olds) → AllByRecursion (λ round. all_ended round ≡ true) news → LegalRounds number before olds news
  legal_rounds number before [] [] h tell ended = record { rounds = []; served = h.0; kept = h.1; long = refl; hold = tt; within = tt }
  legal_rounds number before (ds ∷ olds) (ts ∷ news) h tell ended =
      let one = legal_round number before h.0 ds ts h.2 (all_first Tell ds (all_desks olds) tell) ended.0 in
      let next : number + length ds ≡ number + length one.places = ap (λ n. number + n) (sym one.long) in
      let going = going_on (all_ended ts) (AreOver (number + length ds) h.0 olds news) ((news ≡ olds) × Begins h.0 whole × HasNoneFrom (number + length ds) whole) h.3 ended.0 in
      let rest = legal_rounds (number + length ds) h.0 olds news going (all_second Tell ds (all_desks olds) tell) ended.1 in
      record {
        rounds = one.places ∷ rest.rounds;
        served = (h.0, h.1, one.are, subst (λ n. AreServed began n h.0 rest.rounds whole) next rest.served);
        kept = (one.kept, subst (λ n. AreKeptIn began whole n rest.rounds) next rest.kept);
        long = (λ i. (length-map one.places (λ place. place.desk) ∙ one.long) i ∷ rest.long i);
        hold = hold_more left taken (λ desk. desk.input) (λ desk. desk.output) ds ts (desks_of one.places) (all_desks olds) (all_desks news) (all_desks (map desks_of rest.rounds)) one.hold rest.hold;
        within = all_both (λ (desk : Session). is_past_limit desk.input ≡ false) (desks_of one.places) (all_desks (map desks_of rest.rounds)) one.within rest.within;
      }
  legal_rounds number before [] (ts ∷ news) h tell ended = absurd h
  legal_rounds number before (ds ∷ olds) [] h tell ended = absurd h

  -- each number of a round ---------------------------------------------------------------------------------------------------------------

  each_desk : (P : ℕ → Type 0) (ds ts : List (Desk S K)) (number : ℕ) (before after : Story) → AreOf number before after ds ts → AllByRecursion Tell ds → ((n : ℕ) (d t : Desk S K) → IsOf n before after d t → Tell d → P n)
      → (k : ℕ) → number ≤ k → k < number + length ds → P k
  each_desk P [] [] number before after h tell f k low high = absurd (omega arith)
  each_desk P (d ∷ ds) (t ∷ ts) number before after h tell f k low high = by_first (first_or_more k number low) (λ more. each_desk P ds ts (number + 1) before after h.1 tell.1 f k more (omega (arith, high)))
    where
      by_first : (k ≡ number) ⊎ (number + 1 ≤ k) → (number + 1 ≤ k → P k) → P k
      by_first (inl here) rest = subst P (sym here) (f number d t h.0 tell.0)
      by_first (inr more) rest = rest more
  each_desk P [] (t ∷ ts) number before after h tell f k low high = absurd h
  each_desk P (d ∷ ds) [] number before after h tell f k low high = absurd h

  fresh_seen : (n : ℕ) (before after : Story) (d t : Desk S K) → IsOf n before after d t → story.entries_of n before ≡ []
  fresh_seen n before after d t h = front_none n before h.begun.seen h.ahead (ap (λ k. story.entries_of k h.begun.seen) (sym h.number_is) ∙ h.own ∙ h.unused)

  settled_seen : (n : ℕ) (before after : Story) (d t : Desk S K) → IsOf n before after d t → Begins after whole → story.entries_of n whole ≡ story.entries_of n after
  settled_seen n before after d t h ends =
      squeeze n h.ended.seen after whole h.told ends
      (h.kept ∙ sym h.served.ready.own ∙ ap (λ k. story.entries_of k h.ended.seen) (ap (λ k. k.number) h.served.pass_is.kept ∙ h.number_is))

  own_entries : (n : ℕ) (before after : Story) (d t : Desk S K) → IsOf n before after d t → Tell d → AreOwn (story.entries_of n whole)
  own_entries n before after d t h tell =
      let s = told left reads source_label taken writes sink_label turn began basis based whole n before after d t h tell in
      let is = front_entered left reads source_label taken writes sink_label turn began basis based whole n before after d t h tell s.front in
      subst AreOwn (sym is) (own_of_entries _)

  -- rounds that are left, and where they begin -----------------------------------------------------------------------------------------

  over_front : (number : ℕ) (before : Story) (olds news : List (List (Desk S K))) → AreOver number before olds news → Begins before whole
  over_front number before [] [] h = h.0
  over_front number before (ds ∷ olds) (ts ∷ news) h = begins_on before h.0 whole h.1 (by_end (all_ended ts) h.0 (number + length ds) h.3 (λ rest. over_front (number + length ds) h.0 olds news rest))
    where
      by_end : (b : Bool) (after : Story) (n : ℕ) → MatchBool b (AreOver n after olds news) ((news ≡ olds) × Begins after whole × HasNoneFrom n whole) → (AreOver n after olds news → Begins after whole) → Begins after whole
      by_end true after n h rest = rest h
      by_end false after n h rest = h.1
  over_front number before [] (ts ∷ news) h = absurd h
  over_front number before (ds ∷ olds) [] h = absurd h

  over_fresh : (number : ℕ) (before : Story) (olds news : List (List (Desk S K))) → AreOver number before olds news → AllByRecursion Tell (all_desks olds) → (k : ℕ) → number ≤ k → story.entries_of k before ≡ []
  over_fresh number before [] [] h tell k low = front_none k before whole h.0 (h.1 k low)
  over_fresh number before (ds ∷ olds) (ts ∷ news) h tell k low =
      by_side (either k (number + length ds)) (by_end (all_ended ts) h.0 (number + length ds) h.3 (λ rest. over_fresh (number + length ds) h.0 olds news rest (all_second Tell ds (all_desks olds) tell)))
    where
      by_end : (b : Bool) (after : Story) (n : ℕ) → MatchBool b (AreOver n after olds news) ((news ≡ olds) × Begins after whole × HasNoneFrom n whole) → (AreOver n after olds news → (k : ℕ) → n ≤ k → story.entries_of k after ≡ []) → (k : ℕ) → n ≤ k → story.entries_of k after ≡ []
      by_end true after n h rest = rest h
      by_end false after n h rest = λ k more. front_none k after whole h.1 (h.2 k more)

      by_side : (k < number + length ds) ⊎ (number + length ds ≤ k) → ((k : ℕ) → number + length ds ≤ k → story.entries_of k h.0 ≡ []) → story.entries_of k before ≡ []
      by_side (inl here) rest = each_desk (λ n. story.entries_of n before ≡ []) ds ts number before h.0 h.2 (all_first Tell ds (all_desks olds) tell) (λ n d t is telling. fresh_seen n before h.0 d t is) k low here
      by_side (inr more) rest = front_none k before h.0 h.1 (rest k more)
  over_fresh number before [] (ts ∷ news) h tell k low = absurd h
  over_fresh number before (ds ∷ olds) [] h tell k low = absurd h

  over_own : (number : ℕ) (before : Story) (olds news : List (List (Desk S K))) → AreOver number before olds news → AllByRecursion Tell (all_desks olds) → (k : ℕ) → number ≤ k → AreOwn (story.entries_of k whole)
  over_own number before [] [] h tell k low = subst AreOwn (sym (h.1 k low)) tt
  over_own number before (ds ∷ olds) (ts ∷ news) h tell k low =
      by_side (either k (number + length ds)) (by_end (all_ended ts) h.0 (number + length ds) h.3 (λ rest. over_own (number + length ds) h.0 olds news rest (all_second Tell ds (all_desks olds) tell)))
    where
      by_end : (b : Bool) (after : Story) (n : ℕ) → MatchBool b (AreOver n after olds news) ((news ≡ olds) × Begins after whole × HasNoneFrom n whole) → (AreOver n after olds news → (k : ℕ) → n ≤ k → AreOwn (story.entries_of k whole)) → (k : ℕ) → n ≤ k → AreOwn (story.entries_of k whole)
      by_end true after n h rest = rest h
      by_end false after n h rest = λ k more. subst AreOwn (sym (h.2 k more)) tt

      by_side : (k < number + length ds) ⊎ (number + length ds ≤ k) → ((k : ℕ) → number + length ds ≤ k → AreOwn (story.entries_of k whole)) → AreOwn (story.entries_of k whole)
      by_side (inl here) rest = each_desk (λ n. AreOwn (story.entries_of n whole)) ds ts number before h.0 h.2 (all_first Tell ds (all_desks olds) tell) (λ n d t is telling. own_entries n before h.0 d t is telling) k low here
      by_side (inr more) rest = rest k more
  over_own number before [] (ts ∷ news) h tell k low = absurd h
  over_own number before (ds ∷ olds) [] h tell k low = absurd h

  -- a run that was cut short -------------------------------------------------------------------------------------------------------------

  module _ (own : AreOwn whole) where
    abbrev early : ℕ
    early = length began.earlier

    abbrev entries : List Entry
    entries = entries_in whole

    pub record CutRound (number floor ceiling : ℕ) (ds ts : List (Desk S K)) : Type 0 where
      pub round : List Spoken
      pub are : AreSpokenAt began.base began.earlier (entries_in whole) floor ceiling number round
      pub long : length round ≡ length ds
      pub hold : Hold left taken ds ts (map (λ spoken. spoken.input) round) (map (λ spoken. spoken.output) round)
      pub wholly : all_ended ts ≡ true → AllByRecursion IsWholly round
      pub sound : EachThree (λ d t spoken. Unhurt d t spoken → IsWholly spoken) ds ts round
      pub ended : EachThree Unhurt ds ts round → all_ended ts ≡ true

    cut_round : (number floor ceiling : ℕ) (before after : Story) (ds ts : List (Desk S K)) → AreOf number before after ds ts → AllByRecursion Tell ds → Begins after whole → floor ≤ early + length before → early + length after ≤ ceiling
        → CutRound number floor ceiling ds ts
    cut_round number floor ceiling before after [] [] h tell ends low high = record { round = []; are = tt; long = refl; hold = tt; wholly = λ sure. tt; sound = tt; ended = λ unhurt. refl }
    cut_round number floor ceiling before after (d ∷ ds) (t ∷ ts) h tell ends low high =
        let s = told left reads source_label taken writes sink_label turn began basis based whole number before after d t h.0 tell.0 in
        let starts = begins_length before h.0.begun.seen h.0.ahead in
        let stops = begins_length h.0.ended.seen after h.0.told in
        let at = points began whole own h.0.begun.seen in
        let then = points began whole own h.0.ended.seen in
        let is = front_spoken left reads source_label taken writes sink_label turn began basis based whole number before after d t h.0 tell.0 s.front floor ceiling own (begins_on h.0.ended.seen after whole h.0.told ends)
        (omega (arith, starts, at, low)) (omega (arith, stops, then, high)) in
        let sink = front_output left reads source_label taken writes sink_label turn began basis based whole number before after d t h.0 tell.0 s.front in
        let source = input_is left reads source_label taken writes sink_label turn began basis based whole number before after d t h.0 tell.0 in
        let rest = cut_round (number + 1) floor ceiling before after ds ts h.1 tell.1 ends low high in
        record {
          round = _ ∷ rest.round;
          are = (is, rest.are);
          long = ap suc rest.long;
          hold = (source, sink, rest.hold);
          wholly = λ sure. (s.wholly (both_true (ended_as t.served) (all_ended ts) sure).0, rest.wholly (both_true (ended_as t.served) (all_ended ts) sure).1);
          sound = (λ unhurt. s.wholly (unhurt_ended left reads source_label taken writes sink_label turn began basis based whole number before after d t h.0 tell.0 _ refl unhurt), rest.sound);
          ended = λ unhurt. true_both (ended_as t.served) (all_ended ts) (unhurt_ended left reads source_label taken writes sink_label turn began basis based whole number before after d t h.0 tell.0 _ refl unhurt.0) (rest.ended unhurt.1);
        }
    cut_round number floor ceiling before after [] (t ∷ ts) h tell ends low high = absurd h
    cut_round number floor ceiling before after (d ∷ ds) [] h tell ends low high = absurd h

    -- sessions that didn't begin
    pub record Silent (ds : List (Desk S K)) : Type 0 where
      pub round : List Spoken
      pub long : length round ≡ length ds
      pub hold : Hold left taken ds ds (map (λ spoken. spoken.input) round) (map (λ spoken. spoken.output) round)
      pub silent : AllByRecursion (λ (spoken : Spoken). spoken.output ≡ []) round

    silent_round : (ds : List (Desk S K)) → AllByRecursion Tell ds → Silent ds
    silent_round [] tell = record { round = []; long = refl; hold = tt; silent = tt }
    silent_round (d ∷ ds) tell =
        let found = some_of (left d.source) tell.0.0 in
        let rest = silent_round ds tell.1 in
        record {
          round = record { input = found.0; output = []; requests = 0; whole = []; last = [] } ∷ rest.round;
          long = ap suc rest.long;
          hold = (found.1, tell.0.1, rest.hold);
          silent = (refl, rest.silent);
        }

    pub record SilentRounds (olds : List (List (Desk S K))) : Type 0 where
      pub rounds : List (List Spoken)
      pub long : map length rounds ≡ map length olds
      pub hold : Hold left taken (all_desks olds) (all_desks olds) (map (λ spoken. spoken.input) (all_desks rounds)) (map (λ spoken. spoken.output) (all_desks rounds))
      pub silent : AllByRecursion (λ later. AllByRecursion (λ (spoken : Spoken). spoken.output ≡ []) later) rounds

    silent_rounds : (olds : List (List (Desk S K))) → AllByRecursion Tell (all_desks olds) → SilentRounds olds
    silent_rounds [] tell = record { rounds = []; long = refl; hold = tt; silent = tt }
    silent_rounds (ds ∷ olds) tell =
        let one = silent_round ds (all_first Tell ds (all_desks olds) tell) in
        let rest = silent_rounds olds (all_second Tell ds (all_desks olds) tell) in
        record {
          rounds = one.round ∷ rest.rounds;
          long = (λ i. one.long i ∷ rest.long i);
          hold = hold_more left taken (λ spoken. spoken.input) (λ spoken. spoken.output) ds ds one.round (all_desks olds) (all_desks olds) (all_desks rest.rounds) one.hold rest.hold;
          silent = (one.silent, rest.silent);
        }

    settled_on : (number : ℕ) (before after : Story) (ds ts : List (Desk S K)) → Begins before after → Begins after whole → AreOf number before after ds ts → AllByRecursion Tell ds → IsSettled began whole own number before
        → IsSettled began whole own (number + length ds) after
    settled_on number before after ds ts first ends h tell settled k low = by_side (either k number)
      where
        by_side : (k < number) ⊎ (number ≤ k) → story.entries_of k whole ≡ story.entries_of k after
        by_side (inl less) = squeeze k before after whole first ends (settled k less)
        by_side (inr more) = each_desk (λ n. story.entries_of n whole ≡ story.entries_of n after) ds ts number before after h tell (λ n d t is telling. settled_seen n before after d t is ends) k more low

    pub record CutRounds (number : ℕ) (olds news : List (List (Desk S K))) : Type 0 where
      pub rounds : List (List Spoken)
      pub long : map length rounds ≡ map length olds
      pub hold : Hold left taken (all_desks olds) (all_desks news) (map (λ spoken. spoken.input) (all_desks rounds)) (map (λ spoken. spoken.output) (all_desks rounds))
      pub cut : AreCutRounds began.base began.earlier (entries_in whole) number rounds
      pub sound : AreWholeUnhurt left taken reads writes olds news rounds

    -- behind a round come further ones, where all its sessions ended, and silent ones else
    pub record Behind (done : Bool) (number : ℕ) (olds news : List (List (Desk S K))) : Type 0 where
      pub rounds : List (List Spoken)
      pub long : map length rounds ≡ map length olds
      pub hold : Hold left taken (all_desks olds) (all_desks news) (map (λ spoken. spoken.input) (all_desks rounds)) (map (λ spoken. spoken.output) (all_desks rounds))
      pub cut : ((done ≡ true) × AreCutRounds began.base began.earlier (entries_in whole) number rounds) ⊎ AllByRecursion (λ later. AllByRecursion (λ (spoken : Spoken). spoken.output ≡ []) later) rounds
      pub sound : done ≡ true → AreWholeUnhurt left taken reads writes olds news rounds

    pub cut_rounds : (number : ℕ) (before : Story) (olds news : List (List (Desk S K))) → AreOver number before olds news → AllByRecursion Tell (all_desks olds) → IsSettled began whole own number before → CutRounds number olds news
    cut_rounds number before [] [] h tell settled = record { rounds = []; long = refl; hold = tt; cut = tt; sound = tt }
    cut_rounds number before (ds ∷ olds) (ts ∷ news) h tell settled =
        let here = all_first Tell ds (all_desks olds) tell in
        let later = all_second Tell ds (all_desks olds) tell in
        let ends = by_front (all_ended ts) h.0 (number + length ds) h.3 in
        let one = cut_round number (early + entries_of entries 0 number) (early + entries_of entries 0 (number + length ds)) before h.0 ds ts h.2 here ends
        (floor_low began whole own number before (begins_on before h.0 whole h.1 ends) settled)
        (ceiling_high began whole own (number + length ds) h.0 ends (by_fresh (all_ended ts) h.0 (number + length ds) h.3 later)) in
        let rest = by_end (all_ended ts) h.0 (number + length ds) h.3 later (λ more. cut_rounds (number + length ds) h.0 olds news more later (settled_on number before h.0 ds ts h.1 ends h.2 here settled)) in
        let next : number + length ds ≡ number + length one.round = ap (λ n. number + n) (sym one.long) in
        record {
          rounds = one.round ∷ rest.rounds;
          long = (λ i. one.long i ∷ rest.long i);
          hold = hold_more left taken (λ spoken. spoken.input) (λ spoken. spoken.output) ds ts one.round (all_desks olds) (all_desks news) (all_desks rest.rounds) one.hold rest.hold;
          cut = (
            subst (λ n. AreSpokenAt began.base began.earlier (entries_in whole) (early + entries_of entries 0 number) (early + entries_of entries 0 n) number one.round) next one.are,
            by_cut (all_ended ts) one.round rest.rounds (number + length ds) (number + length one.round) next one.wholly rest.cut,
          );
          sound = (one.sound, λ unhurt. rest.sound (one.ended unhurt));
        }
      where
        by_front : (b : Bool) (after : Story) (n : ℕ) → MatchBool b (AreOver n after olds news) ((news ≡ olds) × Begins after whole × HasNoneFrom n whole) → Begins after whole
        by_front true after n h = over_front n after olds news h
        by_front false after n h = h.1

        by_fresh : (b : Bool) (after : Story) (n : ℕ) → MatchBool b (AreOver n after olds news) ((news ≡ olds) × Begins after whole × HasNoneFrom n whole) → AllByRecursion Tell (all_desks olds) → (k : ℕ) → n ≤ k → story.entries_of k after ≡ []
        by_fresh true after n h tell = over_fresh n after olds news h tell
        by_fresh false after n h tell = λ k more. front_none k after whole h.1 (h.2 k more)

        by_end : (b : Bool) (after : Story) (n : ℕ) → MatchBool b (AreOver n after olds news) ((news ≡ olds) × Begins after whole × HasNoneFrom n whole) → AllByRecursion Tell (all_desks olds) → (AreOver n after olds news → CutRounds n olds news) → Behind b n olds news
        by_end true after n h tell rest = let r = rest h in record { rounds = r.rounds; long = r.long; hold = r.hold; cut = inl (refl, r.cut); sound = λ sure. r.sound }
        by_end false after n h tell rest =
            let r = silent_rounds olds tell in
            record { rounds = r.rounds; long = r.long; hold = subst (λ rs. Hold left taken (all_desks olds) (all_desks rs) (map (λ spoken. spoken.input) (all_desks r.rounds)) (map (λ spoken. spoken.output) (all_desks r.rounds))) (sym h.0) r.hold; cut = inr r.silent; sound = λ sure. (let never : false ≡ true = sure in cc) }

        by_cut : (b : Bool) (round : List Spoken) (rounds : List (List Spoken)) (n m : ℕ) → n ≡ m → (b ≡ true → AllByRecursion IsWholly round)
            → ((b ≡ true) × AreCutRounds began.base began.earlier (entries_in whole) n rounds) ⊎ AllByRecursion (λ later. AllByRecursion (λ (spoken : Spoken). spoken.output ≡ []) later) rounds
            → (AllByRecursion IsWholly round × AreCutRounds began.base began.earlier (entries_in whole) m rounds) ⊎ AllByRecursion (λ later. AllByRecursion (λ (spoken : Spoken). spoken.output ≡ []) later) rounds
        by_cut b round rounds n m next wholly (inl done) = inl (wholly done.0, subst (λ k. AreCutRounds began.base began.earlier (entries_in whole) k rounds) next done.1)
        by_cut b round rounds n m next wholly (inr silent) = inr silent
    cut_rounds number before [] (ts ∷ news) h tell settled = absurd h
    cut_rounds number before (ds ∷ olds) [] h tell settled = absurd h

-- what all of it comes to ----------------------------------------------------------------------------------------------------------------

module _ {S K : Type 0} (left : S → Option (List ℕ)) (reads : S → ℕ) (source_label : S → List ℕ) (taken : K → Option (List ℕ)) (writes : K → ℕ) (sink_label : K → List ℕ) (turn : TurnId) (p q : Known) (olds news : List (List (Desk S K)))
    (run : AreRun left reads source_label taken writes sink_label turn p q olds news) where
  pub run_legal : AreLegalIn left taken q olds news
  run_legal began whole based is legal tell ended =
      let over = run.over whole is in
      let r = legal_rounds left reads source_label taken writes sink_label turn began p.basis (sym run.basis ∙ based) whole 1 [] olds news over.1 tell ended in
      (map desks_of r.rounds, r.hold, r.long, rounds_are_legal began whole r.rounds r.served r.kept over.0 legal, r.within)

  pub run_cut : AreCutIn left taken reads writes q olds news
  run_cut began whole based is legal tell =
      let over = run.over whole is in
      let own : AreOwn whole = all_own whole (λ k. by_zero k (cases_Bool (k == 0)) over.0 (λ some. over_own left reads source_label taken writes sink_label turn began p.basis (sym run.basis ∙ based) whole 1 [] olds news over.1 tell k some)) in
      let r = cut_rounds left reads source_label taken writes sink_label turn began p.basis (sym run.basis ∙ based) whole own 1 [] olds news over.1 tell (λ k low. let zero_is : k ≡ 0 = omega arith in ap (λ n. story.entries_of n whole) zero_is ∙ over.0) in
      (r.rounds, r.hold, r.long, r.cut, r.sound)
    where
      by_zero : (k : ℕ) → ((k == 0) ≡ true) ⊎ ((k == 0) ≡ false) → story.entries_of 0 whole ≡ [] → (1 ≤ k → AreOwn (story.entries_of k whole)) → AreOwn (story.entries_of k whole)
      by_zero k (inl is) none rest = let zero_is : k ≡ 0 = grind (arith, nat_tests) in subst (λ n. AreOwn (story.entries_of n whole)) (sym zero_is) (subst AreOwn (sym none) tt)
      by_zero k (inr is) none rest = rest (let some : 1 ≤ k = grind (arith, nat_tests) in some)
