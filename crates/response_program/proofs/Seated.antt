-- Desks of rounds with the names of their files, and what their rounds were run to.
use Rattle.std.proofs.Common.{◌≡◌, ◌∙◌, ℕ, suc, ◌+◌, ◌≤◌, List, [], ◌∷◌, ◌++◌, length, map, Option, Some, None, ◌⊎◌, Bool, true, false, ◌&&◌, refl, sym, ap, subst, inl, inr, arith}
use Rattle.std.specs.Prelude.{◌≢◌, MatchBool, take, drop}
use Rattle.std.specs.Option.{option_or}
use Rattle.std.specs.List.{AllByRecursion}
use Rattle.std.proofs.lemmas.Bool.{and_parts}
use Rattle.std.proofs.lemmas.List.{length-map}
use Rattle.byte_lines.specs.declared.rounds.Desk.{Desk}
use Rattle.byte_lines.specs.declared.rounds.Served.{Served}
use Rattle.byte_lines.specs.declared.rounds.Served.TheVariants as ends
use Rattle.byte_lines.specs.Desks.{all_desks, desk_count}
use Rattle.program_words.specs.Rounds.{pair_of, rounds_in}
use Rattle.program_words.specs.declared.rounds.PlacedPair.{PlacedPair}
use Rattle.scenario_rules.specs.Journal.{IsLegal}
use Rattle.session_rules.specs.Runs.{IsRun}
use Rattle.turn_table.specs.Passes.{TurnId}
use Rattle.plan_core.specs.State.{State}
use Rattle.plan_book.specs.declared.ground.Ground.{Ground}
use Rattle.plan_book.specs.Books.{Story, history, story_of, entries_in}
use Rattle.plan_book.proofs.Told.{entries_back}
use Rattle.desk_rounds.specs.Three.{EachThree}
use Rattle.desk_rounds.specs.RoundsRun.{ended_as, is_wanting, all_ended}
use Rattle.desk_rounds.specs.RunOver.{IsDeskOf, AreDesksOf, AreRunOver}
use Rattle.desk_rounds.specs.Told.{Spoken, IsWholly, IsTelling, Hold, IsUnhurt, AreWholeUnhurt, AreCutRounds}
use Rattle.response_program.specs.Names.{Pair}
use Rattle.response_program.specs.Outcomes.{Outcome, NoMemory, NotRead, NotWritten, TooLong, stop_of, stop_by, stop_in_rounds}
use Rattle.response_program.specs.Desks.{DeskView}
use Rattle.response_program.specs.InRounds as rounds
use Rattle.response_program.specs.InRounds.{desk_at, desks_at, AreLabelled, IsCome, KeepNames, AreCome, IsTellingDesk, DesksHold, IsUnhurtDesk, AreWholeDesks, filled, AreFilled, AreServedAt, AreServedInRounds}
use Rattle.response_program.proofs.Books.{ground_of}
use Rattle.response_program.proofs.Filled.{filled_desks, filled_shape, count_all}
use Rattle.response_program.proofs.Done.{ended}
use Rattle.response_program.proofs.Named.{all_behind}
use Rattle.response_program.proofs.Filling.{either_stop, none_wanting}
use Rattle.response_program.proofs.Served.{some_is}

-- why the first of some sessions didn't end
abbrev first_stop : ℕ → List Pair → List (Option Served) → Option Outcome
first_stop session (pair ∷ pairs) (served ∷ more) = option_or (stop_by pair session served) (first_stop (session + 1) pairs more)
first_stop session pairs more = None

-- this is told, or that there was no memory
first_or_none : (session : ℕ) (pairs : List Pair) (more : List (Option Served)) → (stop_in_rounds session pairs more ≡ first_stop session pairs more) ⊎ (stop_in_rounds session pairs more ≡ Some NoMemory)
first_or_none session [] more = inl refl
first_or_none session (pair ∷ pairs) [] = inl refl
first_or_none session (pair ∷ pairs) (served ∷ more) =
    either_stop (stop_by pair session served) (first_stop (session + 1) pairs more) (stop_in_rounds (session + 1) pairs more) (first_or_none (session + 1) pairs more)

wanting_stop : (pair : Pair) (session : ℕ) (told : Option Served) (m : Bool) → is_wanting told ≡ m → (stop_by pair session told ≢ Some NoMemory) → m ≡ false
wanting_stop pair session told false is some = refl
wanting_stop pair session (Some ends.Memory) true is some = absurd (some refl)
wanting_stop pair session (Some ends.Worn) true is some = absurd (some refl)
wanting_stop pair session (Some ends.BookFault) true is some = absurd (some refl)
wanting_stop pair session None true is some = cc
wanting_stop pair session (Some (ends.Ended count)) true is some = cc
wanting_stop pair session (Some ends.ReadFault) true is some = cc
wanting_stop pair session (Some ends.WriteFault) true is some = cc
wanting_stop pair session (Some ends.Limit) true is some = cc

-- by whether all sessions of a round ended
by_ended : {P Q R : Type 0} (ended found : Bool) → ended ≡ found → MatchBool found P Q → (ended ≡ true → P → R) → (ended ≡ false → Q → R) → R
by_ended ended true is h over stays = over is h
by_ended ended false is h over stays = stays is h

is_over : {P : Type 0} (Q : Type 0) (ended : Bool) → ended ≡ true → MatchBool ended P Q → P
is_over Q true is h = h
is_over Q false is h = absurd (wrong is)
  where
    wrong : false ≡ true → ⊥
    wrong same = cc

ended_is : (served : Option Served) → ended_as served ≡ true → (count : ℕ) × (served ≡ Some (ends.Ended count))
ended_is (Some (ends.Ended count)) is = (count, refl)
ended_is (Some ends.ReadFault) is = cc
ended_is (Some ends.WriteFault) is = cc
ended_is (Some ends.Limit) is = cc
ended_is (Some ends.Worn) is = cc
ended_is (Some ends.BookFault) is = cc
ended_is (Some ends.Memory) is = cc
ended_is None is = cc

not_here : (served : Option Served) (rest : Bool) → ended_as served ≡ true → (ended_as served && rest) ≡ false → rest ≡ false
not_here served rest here is = rw here at is

stop_cases : (pair : Pair) (session : ℕ) (served : Served) → ((count : ℕ) × (served ≡ ends.Ended count)) ⊎ ((outcome : Outcome) × (stop_of pair session served ≡ Some outcome))
stop_cases pair session (ends.Ended count) = inl (count, refl)
stop_cases pair session ends.ReadFault = inr (NotRead pair.input, refl)
stop_cases pair session ends.WriteFault = inr (NotWritten pair.output, refl)
stop_cases pair session ends.Limit = inr (TooLong session, refl)
stop_cases pair session ends.Worn = inr (NoMemory, refl)
stop_cases pair session ends.BookFault = inr (NoMemory, refl)
stop_cases pair session ends.Memory = inr (NoMemory, refl)

by_stop : (pair : Pair) (session : ℕ) (served : Served) {R : Type 0} → ((count : ℕ) × (served ≡ ends.Ended count)) ⊎ ((outcome : Outcome) × (stop_of pair session served ≡ Some outcome))
    → ((count : ℕ) → served ≡ ends.Ended count → R) → ((outcome : Outcome) → stop_of pair session served ≡ Some outcome → R) → R
by_stop pair session served (inl end) f g = f end.0 end.1
by_stop pair session served (inr stop) f g = g stop.0 stop.1

none_of : {A : Type 0} (a b : Option A) → option_or a b ≡ None → (a ≡ None) × (b ≡ None)
none_of None b is = (refl, is)
none_of (Some x) b is = cc

has_ended : (pair : Pair) (session : ℕ) (told : Option Served) (served : Served) → told ≡ Some served → stop_by pair session told ≡ None → ended_as told ≡ true
has_ended pair session told served is none =
    let end = ended pair session served (sym (ap (stop_by pair session) is) ∙ none) in
    ap ended_as (is ∙ ap Some end.1)

come_ended : (session count : ℕ) (old new : DeskView) (olds news : List DeskView) (pair : Pair) (told : Option Served) (rest : Option Outcome) → told ≡ Some (ends.Ended count) → IsCome old new (ends.Ended count)
    → AreCome (session + 1) olds news rest → AreCome session (old ∷ olds) (new ∷ news) (option_or (stop_by pair session told) rest)
come_ended session count old new olds news pair told rest is come more =
    subst (λ (t : Option Served). AreCome session (old ∷ olds) (new ∷ news) (option_or (stop_by pair session t) rest)) (sym is) (rounds.ended session count old new olds news rest come more)

come_stopped : (session : ℕ) (old new : DeskView) (olds news : List DeskView) (told : Option Served) (served : Served) (outcome : Outcome) (rest : Option Outcome) → told ≡ Some served → IsCome old new served
    → stop_of old.pair session served ≡ Some outcome → KeepNames olds news → AreCome session (old ∷ olds) (new ∷ news) (option_or (stop_by old.pair session told) rest)
come_stopped session old new olds news told served outcome rest is come stops keep =
    subst (λ (t : Option Served). AreCome session (old ∷ olds) (new ∷ news) (option_or (stop_by old.pair session t) rest)) (sym is)
    (subst (λ (s : Option Outcome). AreCome session (old ∷ olds) (new ∷ news) (option_or s rest)) (sym stops) (rounds.stopped session old new olds news served outcome come stops keep))

module _ {S K : Type 0} (left : S → Option (List ℕ)) (reads : S → ℕ) (source_label : S → List ℕ) (taken : K → Option (List ℕ)) (writes : K → ℕ) (sink_label : K → List ℕ) where
  abbrev seen : List Pair → List (Desk S K) → List DeskView
  seen pairs desks = desks_at left reads taken writes pairs desks

  abbrev labelled : List Pair → List (Desk S K) → Type 0
  labelled pairs desks = AreLabelled source_label sink_label pairs desks

  abbrev servings : List (Desk S K) → List (Option Served)
  servings desks = map (λ desk. desk.served) desks

  pub labelled_length : (pairs : List Pair) (desks : List (Desk S K)) → labelled pairs desks → length pairs ≡ length desks
  labelled_length [] [] h = refl
  labelled_length (pair ∷ pairs) (desk ∷ desks) h = ap suc (labelled_length pairs desks h.2)
  labelled_length [] (desk ∷ desks) h = absurd h
  labelled_length (pair ∷ pairs) [] h = absurd h

  -- what their views tell
  all_telling : (pairs : List Pair) (desks : List (Desk S K)) → labelled pairs desks → AllByRecursion IsTellingDesk (seen pairs desks) → AllByRecursion (IsTelling left taken) desks
  all_telling [] [] h tells = tt
  all_telling (pair ∷ pairs) (desk ∷ desks) h tells = (tells.0, all_telling pairs desks h.2 tells.1)
  all_telling [] (desk ∷ desks) h tells = absurd h
  all_telling (pair ∷ pairs) [] h tells = absurd h

  seen_hold : (pairs : List Pair) (olds news : List (Desk S K)) → labelled pairs olds → (inputs outputs : List (List ℕ)) → Hold left taken olds news inputs outputs → DesksHold (seen pairs olds) (seen pairs news) inputs outputs
  seen_hold [] [] [] h [] [] hold = tt
  seen_hold (pair ∷ pairs) (old ∷ olds) (new ∷ news) h (input ∷ inputs) (output ∷ outputs) hold = (hold.0, hold.1, seen_hold pairs olds news h.2 inputs outputs hold.2)
  seen_hold [] (old ∷ olds) news h inputs outputs hold = absurd h
  seen_hold (pair ∷ pairs) [] news h inputs outputs hold = absurd h
  seen_hold [] [] (new ∷ news) h inputs outputs hold = absurd hold
  seen_hold [] [] [] h [] (output ∷ outputs) hold = absurd hold
  seen_hold [] [] [] h (input ∷ inputs) outputs hold = absurd hold
  seen_hold (pair ∷ pairs) (old ∷ olds) [] h inputs outputs hold = absurd hold
  seen_hold (pair ∷ pairs) (old ∷ olds) (new ∷ news) h [] outputs hold = absurd hold
  seen_hold (pair ∷ pairs) (old ∷ olds) (new ∷ news) h (input ∷ inputs) [] hold = absurd hold

  -- behind a stop nothing but the names is told
  keep : (pairs : List Pair) (olds news : List (Desk S K)) → labelled pairs olds → labelled pairs news → KeepNames (seen pairs olds) (seen pairs news)
  keep [] [] [] h k = tt
  keep (pair ∷ pairs) (old ∷ olds) (new ∷ news) h k = (refl, keep pairs olds news h.2 k.2)
  keep [] (old ∷ olds) news h k = absurd h
  keep (pair ∷ pairs) [] news h k = absurd h
  keep [] [] (new ∷ news) h k = absurd k
  keep (pair ∷ pairs) (old ∷ olds) [] h k = absurd k

  -- sessions that met no fault are whole -----------------------------------------------------------------------------------------

  abbrev Wanted : Desk S K → Type 0
  Wanted desk = is_wanting desk.served ≡ false

  none_wanted : (session : ℕ) (pairs : List Pair) (desks : List (Desk S K)) → labelled pairs desks → (stop_in_rounds session pairs (servings desks) ≢ Some NoMemory) → AllByRecursion Wanted desks
  none_wanted session [] [] l some = tt
  none_wanted session (pair ∷ pairs) (desk ∷ desks) l some =
      let both = none_wanting (stop_by pair session desk.served) (stop_in_rounds (session + 1) pairs (servings desks)) some in
      (wanting_stop pair session desk.served (is_wanting desk.served) refl both.0, none_wanted (session + 1) pairs desks l.2 both.1)
  none_wanted session [] (desk ∷ desks) l some = absurd l
  none_wanted session (pair ∷ pairs) [] l some = absurd l

  module _ (P R : Desk S K → Desk S K → Spoken → Type 0) (Q : DeskView → DeskView → Spoken → Type 0) where
    -- what holds of the views of a round's desks holds of them, where none of them was wanting
    each_unseen : ((pair : Pair) (d t : Desk S K) (s : Spoken) → Wanted t → Q (desk_at left reads taken writes pair d) (desk_at left reads taken writes pair t) s → P d t s)
        → (pairs : List Pair) (ds ts : List (Desk S K)) (round : List Spoken) (olds news : List (Desk S K)) → labelled pairs (ds ++ olds) → AllByRecursion Wanted (ts ++ news) → EachThree R ds ts round
        → EachThree Q (take (length round) (seen pairs (ds ++ olds))) (take (length round) (seen pairs (ts ++ news))) round → EachThree P ds ts round
    each_unseen f pairs [] [] [] olds news l w r h = tt
    each_unseen f (pair ∷ pairs) (d ∷ ds) (t ∷ ts) (s ∷ round) olds news l w r h = (f pair d t s w.0 h.0, each_unseen f pairs ds ts round olds news l.2 w.1 r.1 h.1)
    each_unseen f [] (d ∷ ds) (t ∷ ts) (s ∷ round) olds news l w r h = absurd l
    each_unseen f pairs [] [] (s ∷ round) olds news l w r h = absurd r
    each_unseen f pairs [] (t ∷ ts) round olds news l w r h = absurd r
    each_unseen f pairs (d ∷ ds) [] round olds news l w r h = absurd r
    each_unseen f pairs (d ∷ ds) (t ∷ ts) [] olds news l w r h = absurd r

  -- the views behind those of a round
  record Later (round : List Spoken) (pairs : List Pair) (ds ts olds news : List (Desk S K)) : Type 0 where
    pub rest : List Pair
    pub labelled_are : labelled rest olds
    pub olds_are : drop (length round) (seen pairs (ds ++ olds)) ≡ seen rest olds
    pub news_are : drop (length round) (seen pairs (ts ++ news)) ≡ seen rest news

  later_seen : (R : Desk S K → Desk S K → Spoken → Type 0) (pairs : List Pair) (ds ts : List (Desk S K)) (round : List Spoken) (olds news : List (Desk S K)) → labelled pairs (ds ++ olds) → EachThree R ds ts round
      → Later round pairs ds ts olds news
  later_seen R pairs [] [] [] olds news l h = record { rest = pairs; labelled_are = l; olds_are = refl; news_are = refl }
  later_seen R (pair ∷ pairs) (d ∷ ds) (t ∷ ts) (s ∷ round) olds news l h =
      let more = later_seen R pairs ds ts round olds news l.2 h.1 in
      record { rest = more.rest; labelled_are = more.labelled_are; olds_are = more.olds_are; news_are = more.news_are }
  later_seen R [] (d ∷ ds) (t ∷ ts) (s ∷ round) olds news l h = absurd l
  later_seen R pairs [] [] (s ∷ round) olds news l h = absurd h
  later_seen R pairs [] (t ∷ ts) round olds news l h = absurd h
  later_seen R pairs (d ∷ ds) [] round olds news l h = absurd h
  later_seen R pairs (d ∷ ds) (t ∷ ts) [] olds news l h = absurd h

  abbrev Unhurt : Desk S K → Desk S K → Spoken → Type 0
  Unhurt d t s = IsUnhurt left taken reads writes d t s

  abbrev WholeUnhurt : Desk S K → Desk S K → Spoken → Type 0
  WholeUnhurt d t s = Unhurt d t s → IsWholly s

  whole_seen : (pairs : List Pair) (olds news : List (List (Desk S K))) (rounds : List (List Spoken)) → labelled pairs (all_desks olds) → AllByRecursion Wanted (all_desks news) → AreWholeUnhurt left taken reads writes olds news rounds
      → AreWholeDesks (seen pairs (all_desks olds)) (seen pairs (all_desks news)) rounds
  whole_seen pairs [] [] [] l w h = tt
  whole_seen pairs (ds ∷ olds) (ts ∷ news) (round ∷ rounds) l w h = (
    each_both pairs ds ts round l w h.0,
    λ unhurt.
        (let later = later_seen WholeUnhurt pairs ds ts round (all_desks olds) (all_desks news) l h.0 in
        let here = each_unseen Unhurt WholeUnhurt IsUnhurtDesk (λ pair d t s wanted un. record { read = un.read; written = un.written; within = un.within; not_wanting = wanted }) pairs ds ts round (all_desks olds) (all_desks news) l w h.0 unhurt in
        subst (λ views. AreWholeDesks views (drop (length round) (seen pairs (ts ++ all_desks news))) rounds) (sym later.olds_are)
        (subst (λ views. AreWholeDesks (seen later.rest (all_desks olds)) views rounds) (sym later.news_are)
        (whole_seen later.rest olds news rounds later.labelled_are (all_behind Wanted ts (all_desks news) w) (h.1 here)))),
  )
    where
      each_both : (pairs : List Pair) (ds ts : List (Desk S K)) (round : List Spoken) → labelled pairs (ds ++ all_desks olds) → AllByRecursion Wanted (ts ++ all_desks news) → EachThree WholeUnhurt ds ts round
          → EachThree (λ old new spoken. IsUnhurtDesk old new spoken → IsWholly spoken) (take (length round) (seen pairs (ds ++ all_desks olds))) (take (length round) (seen pairs (ts ++ all_desks news))) round
      each_both pairs [] [] [] l w h = tt
      each_both (pair ∷ pairs) (d ∷ ds) (t ∷ ts) (s ∷ round) l w h =
          (λ un. h.0 (record { read = un.read; written = un.written; within = un.within; not_wanting = w.0 }), each_both pairs ds ts round l.2 w.1 h.1)
      each_both [] (d ∷ ds) (t ∷ ts) (s ∷ round) l w h = absurd l
      each_both pairs [] [] (s ∷ round) l w h = absurd h
      each_both pairs [] (t ∷ ts) round l w h = absurd h
      each_both pairs (d ∷ ds) [] round l w h = absurd h
      each_both pairs (d ∷ ds) (t ∷ ts) [] l w h = absurd h
  whole_seen pairs [] [] (round ∷ rounds) l w h = absurd h
  whole_seen pairs [] (ts ∷ news) rounds l w h = absurd h
  whole_seen pairs (ds ∷ olds) [] rounds l w h = absurd h
  whole_seen pairs (ds ∷ olds) (ts ∷ news) [] l w h = absurd h

  module _ (turn : TurnId) (began : Ground) (whole : Story) where
    abbrev IsOf : ℕ → Story → Story → Desk S K → Desk S K → Type 0
    IsOf number before after desk then = IsDeskOf left reads source_label taken writes sink_label turn (Some began) whole number before after desk then

    abbrev AreOf : ℕ → Story → Story → List (Desk S K) → List (Desk S K) → Type 0
    AreOf number before after desks news = AreDesksOf left reads source_label taken writes sink_label turn (Some began) whole number before after desks news

    abbrev AreOver : ℕ → Story → List (List (Desk S K)) → List (List (Desk S K)) → Type 0
    AreOver number before olds news = AreRunOver left reads source_label taken writes sink_label turn (Some began) whole number before olds news

    one_come : (number : ℕ) (before after : Story) (pair : Pair) (desk then : Desk S K) → (h : IsOf number before after desk then) → IsCome (desk_at left reads taken writes pair desk) (desk_at left reads taken writes pair then) h.served.served
    one_come number before after pair desk then h =
        record {
          pair_is = refl;
          read = h.served.cause.reads_failed;
          written = h.served.cause.writes_failed;
          limit = λ is input told. (h.served.session began input h.basis_is told).limit is;
          within = λ count is input told. ((h.served.session began input h.basis_is told).whole count is).within;
        }

    one_labelled : (number : ℕ) (before after : Story) (desk then : Desk S K) (name : Pair) → IsOf number before after desk then → source_label desk.source ≡ name.input → sink_label desk.sink ≡ name.output
        → (source_label then.source ≡ name.input) × (sink_label then.sink ≡ name.output)
    one_labelled number before after desk then name h input output = (h.served.cause.source_same ∙ input, h.served.cause.sink_same ∙ output)

    -- rounds that weren't begun
    as_before : (olds news : List (List (Desk S K))) → news ≡ olds → (pairs : List Pair) → labelled pairs (all_desks olds) → labelled pairs (all_desks news)
    as_before olds news is pairs l = subst (λ (all : List (List (Desk S K))). labelled pairs (all_desks all)) (sym is) l

    -- the labels stay -----------------------------------------------------------------------------------------------------------

    round_labelled : (number : ℕ) (before after : Story) (desks news : List (Desk S K)) → AreOf number before after desks news → (olds more : List (Desk S K))
        → ((pairs : List Pair) → labelled pairs olds → labelled pairs more) → (pairs : List Pair) → labelled pairs (desks ++ olds) → labelled pairs (news ++ more)
    round_labelled number before after [] [] h olds more rest pairs l = rest pairs l
    round_labelled number before after (desk ∷ desks) (then ∷ news) h olds more rest (pair ∷ pairs) l =
        let here = one_labelled number before after desk then pair h.0 l.0 l.1 in
        (here.0, here.1, round_labelled (number + 1) before after desks news h.1 olds more rest pairs l.2)
    round_labelled number before after (desk ∷ desks) (then ∷ news) h olds more rest [] l = absurd l
    round_labelled number before after [] (then ∷ news) h olds more rest pairs l = absurd h
    round_labelled number before after (desk ∷ desks) [] h olds more rest pairs l = absurd h

    pub run_labelled : (number : ℕ) (before : Story) (olds news : List (List (Desk S K))) → AreOver number before olds news → (pairs : List Pair) → labelled pairs (all_desks olds) → labelled pairs (all_desks news)
    run_labelled number before [] [] h pairs l = l
    run_labelled number before (desks ∷ olds) (then ∷ news) h pairs l =
        round_labelled number before h.0 desks then h.2 (all_desks olds) (all_desks news)
        (by_ended (all_ended then) (all_ended then) refl h.3 (λ is over. run_labelled (number + length desks) h.0 olds news over) (λ is stays. as_before olds news stays.0)) pairs l
    run_labelled number before [] (then ∷ news) h pairs l = absurd h
    run_labelled number before (desks ∷ olds) [] h pairs l = absurd h

    -- what the desks came to ----------------------------------------------------------------------------------------------------

    round_ended : (last number : ℕ) (before after : Story) (desks news : List (Desk S K)) → last ≡ number + length desks → AreOf number before after desks news → all_ended news ≡ true → (olds more : List (Desk S K))
        → ((pairs : List Pair) → labelled pairs olds → AreCome last (seen pairs olds) (seen pairs more) (first_stop last pairs (servings more)))
        → (pairs : List Pair) → labelled pairs (desks ++ olds) → AreCome number (seen pairs (desks ++ olds)) (seen pairs (news ++ more)) (first_stop number pairs (servings (news ++ more)))
    round_ended last number before after [] [] far h is olds more rest pairs l =
        let same : last ≡ number = omega (arith, far) in
        subst (λ n. AreCome n (seen pairs olds) (seen pairs more) (first_stop n pairs (servings more))) same (rest pairs l)
    round_ended last number before after (desk ∷ desks) (then ∷ news) far h is olds more rest (pair ∷ pairs) l =
        let both = and_parts (ended_as then.served) (all_ended news) is in
        let end = ended_is then.served both.0 in
        come_ended number end.0 (desk_at left reads taken writes pair desk) (desk_at left reads taken writes pair then) (seen pairs (desks ++ olds)) (seen pairs (news ++ more)) pair then.served
        (first_stop (number + 1) pairs (servings (news ++ more))) end.1
        (subst (IsCome (desk_at left reads taken writes pair desk) (desk_at left reads taken writes pair then)) (some_is (sym h.0.served.told ∙ end.1)) (one_come number before after pair desk then h.0))
        (round_ended last (number + 1) before after desks news (omega (arith, far)) h.1 both.1 olds more rest pairs l.2)
    round_ended last number before after (desk ∷ desks) (then ∷ news) far h is olds more rest [] l = absurd l
    round_ended last number before after [] (then ∷ news) far h is olds more rest pairs l = absurd h
    round_ended last number before after (desk ∷ desks) [] far h is olds more rest pairs l = absurd h

    round_stopped : (number : ℕ) (before after : Story) (desks news : List (Desk S K)) → AreOf number before after desks news → all_ended news ≡ false → (olds more : List (Desk S K))
        → ((pairs : List Pair) → labelled pairs olds → labelled pairs more)
        → (pairs : List Pair) → labelled pairs (desks ++ olds) → AreCome number (seen pairs (desks ++ olds)) (seen pairs (news ++ more)) (first_stop number pairs (servings (news ++ more)))
    round_stopped number before after [] [] h is olds more rest pairs l = cc
    round_stopped number before after (desk ∷ desks) (then ∷ news) h is olds more rest (pair ∷ pairs) l =
        let old = desk_at left reads taken writes pair desk in
        let new = desk_at left reads taken writes pair then in
        let come = one_come number before after pair desk then h.0 in
        let told = h.0.served.told in
        by_stop pair number h.0.served.served (stop_cases pair number h.0.served.served)
        (λ count end. come_ended number count old new (seen pairs (desks ++ olds)) (seen pairs (news ++ more)) pair then.served (first_stop (number + 1) pairs (servings (news ++ more)))
        (told ∙ ap Some end) (subst (IsCome old new) end come)
        (round_stopped (number + 1) before after desks news h.1 (not_here then.served (all_ended news) (ap ended_as (told ∙ ap Some end)) is) olds more rest pairs l.2))
        (λ outcome stops. come_stopped number old new (seen pairs (desks ++ olds)) (seen pairs (news ++ more)) then.served h.0.served.served outcome (first_stop (number + 1) pairs (servings (news ++ more)))
        told come stops (keep pairs (desks ++ olds) (news ++ more) l.2 (round_labelled (number + 1) before after desks news h.1 olds more rest pairs l.2)))
    round_stopped number before after (desk ∷ desks) (then ∷ news) h is olds more rest [] l = absurd l
    round_stopped number before after [] (then ∷ news) h is olds more rest pairs l = absurd h
    round_stopped number before after (desk ∷ desks) [] h is olds more rest pairs l = absurd h

    pub run_come : (number : ℕ) (before : Story) (olds news : List (List (Desk S K))) → AreOver number before olds news → (pairs : List Pair) → labelled pairs (all_desks olds)
        → AreCome number (seen pairs (all_desks olds)) (seen pairs (all_desks news)) (first_stop number pairs (servings (all_desks news)))
    run_come number before [] [] h [] l = rounds.none number
    run_come number before [] [] h (pair ∷ pairs) l = absurd l
    run_come number before (desks ∷ olds) (then ∷ news) h pairs l =
        by_ended (all_ended then) (all_ended then) refl h.3
        (λ is over. round_ended (number + length desks) number before h.0 desks then refl h.2 is (all_desks olds) (all_desks news) (run_come (number + length desks) h.0 olds news over) pairs l)
        (λ is stays. round_stopped number before h.0 desks then h.2 is (all_desks olds) (all_desks news) (as_before olds news stays.0) pairs l)
    run_come number before [] (then ∷ news) h pairs l = absurd h
    run_come number before (desks ∷ olds) [] h pairs l = absurd h

    -- where none stopped, all ended ------------------------------------------------------------------------------------------------

    pub record NoneStopped (last : ℕ) (news olds more : List (Desk S K)) : Type 0 where
      pub ended : all_ended news ≡ true
      pub pairs : List Pair
      pub labelled_are : labelled pairs olds
      pub none : first_stop last pairs (servings more) ≡ None

    round_none : (last number : ℕ) (before after : Story) (desks news : List (Desk S K)) → last ≡ number + length desks → AreOf number before after desks news → (olds more : List (Desk S K))
        → (pairs : List Pair) → labelled pairs (desks ++ olds) → first_stop number pairs (servings (news ++ more)) ≡ None → NoneStopped last news olds more
    round_none last number before after [] [] far h olds more pairs l is =
        let same : number ≡ last = omega (arith, far) in
        record { ended = refl; pairs = pairs; labelled_are = l; none = subst (λ n. first_stop n pairs (servings more) ≡ None) same is }
    round_none last number before after (desk ∷ desks) (then ∷ news) far h olds more (pair ∷ pairs) l is =
        let both = none_of (stop_by pair number then.served) (first_stop (number + 1) pairs (servings (news ++ more))) is in
        let rest = round_none last (number + 1) before after desks news (omega (arith, far)) h.1 olds more pairs l.2 both.1 in
        let here : ended_as then.served ≡ true = has_ended pair number then.served h.0.served.served h.0.served.told both.0 in
        record { ended = rw here rest.ended; pairs = rest.pairs; labelled_are = rest.labelled_are; none = rest.none }
    round_none last number before after (desk ∷ desks) (then ∷ news) far h olds more [] l is = absurd l
    round_none last number before after [] (then ∷ news) far h olds more pairs l is = absurd h
    round_none last number before after (desk ∷ desks) [] far h olds more pairs l is = absurd h

    pub run_ended : (number : ℕ) (before : Story) (olds news : List (List (Desk S K))) → AreOver number before olds news → (pairs : List Pair) → labelled pairs (all_desks olds)
        → first_stop number pairs (servings (all_desks news)) ≡ None → AllByRecursion (λ (round : List (Desk S K)). all_ended round ≡ true) news
    run_ended number before [] [] h pairs l is = tt
    run_ended number before (desks ∷ olds) (then ∷ news) h pairs l is =
        let none = round_none (number + length desks) number before h.0 desks then refl h.2 (all_desks olds) (all_desks news) pairs l is in
        (none.ended, run_ended (number + length desks) h.0 olds news (is_over _ (all_ended then) none.ended h.3) none.pairs none.labelled_are none.none)
    run_ended number before [] (then ∷ news) h pairs l is = absurd h
    run_ended number before (desks ∷ olds) [] h pairs l is = absurd h

  -- a book that was served at an office ---------------------------------------------------------------------------------------------

  pub labels_after : (before after : State) (olds news : List (List (Desk S K))) → AreServedAt left reads source_label taken writes sink_label before after olds news → (pairs : List Pair) → labelled pairs (all_desks olds)
      → labelled pairs (all_desks news)
  labels_after before after olds news h pairs l =
      run_labelled h.turn (ground_of before) (story_of after.entries) 1 [] olds news
      (subst (λ basis. AreRunOver left reads source_label taken writes sink_label h.turn basis (story_of after.entries) 1 [] olds news) h.ground_is (h.run.over (story_of after.entries) h.book_is.story_is).1) pairs l

  pub ground_same : (before after : State) (olds news : List (List (Desk S K))) → AreServedAt left reads source_label taken writes sink_label before after olds news → ground_of after ≡ ground_of before
  ground_same before after olds news h = some_is (sym h.book_is.basis_is ∙ h.run.basis ∙ h.ground_is)

  pub in_rounds : (before after : State) (olds news : List (List (Desk S K))) → AreServedAt left reads source_label taken writes sink_label before after olds news → before.earlier ≡ []
      → (pairs : List Pair) → labelled pairs (all_desks olds) → (shape : List ℕ) → map length olds ≡ shape
      → AreServedInRounds before.base shape after.entries (seen pairs (all_desks olds)) (seen pairs (all_desks news)) (stop_in_rounds 1 pairs (servings (all_desks news)))
  in_rounds before after olds news h first pairs l shape long =
      let began = ground_of before in
      let story = story_of after.entries in
      let over = subst (λ basis. AreRunOver left reads source_label taken writes sink_label h.turn basis story 1 [] olds news) h.ground_is (h.run.over story h.book_is.story_is).1 in
      let based = h.run.basis ∙ h.ground_is in
      let same : history began story ≡ after.entries = ap (λ es. es ++ entries_in story) first ∙ entries_back after.entries in
      let back = λ (legal : IsLegal before.base after.entries). subst (IsLegal before.base) (sym same) legal in
      let either = first_or_none 1 pairs (servings (all_desks news)) in
      let labels = run_labelled h.turn began story 1 [] olds news over pairs l in
      record {
        come = come_by pairs l labels (run_come h.turn began story 1 [] olds news over pairs l) either;
        done = λ is legal tells.
            (let run = h.legal began story based h.book_is.story_is (back legal) (all_telling pairs (all_desks olds) l tells) (run_ended h.turn began story 1 [] olds news over pairs l (none_by pairs is either)) in (
              run.0,
              seen_hold pairs (all_desks olds) (all_desks news) l _ _ run.1,
              run.2 ∙ long,
              subst (λ es. IsRun before.base es after.entries run.0) first (subst (λ es. IsRun before.base before.earlier es run.0) (entries_back after.entries) run.3),
              run.4,
            ));
        cut = λ legal tells.
            (let run = h.cut began story based h.book_is.story_is (back legal) (all_telling pairs (all_desks olds) l tells) in (
              run.0,
              seen_hold pairs (all_desks olds) (all_desks news) l _ _ run.1,
              run.2 ∙ long,
              subst (λ es. AreCutRounds before.base es after.entries 1 run.0) first (subst (λ es. AreCutRounds before.base before.earlier es 1 run.0) (entries_back after.entries) run.3),
              λ some. whole_seen pairs olds news run.0 l (none_wanted 1 pairs (all_desks news) labels some) run.4,
            ));
      }
    where
      come_by : (pairs : List Pair) → labelled pairs (all_desks olds) → labelled pairs (all_desks news) → AreCome 1 (seen pairs (all_desks olds)) (seen pairs (all_desks news)) (first_stop 1 pairs (servings (all_desks news)))
          → (stop_in_rounds 1 pairs (servings (all_desks news)) ≡ first_stop 1 pairs (servings (all_desks news))) ⊎ (stop_in_rounds 1 pairs (servings (all_desks news)) ≡ Some NoMemory)
          → AreCome 1 (seen pairs (all_desks olds)) (seen pairs (all_desks news)) (stop_in_rounds 1 pairs (servings (all_desks news)))
      come_by pairs l k come (inl same) = subst (AreCome 1 (seen pairs (all_desks olds)) (seen pairs (all_desks news))) (sym same) come
      come_by pairs l k come (inr memory) =
          subst (AreCome 1 (seen pairs (all_desks olds)) (seen pairs (all_desks news))) (sym memory) (rounds.no_memory 1 (seen pairs (all_desks olds)) (seen pairs (all_desks news)) (keep pairs (all_desks olds) (all_desks news) l k))

      none_by : (pairs : List Pair) → stop_in_rounds 1 pairs (servings (all_desks news)) ≡ None
          → (stop_in_rounds 1 pairs (servings (all_desks news)) ≡ first_stop 1 pairs (servings (all_desks news))) ⊎ (stop_in_rounds 1 pairs (servings (all_desks news)) ≡ Some NoMemory)
          → first_stop 1 pairs (servings (all_desks news)) ≡ None
      none_by pairs none (inl same) = sym same ∙ none
      none_by pairs none (inr memory) = (let never : None ≡ Some NoMemory = sym none ∙ memory in cc)

  -- rounds that were filled from a queue ---------------------------------------------------------------------------------------------

  pub record FilledFacts (pairs : List PlacedPair) (news : List (List (Desk S K))) (waiting : List DeskView) : Type 0 where
    pub shape : map length news ≡ map length (rounds_in pairs)
    pub labelled_are : labelled (map pair_of pairs) (all_desks news)
    pub unserved : AllByRecursion (λ (desk : Desk S K). desk.served ≡ None) (all_desks news)
    pub views_are : waiting ≡ seen (map pair_of pairs) (all_desks news)

  pub filled_facts : (pairs : List PlacedPair) (olds news : List (List (Desk S K))) (waiting : List DeskView) → olds ≡ [] → AreFilled left reads source_label taken writes sink_label true olds news pairs (map pair_of pairs) waiting
      → FilledFacts pairs news waiting
  filled_facts pairs olds news waiting none h =
      let many : length pairs ≡ length h.desks = sym (length-map pairs pair_of) ∙ labelled_length (map pair_of pairs) h.desks h.labelled in
      let news_are : news ≡ filled true [] pairs h.desks = h.rounds_are ∙ ap (λ (rounds : List (List (Desk S K))). filled true rounds pairs h.desks) none in
      let all : all_desks news ≡ h.desks = ap all_desks news_are ∙ filled_desks pairs h.desks many in
      record {
        shape = ap (λ (rounds : List (List (Desk S K))). map length rounds) news_are ∙ filled_shape pairs h.desks many;
        labelled_are = subst (λ (ds : List (Desk S K)). labelled (map pair_of pairs) ds) (sym all) h.labelled;
        unserved = subst (λ (ds : List (Desk S K)). AllByRecursion (λ (desk : Desk S K). desk.served ≡ None) ds) (sym all) h.unserved;
        views_are = h.views_are ∙ ap (λ (ds : List (Desk S K)). seen (map pair_of pairs) ds) (sym all);
      }

  -- no more desks than pairs
  pub few : (pairs : List PlacedPair) (news : List (List (Desk S K))) → labelled (map pair_of pairs) (all_desks news) → length pairs ≤ 16 → desk_count news ≤ 16
  few pairs news l most =
      let many = sym (length-map pairs pair_of) ∙ labelled_length (map pair_of pairs) (all_desks news) l in
      let count = count_all news in
      omega (arith, many, count, most)
