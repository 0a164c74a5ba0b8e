-- The files of pairs that are opened to be read, put into rounds, and given back.
use Rattle.std.proofs.Common.{◌≡◌, ◌∙◌, ℕ, suc, List, [], ◌∷◌, ◌++◌, length, map, Bool, true, false, Option, Some, None, ◌⊎◌, inl, inr, refl, sym, ap, subst, arith, ◌+◌}
use Rattle.std.specs.Prelude.{if◌then◌else◌, IfSome, ◌<◌, ◌≤◌, ◌^◌}
use Rattle.std.specs.List.{list_any, onto_first}
use Rattle.std.specs.Option.{option_or, option_to_list}
use Rattle.std.proofs.lemmas.List.{map-append}
use Rattle.plan_schema.specs.Outside.{Rose, Stays}
use Rattle.plan_schema.proofs.Writes.{rose_later, rose_after}
use Rattle.byte_lines.specs.declared.rounds.Desk.{Desk}
use Rattle.byte_lines.specs.declared.rounds.Served.TheVariants as ends
use Rattle.byte_lines.specs.Desks.{all_desks, no_desks, desk_count}
use Rattle.byte_lines.proofs.DeskSteps.{all_desks-none}
use Rattle.program_words.specs.Rounds.{pair_of, rounds_in, all_pairs}
use Rattle.program_words.specs.declared.rounds.PlacedPair.{PlacedPair}
use Rattle.plan_audit.specs.Rounds.{AreRoundsTold, IsGone, AreGone, AreRoundsGone, is_unread}
use Rattle.plan_audit.specs.Verdicts as verdicts
use Rattle.response_program.specs.Names.{Pair}
use Rattle.response_program.specs.Views.{View, NoneFell}
use Rattle.response_program.specs.Outcomes.{Outcome, Done, Made, Tried, Legal, NotLegal, OfJournal, NoMemory, Refused, NotOpened, NotRead, NotWritten, TooLong}
use Rattle.response_program.specs.InRounds.{put, filled}
use Rattle.response_program.specs.Runs.{Tells}
use Rattle.response_program.specs.Audited.{AreHeldTexts, AreHeldRounds}
use Rattle.response_program.specs.Written.{IsOfPairs, AreUnopened, IsSourceOf, IsDeskOf, AreDesksOf, AreSeated, AreOpenedFor, CanGoBack, AllCanGoBack, IsUnreadOf}
use Rattle.response_program.proofs.Filled.{grouped, filled_all, filled_desks, count_all}
use Rattle.response_program.proofs.Queues.{few_pairs}
use Rattle.response_program.proofs.Whole.{bytes_in}

-- names of pairs --------------------------------------------------------------------------------------------------------------

pub of_front : (pairs more : List Pair) (name : List ℕ) → IsOfPairs pairs name → IsOfPairs (pairs ++ more) name
of_front [] more name h = absurd h
of_front (pair ∷ pairs) more name (inl h) = inl h
of_front (pair ∷ pairs) more name (inr h) = inr (of_front pairs more name h)

pub of_behind : (pairs more : List Pair) (name : List ℕ) → IsOfPairs more name → IsOfPairs (pairs ++ more) name
of_behind [] more name h = h
of_behind (pair ∷ pairs) more name h = inr (of_behind pairs more name h)

pub unopened_in : (few many : List Pair) (outcome : Outcome) → ((name : List ℕ) → IsOfPairs few name → IsOfPairs many name) → AreUnopened few outcome → AreUnopened many outcome
unopened_in few many (Done totals) within h = h
unopened_in few many (Made parts) within h = h
unopened_in few many (Tried trial) within h = h
unopened_in few many (Legal entries) within h = h
unopened_in few many (NotLegal breach) within h = h
unopened_in few many NoMemory within h = h
unopened_in few many (Refused fault) within h = h
unopened_in few many (OfJournal bad) within h = h
unopened_in few many (NotOpened name) within h = within name h
unopened_in few many (NotRead name) within h = h
unopened_in few many (NotWritten name) within h = h
unopened_in few many (TooLong session) within h = h

-- what the files of pairs hold, on a shelf that tells --------------------------------------------------------------------------

abbrev pub text_of : (shelf : View) → Tells shelf → Pair → verdicts.Pair
text_of shelf tells pair = record { input = (bytes_in (tells pair.input)).0; output = (bytes_in (tells pair.output)).0 }

abbrev pub texts_of : (shelf : View) → Tells shelf → List (List Pair) → List (List verdicts.Pair)
texts_of shelf tells rounds = map (λ (pairs : List Pair). map (text_of shelf tells) pairs) rounds

held_texts : (shelf : View) (tells : Tells shelf) (pairs : List Pair) → AreHeldTexts shelf pairs (map (text_of shelf tells) pairs)
held_texts shelf tells [] = tt
held_texts shelf tells (pair ∷ pairs) = ((bytes_in (tells pair.input)).1, (bytes_in (tells pair.output)).1, held_texts shelf tells pairs)

pub held_rounds : (shelf : View) (tells : Tells shelf) (rounds : List (List Pair)) → AreHeldRounds shelf rounds (texts_of shelf tells rounds)
held_rounds shelf tells [] = tt
held_rounds shelf tells (round ∷ rounds) = (held_texts shelf tells round, held_rounds shelf tells rounds)

-- a source's meanings: what is left, its count of faults and its label
module _ {S : Type 0} (left : S → Option (List ℕ)) (faults : S → ℕ) (label : S → List ℕ) where
  -- opening -------------------------------------------------------------------------------------------------------------------

  abbrev source_of : View → List ℕ → S → Type 0
  source_of shelf name source = IsSourceOf left faults label shelf name source

  abbrev desks_of : View → List Pair → List (Desk S S) → Type 0
  desks_of shelf pairs desks = AreDesksOf left faults label shelf pairs desks

  abbrev seated : View → Bool → List (List (Desk S S)) → List (List (Desk S S)) → List PlacedPair → Type 0
  seated shelf begins olds news pairs = AreSeated left faults label shelf begins olds news pairs

  -- what is said of a shelf that holds the same
  source_before : (old mid : View) (name : List ℕ) (source : S) → Stays old.held mid.held → source_of mid name source → source_of old name source
  source_before old mid name source holds h = record { holds = h.holds ∙ holds name; named = h.named; fresh = h.fresh }

  pub desks_before : (old mid : View) (pairs : List Pair) (desks : List (Desk S S)) → Stays old.held mid.held → desks_of mid pairs desks → desks_of old pairs desks
  desks_before old mid [] [] holds h = tt
  desks_before old mid (pair ∷ pairs) (desk ∷ desks) holds h = (
    record { input = source_before old mid pair.input desk.source holds h.0.input; output = source_before old mid pair.output desk.sink holds h.0.output; unserved = h.0.unserved },
    desks_before old mid pairs desks holds h.1,
  )
  desks_before old mid [] (desk ∷ desks) holds h = absurd h
  desks_before old mid (pair ∷ pairs) [] holds h = absurd h

  pub seat_more : (old mid : View) (begins : Bool) (olds between news : List (List (Desk S S))) (pairs rest : List PlacedPair) (placed : PlacedPair) (desk : Desk S S) → pairs ≡ placed ∷ rest → Stays old.held mid.held
      → IsDeskOf left faults label old (pair_of placed) desk → between ≡ put begins olds desk → seated mid placed.ends_round between news rest → seated old begins olds news pairs
  seat_more old mid begins olds between news pairs rest placed desk pairs_are holds first between_is h =
      subst (λ (ps : List PlacedPair). seated old begins olds news ps) (sym pairs_are)
      (record {
        desks = desk ∷ h.desks;
        rounds_are = subst (λ (rounds : List (List (Desk S S))). news ≡ filled placed.ends_round rounds rest h.desks) between_is h.rounds_are;
        opened = (first, desks_before old mid (map pair_of rest) h.desks holds h.opened);
      })

  pub as_many : (shelf : View) (pairs : List PlacedPair) (desks : List (Desk S S)) → desks_of shelf (map pair_of pairs) desks → length pairs ≡ length desks
  as_many shelf [] [] h = refl
  as_many shelf (placed ∷ pairs) (desk ∷ desks) h = ap suc (as_many shelf pairs desks h.1)
  as_many shelf [] (desk ∷ desks) h = absurd h
  as_many shelf (placed ∷ pairs) [] h = absurd h

  pub seated_desks : (shelf : View) (news : List (List (Desk S S))) (pairs : List PlacedPair) (h : seated shelf true [] news pairs) → all_desks news ≡ h.desks
  seated_desks shelf news pairs h = ap all_desks h.rounds_are ∙ filled_desks pairs h.desks (as_many shelf pairs h.desks h.opened)

  pub few_seated : (shelf : View) (news : List (List (Desk S S))) (pairs : List PlacedPair) (rounds : List (List Pair)) → rounds_in pairs ≡ rounds → length (all_pairs rounds) ≤ 16 → seated shelf true [] news pairs → 1 + desk_count news < 2 ^ 64
  few_seated shelf news pairs rounds is few h =
      let count = count_all news ∙ ap length (seated_desks shelf news pairs h) in
      let many = as_many shelf pairs h.desks h.opened in
      let most = few_pairs pairs rounds is few in
      omega (arith, count, many, most)

  pub opened_for : (old mid : View) (olds news : List (List (Desk S S))) (pairs : List PlacedPair) (rounds : List (List Pair)) → Stays old.held mid.held → olds ≡ [] → rounds_in pairs ≡ rounds → seated old true olds news pairs
      → AreOpenedFor left faults label mid rounds news
  opened_for old mid olds news pairs rounds holds none is h =
      record {
        placed = pairs;
        rounds_are = is;
        seated = record {
          desks = h.desks;
          rounds_are = subst (λ (ds : List (List (Desk S S))). news ≡ filled true ds pairs h.desks) none h.rounds_are;
          opened = desks_before mid old (map pair_of pairs) h.desks (λ name. sym (holds name)) h.opened;
        };
      }

  -- what the sessions were sent and wrote ---------------------------------------------------------------------------------------

  told_next : (shelf : View) (tells : Tells shelf) (ends_round : Bool) (desk : Desk S S) (pair : Pair) (rounds : List (List (Desk S S))) (others : List (List Pair)) → IsDeskOf left faults label shelf pair desk
      → AreRoundsTold left left rounds (texts_of shelf tells others)
      → AreRoundsTold left left (if ends_round then (desk ∷ []) ∷ rounds else onto_first desk rounds) (texts_of shelf tells (if ends_round then (pair ∷ []) ∷ others else onto_first pair others))
  told_next shelf tells true desk pair rounds others h more = ((h.input.holds ∙ (bytes_in (tells pair.input)).1, h.output.holds ∙ (bytes_in (tells pair.output)).1, tt), more)
  told_next shelf tells false desk pair [] [] h more = ((h.input.holds ∙ (bytes_in (tells pair.input)).1, h.output.holds ∙ (bytes_in (tells pair.output)).1, tt), tt)
  told_next shelf tells false desk pair (first ∷ rounds) (other ∷ others) h more =
      ((h.input.holds ∙ (bytes_in (tells pair.input)).1, h.output.holds ∙ (bytes_in (tells pair.output)).1, more.0), more.1)
  told_next shelf tells false desk pair [] (other ∷ others) h more = absurd more
  told_next shelf tells false desk pair (first ∷ rounds) [] h more = absurd more

  told_grouped : (shelf : View) (tells : Tells shelf) (pairs : List PlacedPair) (desks : List (Desk S S)) → desks_of shelf (map pair_of pairs) desks → AreRoundsTold left left (grouped pairs desks) (texts_of shelf tells (rounds_in pairs))
  unfolding rounds_in
  told_grouped shelf tells [] [] h = tt
  told_grouped shelf tells (placed ∷ pairs) (desk ∷ desks) h =
      told_next shelf tells placed.ends_round desk (pair_of placed) (grouped pairs desks) (rounds_in pairs) h.0 (told_grouped shelf tells pairs desks h.1)
  told_grouped shelf tells [] (desk ∷ desks) h = absurd h
  told_grouped shelf tells (placed ∷ pairs) [] h = absurd h

  pub told_seated : (shelf : View) (tells : Tells shelf) (news : List (List (Desk S S))) (pairs : List PlacedPair) (rounds : List (List Pair)) → rounds_in pairs ≡ rounds → seated shelf true [] news pairs
      → AreRoundsTold left left news (texts_of shelf tells rounds)
  told_seated shelf tells news pairs rounds rounds_are h =
      subst (λ (rs : List (List Pair)). AreRoundsTold left left news (texts_of shelf tells rs)) rounds_are
      (subst (λ (ds : List (List (Desk S S))). AreRoundsTold left left ds (texts_of shelf tells (rounds_in pairs))) (sym (h.rounds_are ∙ filled_all pairs h.desks (as_many shelf pairs h.desks h.opened)))
      (told_grouped shelf tells pairs h.desks h.opened))

  -- giving back -----------------------------------------------------------------------------------------------------------------

  abbrev all_back : List Pair → List (Desk S S) → Type 0
  all_back pairs desks = AllCanGoBack left faults label pairs desks

  abbrev gone : List (Desk S S) → List (Desk S S) → Type 0
  gone olds news = AreGone faults label faults label olds news

  fresh_rose : (before now : ℕ) → before ≡ 0 → Rose before now → Rose 0 now
  fresh_rose before now zero_at rose = subst (λ n. Rose n now) zero_at rose

  can_go : (shelf : View) (pair : Pair) (old new : Desk S S) → IsDeskOf left faults label shelf pair old → IsGone faults label faults label old new → CanGoBack left faults label pair new
  can_go shelf pair old new h k =
      record {
        input = k.input.same ∙ h.input.named;
        output = k.output.same ∙ h.output.named;
        read = λ is. of_input (k.read is);
        read_output = λ is. of_output (k.read_output is);
      }
    where
      of_input : (old.served ≡ Some ends.ReadFault) ⊎ Rose (faults old.source) (faults new.source) → Rose 0 (faults new.source)
      of_input (inl is) = (let never = sym h.unserved ∙ is in cc)
      of_input (inr rose) = fresh_rose (faults old.source) (faults new.source) h.input.fresh rose

      of_output : (old.served ≡ Some ends.WriteFault) ⊎ Rose (faults old.sink) (faults new.sink) → Rose 0 (faults new.sink)
      of_output (inl is) = (let never = sym h.unserved ∙ is in cc)
      of_output (inr rose) = fresh_rose (faults old.sink) (faults new.sink) h.output.fresh rose

  all_can_go : (shelf : View) (pairs : List Pair) (olds news : List (Desk S S)) → desks_of shelf pairs olds → gone olds news → all_back pairs news
  all_can_go shelf [] [] [] h k = tt
  all_can_go shelf (pair ∷ pairs) (old ∷ olds) (new ∷ news) h k = (can_go shelf pair old new h.0 k.0, all_can_go shelf pairs olds news h.1 k.1)
  all_can_go shelf [] [] (new ∷ news) h k = absurd k
  all_can_go shelf [] (old ∷ olds) news h k = absurd h
  all_can_go shelf (pair ∷ pairs) [] news h k = absurd h
  all_can_go shelf (pair ∷ pairs) (old ∷ olds) [] h k = absurd k

  gone_both : (olds news more others : List (Desk S S)) → gone olds news → gone more others → gone (olds ++ more) (news ++ others)
  gone_both [] [] more others h k = k
  gone_both (old ∷ olds) (new ∷ news) more others h k = (h.0, gone_both olds news more others h.1 k)
  gone_both [] (new ∷ news) more others h k = absurd h
  gone_both (old ∷ olds) [] more others h k = absurd h

  all_gone : (olds news : List (List (Desk S S))) → AreRoundsGone faults label faults label olds news → gone (all_desks olds) (all_desks news)
  all_gone [] [] h = tt
  all_gone (old ∷ olds) (new ∷ news) h = gone_both old new (all_desks olds) (all_desks news) h.0 (all_gone olds news h.1)
  all_gone [] (new ∷ news) h = absurd h
  all_gone (old ∷ olds) [] h = absurd h

  -- desks in rounds that were gone through can be given back
  pub seated_back : (shelf : View) (olds news : List (List (Desk S S))) (pairs : List PlacedPair) (desks : List (Desk S S)) → all_desks olds ≡ desks → desks_of shelf (map pair_of pairs) desks
      → AreRoundsGone faults label faults label olds news → all_back (map pair_of pairs) (all_desks news)
  seated_back shelf olds news pairs desks is h k =
      all_can_go shelf (map pair_of pairs) desks (all_desks news) h (subst (λ (ds : List (Desk S S)). gone ds (all_desks news)) is (all_gone olds news k))

  -- the last of them, and the others
  last_back : (pairs : List Pair) (pair : Pair) (desks : List (Desk S S)) (desk : Desk S S) → all_back (pairs ++ pair ∷ []) (desks ++ desk ∷ []) → all_back pairs desks × CanGoBack left faults label pair desk
  last_back [] pair [] desk h = (tt, h.0)
  last_back (first ∷ pairs) pair (one ∷ desks) desk h = (let rest = last_back pairs pair desks desk h.1 in ((h.0, rest.0), rest.1))
  last_back [] pair (one ∷ []) desk h = absurd h.1
  last_back [] pair (one ∷ next ∷ desks) desk h = absurd h.1
  last_back (first ∷ []) pair [] desk h = absurd h.1
  last_back (first ∷ next ∷ pairs) pair [] desk h = absurd h.1

  pub taken_back : (placed rest : List PlacedPair) (last : PlacedPair) (olds news : List (List (Desk S S))) (taken_out : Option (Desk S S)) (desk : Desk S S) → placed ≡ rest ++ last ∷ [] → taken_out ≡ Some desk
      → all_desks olds ≡ all_desks news ++ option_to_list taken_out → all_back (map pair_of placed) (all_desks olds) → all_back (map pair_of rest) (all_desks news) × CanGoBack left faults label (pair_of last) desk
  taken_back placed rest last olds news taken_out desk placed_are is all h =
      last_back (map pair_of rest) (pair_of last) (all_desks news) desk
      (subst (λ (ps : List Pair). all_back ps (all_desks news ++ desk ∷ [])) (ap (map pair_of) placed_are ∙ map-append pair_of rest (last ∷ []))
      (subst (λ (ds : List (Desk S S)). all_back (map pair_of placed) ds) (all ∙ ap (λ (t : Option (Desk S S)). all_desks news ++ option_to_list t) is) h))

-- which failed ------------------------------------------------------------------------------------------------------------------

pub unread_later : (old mid new : View) (pairs : List Pair) (name : List ℕ) → NoneFell mid new → IsUnreadOf old mid pairs name → IsUnreadOf old new pairs name
unread_later old mid new pairs name fell h = record { which = h.which; rose = rose_later _ _ _ h.rose (fell.reads name) }

pub unread_before : (old mid new : View) (pairs : List Pair) (name : List ℕ) → NoneFell old mid → IsUnreadOf mid new pairs name → IsUnreadOf old new pairs name
unread_before old mid new pairs name fell h = record { which = h.which; rose = rose_after _ _ _ (fell.reads name) h.rose }

pub unread_in : (old new : View) (few many : List Pair) (name : List ℕ) → (IsOfPairs few name → IsOfPairs many name) → IsUnreadOf old new few name → IsUnreadOf old new many name
unread_in old new few many name within h = record { which = within h.which; rose = h.rose }

pub none_unread : {S : Type 0} (rounds : List (List (Desk S S))) → no_desks rounds ≡ true → list_any is_unread (all_desks rounds) ≡ true → false ≡ true
none_unread {S} rounds none any = subst (λ (ds : List (Desk S S)). list_any is_unread ds ≡ true) (all_desks-none rounds none) any

-- of two names the first that is told
pub first_unread : {N : Type 0} (earlier later : Option N) (text : N → List ℕ) (old mid new : View) (all rest : List Pair) (pair last : Pair) → all ≡ rest ++ last ∷ [] → pair ≡ last → NoneFell old mid → NoneFell mid new
    → IfSome earlier (λ name. IsUnreadOf mid new rest (text name)) → IfSome later (λ name. IsUnreadOf old mid (pair ∷ []) (text name)) → IfSome (option_or earlier later) (λ name. IsUnreadOf old new all (text name))
first_unread None None text old mid new all rest pair last is same before after h k = tt
first_unread None (Some name) text old mid new all rest pair last is same before after h k =
    subst (λ (ps : List Pair). IsUnreadOf old new ps (text name)) (sym is)
    (unread_in old new (last ∷ []) (rest ++ last ∷ []) (text name) (of_behind rest (last ∷ []) (text name))
    (unread_later old mid new (last ∷ []) (text name) after (subst (λ (p : Pair). IsUnreadOf old mid (p ∷ []) (text name)) same k)))
first_unread (Some name) later text old mid new all rest pair last is same before after h k =
    subst (λ (ps : List Pair). IsUnreadOf old new ps (text name)) (sym is)
    (unread_in old new rest (rest ++ last ∷ []) (text name) (of_front rest (last ∷ []) (text name)) (unread_before old mid new rest (text name) before h))
