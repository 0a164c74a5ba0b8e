-- Desks that are put into rounds one by one, and taken back from there.
use Rattle.std.proofs.Common.{◌≡◌, ◌∙◌, ℕ, suc, ◌+◌, List, [], ◌∷◌, ◌++◌, length, map, pred, Option, Some, None, Bool, true, false, ◌≢◌, ◌⊎◌, inl, inr, append_assoc, refl, sym, ap, subst, arith}
use Rattle.std.specs.Option.{option_or}
use Rattle.std.specs.Prelude.{if◌then◌else◌, option_map}
use Rattle.std.specs.Option.{option_to_list}
use Rattle.std.proofs.lemmas.List.{map-append, length-map, length-append}
use Rattle.byte_lines.specs.declared.rounds.Desk.{Desk}
use Rattle.byte_lines.specs.declared.rounds.Served.{Served}
use Rattle.byte_lines.specs.Desks.{all_desks, no_desks}
use Rattle.byte_lines.proofs.DeskSteps.{all_desks-none}
use Rattle.program_words.specs.Rounds.{Pair, pair_of}
use Rattle.program_words.specs.declared.rounds.PlacedPair.{PlacedPair}
use Rattle.response_program.specs.Outcomes.{Outcome, Done, Made, Tried, Legal, OfJournal, NotLegal, NoMemory, Refused, NotOpened, NotRead, NotWritten, TooLong, stop_by, is_memory, first_or_memory, stop_in_rounds}
use Rattle.response_program.specs.Desks.{DeskView}
use Rattle.response_program.specs.InRounds.{AreNamed, put, filled, desk_at, desks_at, AreLabelled, AreFilled}

pub named_rest : (pairs rest : List PlacedPair) (placed : PlacedPair) (items more : List DeskView) (desk : DeskView) → pairs ≡ placed ∷ rest → items ≡ desk ∷ more → AreNamed (map pair_of pairs) items
    → (desk.pair ≡ pair_of placed) × AreNamed (map pair_of rest) more
named_rest pairs rest placed items more desk pairs_are items_are h =
    subst (λ (ds : List DeskView). AreNamed (map pair_of (placed ∷ rest)) ds) items_are (subst (λ (ps : List PlacedPair). AreNamed (map pair_of ps) items) pairs_are h)

-- a list with something behind a front of it that is gone
pub more_gone : {A : Type 0} (items more : List A) (x : A) (last : List A) → items ≡ x ∷ more → (gone : List A) × (more ≡ gone ++ last) → (gone : List A) × (items ≡ gone ++ last)
more_gone {A} items more x last is h = (x ∷ h.0, is ∙ ap (λ (xs : List A). x ∷ xs) h.1)

-- which of two stops is told
topped : (a b : Option Outcome) → is_memory b ≡ true → first_or_memory a b ≡ b
topped a b is = ap (λ (m : Bool). if m then b else option_or a b) is

other : (a b : Option Outcome) → is_memory b ≡ false → first_or_memory a b ≡ option_or a b
other a b is = ap (λ (m : Bool). if m then b else option_or a b) is

first_none : (a : Option Outcome) → first_or_memory a None ≡ a
first_none None = refl
first_none (Some x) = refl

none_first : (b : Option Outcome) → first_or_memory None b ≡ b
none_first b = by_memory (is_memory b) refl
  where
    by_memory : (m : Bool) → is_memory b ≡ m → first_or_memory None b ≡ b
    by_memory true is = topped None b is
    by_memory false is = other None b is

told_memory : (a : Option Outcome) → is_memory a ≡ true → a ≡ Some NoMemory
told_memory None is = cc
told_memory (Some NoMemory) is = refl
told_memory (Some (Done totals)) is = cc
told_memory (Some (Made parts)) is = cc
told_memory (Some (Tried totals)) is = cc
told_memory (Some (Legal entries)) is = cc
told_memory (Some (OfJournal bad)) is = cc
told_memory (Some (NotLegal breach)) is = cc
told_memory (Some (Refused fault)) is = cc
told_memory (Some (NotOpened name)) is = cc
told_memory (Some (NotRead name)) is = cc
told_memory (Some (NotWritten name)) is = cc
told_memory (Some (TooLong session)) is = cc

-- of three stops the first is told, but want of memory tops it
first_first : (a b c : Option Outcome) → first_or_memory a (first_or_memory b c) ≡ first_or_memory (first_or_memory a b) c
first_first a b c = by_last (is_memory c) refl
  where
    some_first : (a : Option Outcome) (x : Outcome) (c : Option Outcome) (m : Bool) → is_memory (Some x) ≡ m → first_or_memory a (Some x) ≡ option_or (first_or_memory a (Some x)) c
    some_first a x c true is = topped a (Some x) is ∙ sym (ap (λ (s : Option Outcome). option_or s c) (topped a (Some x) is))
    some_first None x c false is = other None (Some x) is ∙ sym (ap (λ (s : Option Outcome). option_or s c) (other None (Some x) is))
    some_first (Some y) x c false is = other (Some y) (Some x) is ∙ sym (ap (λ (s : Option Outcome). option_or s c) (other (Some y) (Some x) is))

    both : (a b c : Option Outcome) → is_memory c ≡ false → first_or_memory a (option_or b c) ≡ option_or (first_or_memory a b) c
    both None None c none = other None c none
    both (Some y) None c none = other (Some y) c none
    both a (Some x) c none = some_first a x c (is_memory (Some x)) refl

    by_last : (m : Bool) → is_memory c ≡ m → first_or_memory a (first_or_memory b c) ≡ first_or_memory (first_or_memory a b) c
    by_last true is = ap (first_or_memory a) (topped b c is) ∙ topped a c is ∙ sym (topped (first_or_memory a b) c is)
    by_last false is = ap (first_or_memory a) (other b c is) ∙ both a b c is ∙ sym (other (first_or_memory a b) c is)

-- the stop of rounds is that of the first session that didn't end, or want of memory
pub either_stop : (a first rest : Option Outcome) → (rest ≡ first) ⊎ (rest ≡ Some NoMemory) → (first_or_memory a rest ≡ option_or a first) ⊎ (first_or_memory a rest ≡ Some NoMemory)
either_stop a first rest h = by_memory (is_memory rest) refl h
  where
    by_memory : (m : Bool) → is_memory rest ≡ m → (rest ≡ first) ⊎ (rest ≡ Some NoMemory) → (first_or_memory a rest ≡ option_or a first) ⊎ (first_or_memory a rest ≡ Some NoMemory)
    by_memory true is h = inr (topped a rest is ∙ told_memory rest is)
    by_memory false is (inl same) = inl (other a rest is ∙ ap (λ (s : Option Outcome). option_or a s) same)
    by_memory false is (inr memory) = (let never : true ≡ false = sym (ap is_memory memory) ∙ is in cc)

-- where no memory was wanting at all, it was at neither
pub none_wanting : (a rest : Option Outcome) → (first_or_memory a rest ≢ Some NoMemory) → (a ≢ Some NoMemory) × (rest ≢ Some NoMemory)
none_wanting a rest h = (λ is. h (by_first (is_memory rest) refl is), λ is. h (ap (first_or_memory a) is))
  where
    by_first : (m : Bool) → is_memory rest ≡ m → a ≡ Some NoMemory → first_or_memory a rest ≡ Some NoMemory
    by_first true is told = topped a rest is ∙ told_memory rest is
    by_first false is told = other a rest is ∙ ap (λ (s : Option Outcome). option_or s rest) told

pub map_or : {A B : Type 0} (f : A → B) (a b : Option A) → option_map f (option_or a b) ≡ option_or (option_map f a) (option_map f b)
map_or f None b = refl
map_or f (Some x) b = refl

pub stop_last : (session : ℕ) (pairs : List Pair) (pair : Pair) (servings : List (Option Served)) (served : Option Served) → length pairs ≡ length servings
    → stop_in_rounds session (pairs ++ pair ∷ []) (servings ++ served ∷ []) ≡ first_or_memory (stop_in_rounds session pairs servings) (stop_by pair (session + length pairs) served)
stop_last session [] pair [] served many = first_none (stop_by pair session served) ∙ ap (λ n. stop_by pair n served) (here session) ∙ sym (none_first (stop_by pair (session + 0) served))
  where
    here : (n : ℕ) → n ≡ n + 0
    here n = omega arith
stop_last session (first ∷ pairs) pair (one ∷ servings) served many =
    ap (first_or_memory (stop_by first session one)) (stop_last (session + 1) pairs pair servings served (ap pred many))
    ∙ first_first (stop_by first session one) (stop_in_rounds (session + 1) pairs servings) (stop_by pair (session + 1 + length pairs) served)
    ∙ ap (λ n. first_or_memory (first_or_memory (stop_by first session one) (stop_in_rounds (session + 1) pairs servings)) (stop_by pair n served)) (next session (length pairs))
  where
    next : (n m : ℕ) → n + 1 + m ≡ n + suc m
    next n m = omega arith
stop_last session [] pair (one ∷ servings) served many = cc
stop_last session (first ∷ pairs) pair [] served many = cc

module _ {S K : Type 0} (left : S → Option (List ℕ)) (reads : S → ℕ) (source_label : S → List ℕ) (taken : K → Option (List ℕ)) (writes : K → ℕ) (sink_label : K → List ℕ) where
  abbrev filling : Bool → List (List (Desk S K)) → List (List (Desk S K)) → List PlacedPair → List Pair → List DeskView → Type 0
  filling begins olds news pairs named waiting = AreFilled left reads source_label taken writes sink_label begins olds news pairs named waiting

  pub fill_none : (begins : Bool) (olds : List (List (Desk S K))) (pairs : List PlacedPair) (items : List DeskView) → items ≡ [] → AreNamed (map pair_of pairs) items → filling begins olds olds pairs (map pair_of pairs) items
  fill_none begins olds [] items is named = record { desks = []; rounds_are = refl; views_are = is; labelled = tt; unserved = tt }
  fill_none begins olds (placed ∷ pairs) items is named = absurd (subst (AreNamed (map pair_of (placed ∷ pairs))) is named)

  pub fill_more : (begins : Bool) (olds between news : List (List (Desk S K))) (pairs rest : List PlacedPair) (placed : PlacedPair) (items more : List DeskView) (desk : DeskView) (seat : Desk S K)
      → pairs ≡ placed ∷ rest → items ≡ desk ∷ more → desk.pair ≡ pair_of placed → desk ≡ desk_at left reads taken writes desk.pair seat → source_label seat.source ≡ desk.pair.input → sink_label seat.sink ≡ desk.pair.output
      → seat.served ≡ None → between ≡ put begins olds seat → filling placed.ends_round between news rest (map pair_of rest) more → filling begins olds news pairs (map pair_of pairs) items
  fill_more begins olds between news pairs rest placed items more desk seat pairs_are items_are pair_is view source sink unserved between_is h =
      let here : desk ≡ desk_at left reads taken writes (pair_of placed) seat = view ∙ ap (λ (p : Pair). desk_at left reads taken writes p seat) pair_is in
      subst (λ (ps : List PlacedPair). filling begins olds news ps (map pair_of ps) items) (sym pairs_are)
      (subst (λ (ds : List DeskView). filling begins olds news (placed ∷ rest) (map pair_of (placed ∷ rest)) ds) (sym items_are)
      (record {
        desks = seat ∷ h.desks;
        rounds_are = subst (λ (rounds : List (List (Desk S K))). news ≡ filled placed.ends_round rounds rest h.desks) between_is h.rounds_are;
        views_are = ap (λ (d : DeskView). d ∷ more) here ∙ ap (λ (ds : List DeskView). desk_at left reads taken writes (pair_of placed) seat ∷ ds) h.views_are;
        labelled = (source ∙ ap (λ (p : Pair). p.input) pair_is, sink ∙ ap (λ (p : Pair). p.output) pair_is, h.labelled);
        unserved = (unserved, h.unserved);
      }))

  -- back ------------------------------------------------------------------------------------------------------------------------

  abbrev seen : List Pair → List (Desk S K) → List DeskView
  seen pairs desks = desks_at left reads taken writes pairs desks

  abbrev labelled : List Pair → List (Desk S K) → Type 0
  labelled pairs desks = AreLabelled source_label sink_label pairs desks

  abbrev servings : List (Desk S K) → List (Option Served)
  servings desks = map (λ desk. desk.served) desks

  pub record LastOf (pairs : List Pair) (pair : Pair) (desks : List (Desk S K)) (desk : Desk S K) : Type 0 where
    pub others : labelled pairs desks
    pub source : source_label desk.source ≡ pair.input
    pub sink : sink_label desk.sink ≡ pair.output
    pub many : length pairs ≡ length (servings desks)
    pub seen_are : seen (pairs ++ pair ∷ []) (desks ++ desk ∷ []) ≡ seen pairs desks ++ desk_at left reads taken writes pair desk ∷ []

  last_of : (pairs : List Pair) (pair : Pair) (desks : List (Desk S K)) (desk : Desk S K) → labelled (pairs ++ pair ∷ []) (desks ++ desk ∷ []) → LastOf pairs pair desks desk
  last_of [] pair [] desk l = record { others = tt; source = l.0; sink = l.1; many = refl; seen_are = refl }
  last_of (first ∷ pairs) pair (one ∷ desks) desk l =
      let h = last_of pairs pair desks desk l.2 in
      record {
        others = (l.0, l.1, h.others);
        source = h.source;
        sink = h.sink;
        many = ap suc h.many;
        seen_are = ap (λ (ds : List DeskView). desk_at left reads taken writes first one ∷ ds) h.seen_are;
      }
  last_of [] pair (one ∷ []) desk l = absurd l.2
  last_of [] pair (one ∷ next ∷ desks) desk l = absurd l.2
  last_of (first ∷ []) pair [] desk l = absurd l.2
  last_of (first ∷ next ∷ pairs) pair [] desk l = absurd l.2

  -- the last pair, and the desk that was taken out
  pub last_taken : (placed : List PlacedPair) (rest : List PlacedPair) (last : PlacedPair) (olds news : List (List (Desk S K))) (taken_out : Option (Desk S K)) (desk : Desk S K) → placed ≡ rest ++ last ∷ [] → taken_out ≡ Some desk
      → all_desks olds ≡ all_desks news ++ option_to_list taken_out → labelled (map pair_of placed) (all_desks olds) → LastOf (map pair_of rest) (pair_of last) (all_desks news) desk
  last_taken placed rest last olds news taken_out desk placed_are is all l =
      let desks_are : all_desks olds ≡ all_desks news ++ desk ∷ [] = all ∙ ap (λ (t : Option (Desk S K)). all_desks news ++ option_to_list t) is in
      let names_are : map pair_of placed ≡ map pair_of rest ++ pair_of last ∷ [] = ap (map pair_of) placed_are ∙ map-append pair_of rest (last ∷ []) in
      last_of (map pair_of rest) (pair_of last) (all_desks news) desk
      (subst (λ (ps : List Pair). labelled ps (all_desks news ++ desk ∷ [])) names_are (subst (λ (ds : List (Desk S K)). labelled (map pair_of placed) ds) desks_are l))

  pub back_seen : (placed : List PlacedPair) (rest : List PlacedPair) (last : PlacedPair) (olds news : List (List (Desk S K))) (taken_out : Option (Desk S K)) (desk : Desk S K) → placed ≡ rest ++ last ∷ [] → taken_out ≡ Some desk
      → all_desks olds ≡ all_desks news ++ option_to_list taken_out → labelled (map pair_of placed) (all_desks olds) → (items : List DeskView)
      → seen (map pair_of rest) (all_desks news) ++ desk_at left reads taken writes (pair_of last) desk ∷ items ≡ seen (map pair_of placed) (all_desks olds) ++ items
  back_seen placed rest last olds news taken_out desk placed_are is all l items =
      let h = last_taken placed rest last olds news taken_out desk placed_are is all l in
      let desks_are : all_desks olds ≡ all_desks news ++ desk ∷ [] = all ∙ ap (λ (t : Option (Desk S K)). all_desks news ++ option_to_list t) is in
      let names_are : map pair_of placed ≡ map pair_of rest ++ pair_of last ∷ [] = ap (map pair_of) placed_are ∙ map-append pair_of rest (last ∷ []) in
      sym (append_assoc (seen (map pair_of rest) (all_desks news)) (desk_at left reads taken writes (pair_of last) desk ∷ []) items)
      ∙ ap (λ (ds : List DeskView). ds ++ items) (sym h.seen_are)
      ∙ ap (λ (ps : List Pair). seen ps (all_desks news ++ desk ∷ []) ++ items) (sym names_are)
      ∙ ap (λ (ds : List (Desk S K)). seen (map pair_of placed) ds ++ items) (sym desks_are)

  pub back_stop : (placed : List PlacedPair) (rest : List PlacedPair) (last : PlacedPair) (olds news : List (List (Desk S K))) (taken_out : Option (Desk S K)) (desk : Desk S K) → placed ≡ rest ++ last ∷ [] → taken_out ≡ Some desk
      → all_desks olds ≡ all_desks news ++ option_to_list taken_out → labelled (map pair_of placed) (all_desks olds)
      → first_or_memory (stop_in_rounds 1 (map pair_of rest) (servings (all_desks news))) (stop_by (pair_of last) (length placed) desk.served) ≡ stop_in_rounds 1 (map pair_of placed) (servings (all_desks olds))
  back_stop placed rest last olds news taken_out desk placed_are is all l =
      let h = last_taken placed rest last olds news taken_out desk placed_are is all l in
      let desks_are : all_desks olds ≡ all_desks news ++ desk ∷ [] = all ∙ ap (λ (t : Option (Desk S K)). all_desks news ++ option_to_list t) is in
      let names_are : map pair_of placed ≡ map pair_of rest ++ pair_of last ∷ [] = ap (map pair_of) placed_are ∙ map-append pair_of rest (last ∷ []) in
      let served_are : servings (all_desks olds) ≡ servings (all_desks news) ++ desk.served ∷ [] = ap servings desks_are ∙ map-append (λ (d : Desk S K). d.served) (all_desks news) (desk ∷ []) in
      let long : length placed ≡ 1 + length (map pair_of rest) = length_is placed rest last placed_are in
      ap (λ n. first_or_memory (stop_in_rounds 1 (map pair_of rest) (servings (all_desks news))) (stop_by (pair_of last) n desk.served)) long
      ∙ sym (stop_last 1 (map pair_of rest) (pair_of last) (servings (all_desks news)) desk.served h.many)
      ∙ ap (λ (ps : List Pair). stop_in_rounds 1 ps (servings (all_desks news) ++ desk.served ∷ [])) (sym names_are)
      ∙ ap (λ (ss : List (Option Served)). stop_in_rounds 1 (map pair_of placed) ss) (sym served_are)
    where
      length_is : (placed rest : List PlacedPair) (last : PlacedPair) → placed ≡ rest ++ last ∷ [] → length placed ≡ 1 + length (map pair_of rest)
      length_is placed rest last is =
          let long = ap length is ∙ length-append rest (last ∷ []) in
          let same = length-map rest pair_of in
          omega (arith, long, same)

  -- where there are no desks, there is nothing to take back
  pub no_back : (placed : List PlacedPair) (olds : List (List (Desk S K))) → no_desks olds ≡ true → (seen (map pair_of placed) (all_desks olds) ≡ []) × (stop_in_rounds 1 (map pair_of placed) (servings (all_desks olds)) ≡ None)
  no_back placed olds none = subst (λ (ds : List (Desk S K)). (seen (map pair_of placed) ds ≡ []) × (stop_in_rounds 1 (map pair_of placed) (servings ds) ≡ None)) (sym (all_desks-none olds none)) (nothing (map pair_of placed))
    where
      nothing : (pairs : List Pair) → (seen pairs [] ≡ []) × (stop_in_rounds 1 pairs (servings []) ≡ None)
      nothing [] = (refl, refl)
      nothing (pair ∷ pairs) = (refl, refl)
