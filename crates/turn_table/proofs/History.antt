-- What the steps do to the story.
use Rattle.std.proofs.Common.{◌≡◌, ◌≢◌, ◌<◌, ◌+◌, ◌∙◌, ℕ, List, [], ◌∷◌, ◌++◌, length, map, true, false, refl, sym, ap, inl, inr, arith, set, subst, Option, Some, None, length-append, append-nil, ⊎_elim}
use Rattle.std.specs.Prelude.{◌==◌, is_some}
use Rattle.std.specs.Option.{option_map_or}
use Rattle.std.proofs.lemmas.Bool.{cases_Bool, false≢true}
use Rattle.std.proofs.lemmas.Bool.Decides.{nat_tests}
use mathlib.Core.Option.{some}
use lib.ListN.{get_elem?}
use Rattle.turn_table.specs.Story.{entries_of, AreKept, Added, longer, past}
use Rattle.turn_table.specs.Rule.{times, listed, has, Reads, NotedAll, StoryKept}
use Rattle.turn_table.specs.Steps.{with_value, without_value, with_spare, left_seat, right_seat, merged, ended, spent}
use Rattle.turn_table.specs.declared.view.View.{View}
use Rattle.turn_table.proofs.Sums.{each-set, each-others, each-snoc, each-joined}
use Rattle.turn_table.proofs.Stories.{begins-itself, begins-more, past-more, longer-begins, begin-longer, entries-append, entries-none, entries-between, entries-own, entries-other, kept-append}

-- a number that doesn't stand at a place stands at no part of it
not-listed : (n k : ℕ) (rest : List ℕ) → times n (k ∷ rest) ≡ 0 → k ≢ n
not-listed n k rest none same = let t : (k == n) ≡ true = grind (arith, nat_tests) in let one : times n (k ∷ rest) ≡ 1 + times n rest = rw t refl in omega arith

not-after : (n k : ℕ) (rest : List ℕ) → times n (k ∷ rest) ≡ 0 → times n rest ≡ 0
not-after n k rest none = elim (cases_Bool (k == n)) [
  | inl same ↦ let one : times n (k ∷ rest) ≡ 1 + times n rest = rw same refl in absurd (omega arith)
  | inr other ↦ let one : times n (k ∷ rest) ≡ 0 + times n rest = rw other refl in omega arith
]

not-option : (n k : ℕ) (o : Option ℕ) (rest : List ℕ) → times n (listed o ++ rest) ≡ 0 → o ≡ Some k → k ≢ n
not-option n k None rest none e = absurd (none-some k e)
  where
    none-some : (k : ℕ) → ◌≡◌ {A = Option ℕ} None (Some k) → ⊥
    none-some k e = let t : false ≡ true = ap is_some e in absurd (false≢true t)
not-option n k (Some j) rest none e = let same : j ≡ k = cc in subst (λ x. x ≢ n) same (not-listed n j rest none)

not-rest : (n : ℕ) (o : Option ℕ) (rest : List ℕ) → times n (listed o ++ rest) ≡ 0 → times n rest ≡ 0
not-rest n None rest none = none
not-rest n (Some j) rest none = not-after n j rest none

module _ {E : Type 0} where
  entries-added : (n k : ℕ) (log more : List (ℕ × E)) → k ≢ n → Added n more → entries_of k (log ++ more) ≡ entries_of k log
  entries-added n k log more apart a =
      let none : entries_of k more ≡ [] = ⊎_elim (λ e. rw e refl) (λ t. rw t.1 (entries-other k n t.0 apart)) a in
      entries-append k log more ∙ (ap (λ l. entries_of k log ++ l) none ∙ append-nil (entries_of k log))

  entries-made : (n : ℕ) (log more own : List (ℕ × E)) → Added n more → entries_of n log ≡ own → entries_of n (log ++ more) ≡ own ++ more
  entries-made n log more own a e =
      let all : entries_of n more ≡ more = ⊎_elim (λ e. rw e refl) (λ t. rw t.1 (entries-own n t.0)) a in
      entries-append n log more ∙ (ap (λ l. l ++ entries_of n more) e ∙ ap (λ l. own ++ l) all)

  kept-more : (n : ℕ) (log more : List (ℕ × E)) (js : List (ℕ × List (ℕ × E))) → Added n more → times n (map (λ j. j.0) js) ≡ 0 → AreKept log js → AreKept (log ++ more) js
  kept-more n log more [] a none kept = tt
  kept-more n log more (j ∷ js) a none kept =
      (entries-added n j.0 log more (not-listed n j.0 (map (λ j. j.0) js) none) a ∙ kept.0, kept-more n log more js a (not-after n j.0 (map (λ j. j.0) js) none) kept.1)

module _ {E G : Type 0} where
  -- a view that has read the same, and has the same numbers
  pub record SameReading (v w : View E G) : Type 0 where
    pub seen : w.reading.seen ≡ v.reading.seen
    pub met : w.reading.met ≡ v.reading.met
    pub own : w.reading.own ≡ v.reading.own
    pub numbers : w.numbers ≡ v.numbers

  reads-same : (log : List (ℕ × E)) (v w : View E G) → SameReading v w → Reads log v → Reads log w
  reads-same log v w s r = record {
    seen = rw s.seen r.seen;
    met = rw s.met r.met;
    own_seen = rw (s.seen, s.own, s.numbers) r.own_seen;
    own_all = rw (s.own, s.numbers) r.own_all;
    spare = rw s.numbers r.spare;
    joined = rw s.numbers r.joined;
  }

  pub story-same : (numbers entries : ℕ) (log : List (ℕ × E)) (vs : List (View E G)) (id : ℕ) (v w : View E G) → get_elem? vs id ≡ some v → SameReading v w
      → (w.tickets.in_turn ≡ true → w.reading.noted ≡ true → (v.tickets.in_turn ≡ true) × (v.reading.noted ≡ true))
      → StoryKept numbers entries log vs → StoryKept numbers entries log (set vs id w)
  story-same numbers entries log vs id v w at s weaker k = record {
    counted = k.counted;
    later = k.later;
    reads = each-set (Reads log) vs id w k.reads (reads-same log v w s (k.reads id v at));
    noted = each-set (NotedAll log) vs id w k.noted (λ a b. let h = weaker a b in s.seen ∙ k.noted id v at h.0 h.1);
  }

  -- the whole story was seen
  pub story-taken : (numbers entries : ℕ) (log : List (ℕ × E)) (faults : ℕ) (vs : List (View E G)) (id : ℕ) (v : View E G) → get_elem? vs id ≡ some v
      → StoryKept numbers entries log vs → StoryKept numbers entries log (set vs id (with_value log faults v))
  story-taken numbers entries log faults vs id v at k =
      let w : View E G = with_value log faults v in
      let r = k.reads id v at in
      record {
        counted = k.counted;
        later = k.later;
        reads = each-set (Reads log) vs id w k.reads (record { seen = begins-itself log; met = r.met; own_seen = r.own_all; own_all = r.own_all; spare = r.spare; joined = r.joined });
        noted = each-set (NotedAll log) vs id w k.noted (λ a b. refl);
      }

  reads-others : (n : ℕ) (log more : List (ℕ × E)) (u : View E G) → Added n more → has n u ≡ 0 → Reads log u → Reads (log ++ more) u
  reads-others n log more u a none r =
      let rest : times n (listed u.numbers.spare ++ map (λ j. j.0) u.numbers.joined) ≡ 0 = not-rest n u.numbers.number (listed u.numbers.spare ++ map (λ j. j.0) u.numbers.joined) none in
      let last : times n (map (λ j. j.0) u.numbers.joined) ≡ 0 = not-rest n u.numbers.spare (map (λ j. j.0) u.numbers.joined) rest in
      record {
        seen = begins-more u.reading.seen log more r.seen;
        met = begins-more u.reading.met log more r.met;
        own_seen = r.own_seen;
        own_all = λ k e. entries-added n k log more (not-option n k u.numbers.number (listed u.numbers.spare ++ map (λ j. j.0) u.numbers.joined) none e) a ∙ r.own_all k e;
        spare = λ k e. entries-added n k log more (not-option n k u.numbers.spare (map (λ j. j.0) u.numbers.joined) rest e) a ∙ r.spare k e;
        joined = kept-more n log more u.numbers.joined a last r.joined;
      }

  -- the value was put back, with nothing more in its story or one more entry of the seat's number
  pub story-given : (numbers entries n : ℕ) (log more : List (ℕ × E)) (vs : List (View E G)) (id : ℕ) (v : View E G) → get_elem? vs id ≡ some v → v.numbers.number ≡ Some n → n < numbers
      → times n (listed v.numbers.spare ++ map (λ j. j.0) v.numbers.joined) ≡ 0 → ((j : ℕ) (u : View E G) → get_elem? vs j ≡ some u → j ≢ id → has n u ≡ 0)
      → ((j : ℕ) (u : View E G) → get_elem? vs j ≡ some u → j ≢ id → u.tickets.in_turn ≡ true → ⊥) → v.reading.seen ≡ log → Added n more
      → StoryKept numbers entries log vs → StoryKept numbers (entries + length more) (log ++ more) (set vs id (without_value (log ++ more) v))
  story-given numbers entries n log more vs id v at given low bare others idle all a k =
      let w : View E G = without_value (log ++ more) v in
      let r = k.reads id v at in
      let last : times n (map (λ j. j.0) v.numbers.joined) ≡ 0 = not-rest n v.numbers.spare (map (λ j. j.0) v.numbers.joined) bare in
      let fresh : past v.reading.seen (log ++ more) ≡ more = rw all (past-more log more) in
      let made : (x : ℕ) → v.numbers.number ≡ Some x → entries_of x (log ++ more) ≡ v.reading.own ++ past v.reading.seen (log ++ more) = λ x e.
      let same : n ≡ x = cc in
      subst (λ y. entries_of y (log ++ more) ≡ v.reading.own ++ past v.reading.seen (log ++ more)) same
      (entries-made n log more v.reading.own a (r.own_all n given) ∙ ap (λ l. v.reading.own ++ l) (sym fresh)) in
      record {
        counted = let c = k.counted in let l = length-append log more in omega arith;
        later = λ x le. entries-added n x log more (λ same. omega arith) a ∙ k.later x le;
        reads = each-others (Reads (log ++ more)) vs id w (λ j u there_is apart. reads-others n log more u a (others j u there_is apart) (k.reads j u there_is))
            (record {
              seen = begins-itself (log ++ more);
              met = begins-more v.reading.met log more r.met;
              own_seen = made;
              own_all = made;
              spare = λ x e. entries-added n x log more (not-option n x v.numbers.spare (map (λ j. j.0) v.numbers.joined) bare e) a ∙ r.spare x e;
              joined = kept-more n log more v.numbers.joined a last r.joined;
            });
        noted = each-others (NotedAll (log ++ more)) vs id w (λ j u there_is apart busy. absurd (idle j u there_is apart busy)) (λ x y. refl);
      }

  -- a number is drawn for a new seat
  pub story-number : (numbers entries : ℕ) (log : List (ℕ × E)) (vs : List (View E G)) (id : ℕ) (v : View E G) → get_elem? vs id ≡ some v
      → StoryKept numbers entries log vs → StoryKept (numbers + 1) entries log (set vs id (with_spare numbers v))
  story-number numbers entries log vs id v at k =
      let w : View E G = with_spare numbers v in
      let r = k.reads id v at in
      record {
        counted = k.counted;
        later = λ x le. k.later x (omega arith);
        reads = each-set (Reads log) vs id w k.reads (record {
          seen = r.seen;
          met = r.met;
          own_seen = r.own_seen;
          own_all = r.own_all;
          joined = r.joined;
          spare = λ x e. let same : numbers ≡ x = cc in k.later x (omega arith);
        });
        noted = each-set (NotedAll log) vs id w k.noted (k.noted id v at);
      }

  -- a seat is split
  pub story-split : (numbers entries : ℕ) (log : List (ℕ × E)) (vs : List (View E G)) (id : ℕ) (v : View E G) → get_elem? vs id ≡ some v
      → StoryKept numbers entries log vs → StoryKept numbers entries log (set vs id (left_seat v) ++ right_seat v ∷ [])
  story-split numbers entries log vs id v at k =
      let l : View E G = left_seat v in
      let s : View E G = right_seat v in
      let ws : List (View E G) = set vs id l in
      let r = k.reads id v at in
      record {
        counted = k.counted;
        later = k.later;
        reads = each-snoc (Reads log) ws s
            (each-set (Reads log) vs id l k.reads (record { seen = r.seen; met = r.met; own_seen = r.own_seen; own_all = r.own_all; joined = r.joined; spare = λ x e. cc }))
            (record { seen = r.seen; met = (log, refl); own_seen = λ x e. entries-none x v.reading.seen log r.seen (r.spare x e); own_all = r.spare; joined = tt; spare = λ x e. cc });
        noted = each-snoc (NotedAll log) ws s (each-set (NotedAll log) vs id l k.noted (k.noted id v at)) (λ a b. absurd (false≢true a));
      }

  ended-kept : (log : List (ℕ × E)) (w : View E G) → Reads log w → AreKept log (ended w)
  ended-kept log w r = of w.numbers.number refl
    where
      of : (o : Option ℕ) → w.numbers.number ≡ o → AreKept log (option_map_or (λ k. (k, w.reading.own) ∷ []) o [])
      of None is = tt
      of (Some k) is = (r.own_all k is, tt)

  -- two seats are joined
  pub story-joined : (numbers entries : ℕ) (log : List (ℕ × E)) (vs : List (View E G)) (id other : ℕ) (v w : View E G) → get_elem? vs id ≡ some v → get_elem? vs other ≡ some w → v.tickets.in_turn ≡ false
      → StoryKept numbers entries log vs → StoryKept numbers entries log (set (set vs id (merged v w)) other spent)
  story-joined numbers entries log vs id other v w at at_w idle k =
      let m : View E G = merged v w in
      let r = k.reads id v at in
      let q = k.reads other w at_w in
      let both = longer-begins v.reading.seen w.reading.seen log r.seen q.seen in
      let front = (begin-longer v.reading.seen w.reading.seen log both.0 both.1).0 in
      record {
        counted = k.counted;
        later = k.later;
        reads = each-joined (Reads log) vs id other m spent k.reads
            (record {
              seen = both.0;
              met = both.1;
              own_seen = λ x e. entries-between x v.reading.seen (longer v.reading.seen w.reading.seen) log front both.0 (r.own_all x e ∙ sym (r.own_seen x e)) ∙ r.own_seen x e;
              own_all = r.own_all;
              spare = r.spare;
              joined = kept-append log v.numbers.joined (ended w ++ w.numbers.joined) r.joined (kept-append log (ended w) w.numbers.joined (ended-kept log w q) q.joined);
            })
            (record { seen = (log, refl); met = (log, refl); own_seen = λ x e. cc; own_all = λ x e. cc; joined = tt; spare = λ x e. cc });
        noted = each-joined (NotedAll log) vs id other m spent k.noted (λ a b. absurd (false≢true (sym idle ∙ a))) (λ a b. absurd (false≢true a));
      }
