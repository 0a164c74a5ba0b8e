-- Rounds in which nothing is found are legal.
use Rattle.std.proofs.Common.{◌≡◌, ℕ, ◌+◌, ◌≤◌, ltb, leb, Bool, true, false, cond, ◌&&◌, List, [], ◌∷◌, ◌++◌, Result, Ok, Err, length, map, refl, sym, ap, ◌∙◌, subst, arith, ltb-true, lt-ltb, zero-add}
use Rattle.std.specs.Prelude.{count_by}
use Rattle.std.specs.List.{AllByRecursion}
use Rattle.std.proofs.lemmas.Bool.{and_parts}
use Rattle.std.proofs.lemmas.List.{length-map}
use Rattle.std.proofs.lemmas.List.Sums.{count_by-le-length, sum_by-append}
use Rattle.plan_schema.specs.declared.change.Entry.{Entry}
use Rattle.plan_schema.specs.Contents.{Contents}
use Rattle.session_rules.specs.Runs.{Desk, AreDesks, AreRounds, entries_of, accepted_at}
use Rattle.request_loop.specs.Serving.{is_past_limit}
use Rattle.plan_audit.specs.Verdicts.{Pair, Fault, and_then_points, session_seen, round_seen, rounds_seen}
use Rattle.plan_audit.specs.Laws.{AreLegalRounds, SeenRoundsAreLegal, desk_of, pair_at}
use Rattle.plan_audit.proofs.SeenSessions.{ok_is, seen_session_is_legal}

-- fewer sessions have fewer entries
one_or_less : (x y : Bool) → (x ≡ true → y ≡ true) → cond x 1 0 ≤ cond y 1 0
one_or_less true true h = omega arith
one_or_less true false h = let no = h refl in cc
one_or_less false true h = omega arith
one_or_less false false h = omega arith

below_too : (n a b : ℕ) → a ≤ b → (leb 0 n && ltb n a) ≡ true → (leb 0 n && ltb n b) ≡ true
below_too n a b less h =
    let two = and_parts (leb 0 n) (ltb n a) h in
    let before = ltb-true n a two.1 in
    let after = lt-ltb n b (omega (arith, before, less)) in
    λ i. two.0 i && after i

-- a count, one item at a time
pub counted_next : {A : Type 0} (p : A → Bool) (x : A) (xs : List A) → count_by p (x ∷ xs) ≡ cond (p x) 1 0 + count_by p xs
counted_next p x xs = sum_by-append (λ y. cond (p y) 1 0) (x ∷ []) xs ∙ ap (λ n. n + count_by p xs) (zero-add (cond (p x) 1 0))

added : (a b c d : ℕ) → a ≤ b → c ≤ d → a + c ≤ b + d
added a b c d h k = omega arith

pub fewer_entries : (entries : List Entry) (a b : ℕ) → a ≤ b → entries_of entries 0 a ≤ entries_of entries 0 b
fewer_entries [] a b less = omega arith
fewer_entries (entry ∷ entries) a b less =
    let here = one_or_less (leb 0 entry.session && ltb entry.session a) (leb 0 entry.session && ltb entry.session b) (below_too entry.session a b less) in
    let p : ℕ → Entry → Bool = λ n e. leb 0 e.session && ltb e.session n in
    subst (λ n. n ≤ entries_of (entry ∷ entries) 0 b) (sym (counted_next (p a) entry entries))
    (subst (λ n. cond (p a entry) 1 0 + entries_of entries 0 a ≤ n) (sym (counted_next (p b) entry entries))
    (added (cond (p a entry) 1 0) (cond (p b entry) 1 0) (entries_of entries 0 a) (entries_of entries 0 b) here (fewer_entries entries a b less)))

-- both parts of what was found fine
record IsBoth (first second : Result (List ℕ) Fault) (points : List ℕ) : Type 0 where
  one : List ℕ
  two : List ℕ
  first_is : first ≡ Ok one
  second_is : second ≡ Ok two
  both : points ≡ one ++ two

both_of : (first second : Result (List ℕ) Fault) (points : List ℕ) → and_then_points first second ≡ Ok points → IsBoth first second points
both_of (Err fault) second points e = let no = e in cc
both_of (Ok one) (Err fault) points e = let no = e in cc
both_of (Ok one) (Ok two) points e = record { one = one; two = two; first_is = refl; second_is = refl; both = sym (ok_is (one ++ two) points _ refl e) }

module _ (base : Contents) (entries : List Entry) where
  record AreLegalPairs (floor ceiling session : ℕ) (pairs : List Pair) (points : List ℕ) : Type 0 where
    desks : List Desk
    pairs_are : map pair_at desks ≡ pairs
    within : AllByRecursion (λ (pair : Pair). is_past_limit pair.input ≡ false) pairs
    legal : AreDesks base entries floor ceiling session desks
    points_are : points ≡ accepted_at desks

  round_is : (floor ceiling session : ℕ) (pairs : List Pair) (points : List ℕ) → floor ≤ ceiling → ceiling ≤ length entries → round_seen base entries floor ceiling session pairs ≡ Ok points → AreLegalPairs floor ceiling session pairs points
  unfolding round_seen
  round_is floor ceiling session [] points low within e = record { desks = []; pairs_are = refl; within = tt; legal = tt; points_are = sym (ok_is [] points _ refl e) }
  round_is floor ceiling session (pair ∷ pairs) points low within e =
      let parts = both_of (session_seen base entries floor ceiling session pair) (round_seen base entries floor ceiling (session + 1) pairs) points e in
      let here = seen_session_is_legal base entries session floor ceiling pair parts.one low within parts.first_is in
      let more = round_is floor ceiling (session + 1) pairs parts.two low within parts.second_is in
      record {
        desks = desk_of pair here.replies_given ∷ more.desks;
        pairs_are = ap (λ others. pair ∷ others) more.pairs_are;
        within = (here.within, more.within);
        legal = (here.legal, more.legal);
        points_are = parts.both ∙ (λ i. here.points_are i ++ more.points_are i);
      }

  rounds_are : (session : ℕ) (rounds : List (List Pair)) (points : List ℕ) → rounds_seen base entries session rounds ≡ Ok points → AreLegalRounds base entries session rounds points
  unfolding rounds_seen
  rounds_are session [] points e = record { desks = []; pairs_are = refl; within = tt; legal = tt; points_are = sym (ok_is [] points _ refl e) }
  rounds_are session (pairs ∷ rounds) points e =
      let floor = entries_of entries 0 session in
      let ceiling = entries_of entries 0 (session + length pairs) in
      let parts = both_of (round_seen base entries floor ceiling session pairs) (rounds_seen base entries (session + length pairs) rounds) points e in
      let low : floor ≤ ceiling = fewer_entries entries session (session + length pairs) (omega arith) in
      let within : ceiling ≤ length entries = count_by-le-length (λ entry. leb 0 entry.session && ltb entry.session (session + length pairs)) entries in
      let here = round_is floor ceiling session pairs parts.one low within parts.first_is in
      let more = rounds_are (session + length pairs) rounds parts.two parts.second_is in
      let many : length here.desks ≡ length pairs = sym (length-map here.desks pair_at) ∙ ap length here.pairs_are in
      let own : AreDesks base entries (0 + floor) (0 + entries_of entries 0 (session + length here.desks)) session here.desks =
      subst (λ n. AreDesks base entries (0 + floor) (0 + entries_of entries 0 (session + n)) session here.desks) (sym many)
      (subst (λ n. AreDesks base entries (0 + floor) n session here.desks) (sym (zero-add ceiling))
      (subst (λ n. AreDesks base entries n ceiling session here.desks) (sym (zero-add floor)) here.legal)) in
      record {
        desks = here.desks ∷ more.desks;
        pairs_are = λ i. here.pairs_are i ∷ more.pairs_are i;
        within = (here.within, more.within);
        legal = (own, subst (λ n. AreRounds base [] entries (session + n) more.desks) (sym many) more.legal);
        points_are = parts.both ∙ (λ i. here.points_are i ++ more.points_are i);
      }

pub seen_rounds_are_legal : SeenRoundsAreLegal
seen_rounds_are_legal base entries session rounds points e = rounds_are base entries session rounds points e
