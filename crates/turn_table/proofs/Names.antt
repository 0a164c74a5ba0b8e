-- What the steps do to the numbers.
use Rattle.std.proofs.Common.{◌≡◌, ◌≢◌, ◌≤◌, ◌<◌, ◌+◌, ◌∙◌, ℕ, List, [], ◌∷◌, ◌++◌, length, map, true, false, refl, sym, ap, inl, inr, arith, set, subst, cond, nat_lt, Option, Some, None, length-append}
use Rattle.std.specs.Prelude.{◌==◌}
use Rattle.std.proofs.lemmas.Bool.{cases_Bool}
use Rattle.std.proofs.lemmas.List.{map-append}
use Rattle.std.proofs.lemmas.Bool.Decides.{nat_tests}
use mathlib.Core.Option.{some}
use lib.ListN.{get_elem?}
use Rattle.turn_table.specs.Rule.{total, once, times, listed, is_numbered, numbers_of, has, size, FirstSplits, NumbersKept}
use Rattle.turn_table.specs.Steps.{with_spare, left_seat, right_seat, merged, ended, spent, KnowsAll}
use Rattle.turn_table.specs.declared.view.View.{View}
use Rattle.turn_table.proofs.Sums.{sum-set, sum-same, sum-snoc, term-le, two-le, sum-only, sum-joined, each-set, each-snoc, each-joined, once-more, once-one, once-here, once-in, times-append}

times-le : (k : ℕ) (xs : List ℕ) → times k xs ≤ length xs
times-le k [] = omega arith
times-le k (x ∷ xs) =
    let h : times k xs ≤ length xs = times-le k xs in
    elim (cases_Bool (x == k)) [ inl same ↦ rw same (omega arith) | inr other ↦ rw other (omega arith) ]

split-times : (x : ℕ) (n s : Option ℕ) (old : List ℕ) → times x (listed n ++ (listed s ++ old)) ≡ times x (listed n ++ old) + times x (listed s ++ [])
split-times x None None old = omega arith
split-times x None (Some s) old = omega arith
split-times x (Some n) None old = omega arith
split-times x (Some n) (Some s) old = omega arith

split-size : (n s : Option ℕ) (old : List ℕ) → length (listed n ++ (listed s ++ old)) ≡ length (listed n ++ old) + length (listed s ++ [])
split-size None None old = omega arith
split-size None (Some s) old = omega arith
split-size (Some n) None old = omega arith
split-size (Some n) (Some s) old = omega arith

module _ {E G : Type 0} where
  -- the numbers are those
  pub names-like : (numbers : ℕ) (vs : List (View E G)) (id : ℕ) (v w : View E G) → get_elem? vs id ≡ some v → numbers_of w ≡ numbers_of v → w.numbers.splits ≡ v.numbers.splits
      → NumbersKept numbers vs → NumbersKept numbers (set vs id w)
  names-like numbers vs id v w at same as_many k = record {
    apart = λ x. sum-same (has x) vs id v w at (ap (times x) same) ∙ k.apart x;
    sized = sum-same size vs id v w at (ap length same) ∙ k.sized;
    grown = let h : total (λ u. u.numbers.splits) (set vs id w) ≡ total (λ u. u.numbers.splits) vs = sum-same (λ u. u.numbers.splits) vs id v w at as_many in let g = k.grown in omega arith;
    splitter = each-set FirstSplits vs id w k.splitter (λ some_split. subst (λ ns. 1 ≤ times 0 ns) (sym same) (k.splitter id v at (subst (λ (n : ℕ). 0 < n) as_many some_split)));
  }

  pub names-same : (numbers : ℕ) (vs : List (View E G)) (id : ℕ) (v w : View E G) → get_elem? vs id ≡ some v → w.numbers ≡ v.numbers
      → NumbersKept numbers vs → NumbersKept numbers (set vs id w)
  names-same numbers vs id v w at s k = names-like numbers vs id v w at (rw s refl) (ap (λ n. n.splits) s) k

  -- only one seat knows of splits
  pub splits-all : (numbers : ℕ) (vs : List (View E G)) (id : ℕ) (v : View E G) → get_elem? vs id ≡ some v → 1 ≤ has 0 v → NumbersKept numbers vs → numbers ≡ 1 + v.numbers.splits
  splits-all numbers vs id v at here k =
      let one : total (has 0) vs ≤ 1 = rw (k.apart 0) (once-one 0 numbers 0) in
      let all : total (λ u. u.numbers.splits) vs ≡ v.numbers.splits = sum-only (λ u. u.numbers.splits) vs id v at (λ j u there_is apart.
      elim (cases_Bool (nat_lt 0 u.numbers.splits)) [
        | inl some_splits ↦
            let some_split : 0 < u.numbers.splits = grind (arith, nat_tests) in
            let too : 1 ≤ has 0 u = k.splitter j u there_is some_split in
            let two : has 0 v + has 0 u ≤ total (has 0) vs = two-le (has 0) vs id j v u at there_is apart in
            absurd (omega arith)
        | inr no_splits ↦ grind (arith, nat_tests)
      ]) in
      let g = k.grown in
      omega arith

  -- it has no more numbers than were given out
  pub size-few : (numbers : ℕ) (vs : List (View E G)) (id : ℕ) (v : View E G) → get_elem? vs id ≡ some v → 1 ≤ has 0 v → NumbersKept numbers vs → size v ≤ 1 + v.numbers.splits
  size-few numbers vs id v at here k =
      let n = splits-all numbers vs id v at here k in
      let le : size v ≤ total size vs = term-le size vs id v at in
      let s = k.sized in
      omega arith

  -- where it knows all numbers, the others have none
  pub others-none : (numbers : ℕ) (vs : List (View E G)) (id : ℕ) (v : View E G) → get_elem? vs id ≡ some v → KnowsAll v → NumbersKept numbers vs
      → (j : ℕ) (u : View E G) → get_elem? vs j ≡ some u → j ≢ id → size u ≡ 0
  others-none numbers vs id v at all k j u there_is apart =
      let n = splits-all numbers vs id v at all.first_there k in
      let two : size v + size u ≤ total size vs = two-le size vs id j v u at there_is apart in
      let s = k.sized in
      let a = all.all_there in
      omega arith

  pub size-number : (v : View E G) → size v ≡ 0 → is_numbered v ≡ false
  size-number v e = of v.numbers.number refl
    where
      of : (o : Option ℕ) → v.numbers.number ≡ o → is_numbered v ≡ false
      of None is = rw is refl
      of (Some k) is = let n : size v ≡ 1 + length (listed v.numbers.spare ++ map (λ j. j.0) v.numbers.joined) = rw is (omega arith) in absurd (omega arith)

  -- a number that no seat has, neither this one, which knows all, nor another, is not given out
  pub others-later : (numbers : ℕ) (vs : List (View E G)) (id : ℕ) (v : View E G) → get_elem? vs id ≡ some v → KnowsAll v → NumbersKept numbers vs
      → (x : ℕ) → has x v ≡ 0 → numbers ≤ x
  others-later numbers vs id v at all k x none =
      let only : total (has x) vs ≡ has x v = sum-only (has x) vs id v at (λ j u there_is apart.
      let z : size u ≡ 0 = others-none numbers vs id v at all k j u there_is apart in
      let le : has x u ≤ size u = times-le x (numbers_of u) in
      omega arith) in
      let a : total (has x) vs ≡ once 0 numbers x = k.apart x in
      elim (cases_Bool (nat_lt x numbers)) [
        | inl low ↦ let l : x < numbers = grind (arith, nat_tests) in let h : once 0 numbers x ≡ 1 = once-here 0 numbers x (omega arith) l in absurd (omega arith)
        | inr high ↦ grind (arith, nat_tests)
      ]

  -- a seat's number is below the count of those given out, and stands in it alone
  pub number-once : (numbers : ℕ) (vs : List (View E G)) (id : ℕ) (v : View E G) → get_elem? vs id ≡ some v → (x : ℕ) → 1 ≤ has x v → NumbersKept numbers vs
      → (x < numbers) × (has x v ≡ 1) × ((j : ℕ) (u : View E G) → get_elem? vs j ≡ some u → j ≢ id → has x u ≡ 0)
  number-once numbers vs id v at x here k =
      let le : has x v ≤ total (has x) vs = term-le (has x) vs id v at in
      let a : total (has x) vs ≡ once 0 numbers x = k.apart x in
      let one : once 0 numbers x ≤ 1 = once-one 0 numbers x in
      let b = once-in 0 numbers x (omega arith) in
      (b.1, omega arith, λ j u there_is apart. let two : has x v + has x u ≤ total (has x) vs = two-le (has x) vs id j v u at there_is apart in omega arith)

  pub has-number : (v : View E G) (x : ℕ) → v.numbers.number ≡ Some x → has x v ≡ 1 + times x (listed v.numbers.spare ++ map (λ j. j.0) v.numbers.joined)
  has-number v x is = let same : (x == x) ≡ true = grind (arith, nat_tests) in rw is (rw same refl)

  -- a number is drawn for a new seat
  pub names-number : (numbers : ℕ) (vs : List (View E G)) (id : ℕ) (v : View E G) → get_elem? vs id ≡ some v → v.numbers.number ≡ Some 0 → v.numbers.spare ≡ None
      → NumbersKept numbers vs → NumbersKept (numbers + 1) (set vs id (with_spare numbers v))
  names-number numbers vs id v at zero_is bare k =
      let w : View E G = with_spare numbers v in
      let old : List ℕ = map (λ j. j.0) v.numbers.joined in
      record {
        apart = λ x.
            let t : total (has x) (set vs id w) + has x v ≡ total (has x) vs + has x w = sum-set (has x) vs id v w at in
            let hv : has x v ≡ cond (0 == x) 1 0 + times x old = rw (zero_is, bare) refl in
            let hw : has x w ≡ cond (0 == x) 1 0 + (cond (numbers == x) 1 0 + times x old) = rw zero_is refl in
            let a : total (has x) vs ≡ once 0 numbers x = k.apart x in
            let more : once 0 (numbers + 1) x ≡ once 0 numbers x + cond (numbers == x) 1 0 = once-more 0 numbers x (omega arith) in
            omega arith;
        sized =
            let t : total size (set vs id w) + size v ≡ total size vs + size w = sum-set size vs id v w at in
            let sv : size v ≡ 1 + length old = rw (zero_is, bare) (omega arith) in
            let sw : size w ≡ 1 + (1 + length old) = rw zero_is (omega arith) in
            let s = k.sized in
            omega arith;
        grown =
            let t : total (λ u. u.numbers.splits) (set vs id w) + v.numbers.splits ≡ total (λ u. u.numbers.splits) vs + (v.numbers.splits + 1) = sum-set (λ u. u.numbers.splits) vs id v w at in
            let g = k.grown in
            omega arith;
        splitter = each-set FirstSplits vs id w k.splitter (λ some_split. rw zero_is (omega arith));
      }

  -- a seat is split
  pub names-split : (numbers : ℕ) (vs : List (View E G)) (id : ℕ) (v : View E G) → get_elem? vs id ≡ some v → (v.numbers.spare ≡ Some 0 → ⊥)
      → NumbersKept numbers vs → NumbersKept numbers (set vs id (left_seat v) ++ right_seat v ∷ [])
  names-split numbers vs id v at spare_later k =
      let l : View E G = left_seat v in
      let r : View E G = right_seat v in
      let ws : List (View E G) = set vs id l in
      let old : List ℕ = map (λ j. j.0) v.numbers.joined in
      record {
        apart = λ x.
            let t : total (has x) ws + has x v ≡ total (has x) vs + has x l = sum-set (has x) vs id v l at in
            let u : total (has x) (ws ++ r ∷ []) ≡ total (has x) ws + has x r = sum-snoc (has x) ws r in
            let h : has x v ≡ has x l + has x r = split-times x v.numbers.number v.numbers.spare old in
            let a : total (has x) vs ≡ once 0 numbers x = k.apart x in
            omega arith;
        sized =
            let t : total size ws + size v ≡ total size vs + size l = sum-set size vs id v l at in
            let u : total size (ws ++ r ∷ []) ≡ total size ws + size r = sum-snoc size ws r in
            let h : size v ≡ size l + size r = split-size v.numbers.number v.numbers.spare old in
            let a = k.sized in
            omega arith;
        grown =
            let t : total (λ u. u.numbers.splits) ws ≡ total (λ u. u.numbers.splits) vs = sum-same (λ u. u.numbers.splits) vs id v l at refl in
            let u : total (λ u. u.numbers.splits) (ws ++ r ∷ []) ≡ total (λ u. u.numbers.splits) ws + 0 = sum-snoc (λ u. u.numbers.splits) ws r in
            let g = k.grown in
            omega arith;
        splitter = each-snoc FirstSplits ws r (each-set FirstSplits vs id l k.splitter (λ some_split.
            let h : has 0 v ≡ has 0 l + times 0 (listed v.numbers.spare ++ []) = split-times 0 v.numbers.number v.numbers.spare old in
            let one : 1 ≤ has 0 v = k.splitter id v at some_split in
            let none : times 0 (listed v.numbers.spare ++ []) ≡ 0 = none-zero v.numbers.spare spare_later in
            omega arith)) (λ some_split. absurd (omega arith));
      }
    where
      none-zero : (s : Option ℕ) → (s ≡ Some 0 → ⊥) → times 0 (listed s ++ []) ≡ 0
      none-zero None n = refl
      none-zero (Some s) n = elim (cases_Bool (s == 0)) [
        | inl same ↦ let z : s ≡ 0 = grind (arith, nat_tests) in absurd (n (ap Some z))
        | inr other ↦ rw other refl
      ]

  -- two seats are joined
  ended-times : (x : ℕ) (w : View E G) → w.numbers.spare ≡ None → times x (map (λ j. j.0) (ended w ++ w.numbers.joined)) ≡ has x w
  ended-times x w bare = of w.numbers.number refl
    where
      of : (o : Option ℕ) → w.numbers.number ≡ o → times x (map (λ j. j.0) (ended w ++ w.numbers.joined)) ≡ has x w
      of None is = rw (is, bare) refl
      of (Some k) is = rw (is, bare) refl

  ended-size : (w : View E G) → w.numbers.spare ≡ None → length (map (λ j. j.0) (ended w ++ w.numbers.joined)) ≡ size w
  ended-size w bare = of w.numbers.number refl
    where
      of : (o : Option ℕ) → w.numbers.number ≡ o → length (map (λ j. j.0) (ended w ++ w.numbers.joined)) ≡ size w
      of None is = rw (is, bare) refl
      of (Some k) is = rw (is, bare) refl

  merged-times : (x : ℕ) (v w : View E G) → v.numbers.spare ≡ None → w.numbers.spare ≡ None → has x (merged v w) ≡ has x v + has x w
  merged-times x v w bare bare_too =
      let names : List (ℕ × List (ℕ × E)) → List ℕ = map (λ j. j.0) in
      let own : List ℕ = listed v.numbers.number in
      let m : has x (merged v w) ≡ times x own + times x (names (v.numbers.joined ++ (ended w ++ w.numbers.joined))) = rw bare (times-append x own _) in
      let hv : has x v ≡ times x own + times x (names v.numbers.joined) = rw bare (times-append x own _) in
      let both : times x (names (v.numbers.joined ++ (ended w ++ w.numbers.joined))) ≡ times x (names v.numbers.joined) + times x (names (ended w ++ w.numbers.joined))
      = ap (times x) (map-append (λ j. j.0) v.numbers.joined (ended w ++ w.numbers.joined)) ∙ times-append x (names v.numbers.joined) _ in
      let more : times x (names (ended w ++ w.numbers.joined)) ≡ has x w = ended-times x w bare_too in
      omega arith

  merged-size : (v w : View E G) → v.numbers.spare ≡ None → w.numbers.spare ≡ None → size (merged v w) ≡ size v + size w
  merged-size v w bare bare_too =
      let names : List (ℕ × List (ℕ × E)) → List ℕ = map (λ j. j.0) in
      let own : List ℕ = listed v.numbers.number in
      let m : size (merged v w) ≡ length own + length (names (v.numbers.joined ++ (ended w ++ w.numbers.joined))) = rw bare (length-append own _) in
      let hv : size v ≡ length own + length (names v.numbers.joined) = rw bare (length-append own _) in
      let both : length (names (v.numbers.joined ++ (ended w ++ w.numbers.joined))) ≡ length (names v.numbers.joined) + length (names (ended w ++ w.numbers.joined))
      = ap length (map-append (λ j. j.0) v.numbers.joined (ended w ++ w.numbers.joined)) ∙ length-append (names v.numbers.joined) _ in
      let more : length (names (ended w ++ w.numbers.joined)) ≡ size w = ended-size w bare_too in
      omega arith

  pub names-joined : (numbers : ℕ) (vs : List (View E G)) (id other : ℕ) (v w : View E G) → get_elem? vs id ≡ some v → get_elem? vs other ≡ some w → get_elem? (set vs id (merged v w)) other ≡ some w
      → v.numbers.spare ≡ None → w.numbers.spare ≡ None
      → NumbersKept numbers vs → NumbersKept numbers (set (set vs id (merged v w)) other spent)
  names-joined numbers vs id other v w at at_w there_is bare bare_too k =
      let m : View E G = merged v w in
      let s : View E G = spent in
      let zs : List (View E G) = set (set vs id m) other s in
      record {
        apart = λ x.
            let t : total (has x) zs + (has x v + has x w) ≡ total (has x) vs + (has x m + 0) = sum-joined (has x) vs id other v m w s at there_is in
            let h = merged-times x v w bare bare_too in
            let a : total (has x) vs ≡ once 0 numbers x = k.apart x in
            omega arith;
        sized =
            let t : total size zs + (size v + size w) ≡ total size vs + (size m + 0) = sum-joined size vs id other v m w s at there_is in
            let h = merged-size v w bare bare_too in
            let a = k.sized in
            omega arith;
        grown =
            let t : total (λ u. u.numbers.splits) zs + (v.numbers.splits + w.numbers.splits) ≡ total (λ u. u.numbers.splits) vs + ((v.numbers.splits + w.numbers.splits) + 0) = sum-joined (λ u. u.numbers.splits) vs id other v m w s at there_is in
            let g = k.grown in
            omega arith;
        splitter = each-joined FirstSplits vs id other m s k.splitter (λ some_split.
            let h = merged-times 0 v w bare bare_too in
            elim (cases_Bool (nat_lt 0 v.numbers.splits)) [
              | inl some_splits ↦ let one : 1 ≤ has 0 v = k.splitter id v at (grind (arith, nat_tests)) in omega arith
              | inr no_splits ↦ let z : v.numbers.splits ≡ 0 = grind (arith, nat_tests) in let one : 1 ≤ has 0 w = k.splitter other w at_w (omega arith) in omega arith
            ]) (λ some_split. absurd (omega arith));
      }
