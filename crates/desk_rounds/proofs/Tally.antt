-- Rising points, each of which hits an element that a test passes: where they are as many as such elements, each of these is hit once.
use Rattle.std.proofs.Common.{◌≡◌, ℕ, suc, ◌+◌, ◌-◌, ◌≤◌, ◌<◌, Bool, true, false, cond, List, [], ◌∷◌, ◌++◌, length, Some, refl, sym, ap, subst, ◌∙◌, arith, inl, inr}
use Rattle.std.specs.Prelude.{◌⊎◌, ◌==◌, count_by, slice_get}
use Rattle.std.specs.List.{AllByRecursion}
use Rattle.std.proofs.lemmas.Bool.{cases_Bool}
use Rattle.std.proofs.lemmas.Bool.Decides.{nat_tests}
use Rattle.std.proofs.lemmas.List.Sums.{sum_by-cons, sum_by-append}
use Rattle.session_rules.specs.Runs.{IsRising}

pub count-cons : {X : Type 0} (p : X → Bool) (x : X) (xs : List X) → count_by p (x ∷ xs) ≡ cond (p x) 1 0 + count_by p xs
count-cons p x xs = sum_by-cons (λ y. cond (p y) 1 0) x xs

pub count-append : {X : Type 0} (p : X → Bool) (xs ys : List X) → count_by p (xs ++ ys) ≡ count_by p xs + count_by p ys
count-append p xs ys = sum_by-append (λ y. cond (p y) 1 0) xs ys

pub rising_spans : (ns : List ℕ) (low high : ℕ) → IsRising low ns high → low ≤ high
rising_spans [] low high h = h
rising_spans (n ∷ ns) low high h = let fst = h.0 in let rest = rising_spans ns n high h.1 in omega arith

-- no point is one at or below the lowest
pub none_below : (ns : List ℕ) (low high p : ℕ) → IsRising low ns high → p ≤ low → count_by (λ n. n == p) ns ≡ 0
none_below [] low high p h few = refl
none_below (n ∷ ns) low high p h few =
    let fst = h.0 in
    let other : (n == p) ≡ false = grind (arith, nat_tests) in
    let later : p ≤ n = omega arith in
    count-cons (λ n. n == p) n ns ∙ ap (λ b. cond b 1 0 + count_by (λ n. n == p) ns) other ∙ ap (λ k. 0 + k) (none_below ns n high p h.1 later)

module _ {X : Type 0} (f : X → Bool) where
  pub record IsHit (n : ℕ) (xs : List X) (p : ℕ) : Type 0 where
    pub x : X
    pub at : slice_get xs (p - (n + 1)) ≡ Some x
    pub passes : f x ≡ true

  -- points above the first hit behind it
  shifted : (n : ℕ) (x : X) (xs : List X) (ps : List ℕ) (low high : ℕ) → n + 1 ≤ low → IsRising low ps high → AllByRecursion (IsHit n (x ∷ xs)) ps → AllByRecursion (IsHit (n + 1) xs) ps
  shifted n x xs [] low high far h hits = tt
  shifted n x xs (p ∷ ps) low high far h hits =
      let fst = h.0 in
      let past : p - (n + 1) ≡ suc (p - (n + 1 + 1)) = omega arith in
      let further : n + 1 ≤ p = omega arith in
      (record { x = hits.0.x; at = ap (slice_get (x ∷ xs)) (sym past) ∙ hits.0.at; passes = hits.0.passes }, shifted n x xs ps p high further h.1 hits.1)

  first_passes : (n : ℕ) (x : X) (xs : List X) (p : ℕ) → p ≡ n + 1 → IsHit n (x ∷ xs) p → f x ≡ true
  first_passes n x xs p is hit =
      let none : p - (n + 1) ≡ 0 = omega arith in
      let same : Some x ≡ Some hit.x = ap (slice_get (x ∷ xs)) (sym none) ∙ hit.at in
      let is_x : x ≡ hit.x = cc in
      ap f is_x ∙ hit.passes

  first_or_later : (n p : ℕ) → n < p → (p ≡ n + 1) ⊎ (n + 1 < p)
  first_or_later n p h = elim (cases_Bool (p == n + 1)) [ inl a ↦ inl (grind (arith, nat_tests)) | inr b ↦ inr (grind (arith, nat_tests)) ]

  rise_over : (low lower high : ℕ) (p : ℕ) (ps : List ℕ) → lower < p → IsRising low (p ∷ ps) high → IsRising lower (p ∷ ps) high
  rise_over low lower high p ps fst h = (fst, h.1)

  -- there are no more points than elements that pass
  pub few : (xs : List X) (ps : List ℕ) (n low : ℕ) → n ≤ low → IsRising low ps (n + length xs) → AllByRecursion (IsHit n xs) ps → length ps ≤ count_by f xs
  few [] [] n low far h hits = omega arith
  few [] (p ∷ ps) n low far h hits = let fst = h.0 in let rest = rising_spans ps p (n + 0) h.1 in absurd (omega arith)
  few (x ∷ xs) [] n low far h hits = omega arith
  few (x ∷ xs) (p ∷ ps) n low far h hits = by_first (first_or_later n p (let fst = h.0 in let above : n < p = omega arith in above)) (few xs)
    where
      next : n + suc (length xs) ≡ n + 1 + length xs
      next = omega arith

      by_first : (p ≡ n + 1) ⊎ (n + 1 < p) → ((ps : List ℕ) (n low : ℕ) → n ≤ low → IsRising low ps (n + length xs) → AllByRecursion (IsHit n xs) ps → length ps ≤ count_by f xs) → suc (length ps) ≤ count_by f (x ∷ xs)
      by_first (inl here) rest =
          let passes = first_passes n x xs p here hits.0 in
          let far : n + 1 ≤ p = omega arith in
          let more = rest ps (n + 1) p far (subst (IsRising p ps) next h.1) (shifted n x xs ps p (n + suc (length xs)) far h.1 hits.1) in
          let all = count-cons f x xs ∙ ap (λ b. cond b 1 0 + count_by f xs) passes in
          omega (arith, all, more)
      by_first (inr later) rest =
          let far : n + 1 ≤ n + 1 = omega arith in
          let h' : IsRising (n + 1) (p ∷ ps) (n + suc (length xs)) = (later, h.1) in
          let more = rest (p ∷ ps) (n + 1) (n + 1) far (subst (IsRising (n + 1) (p ∷ ps)) next h') (shifted n x xs (p ∷ ps) (n + 1) (n + suc (length xs)) far h' hits) in
          let all = count-cons f x xs in
          omega (arith, all, more)

  -- where they are as many, each element that passes is hit by one, and no other is hit
  abbrev IsExact : List X → Type 0
  IsExact xs = (ps : List ℕ) (n low p : ℕ) (y : X) → n ≤ low → IsRising low ps (n + length xs) → AllByRecursion (IsHit n xs) ps → length ps ≡ count_by f xs → n < p → slice_get xs (p - (n + 1)) ≡ Some y
      → count_by (λ q. q == p) ps ≡ cond (f y) 1 0

  skipped : (x : X) (xs : List X) (n p : ℕ) (y : X) → n + 1 < p → slice_get (x ∷ xs) (p - (n + 1)) ≡ Some y → slice_get xs (p - (n + 1 + 1)) ≡ Some y
  skipped x xs n p y later at =
      let past : p - (n + 1) ≡ suc (p - (n + 1 + 1)) = omega arith in
      ap (slice_get (x ∷ xs)) (sym past) ∙ at

  first_is : (x : X) (xs : List X) (n p : ℕ) (y : X) → p ≡ n + 1 → slice_get (x ∷ xs) (p - (n + 1)) ≡ Some y → x ≡ y
  first_is x xs n p y here at =
      let none : p - (n + 1) ≡ 0 = omega arith in
      let same : Some x ≡ Some y = ap (slice_get (x ∷ xs)) (sym none) ∙ at in cc

  -- no point hits the first element, which so doesn't pass
  exact_past : (x : X) (xs : List X) → IsExact xs → (qs : List ℕ) (n p : ℕ) (y : X) → IsRising (n + 1) qs (n + 1 + length xs) → AllByRecursion (IsHit (n + 1) xs) qs → length qs ≡ count_by f (x ∷ xs) → n < p
      → slice_get (x ∷ xs) (p - (n + 1)) ≡ Some y → count_by (λ q. q == p) qs ≡ cond (f y) 1 0
  exact_past x xs rest qs n p y h hits many above at =
      let all = count-cons f x xs in
      let far : n + 1 ≤ n + 1 = omega arith in
      let most = few xs qs (n + 1) (n + 1) far h hits in
      let fails : f x ≡ false = elim (cases_Bool (f x)) [ inl a ↦ absurd (let one = all ∙ ap (λ b. cond b 1 0 + count_by f xs) a in omega (arith, one, most, many)) | inr b ↦ b ] in
      let same : length qs ≡ count_by f xs = many ∙ all ∙ ap (λ b. cond b 1 0 + count_by f xs) fails ∙ zero_more (count_by f xs) in
      by_place (first_or_later n p above) fails same far
    where
      zero_more : (k : ℕ) → 0 + k ≡ k
      zero_more k = omega arith

      by_place : (p ≡ n + 1) ⊎ (n + 1 < p) → f x ≡ false → length qs ≡ count_by f xs → n + 1 ≤ n + 1 → count_by (λ q. q == p) qs ≡ cond (f y) 1 0
      by_place (inl here) fails same far = none_below qs (n + 1) (n + 1 + length xs) p h (omega (arith, here)) ∙ ap (λ b. cond b 1 0) (sym (ap f (sym (first_is x xs n p y here at)) ∙ fails))
      by_place (inr later) fails same far = rest qs (n + 1) (n + 1) p y far h hits same later (skipped x xs n p y later at)

  pub exact : (xs : List X) → IsExact xs
  exact [] ps n low p y far h hits many above at = cc
  exact (x ∷ xs) [] n low p y far h hits many above at = exact_past x xs (exact xs) [] n p y (omega arith) tt many above at
  exact (x ∷ xs) (q ∷ qs) n low p y far h hits many above at = by_first (first_or_later n q (let fst = h.0 in let over : n < q = omega arith in over)) (exact xs)
    where
      next : n + suc (length xs) ≡ n + 1 + length xs
      next = omega arith

      by_first : (q ≡ n + 1) ⊎ (n + 1 < q) → IsExact xs → count_by (λ q. q == p) (q ∷ qs) ≡ cond (f y) 1 0
      by_first (inr later) rest =
          let far' : n + 1 ≤ n + 1 = omega arith in
          let h' : IsRising (n + 1) (q ∷ qs) (n + suc (length xs)) = (later, h.1) in
          exact_past x xs rest (q ∷ qs) n p y (subst (IsRising (n + 1) (q ∷ qs)) next h') (shifted n x xs (q ∷ qs) (n + 1) (n + suc (length xs)) far' h' hits) many above at
      by_first (inl here) rest =
          let passes = first_passes n x xs q here hits.0 in
          let all = count-cons f x xs ∙ ap (λ b. cond b 1 0 + count_by f xs) passes in
          let far' : n + 1 ≤ q = omega arith in
          let same : length qs ≡ count_by f xs = omega (arith, all, many) in
          by_place (first_or_later n p above) passes same far'
        where
          by_place : (p ≡ n + 1) ⊎ (n + 1 < p) → f x ≡ true → length qs ≡ count_by f xs → n + 1 ≤ q → count_by (λ q. q == p) (q ∷ qs) ≡ cond (f y) 1 0
          by_place (inl at_first) passes same far' =
              let is : (q == p) ≡ true = grind (arith, nat_tests) in
              let below : p ≤ q = omega arith in
              count-cons (λ q. q == p) q qs ∙ (λ i. cond (is i) 1 0 + none_below qs q (n + suc (length xs)) p h.1 below i) ∙ ap (λ b. cond b 1 0) (sym (ap f (sym (first_is x xs n p y at_first at)) ∙ passes))
          by_place (inr later) passes same far' =
              let other : (q == p) ≡ false = grind (arith, nat_tests) in
              count-cons (λ q. q == p) q qs ∙ ap (λ b. cond b 1 0 + count_by (λ q. q == p) qs) other ∙ zero_more (count_by (λ q. q == p) qs)
              ∙ rest qs (n + 1) q p y far' (subst (IsRising q qs) next h.1) (shifted n x xs qs q (n + suc (length xs)) far' h.1 hits.1) same later (skipped x xs n p y later at)
            where
              zero_more : (k : ℕ) → 0 + k ≡ k
              zero_more k = omega arith
