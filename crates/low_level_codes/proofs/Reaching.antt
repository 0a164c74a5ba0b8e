-- Going upward until nothing is to do.
use Rattle.std.proofs.Common.{◌≡◌, ℕ, zero, suc, ◌+◌, ◌<◌, ◌⊎◌, inl, inr, List, [], ◌∷◌, ◌++◌, length, set, refl, sym, ◌∙◌, ap, subst, arith, Bool, true, false, length-set, length-append, replicate}
use Rattle.std.specs.List.{AllByRecursion}
use Rattle.low_level_codes.specs.Graphs.{at, marked, IsAt, AreWithin, IsUpward, IsReach}
use Rattle.low_level_codes.proofs.Places.{never, in_first, in_second, in_one, in_last, all_joined, all_before, last_of, within_at, marked_here, marked_more, marked_one, pending, pending_less}

-- what is marked, with what is to do
pub record Reaching (ups : List (List ℕ)) (from : List ℕ) (seen : List Bool) (todo : List ℕ) : Type 0 where
  pub whole : length seen ≡ length ups
  pub inside : AllByRecursion (λ q. q < length ups) todo
  pub begins : (q : ℕ) → IsAt q from → (marked seen q ≡ true) ⊎ IsAt q todo
  pub closed : (i q : ℕ) → marked seen i ≡ true → IsAt q (at ups i) → (marked seen q ≡ true) ⊎ IsAt q todo
  pub least : (p : ℕ → Bool) → IsUpward ups from p → ((q : ℕ) → marked seen q ≡ true → p q ≡ true) × ((q : ℕ) → IsAt q todo → p q ≡ true)

none_marked : (n q : ℕ) → marked (replicate n false) q ≡ true → ⊥
none_marked zero q h = never h
none_marked (suc n) zero h = never h
none_marked (suc n) (suc q) h = none_marked n q h

long_enough : (n : ℕ) → length (replicate n false) ≡ n
long_enough zero = refl
long_enough (suc n) = ap suc (long_enough n)

pub reach_begins : (ups : List (List ℕ)) (from : List ℕ) (n : ℕ) → n ≡ length ups → AllByRecursion (λ q. q < length ups) from → Reaching ups from (replicate n false) from
reach_begins ups from n whole inside = record {
  whole = long_enough n ∙ whole;
  inside = inside;
  begins = λ q i. inr i;
  closed = λ i q h u. absurd (none_marked n i h);
  least = λ p up. (λ q h. absurd (none_marked n q h), λ q i. up.begins q i);
}

module _ (ups : List (List ℕ)) (from : List ℕ) (seen : List Bool) (todo : List ℕ) (place : ℕ) (r : Reaching ups from seen (todo ++ place ∷ [])) where
  still : (seen' : List Bool) (todo' : List ℕ) → ((q : ℕ) → marked seen q ≡ true → marked seen' q ≡ true) → ((q : ℕ) → IsAt q todo → IsAt q todo') → marked seen' place ≡ true
      → (q : ℕ) → (marked seen q ≡ true) ⊎ IsAt q (todo ++ place ∷ []) → (marked seen' q ≡ true) ⊎ IsAt q todo'
  still seen' todo' more keeps here q (inl was) = inl (more q was)
  still seen' todo' more keeps here q (inr i) = elim (in_last q place todo i) [
    | inl other ↦ inr (keeps q other)
    | inr same ↦ inl (subst (λ k. marked seen' k ≡ true) same here)
  ]

  pub place_inside : place < length ups
  place_inside = last_of (λ q. q < length ups) todo place r.inside

  pub reach_passed : marked seen place ≡ true → Reaching ups from seen todo
  reach_passed here = record {
    whole = r.whole;
    inside = all_before (λ q. q < length ups) todo (place ∷ []) r.inside;
    begins = λ q i. still seen todo (λ q h. h) (λ q i. i) here q (r.begins q i);
    closed = λ i q h u. still seen todo (λ q h. h) (λ q i. i) here q (r.closed i q h u);
    least = λ p up. ((r.least p up).0, λ q i. (r.least p up).1 q (in_first q todo (place ∷ []) i));
  }

  module _ (within : AreWithin (length ups) ups) where
    pub reach_went : Reaching ups from (set seen place true) (todo ++ at ups place)
    reach_went =
        let low : place < length seen = subst (λ n. place < n) (sym r.whole) place_inside in
        let here = marked_here seen place low in
        let todo' = todo ++ at ups place in
        record {
          whole = length-set seen place true ∙ r.whole;
          inside = all_joined (λ q. q < length ups) todo (at ups place) (all_before (λ q. q < length ups) todo (place ∷ []) r.inside) (within_at (length ups) ups place within);
          begins = λ q i. still (set seen place true) todo' (marked_more seen place) (λ q i. in_first q todo (at ups place) i) here q (r.begins q i);
          closed = λ i q h u. elim (marked_one seen place i h) [
            | inl was ↦ still (set seen place true) todo' (marked_more seen place) (λ q i. in_first q todo (at ups place) i) here q (r.closed i q was u)
            | inr same ↦ inr (in_second q todo (at ups place) (subst (λ k. IsAt q (at ups k)) (sym same) u))
          ];
          least = λ p up.
              let passes : p place ≡ true = (r.least p up).1 place (in_second place todo (place ∷ []) (inl refl)) in (
                λ q h. elim (marked_one seen place q h) [
                  | inl was ↦ (r.least p up).0 q was
                  | inr same ↦ subst (λ k. p k ≡ true) same passes
                ],
                λ q i. elim (in_one q todo (at ups place) i) [
                  | inl was ↦ (r.least p up).1 q (in_first q todo (place ∷ []) was)
                  | inr up' ↦ up.closed place q passes up'
                ],
              );
        }

pub reach_ends : (ups : List (List ℕ)) (from : List ℕ) (seen : List Bool) (todo : List ℕ) → todo ≡ [] → Reaching ups from seen todo → IsReach ups from seen
reach_ends ups from seen todo none r = record {
  whole = r.whole;
  upward = record {
    begins = λ q i. is_marked q (r.begins q i);
    closed = λ i q h u. is_marked q (r.closed i q h u);
  };
  least = λ p up. (r.least p up).0;
}
  where
    is_marked : (q : ℕ) → (marked seen q ≡ true) ⊎ IsAt q todo → marked seen q ≡ true
    is_marked q (inl h) = h
    is_marked q (inr i) = absurd (subst (IsAt q) none i)

-- the measure
pub passed_less : (todo left : List ℕ) (place m : ℕ) → todo ≡ left ++ place ∷ [] → length left + m < length todo + m
passed_less todo left place m e = let long : length todo ≡ length left + 1 = ap length e ∙ length-append left (place ∷ []) in omega arith

pub went_less : (bs : List Bool) (lists : List (List ℕ)) (todo left : List ℕ) (place : ℕ) → todo ≡ left ++ place ∷ [] → length bs ≡ length lists → place < length bs → marked bs place ≡ false
    → length (left ++ at lists place) + pending (set bs place true) lists < length todo + pending bs lists
went_less bs lists todo left place e same l h =
    let long : length todo ≡ length left + 1 = ap length e ∙ length-append left (place ∷ []) in
    let more = length-append left (at lists place) in
    let less = pending_less bs lists place same l h in
    omega arith

pub none_left : (xs : List ℕ) → length xs ≡ 0 → xs ≡ []
none_left [] e = refl
none_left (x ∷ xs) e = absurd (omega arith)
