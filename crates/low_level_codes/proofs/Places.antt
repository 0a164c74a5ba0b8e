-- Lists by their places.
use Rattle.std.proofs.Common.{◌≡◌, ℕ, zero, suc, ◌+◌, ◌<◌, ◌⊎◌, inl, inr, List, [], ◌∷◌, ◌++◌, length, set, get_or, refl, sym, ◌∙◌, ap, subst, arith, Bool, true, false, cond, ◌==◌}
use Rattle.std.specs.List.{AllByRecursion}
use Rattle.std.specs.declared.vec.Vec.{Vec}
use Rattle.std.proofs.lemmas.Bool.Decides.{nat_tests}
use Rattle.std.proofs.lemmas.Map.Views.{exact_unsigned_eq}
use Rattle.low_level_codes.specs.Graphs.{shown, at, marked, IsAt, AreWithin}

pub never : {A : Type 0} → false ≡ true → A
never e = cc

-- a fact of each is one of that which stands there
pub all_of : (P : ℕ → Type 0) (qs : List ℕ) (q : ℕ) → AllByRecursion P qs → IsAt q qs → P q
all_of P [] q h i = absurd i
all_of P (k ∷ ks) q h (inl e) = subst P e h.0
all_of P (k ∷ ks) q h (inr i) = all_of P ks q h.1 i

pub in_first : (q : ℕ) (xs ys : List ℕ) → IsAt q xs → IsAt q (xs ++ ys)
in_first q [] ys i = absurd i
in_first q (x ∷ xs) ys (inl e) = inl e
in_first q (x ∷ xs) ys (inr i) = inr (in_first q xs ys i)

pub in_second : (q : ℕ) (xs ys : List ℕ) → IsAt q ys → IsAt q (xs ++ ys)
in_second q [] ys i = i
in_second q (x ∷ xs) ys i = inr (in_second q xs ys i)

pub in_one : (q : ℕ) (xs ys : List ℕ) → IsAt q (xs ++ ys) → IsAt q xs ⊎ IsAt q ys
in_one q [] ys i = inr i
in_one q (x ∷ xs) ys (inl e) = inl (inl e)
in_one q (x ∷ xs) ys (inr i) = elim (in_one q xs ys i) [ inl j ↦ inl (inr j) | inr j ↦ inr j ]

pub in_last : (q k : ℕ) (xs : List ℕ) → IsAt q (xs ++ k ∷ []) → IsAt q xs ⊎ (k ≡ q)
in_last q k xs i = elim (in_one q xs (k ∷ []) i) [ inl j ↦ inl j | inr j ↦ inr (only j) ]
  where
    only : IsAt q (k ∷ []) → k ≡ q
    only (inl e) = e
    only (inr i) = absurd i

pub all_joined : (P : ℕ → Type 0) (xs ys : List ℕ) → AllByRecursion P xs → AllByRecursion P ys → AllByRecursion P (xs ++ ys)
all_joined P [] ys h k = k
all_joined P (x ∷ xs) ys h k = (h.0, all_joined P xs ys h.1 k)

pub all_before : (P : ℕ → Type 0) (xs ys : List ℕ) → AllByRecursion P (xs ++ ys) → AllByRecursion P xs
all_before P [] ys h = tt
all_before P (x ∷ xs) ys h = (h.0, all_before P xs ys h.1)

pub last_of : (P : ℕ → Type 0) (xs : List ℕ) (k : ℕ) → AllByRecursion P (xs ++ k ∷ []) → P k
last_of P [] k h = h.0
last_of P (x ∷ xs) k h = last_of P xs k h.1

-- two places are one or not
pub one_or_other : (q i : ℕ) → (q ≡ i) ⊎ ((q == i) ≡ false)
one_or_other q i = by_cases (q == i) refl
  where
    by_cases : (b : Bool) → (q == i) ≡ b → (q ≡ i) ⊎ ((q == i) ≡ false)
    by_cases true e = inl (exact_unsigned_eq q i e)
    by_cases false e = inr e

pub is_at : (q : ℕ) (xs : List ℕ) → IsAt q xs ⊎ (IsAt q xs → ⊥)
is_at q [] = inr (λ i. i)
is_at q (x ∷ xs) = elim (one_or_other x q) [
  | inl e ↦ inl (inl e)
  | inr other ↦ elim (is_at q xs) [
    | inl i ↦ inl (inr i)
    | inr out ↦ inr (neither other out)
  ]
]
  where
    neither : (x == q) ≡ false → (IsAt q xs → ⊥) → IsAt q (x ∷ xs) → ⊥
    neither other out (inl e) = let same : (x == q) ≡ true = grind (arith, nat_tests) in never (sym other ∙ same)
    neither other out (inr i) = out i

-- the list at a place
pub within_at : (n : ℕ) (lists : List (List ℕ)) (i : ℕ) → AreWithin n lists → AllByRecursion (λ q. q < n) (at lists i)
within_at n [] i h = tt
within_at n (xs ∷ lists) zero h = h.0
within_at n (xs ∷ lists) (suc i) h = within_at n lists i h.1

module _ {Z : Type 0} where
  pub at_shown : (vs : List (Vec ℕ Z)) (i : ℕ) (v d : Vec ℕ Z) → i < length vs → v ≡ get_or vs i d → at (shown vs) i ≡ v.items
  at_shown [] i v d l is = absurd (omega arith)
  at_shown (w ∷ ws) zero v d l is = ap (λ (w : Vec ℕ Z). w.items) (sym is)
  at_shown (w ∷ ws) (suc i) v d l is = let short : i < length ws = omega arith in at_shown ws i v d short is

  pub shown_long : (vs : List (Vec ℕ Z)) → length (shown vs) ≡ length vs
  shown_long [] = refl
  shown_long (v ∷ vs) = ap suc (shown_long vs)

-- marks
pub marked_at : (bs : List Bool) (i : ℕ) (b d : Bool) → i < length bs → b ≡ get_or bs i d → marked bs i ≡ b
marked_at [] i b d l is = absurd (omega arith)
marked_at (x ∷ xs) zero b d l is = sym is
marked_at (x ∷ xs) (suc i) b d l is = let short : i < length xs = omega arith in marked_at xs i b d short is

pub marked_here : (bs : List Bool) (i : ℕ) → i < length bs → marked (set bs i true) i ≡ true
marked_here [] i l = absurd (omega arith)
marked_here (b ∷ bs) zero l = refl
marked_here (b ∷ bs) (suc i) l = let short : i < length bs = omega arith in marked_here bs i short

pub marked_more : (bs : List Bool) (i q : ℕ) → marked bs q ≡ true → marked (set bs i true) q ≡ true
marked_more [] i q h = h
marked_more (b ∷ bs) zero zero h = refl
marked_more (b ∷ bs) zero (suc q) h = h
marked_more (b ∷ bs) (suc i) zero h = h
marked_more (b ∷ bs) (suc i) (suc q) h = marked_more bs i q h

pub marked_one : (bs : List Bool) (i q : ℕ) → marked (set bs i true) q ≡ true → (marked bs q ≡ true) ⊎ (i ≡ q)
marked_one [] i q h = inl h
marked_one (b ∷ bs) zero zero h = inr refl
marked_one (b ∷ bs) zero (suc q) h = inl h
marked_one (b ∷ bs) (suc i) zero h = inl h
marked_one (b ∷ bs) (suc i) (suc q) h = elim (marked_one bs i q h) [ inl was ↦ inl was | inr same ↦ inr (ap suc same) ]

pub marked_inside : (bs : List Bool) (q : ℕ) → marked bs q ≡ true → q < length bs
marked_inside [] q h = never h
marked_inside (b ∷ bs) zero h = omega arith
marked_inside (b ∷ bs) (suc q) h = let less = marked_inside bs q h in omega arith

-- how much stands in the lists at places without marks
unfoldable pub pending : List Bool → List (List ℕ) → ℕ
pending [] lists = 0
pending (b ∷ bs) [] = 0
pending (b ∷ bs) (xs ∷ lists) = cond b 0 (length xs) + pending bs lists

pub pending_less : (bs : List Bool) (lists : List (List ℕ)) (i : ℕ) → length bs ≡ length lists → i < length bs → marked bs i ≡ false → pending (set bs i true) lists + length (at lists i) ≡ pending bs lists
unfolding pending
pending_less [] lists i e l h = absurd (omega arith)
pending_less (b ∷ bs) [] i e l h = absurd (omega arith)
pending_less (b ∷ bs) (xs ∷ lists) zero e l h = subst (λ t. (0 + pending bs lists) + length xs ≡ cond t 0 (length xs) + pending bs lists) (sym h) (let sums : (0 + pending bs lists) + length xs ≡ length xs + pending bs lists = omega arith in sums)
pending_less (b ∷ bs) (xs ∷ lists) (suc i) e l h =
    let short : i < length bs = omega arith in
    let same : length bs ≡ length lists = omega arith in
    let rest = pending_less bs lists i same short h in
    let x : ℕ = cond b 0 (length xs) in
    let sums : (x + pending (set bs i true) lists) + length (at lists i) ≡ x + pending bs lists = omega arith in
    sums
