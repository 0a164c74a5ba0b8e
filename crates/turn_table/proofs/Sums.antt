-- Sums over the seats and facts of each seat, where one seat's view is changed, one seat is new, or two are joined.
use Rattle.std.proofs.Common.{◌≡◌, ◌≢◌, ◌≤◌, ◌<◌, ◌+◌, ℕ, zero, suc, List, [], ◌∷◌, ◌++◌, refl, sym, ap, ◌∙◌, arith, set, subst, ⊎_elim, cond}
use Rattle.std.specs.Prelude.{◌==◌}
use Rattle.std.proofs.lemmas.Bool.Decides.{nat_tests}
use mathlib.Core.Option.{some, some-injective, some-ne-none}
use lib.ListN.{get_elem?}
use Rattle.atomic_table.proofs.Lists.{at_set, at_snoc, set_else}
use Rattle.turn_table.specs.Rule.{Each, once, total, times}
use Rattle.turn_table.specs.declared.view.View.{View}

-- a sum of which one term is changed
pub sum-set : {A : Type 0} (f : A → ℕ) (xs : List A) (i : ℕ) (x y : A) → get_elem? xs i ≡ some x → total f (set xs i y) + f x ≡ total f xs + f y
sum-set f [] i x y e = absurd (some-ne-none x (sym e))
sum-set f (z ∷ xs) zero x y e = let same : z ≡ x = some-injective z x e in rw same (omega arith)
sum-set f (z ∷ xs) (suc i) x y e = let h : total f (set xs i y) + f x ≡ total f xs + f y = sum-set f xs i x y e in omega arith

-- the term is changed to one that counts the same
pub sum-same : {A : Type 0} (f : A → ℕ) (xs : List A) (i : ℕ) (x y : A) → get_elem? xs i ≡ some x → f y ≡ f x → total f (set xs i y) ≡ total f xs
sum-same f xs i x y at e = let h : total f (set xs i y) + f x ≡ total f xs + f y = sum-set f xs i x y at in omega arith

pub sum-snoc : {A : Type 0} (f : A → ℕ) (xs : List A) (y : A) → total f (xs ++ y ∷ []) ≡ total f xs + f y
sum-snoc f [] y = omega arith
sum-snoc f (x ∷ xs) y = let h : total f (xs ++ y ∷ []) ≡ total f xs + f y = sum-snoc f xs y in omega arith

pub sum-le : {A : Type 0} (f h : A → ℕ) (xs : List A) → ((j : ℕ) (u : A) → get_elem? xs j ≡ some u → f u ≤ h u) → total f xs ≤ total h xs
sum-le f h [] all = omega arith
sum-le f h (z ∷ xs) all =
    let rest : total f xs ≤ total h xs = sum-le f h xs (λ j u a. all (suc j) u a) in
    let here : f z ≤ h z = all 0 z refl in
    omega arith

-- a term is at most the sum
pub term-le : {A : Type 0} (f : A → ℕ) (xs : List A) (i : ℕ) (x : A) → get_elem? xs i ≡ some x → f x ≤ total f xs
term-le f [] i x e = absurd (some-ne-none x (sym e))
term-le f (z ∷ xs) zero x e = let same : z ≡ x = some-injective z x e in rw (← same) (omega arith)
term-le f (z ∷ xs) (suc i) x e = let h : f x ≤ total f xs = term-le f xs i x e in omega arith

-- a sum that is at most another, term by term, and less at one
pub sum-less : {A : Type 0} (f h : A → ℕ) (xs : List A) (i : ℕ) (x : A) → ((j : ℕ) (u : A) → get_elem? xs j ≡ some u → f u ≤ h u) → get_elem? xs i ≡ some x → f x + 1 ≤ h x
    → total f xs + 1 ≤ total h xs
sum-less f h [] i x all e less = absurd (some-ne-none x (sym e))
sum-less f h (z ∷ xs) zero x all e less =
    let same : z ≡ x = some-injective z x e in
    let rest : total f xs ≤ total h xs = sum-le f h xs (λ j u a. all (suc j) u a) in
    let here : f z + 1 ≤ h z = subst (λ y. f y + 1 ≤ h y) (sym same) less in
    omega arith
sum-less f h (z ∷ xs) (suc i) x all e less =
    let rest : total f xs + 1 ≤ total h xs = sum-less f h xs i x (λ j u a. all (suc j) u a) e less in
    let here : f z ≤ h z = all 0 z refl in
    omega arith

-- two terms together are at most the sum
pub two-le : {A : Type 0} (f : A → ℕ) (xs : List A) (i j : ℕ) (x y : A) → get_elem? xs i ≡ some x → get_elem? xs j ≡ some y → j ≢ i → f x + f y ≤ total f xs
two-le f [] i j x y a b n = absurd (some-ne-none x (sym a))
two-le f (z ∷ xs) zero zero x y a b n = absurd (n refl)
two-le f (z ∷ xs) zero (suc j) x y a b n =
    let same : z ≡ x = some-injective z x a in
    let h : f y ≤ total f xs = term-le f xs j y b in
    rw (← same) (omega arith)
two-le f (z ∷ xs) (suc i) zero x y a b n =
    let same : z ≡ y = some-injective z y b in
    let h : f x ≤ total f xs = term-le f xs i x a in
    rw (← same) (omega arith)
two-le f (z ∷ xs) (suc i) (suc j) x y a b n = let h : f x + f y ≤ total f xs = two-le f xs i j x y a b (λ e. n (ap suc e)) in omega arith

-- a sum all of whose other terms are 0
pub sum-only : {A : Type 0} (f : A → ℕ) (xs : List A) (i : ℕ) (x : A) → get_elem? xs i ≡ some x → ((j : ℕ) (u : A) → get_elem? xs j ≡ some u → j ≢ i → f u ≡ 0) → total f xs ≡ f x
sum-only f [] i x e none = absurd (some-ne-none x (sym e))
sum-only f (z ∷ xs) zero x e none =
    let same : z ≡ x = some-injective z x e in
    let rest : total f xs ≡ 0 = sum-zero f xs (λ j u a. none (suc j) u a (λ n. omega arith)) in
    rw (← same) (omega arith)
  where
    sum-zero : {A : Type 0} (f : A → ℕ) (xs : List A) → ((j : ℕ) (u : A) → get_elem? xs j ≡ some u → f u ≡ 0) → total f xs ≡ 0
    sum-zero f [] none = refl
    sum-zero f (z ∷ xs) none =
        let here : f z ≡ 0 = none 0 z refl in
        let rest : total f xs ≡ 0 = sum-zero f xs (λ j u a. none (suc j) u a) in
        omega arith
sum-only f (z ∷ xs) (suc i) x e none =
    let here : f z ≡ 0 = none 0 z refl (λ n. omega arith) in
    let rest : total f xs ≡ f x = sum-only f xs i x e (λ j u a n. none (suc j) u a (λ e. n (omega arith))) in
    omega arith

-- two seats are joined
pub sum-joined : {A : Type 0} (f : A → ℕ) (xs : List A) (i j : ℕ) (x both y spent : A) → get_elem? xs i ≡ some x → get_elem? (set xs i both) j ≡ some y
    → total f (set (set xs i both) j spent) + (f x + f y) ≡ total f xs + (f both + f spent)
sum-joined f xs i j x both y spent a b =
    let one : total f (set xs i both) + f x ≡ total f xs + f both = sum-set f xs i x both a in
    let two : total f (set (set xs i both) j spent) + f y ≡ total f (set xs i both) + f spent = sum-set f (set xs i both) j y spent b in
    omega arith

module _ {E G : Type 0} where
  pub each-set : (P : View E G → Type 0) (vs : List (View E G)) (id : ℕ) (w : View E G) → Each P vs → P w → Each P (set vs id w)
  each-set P vs id w all new j v e = ⊎_elim (λ t. subst P t.1 new) (λ t. all j v t.1) (at_set vs id j w v e)

  -- the others have the fact because they are others
  pub each-others : (P : View E G → Type 0) (vs : List (View E G)) (id : ℕ) (w : View E G) → ((j : ℕ) (u : View E G) → get_elem? vs j ≡ some u → j ≢ id → P u) → P w → Each P (set vs id w)
  each-others P vs id w all new j v e = ⊎_elim (λ t. subst P t.1 new) (λ t. all j v t.1 t.0) (at_set vs id j w v e)

  pub each-weaker : (P Q : View E G → Type 0) (vs : List (View E G)) → ((v : View E G) → P v → Q v) → Each P vs → Each Q vs
  each-weaker P Q vs less all j v e = less v (all j v e)

  pub each-snoc : (P : View E G → Type 0) (vs : List (View E G)) (w : View E G) → Each P vs → P w → Each P (vs ++ w ∷ [])
  each-snoc P vs w all new j v e = ⊎_elim (λ t. all j v t) (λ t. subst P t new) (at_snoc vs w v j e)

  pub each-joined : (P : View E G → Type 0) (vs : List (View E G)) (i j : ℕ) (both spent : View E G) → Each P vs → P both → P spent → Each P (set (set vs i both) j spent)
  each-joined P vs i j both spent all b s = each-set P (set vs i both) j spent (each-set P vs i both all b) s

  pub each-one : (P : View E G → Type 0) (v : View E G) → P v → Each P (v ∷ [])
  each-one P v p zero u e = subst P (some-injective v u e) p
  each-one P v p (suc j) u e = absurd (some-ne-none u (sym e))

  -- the other seat of a join is one of the seats
  pub other-at : (vs : List (View E G)) (i j : ℕ) (both w : View E G) → j ≢ i → get_elem? (set vs i both) j ≡ some w → get_elem? vs j ≡ some w
  other-at vs i j both w apart at = sym (set_else vs i j both apart) ∙ at

-- one more number in a run, and one fewer
pub once-more : (a n x : ℕ) → a ≤ n → once a (n + 1) x ≡ once a n x + cond (n == x) 1 0
once-more a n x le = grind (arith, nat_tests)

pub once-less : (a n x : ℕ) → a < n → once a n x ≡ once (a + 1) n x + cond (a == x) 1 0
once-less a n x lt = grind (arith, nat_tests)

pub once-one : (a n x : ℕ) → once a n x ≤ 1
once-one a n x = grind (arith, nat_tests)

pub once-in : (a n x : ℕ) → 1 ≤ once a n x → (a ≤ x) × (x < n)
once-in a n x h = grind (arith, nat_tests)

pub once-here : (a n x : ℕ) → a ≤ x → x < n → once a n x ≡ 1
once-here a n x le lt = grind (arith, nat_tests)

pub times-append : (k : ℕ) (xs ys : List ℕ) → times k (xs ++ ys) ≡ times k xs + times k ys
times-append k [] ys = omega arith
times-append k (x ∷ xs) ys = let h : times k (xs ++ ys) ≡ times k xs + times k ys = times-append k xs ys in omega arith
