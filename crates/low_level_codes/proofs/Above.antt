-- Levels by places.
use Rattle.std.proofs.Common.{◌≡◌, ℕ, zero, suc, ◌+◌, ◌<◌, ◌≤◌, ◌⊎◌, inl, inr, List, [], ◌∷◌, length, map, max, set, get_or, drop, refl, sym, ◌∙◌, ap, arith, true, false, cond, replicate}
use Rattle.std.specs.Prelude.{Option, Some, None, is_some, is_none, unwrap_or, slice_get}
use Rattle.std.specs.List.{AllByRecursion}
use Rattle.planning_rules.specs.Bills.{above_all}
use Rattle.low_level_codes.specs.Graphs.{level_at, IsAt}

pub no_some : {A B : Type 0} (b : B) → (let none : Option B = None in none) ≡ Some b → A
no_some b e = cc

-- the greater of a number and a level
abbrev pub at_least : ℕ → Option ℕ → Option ℕ
at_least a None = None
at_least a (Some r) = Some (max a r)

pub at_least_more : (a l : ℕ) (o : Option ℕ) → at_least a (cond (is_some o) (Some (max (suc l) (unwrap_or o 0))) None) ≡ at_least (max a (l + 1)) o
at_least_more a l None = refl
at_least_more a l (Some r) = let same : max a (max (suc l) r) ≡ max (max a (l + 1)) r = omega arith in ap Some same

pub at_least_none : (o : Option ℕ) → at_least 0 o ≡ o
at_least_none None = refl
at_least_none (Some r) = let same : max 0 r ≡ r = omega arith in ap Some same

-- the next of the places
pub next_place : (f : ℕ → Option ℕ) (qs : List ℕ) (i d : ℕ) → i < length qs → above_all (map f (drop i qs)) ≡ above_all (f (get_or qs i d) ∷ map f (drop (suc i) qs))
next_place f [] i d l = absurd (omega arith)
next_place f (q ∷ qs) zero d l = refl
next_place f (q ∷ qs) (suc i) d l = let short : i < length qs = omega arith in next_place f qs i d short

pub step_some : (f : ℕ → Option ℕ) (qs : List ℕ) (i d a l : ℕ) (o : Option ℕ) → i < length qs → f (get_or qs i d) ≡ Some l → o ≡ at_least a (above_all (map f (drop i qs)))
    → o ≡ at_least (max a (l + 1)) (above_all (map f (drop (i + 1) qs)))
step_some f qs i d a l o less is e =
    let next : above_all (map f (drop i qs)) ≡ above_all (Some l ∷ map f (drop (suc i) qs)) = next_place f qs i d less ∙ ap (λ x. above_all (x ∷ map f (drop (suc i) qs))) is in
    let one : suc i ≡ i + 1 = omega arith in
    e ∙ ap (at_least a) next ∙ at_least_more a l (above_all (map f (drop (suc i) qs))) ∙ ap (λ k. at_least (max a (l + 1)) (above_all (map f (drop k qs)))) one

pub step_none : (f : ℕ → Option ℕ) (qs : List ℕ) (i d a : ℕ) (o : Option ℕ) → i < length qs → f (get_or qs i d) ≡ None → o ≡ at_least a (above_all (map f (drop i qs))) → None ≡ o
step_none f qs i d a o less is e =
    let next : above_all (map f (drop i qs)) ≡ None = next_place f qs i d less ∙ ap (λ x. above_all (x ∷ map f (drop (suc i) qs))) is in
    sym (e ∙ ap (at_least a) next)

pub step_last : (f : ℕ → Option ℕ) (qs : List ℕ) (i a : ℕ) (o : Option ℕ) → length qs ≤ i → o ≡ at_least a (above_all (map f (drop i qs))) → Some a ≡ o
step_last f qs i a o less e =
    let same : max a 0 ≡ a = omega arith in
    sym (e ∙ ap (λ xs. at_least a (above_all (map f xs))) (past qs i less) ∙ ap Some same)
  where
    past : (xs : List ℕ) (k : ℕ) → length xs ≤ k → drop k xs ≡ []
    past [] zero l = refl
    past [] (suc k) l = refl
    past (x ∷ xs) zero l = absurd (omega arith)
    past (x ∷ xs) (suc k) l = let short : length xs ≤ k = omega arith in past xs k short

-- a fact of each is one of that which stands at an index
pub all_index : (P : ℕ → Type 0) (qs : List ℕ) (i d : ℕ) → i < length qs → AllByRecursion P qs → P (get_or qs i d)
all_index P [] i d l h = absurd (omega arith)
all_index P (q ∷ qs) zero d l h = h.0
all_index P (q ∷ qs) (suc i) d l h = let short : i < length qs = omega arith in all_index P qs i d short h.1

pub highest : (m l : ℕ) (o : Option ℕ) → cond (is_some o) (Some (max (suc m) (unwrap_or o 0))) None ≡ Some l → (r : ℕ) × (o ≡ Some r) × (max (suc m) r ≡ l)
highest m l None e = cc
highest m l (Some r) e = let same : max (suc m) r ≡ l = cc in (r, refl, same)

pub rest_none : (m : ℕ) (o : Option ℕ) → cond (is_some o) (Some (max (suc m) (unwrap_or o 0))) None ≡ None → o ≡ None
rest_none m None e = refl
rest_none m (Some r) e = cc

pub above_some : (m r : ℕ) (o : Option ℕ) → o ≡ Some r → cond (is_some o) (Some (max (suc m) (unwrap_or o 0))) None ≡ Some (max (suc m) r)
above_some m r o e = ap (λ o. cond (is_some o) (Some (max (suc m) (unwrap_or o 0))) None) e

pub above_none : (m : ℕ) (o : Option ℕ) → o ≡ None → cond (is_some o) (Some (max (suc m) (unwrap_or o 0))) None ≡ None
above_none m o e = ap (λ o. cond (is_some o) (Some (max (suc m) (unwrap_or o 0))) None) e

-- more levels leave those that are there
pub above_more : (f g : ℕ → Option ℕ) → ((q m : ℕ) → f q ≡ Some m → g q ≡ Some m) → (qs : List ℕ) (l : ℕ) → above_all (map f qs) ≡ Some l → above_all (map g qs) ≡ Some l
above_more f g more [] l e = e
above_more f g more (q ∷ qs) l e = by_cases (above_more f g more qs) (f q) refl e
  where
    by_cases : ((r : ℕ) → above_all (map f qs) ≡ Some r → above_all (map g qs) ≡ Some r) → (o : Option ℕ) → f q ≡ o → above_all (o ∷ map f qs) ≡ Some l → above_all (g q ∷ map g qs) ≡ Some l
    by_cases again None is h = cc
    by_cases again (Some m) is h =
        let top = highest m l (above_all (map f qs)) h in
        ap (λ o. above_all (o ∷ map g qs)) (more q m is) ∙ above_some m top.0 (above_all (map g qs)) (again top.0 top.1) ∙ ap Some top.2

pub map_same : (f g : ℕ → Option ℕ) (qs : List ℕ) → ((q : ℕ) → IsAt q qs → f q ≡ g q) → map f qs ≡ map g qs
map_same f g [] h = refl
map_same f g (q ∷ qs) h = let rest = map_same f g qs (λ k i. h k (inr i)) in λ i. h q (inl refl) i ∷ rest i

-- levels
pub level_there : (ls : List (Option ℕ)) (i : ℕ) (l d : Option ℕ) → i < length ls → l ≡ get_or ls i d → level_at ls i ≡ l
level_there [] i l d less is = absurd (omega arith)
level_there (x ∷ xs) zero l d less is = sym is
level_there (x ∷ xs) (suc i) l d less is = let short : i < length xs = omega arith in level_there xs i l d short is

pub level_here : (ls : List (Option ℕ)) (i : ℕ) (l : Option ℕ) → i < length ls → level_at (set ls i l) i ≡ l
level_here [] i l less = absurd (omega arith)
level_here (x ∷ xs) zero l less = refl
level_here (x ∷ xs) (suc i) l less = let short : i < length xs = omega arith in level_here xs i l short

pub level_more : (ls : List (Option ℕ)) (i l q m : ℕ) → level_at ls i ≡ None → level_at ls q ≡ Some m → level_at (set ls i (Some l)) q ≡ Some m
level_more [] i l q m none e = e
level_more (x ∷ xs) zero l zero m none e = let wrong : Some m ≡ None = sym e ∙ none in cc
level_more (x ∷ xs) zero l (suc q) m none e = e
level_more (x ∷ xs) (suc i) l zero m none e = e
level_more (x ∷ xs) (suc i) l (suc q) m none e = level_more xs i l q m none e

pub level_one : (ls : List (Option ℕ)) (i l q m : ℕ) → level_at (set ls i (Some l)) q ≡ Some m → (level_at ls q ≡ Some m) ⊎ ((i ≡ q) × (l ≡ m))
level_one [] i l q m e = inl e
level_one (x ∷ xs) zero l zero m e = let same : l ≡ m = cc in inr (refl, same)
level_one (x ∷ xs) zero l (suc q) m e = inl e
level_one (x ∷ xs) (suc i) l zero m e = inl e
level_one (x ∷ xs) (suc i) l (suc q) m e = elim (level_one xs i l q m e) [ inl was ↦ inl was | inr same ↦ inr (ap suc same.0, same.1) ]

pub level_none : (ls : List (Option ℕ)) (i l q : ℕ) → level_at (set ls i (Some l)) q ≡ None → level_at ls q ≡ None
level_none [] i l q e = e
level_none (x ∷ xs) zero l zero e = cc
level_none (x ∷ xs) zero l (suc q) e = e
level_none (x ∷ xs) (suc i) l zero e = e
level_none (x ∷ xs) (suc i) l (suc q) e = level_none xs i l q e

pub level_same : (ls : List (Option ℕ)) (i : ℕ) (l : Option ℕ) (q : ℕ) → (i ≡ q → ⊥) → level_at ls q ≡ level_at (set ls i l) q
level_same [] i l q other = refl
level_same (x ∷ xs) zero l zero other = absurd (other refl)
level_same (x ∷ xs) zero l (suc q) other = refl
level_same (x ∷ xs) (suc i) l zero other = refl
level_same (x ∷ xs) (suc i) l (suc q) other = level_same xs i l q (λ e. other (ap suc e))

pub not_both : {A : Type 0} (o : Option ℕ) (l : ℕ) → o ≡ None → o ≡ Some l → A
not_both o l none some = let wrong : None ≡ Some l = sym none ∙ some in cc

-- how many have none
unfoldable pub missing : List (Option ℕ) → ℕ
missing [] = 0
missing (None ∷ ls) = suc (missing ls)
missing (Some l ∷ ls) = missing ls

pub missing_less : (ls : List (Option ℕ)) (i l : ℕ) → i < length ls → level_at ls i ≡ None → suc (missing (set ls i (Some l))) ≡ missing ls
unfolding missing
missing_less [] i l less none = absurd (omega arith)
missing_less (None ∷ ls) zero l less none = refl
missing_less (Some m ∷ ls) zero l less none = cc
missing_less (None ∷ ls) (suc i) l less none = let short : i < length ls = omega arith in ap suc (missing_less ls i l short none)
missing_less (Some m ∷ ls) (suc i) l less none = let short : i < length ls = omega arith in missing_less ls i l short none

pub missing_all : (n : ℕ) → missing (replicate n None) ≡ n
unfolding missing
missing_all zero = refl
missing_all (suc n) = ap suc (missing_all n)

pub all_none : (n q : ℕ) → level_at (replicate n None) q ≡ None
all_none zero q = refl
all_none (suc n) zero = refl
all_none (suc n) (suc q) = all_none n q

pub none_long : (n : ℕ) → length (let ls : List (Option ℕ) = replicate n None in ls) ≡ n
none_long zero = refl
none_long (suc n) = ap suc (none_long n)

pub some_tells : (o : Option ℕ) → is_some o ≡ true → (l : ℕ) × (o ≡ Some l)
some_tells None h = cc
some_tells (Some l) h = (l, refl)

pub none_tells : (o : Option ℕ) → is_some o ≡ false → o ≡ None
none_tells None h = refl
none_tells (Some l) h = cc

pub is_none_tells : (o : Option ℕ) → is_none o ≡ true → o ≡ None
is_none_tells None h = refl
is_none_tells (Some l) h = cc

-- where one of some places has no level, nor has what is above them
pub none_there : (f : ℕ → Option ℕ) (qs : List ℕ) (i q : ℕ) → slice_get qs i ≡ Some q → f q ≡ None → above_all (map f qs) ≡ None
none_there f [] i q is none = absurd (let no : ⊥ = cc in no)
none_there f (k ∷ ks) zero q is none = let same : k ≡ q = cc in ap (λ o. above_all (o ∷ map f ks)) (ap f same ∙ none)
none_there f (k ∷ ks) (suc i) q is none = rest (f k) (none_there f ks i q is none)
  where
    rest : (o : Option ℕ) → above_all (map f ks) ≡ None → above_all (o ∷ map f ks) ≡ None
    rest None e = refl
    rest (Some m) e = above_none m (above_all (map f ks)) e

-- what is above some places is above each
pub below_each : (f : ℕ → Option ℕ) (qs : List ℕ) (q l : ℕ) → IsAt q qs → above_all (map f qs) ≡ Some l → (m : ℕ) × (f q ≡ Some m) × (m < l)
below_each f [] q l i e = absurd i
below_each f (k ∷ ks) q l (inl same) e = by_cases (f k) refl e
  where
    by_cases : (o : Option ℕ) → f k ≡ o → above_all (o ∷ map f ks) ≡ Some l → (m : ℕ) × (f q ≡ Some m) × (m < l)
    by_cases None is h = cc
    by_cases (Some m) is h = let top = highest m l (above_all (map f ks)) h in let e : max (suc m) top.0 ≡ l = top.2 in (m, ap f (sym same) ∙ is, omega arith)
below_each f (k ∷ ks) q l (inr i) e = by_cases (below_each f ks q) (f k) e
  where
    by_cases : ((r : ℕ) → IsAt q ks → above_all (map f ks) ≡ Some r → (m : ℕ) × (f q ≡ Some m) × (m < r)) → (o : Option ℕ) → above_all (o ∷ map f ks) ≡ Some l → (m : ℕ) × (f q ≡ Some m) × (m < l)
    by_cases again None h = cc
    by_cases again (Some m) h =
        let top = highest m l (above_all (map f ks)) h in
        let e : max (suc m) top.0 ≡ l = top.2 in
        let low = again top.0 i top.1 in
        (low.0, low.1, let less = low.2 in omega arith)
