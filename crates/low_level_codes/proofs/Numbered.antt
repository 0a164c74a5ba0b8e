-- Names by their places.
use Rattle.std.proofs.Common.{◌≡◌, ℕ, zero, suc, ◌<◌, ◌≤◌, ◌⊎◌, inl, inr, List, [], ◌∷◌, ◌++◌, length, set, get_or, refl, sym, ◌∙◌, ap, subst, arith, Bool, true, false, cond, ◌||◌, if◌then◌else◌}
use Rattle.std.specs.Prelude.{Option, Some, None, slice_get, is_some, nat_eq, position, MatchOption}
use Rattle.std.proofs.lemmas.List.Quantifiers.{position-Some}
use Rattle.std.specs.Cmp.Lexicographic.{pointwise, texts_ties}
use Rattle.planning_rules.proofs.LevelLaws.{one_name}
use Rattle.std.specs.List.{AllByRecursion, list_any}
use Rattle.plan_schema.specs.declared.name.Name.{Name}
use Rattle.low_level_codes.specs.Graphs.{at, AreWithin}
use Rattle.low_level_codes.specs.Numbers.{Lacks, AreApart, Numbers, Keeps, StandAt}
use Rattle.planning_rules.proofs.Membership.{or_right}
use Rattle.low_level_codes.proofs.Places.{never}

pub any_there : (eq : Name → Name → Bool) → ((a : Name) → eq a a ≡ true) → (n : Name) (ns : List Name) (k : ℕ) → slice_get ns k ≡ Some n → list_any (eq n) ns ≡ true
any_there eq itself n [] k e = cc
any_there eq itself n (m ∷ ms) zero e = let same : m ≡ n = cc in ap (λ b. b || list_any (eq n) ms) (ap (eq n) same ∙ itself n)
any_there eq itself n (m ∷ ms) (suc k) e = or_right (eq n m) (list_any (eq n) ms) (any_there eq itself n ms k e)

-- what an insertion does
pub numbers : (eq : Name → Name → Bool) → ((a : Name) → eq a a ≡ true) → (n : Name) (old new : List Name) → new ≡ (if list_any (eq n) old then old else (old ++ n ∷ [])) → Numbers old n new
numbers eq itself n old new e = by_cases (list_any (eq n) old) refl e
  where
    by_cases : (b : Bool) → list_any (eq n) old ≡ b → new ≡ cond b old (old ++ n ∷ []) → Numbers old n new
    by_cases true is e = inl e
    by_cases false is e = inr (e, λ k there. never (sym is ∙ any_there eq itself n old k there))

pub inside : {A : Type 0} (xs : List A) (i : ℕ) (x : A) → slice_get xs i ≡ Some x → i < length xs
inside [] i x is = absurd (let no : ⊥ = cc in no)
inside (y ∷ ys) zero x is = omega arith
inside (y ∷ ys) (suc i) x is = let less = inside ys i x is in omega arith

pub kept : {A : Type 0} (xs ys : List A) (i : ℕ) (x : A) → slice_get xs i ≡ Some x → slice_get (xs ++ ys) i ≡ Some x
kept [] ys i x is = absurd (let no : ⊥ = cc in no)
kept (z ∷ zs) ys zero x is = is
kept (z ∷ zs) ys (suc i) x is = kept zs ys i x is

pub one_of : {A : Type 0} (xs : List A) (y : A) (i : ℕ) (x : A) → slice_get (xs ++ y ∷ []) i ≡ Some x → (slice_get xs i ≡ Some x) ⊎ ((i ≡ length xs) × (y ≡ x))
one_of [] y zero x is = let same : y ≡ x = cc in inr (refl, same)
one_of [] y (suc i) x is = absurd (let no : ⊥ = cc in no)
one_of (z ∷ zs) y zero x is = inl is
one_of (z ∷ zs) y (suc i) x is = elim (one_of zs y i x is) [ inl was ↦ inl was | inr last ↦ inr (ap suc last.0, last.1) ]

pub keeps : (old new : List Name) (n : Name) → Numbers old n new → Keeps old new
keeps old new n (inl same) k m is = subst (λ ns. slice_get ns k ≡ Some m) (sym same) is
keeps old new n (inr more) k m is = subst (λ ns. slice_get ns k ≡ Some m) (sym more.0) (kept old (n ∷ []) k m is)

at_or : (ns : List Name) (i : ℕ) → i < length ns → slice_get ns i ≡ Some (get_or ns i [])
at_or [] i l = absurd (omega arith)
at_or (n ∷ ns) zero l = refl
at_or (n ∷ ns) (suc i) l = let short : i < length ns = omega arith in at_or ns i short

-- what a look-up finds
pub found : (itself : (a : Name) → pointwise nat_eq a a ≡ true) (n : Name) (ns : List Name) (o : Option ℕ) → o ≡ position (pointwise nat_eq n) ns → is_some o ≡ list_any (pointwise nat_eq n) ns
    → MatchOption o (Lacks ns n) (λ i. slice_get ns i ≡ Some n)
found itself n ns None e any = λ k there. never (any ∙ any_there (pointwise nat_eq) itself n ns k there)
found itself n ns (Some i) e any =
    let w = position-Some (pointwise nat_eq n) ns i [] (sym e) in
    at_or ns i w.0 ∙ ap Some (sym (one_name n (get_or ns i []) (sym (texts_ties n (get_or ns i [])) ∙ w.1)))

-- where a name gets the next place
pub is_new : (old new : List Name) (n : Name) (i : ℕ) → Numbers old n new → slice_get new i ≡ Some n → i ≡ length old → (new ≡ old ++ n ∷ []) × Lacks old n
is_new old new n i (inl same) is last = let less = inside old i n (subst (λ ns. slice_get ns i ≡ Some n) same is) in absurd (omega arith)
is_new old new n i (inr more) is last = more

pub is_old : (old new : List Name) (n : Name) (i : ℕ) → Numbers old n new → slice_get new i ≡ Some n → (i ≡ length old → ⊥) → new ≡ old
is_old old new n i (inl same) is other = same
is_old old new n i (inr more) is other = elim (one_of old n i n (subst (λ ns. slice_get ns i ≡ Some n) more.0 is)) [
  | inl was ↦ absurd (more.1 i was)
  | inr last ↦ absurd (other last.0)
]

pub apart_more : (ns : List Name) (n : Name) → AreApart ns → Lacks ns n → AreApart (ns ++ n ∷ [])
apart_more ns n apart lacks i k m a b = by_cases (one_of ns n i m a) (one_of ns n k m b)
  where
    by_cases : (slice_get ns i ≡ Some m) ⊎ ((i ≡ length ns) × (n ≡ m)) → (slice_get ns k ≡ Some m) ⊎ ((k ≡ length ns) × (n ≡ m)) → i ≡ k
    by_cases (inl x) (inl y) = apart i k m x y
    by_cases (inl x) (inr y) = absurd (lacks i (x ∙ ap Some (sym y.1)))
    by_cases (inr x) (inl y) = absurd (lacks k (y ∙ ap Some (sym x.1)))
    by_cases (inr x) (inr y) = x.0 ∙ sym y.0

pub stand_kept : (old new : List Name) → Keeps old new → (qs : List ℕ) (ps : List Name) → StandAt old qs ps → StandAt new qs ps
stand_kept old new keeps [] [] h = h
stand_kept old new keeps [] (p ∷ ps) h = absurd h
stand_kept old new keeps (q ∷ qs) [] h = absurd h
stand_kept old new keeps (q ∷ qs) (p ∷ ps) h = (keeps q p h.0, stand_kept old new keeps qs ps h.1)

pub stand_more : (ns : List Name) (qs : List ℕ) (ps : List Name) (q : ℕ) (p : Name) → StandAt ns qs ps → slice_get ns q ≡ Some p → StandAt ns (qs ++ q ∷ []) (ps ++ p ∷ [])
stand_more ns [] [] q p h is = (is, tt)
stand_more ns [] (r ∷ rs) q p h is = absurd h
stand_more ns (k ∷ ks) [] q p h is = absurd h
stand_more ns (k ∷ ks) (r ∷ rs) q p h is = (h.0, stand_more ns ks rs q p h.1 is)

-- lists at places
pub within_more : (n m : ℕ) → n ≤ m → (lists : List (List ℕ)) → AreWithin n lists → AreWithin m lists
within_more n m l [] h = tt
within_more n m l (xs ∷ lists) h = (each xs h.0, within_more n m l lists h.1)
  where
    each : (xs : List ℕ) → AllByRecursion (λ q. q < n) xs → AllByRecursion (λ q. q < m) xs
    each [] h = tt
    each (x ∷ xs) h = (let less = h.0 in omega arith, each xs h.1)

pub within_last : (n : ℕ) (lists : List (List ℕ)) → AreWithin n lists → AreWithin n (lists ++ [] ∷ [])
within_last n [] h = (tt, tt)
within_last n (xs ∷ lists) h = (h.0, within_last n lists h.1)

pub within_set : (n : ℕ) (lists : List (List ℕ)) (i : ℕ) (v : List ℕ) → AreWithin n lists → AllByRecursion (λ q. q < n) v → AreWithin n (set lists i v)
within_set n [] i v h a = tt
within_set n (xs ∷ lists) zero v h a = (a, h.1)
within_set n (xs ∷ lists) (suc i) v h a = (h.0, within_set n lists i v h.1 a)

pub at_last : (lists : List (List ℕ)) (k : ℕ) → at (lists ++ [] ∷ []) k ≡ at lists k
at_last [] zero = refl
at_last [] (suc k) = refl
at_last (xs ∷ lists) zero = refl
at_last (xs ∷ lists) (suc k) = at_last lists k

pub at_past : (lists : List (List ℕ)) (k : ℕ) → length lists ≤ k → at lists k ≡ []
at_past [] k l = refl
at_past (xs ∷ lists) zero l = absurd (omega arith)
at_past (xs ∷ lists) (suc k) l = let short : length lists ≤ k = omega arith in at_past lists k short

pub at_here : (lists : List (List ℕ)) (i : ℕ) (v : List ℕ) → i < length lists → at (set lists i v) i ≡ v
at_here [] i v l = absurd (omega arith)
at_here (xs ∷ lists) zero v l = refl
at_here (xs ∷ lists) (suc i) v l = let short : i < length lists = omega arith in at_here lists i v short

pub at_other : (lists : List (List ℕ)) (i k : ℕ) (v : List ℕ) → (k ≡ i → ⊥) → at (set lists i v) k ≡ at lists k
at_other [] i k v other = refl
at_other (xs ∷ lists) zero zero v other = absurd (other refl)
at_other (xs ∷ lists) zero (suc k) v other = refl
at_other (xs ∷ lists) (suc i) zero v other = refl
at_other (xs ∷ lists) (suc i) (suc k) v other = at_other lists i k v (λ e. other (ap suc e))
