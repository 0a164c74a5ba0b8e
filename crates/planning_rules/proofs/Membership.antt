-- What stands in a list of names.
use Rattle.std.proofs.Common.{◌≡◌, ◌⊎◌, inl, inr, List, [], ◌∷◌, ◌++◌, refl, sym, ◌∙◌, ap, subst, Bool, true, false, cond, ◌||◌}
use Rattle.std.specs.Prelude.{filter}
use Rattle.std.specs.List.{list_any, Contains, AllByRecursion}
use Rattle.std.proofs.lemmas.List.Elements.{All-from_recursion, All-contains, All-contains_itself, recursion_from_All}
use Rattle.plan_schema.specs.declared.name.Name.{Name}

-- p stands in a list
abbrev pub IsIn : Name → List Name → Type 0
IsIn p [] = ⊥
IsIn p (q ∷ qs) = (q ≡ p) ⊎ IsIn p qs

-- a fact of each name is one of each name of a list
pub everywhere : (Q : Name → Type 0) → ((n : Name) → Q n) → (ns : List Name) → AllByRecursion Q ns
everywhere Q h [] = tt
everywhere Q h (n ∷ ns) = (h n, everywhere Q h ns)

pub all_map : (Q R : Name → Type 0) → ((n : Name) → Q n → R n) → (ns : List Name) → AllByRecursion Q ns → AllByRecursion R ns
all_map Q R f [] h = tt
all_map Q R f (n ∷ ns) h = (f n h.0, all_map Q R f ns h.1)

pub all_at : (Q : Name → Type 0) (p : Name) (ns : List Name) → IsIn p ns → AllByRecursion Q ns → Q p
all_at Q p [] i h = absurd i
all_at Q p (n ∷ ns) (inl e) h = subst Q e h.0
all_at Q p (n ∷ ns) (inr i) h = all_at Q p ns i h.1

pub all_in : (ns : List Name) → AllByRecursion (λ m. IsIn m ns) ns
all_in [] = tt
all_in (m ∷ ms) = (inl refl, all_map (λ k. IsIn k ms) (λ k. IsIn k (m ∷ ms)) (λ k i. inr i) ms (all_in ms))

-- between the two ways to say that a name stands in a list
pub in_contained : (ns : List Name) (p : Name) → Contains ns p → IsIn p ns
in_contained ns p h = All-contains (λ m. IsIn m ns) ns p (All-from_recursion (λ m. IsIn m ns) ns (all_in ns)) h

pub contained_in : (ns : List Name) (p : Name) → IsIn p ns → Contains ns p
contained_in ns p i = all_at (Contains ns) p ns i (recursion_from_All (Contains ns) ns (All-contains_itself ns))

pub or_left : (a b : Bool) → a ≡ true → (a || b) ≡ true
or_left a b e = ap (λ t. t || b) e

pub or_right : (a b : Bool) → b ≡ true → (a || b) ≡ true
or_right true b e = refl
or_right false b e = e

pub either : (a b : Bool) → (a || b) ≡ true → (a ≡ true) ⊎ (b ≡ true)
either true b h = inl refl
either false b h = inr h

pub or_more : (a b d e : Bool) → (a ≡ true → d ≡ true) → (b ≡ true → e ≡ true) → (a || b) ≡ true → (d || e) ≡ true
or_more a b d e h k o = elim (either a b o) [ inl x ↦ or_left d e (h x) | inr y ↦ or_right d e (k y) ]

-- some name of a list passes: one that stands in it
pub any_in : (g : Name → Bool) (p : Name) (ps : List Name) → IsIn p ps → g p ≡ true → list_any g ps ≡ true
any_in g p [] i h = absurd i
any_in g p (q ∷ qs) (inl e) h = or_left (g q) (list_any g qs) (ap g e ∙ h)
any_in g p (q ∷ qs) (inr i) h = or_right (g q) (list_any g qs) (any_in g p qs i h)

pub which : (g : Name → Bool) (ps : List Name) → list_any g ps ≡ true → (p : Name) × IsIn p ps × (g p ≡ true)
which g [] h = cc
which g (p ∷ ps) h = by_cases (which g ps) (g p) refl h
  where
    by_cases : (list_any g ps ≡ true → (q : Name) × IsIn q ps × (g q ≡ true)) → (b : Bool) → g p ≡ b → (b || list_any g ps) ≡ true → (q : Name) × IsIn q (p ∷ ps) × (g q ≡ true)
    by_cases again true e o = (p, inl refl, e)
    by_cases again false e o = let w = again o in (w.0, inr w.1, w.2)

pub any_more : (f g : Name → Bool) → ((p : Name) → f p ≡ true → g p ≡ true) → (ps : List Name) → list_any f ps ≡ true → list_any g ps ≡ true
any_more f g more [] h = h
any_more f g more (p ∷ ps) h = or_more (f p) (list_any f ps) (g p) (list_any g ps) (more p) (any_more f g more ps) h

-- what stands in one of two lists, and in what a filter keeps
pub in_first : (p : Name) (ms ns : List Name) → IsIn p ms → IsIn p (ms ++ ns)
in_first p [] ns i = absurd i
in_first p (m ∷ ms) ns (inl e) = inl e
in_first p (m ∷ ms) ns (inr i) = inr (in_first p ms ns i)

pub in_second : (p : Name) (ms ns : List Name) → IsIn p ns → IsIn p (ms ++ ns)
in_second p [] ns i = i
in_second p (m ∷ ms) ns i = inr (in_second p ms ns i)

pub in_one : (p : Name) (ms ns : List Name) → IsIn p (ms ++ ns) → IsIn p ms ⊎ IsIn p ns
in_one p [] ns i = inr i
in_one p (m ∷ ms) ns (inl e) = inl (inl e)
in_one p (m ∷ ms) ns (inr i) = elim (in_one p ms ns i) [ inl j ↦ inl (inr j) | inr j ↦ inr j ]

pub in_kept : (g : Name → Bool) (p : Name) (ns : List Name) → IsIn p ns → g p ≡ true → IsIn p (filter g ns)
in_kept g p [] i h = absurd i
in_kept g p (n ∷ ns) (inl e) h = subst (λ b. IsIn p (cond b (n ∷ filter g ns) (filter g ns))) (sym (ap g e ∙ h)) (inl e)
in_kept g p (n ∷ ns) (inr i) h = by_cases (in_kept g p ns i h) (g n)
  where
    by_cases : IsIn p (filter g ns) → (b : Bool) → IsIn p (cond b (n ∷ filter g ns) (filter g ns))
    by_cases kept true = inr kept
    by_cases kept false = kept

pub kept_in : (g : Name → Bool) (p : Name) (ns : List Name) → IsIn p (filter g ns) → IsIn p ns × (g p ≡ true)
kept_in g p [] i = absurd i
kept_in g p (n ∷ ns) i = by_cases (kept_in g p ns) (g n) refl i
  where
    by_cases : (IsIn p (filter g ns) → IsIn p ns × (g p ≡ true)) → (b : Bool) → g n ≡ b → IsIn p (cond b (n ∷ filter g ns) (filter g ns)) → IsIn p (n ∷ ns) × (g p ≡ true)
    by_cases again true e (inl same) = (inl same, ap g (sym same) ∙ e)
    by_cases again true e (inr j) = let w = again j in (inr w.0, w.1)
    by_cases again false e j = let w = again j in (inr w.0, w.1)
