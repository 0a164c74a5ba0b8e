-- A name without a level stands below or on a cycle, and a name that does has none.
use Rattle.std.proofs.Common.{◌≡◌, ℕ, suc, zero, ◌<◌, ◌≤◌, inl, inr, List, [], ◌∷◌, length, map, max, refl, sym, ◌∙◌, ap, arith, le_refl, Bool, true, false, cond, ◌||◌}
use Rattle.std.specs.Prelude.{Option, Some, None, is_some, unwrap_or}
use Rattle.std.specs.List.{AllByRecursion}
use Rattle.std.specs.Ordering.{nat_cmp, is_eq}
use Rattle.std.specs.declared.cmp.Ordering.{Ordering}
use Rattle.std.specs.declared.cmp.Ordering.TheVariants.{Less, Equal, Greater}
use Rattle.std.specs.FinMap.{slice_cmp-IsAntisymmetric, nat_cmp-IsAntisymmetric}
use Rattle.std.specs.Cmp.{tied_itself}
use Rattle.std.specs.Cmp.Lexicographic.{slice_cmp, nat_list_cmp_total}
use Rattle.plan_schema.specs.declared.name.Name.{Name}
use Rattle.plan_schema.specs.Key.{name_eq}
use Rattle.plan_schema.specs.Contents.{Contents}
use Rattle.planning_rules.specs.Bills.{ParentBill, bills_of, parents, all_parents, is_above, is_ancestor, above_all, level_within, level, longest_chain}
use Rattle.planning_rules.specs.Laws.{NoLevelIsCyclic, CyclicHasNoLevel}
use Rattle.planning_rules.proofs.Membership.{IsIn, any_in, which, either, or_right}
use Rattle.planning_rules.proofs.Counting.{passing, passing_less}
use Rattle.planning_rules.proofs.Parents.{each_parent, in_all}
use Rattle.planning_rules.proofs.AncestorLaws.{chains_are_short}
use Rattle.planning_rules.proofs.Settling.{IsSettledAt, settled_in_time, enough}

pub levels_same : (f g : Name → Option ℕ) (bs : List ParentBill) → AllByRecursion (λ b. f b.parent ≡ g b.parent) bs → above_all (map f (map (λ bill. bill.parent) bs)) ≡ above_all (map g (map (λ bill. bill.parent) bs))
levels_same f g bs h = ap above_all (lists_same bs h)
  where
    lists_same : (bs : List ParentBill) → AllByRecursion (λ b. f b.parent ≡ g b.parent) bs → map f (map (λ bill. bill.parent) bs) ≡ map g (map (λ bill. bill.parent) bs)
    lists_same [] h = refl
    lists_same (b ∷ bs) h = λ i. h.0 i ∷ lists_same bs h.1 i

level_next : (c : Contents) (k : ℕ) → IsSettledAt (λ j. level_within j c) c k → (n : Name) → level_within (suc k) c n ≡ level_within (suc (suc k)) c n
level_next c k s n = levels_same (level_within k c) (level_within (suc k) c) (bills_of c n) (each_parent (λ p. level_within k c p ≡ level_within (suc k) c p) n c s)

-- each parent of a name with a level has one
some_above : (o : Option ℕ) (os : List (Option ℕ)) → is_some (above_all (o ∷ os)) ≡ true → (is_some o ≡ true) × (is_some (above_all os) ≡ true)
some_above None os h = cc
some_above (Some l) os h = (refl, by_cases (above_all os) h)
  where
    by_cases : (o : Option ℕ) → is_some (cond (is_some o) (Some (max (suc l) (unwrap_or o 0))) None) ≡ true → is_some o ≡ true
    by_cases None h = h
    by_cases (Some m) h = refl

parents_have : (f g : Name → Option ℕ) (bs : List ParentBill) → is_some (above_all (map f (map (λ bill. bill.parent) bs))) ≡ true → ((p : Name) → is_some (f p) ≡ true → g p ≡ f p) → AllByRecursion (λ b. g b.parent ≡ f b.parent) bs
parents_have f g [] h same = tt
parents_have f g (b ∷ bs) h same = let two = some_above (f b.parent) (map f (map (λ bill. bill.parent) bs)) h in (same b.parent two.0, parents_have f g bs two.1 same)

level_stays : (c : Contents) (k : ℕ) (n : Name) → is_some (level_within k c n) ≡ true → level_within (suc k) c n ≡ level_within k c n
level_stays c zero n h = cc
level_stays c (suc k) n h = levels_same (level_within (suc k) c) (level_within k c) (bills_of c n) (parents_have (level_within k c) (level_within (suc k) c) (bills_of c n) h (level_stays c k))

pub level_is_step : (c : Contents) (n : Name) → level c n ≡ above_all (map (level c) (parents c n))
level_is_step c n = level_next c (suc (length c)) (settled_in_time (λ j. level_within j c) c (level_stays c) (level_next c) (λ n. refl)) n

-- longer chains lead to no other levels
pub level_enough : (c : Contents) (k : ℕ) → longest_chain c ≤ k → (n : Name) → level_within k c n ≡ level c n
level_enough c k l n = enough (λ j. level_within j c) c (level_stays c) (level_next c) (λ n. refl) k l n

none_in : (f : Name → Option ℕ) (ps : List Name) → above_all (map f ps) ≡ None → (p : Name) × IsIn p ps × (f p ≡ None)
none_in f [] h = cc
none_in f (p ∷ ps) h = by_cases (none_in f ps) (f p) refl h
  where
    later : (p : Name) × IsIn p ps × (f p ≡ None) → (q : Name) × IsIn q (p ∷ ps) × (f q ≡ None)
    later w = (w.0, inr w.1, w.2)

    rest_none : (l : ℕ) (o : Option ℕ) → cond (is_some o) (Some (max (suc l) (unwrap_or o 0))) None ≡ None → o ≡ None
    rest_none l None e = refl
    rest_none l (Some m) e = cc

    by_cases : (above_all (map f ps) ≡ None → (q : Name) × IsIn q ps × (f q ≡ None)) → (o : Option ℕ) → f p ≡ o → above_all (o ∷ map f ps) ≡ None → (q : Name) × IsIn q (p ∷ ps) × (f q ≡ None)
    by_cases again None e h = (p, inl refl, e)
    by_cases again (Some l) e h = later (again (rest_none l (above_all (map f ps)) h))

pub same_name : (n : Name) → name_eq n n ≡ true
same_name n = ap is_eq (tied_itself nat_list_cmp_total n)

-- a parent is an ancestor, and so are its ancestors
parent_above : (c : Contents) (n p : Name) → IsIn p (parents c n) → is_ancestor c n p ≡ true
parent_above c n p i = chains_are_short c n p 1 (any_in (λ q. name_eq q p || is_above 0 c q p) p (parents c n) i (ap (λ b. b || false) (same_name p)))

above_parent : (c : Contents) (n p a : Name) → IsIn p (parents c n) → is_ancestor c p a ≡ true → is_ancestor c n a ≡ true
above_parent c n p a i h =
    chains_are_short c n a (suc (suc (suc (length c)))) (any_in (λ q. name_eq q a || is_above (suc (suc (length c))) c q a) p (parents c n) i (or_right (name_eq p a) (is_above (suc (suc (length c))) c p a) h))

-- some ancestor of n is its own ancestor
abbrev HasCycle : Contents → Name → Type 0
HasCycle c n = (y : Name) × (is_ancestor c n y ≡ true) × (is_ancestor c y y ≡ true)

from_parent : (c : Contents) (n : Name) → ((p : Name) → level c p ≡ None → passing (is_ancestor c p) (all_parents c) < passing (is_ancestor c n) (all_parents c) → HasCycle c p)
    → (p : Name) × IsIn p (parents c n) × (level c p ≡ None) → HasCycle c n
from_parent c n again w = by_cases (is_ancestor c w.0 w.0) refl
  where
    by_cases : (b : Bool) → is_ancestor c w.0 w.0 ≡ b → HasCycle c n
    by_cases true e = (w.0, parent_above c n w.0 w.1, e)
    by_cases false e =
        let less = passing_less (is_ancestor c w.0) (is_ancestor c n) (λ a h. above_parent c n w.0 a w.1 h) w.0 (all_parents c) (in_all c n w.0 w.1) e (parent_above c n w.0 w.1) in
        let found : HasCycle c w.0 = again w.0 w.2 less in
        (found.0, above_parent c n w.0 found.0 w.1 found.1, found.2)

cycle_above : (c : Contents) (m : ℕ) (n : Name) → level c n ≡ None → passing (is_ancestor c n) (all_parents c) ≤ m → HasCycle c n
cycle_above c zero n none few = from_parent c n (λ p none' less. absurd (omega arith)) (none_in (level c) (parents c n) (sym (level_is_step c n) ∙ none))
cycle_above c (suc m) n none few = from_parent c n (λ p none' less. cycle_above c m p none' (omega arith)) (none_in (level c) (parents c n) (sym (level_is_step c n) ∙ none))

pub no_level_is_cyclic : NoLevelIsCyclic
no_level_is_cyclic c n none = cycle_above c (passing (is_ancestor c n) (all_parents c)) n none (le_refl _)

-- the level of a parent is less
HasLess : (Name → Option ℕ) → Name → ℕ → Type 0
HasLess f p l = (m : ℕ) × (f p ≡ Some m) × (m < l)

highest : (m l : ℕ) (o : Option ℕ) → cond (is_some o) (Some (max (suc m) (unwrap_or o 0))) None ≡ Some l → (r : ℕ) × (o ≡ Some r) × (l ≡ max (suc m) r)
highest m l None e = cc
highest m l (Some r) e = let same : max (suc m) r ≡ l = cc in (r, refl, sym same)

below_all : (f : Name → Option ℕ) (p : Name) (ps : List Name) → IsIn p ps → (l : ℕ) → above_all (map f ps) ≡ Some l → HasLess f p l
unfolding HasLess
below_all f p [] i l e = absurd i
below_all f p (q ∷ qs) (inl same) l e = by_cases (f q) refl e
  where
    by_cases : (o : Option ℕ) → f q ≡ o → above_all (o ∷ map f qs) ≡ Some l → (m : ℕ) × (f p ≡ Some m) × (m < l)
    by_cases None is h = cc
    by_cases (Some m) is h = let top = highest m l (above_all (map f qs)) h in (m, ap f (sym same) ∙ is, omega (arith, top.2))
below_all f p (q ∷ qs) (inr i) l e = by_cases (below_all f p qs i) (f q) e
  where
    by_cases : ((r : ℕ) → above_all (map f qs) ≡ Some r → (m : ℕ) × (f p ≡ Some m) × (m < r)) → (o : Option ℕ) → above_all (o ∷ map f qs) ≡ Some l → (m : ℕ) × (f p ≡ Some m) × (m < l)
    by_cases again None h = cc
    by_cases again (Some m) h =
        let top = highest m l (above_all (map f qs)) h in
        let low = again top.0 top.1 in
        (low.0, low.1, omega (arith, top.2, low.2))

-- a parent of a name with a level has a lower one
pub parent_lower : (c : Contents) (n p : Name) (l : ℕ) → IsIn p (parents c n) → level c n ≡ Some l → (m : ℕ) × (level c p ≡ Some m) × (m < l)
unfolding HasLess
parent_lower c n p l i e = below_all (level c) p (parents c n) i l (sym (level_is_step c n) ∙ e)

is_equal : (o : Ordering) → is_eq o ≡ true → o ≡ Equal
is_equal Less h = cc
is_equal Equal h = refl
is_equal Greater h = cc

pub one_name : (p a : Name) → name_eq p a ≡ true → p ≡ a
one_name p a h = slice_cmp-IsAntisymmetric nat_cmp-IsAntisymmetric p a (is_equal (slice_cmp nat_cmp p a) h)

lower : (c : Contents) (a : Name) (k : ℕ) (n : Name) (l : ℕ) → is_above k c n a ≡ true → level c n ≡ Some l → HasLess (level c) a l
unfolding HasLess
lower c a zero n l h e = cc
lower c a (suc k) n l h e =
    let w = which (λ p. name_eq p a || is_above k c p a) (parents c n) h in
    let low = below_all (level c) w.0 (parents c n) w.1 l (sym (level_is_step c n) ∙ e) in
    elim (either (name_eq w.0 a) (is_above k c w.0 a) w.2) [
      | inl same ↦ (low.0, ap (level c) (sym (one_name w.0 a same)) ∙ low.1, low.2)
      | inr more ↦ let lowest = lower c a k w.0 low.0 more low.1 in (lowest.0, lowest.1, omega (arith, low.2, lowest.2))
    ]

pub cyclic_has_no_level : CyclicHasNoLevel
unfolding HasLess
cyclic_has_no_level c n a above cyclic = by_cases (level c n) refl
  where
    by_cases : (o : Option ℕ) → level c n ≡ o → o ≡ None
    by_cases None e = refl
    by_cases (Some l) e =
        let first = lower c a (suc (suc (length c))) n l above e in
        let second = lower c a (suc (suc (length c))) a first.0 cyclic first.1 in
        let both : Some first.0 ≡ Some second.0 = sym first.1 ∙ second.1 in
        let same : first.0 ≡ second.0 = cc in
        absurd (omega (arith, second.2))
