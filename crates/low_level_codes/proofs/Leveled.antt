-- Names with their levels, in order.
use Rattle.std.proofs.Common.{◌≡◌, ℕ, zero, suc, ◌+◌, ◌⊎◌, inl, inr, List, [], ◌∷◌, length, map, refl, sym, ◌∙◌, ap, subst, arith, Bool, true, false, cond, ◌||◌, ◌&&◌, ◌==◌}
use Rattle.std.proofs.lemmas.Bool.{cases_lt}
use Rattle.std.proofs.lemmas.Bool.Decides.{nat_tests}
use Rattle.std.proofs.lemmas.Map.Lookups.{exact_unsigned}
use Rattle.std.specs.Prelude.{Option, Some, None, slice_get, nat_lt}
use Rattle.std.specs.List.{list_all, AllByRecursion}
use Rattle.std.specs.Ordering.{nat_cmp, is_eq, is_lt, ordering_then}
use Rattle.std.specs.declared.cmp.Ordering.{Ordering}
use Rattle.std.specs.declared.cmp.Ordering.TheVariants.{Less, Equal, Greater}
use Rattle.std.specs.Cmp.{tied_itself, nat_cmp_total}
use Rattle.std.specs.List.Sorted.{IsStrictlySortedBy}
use Rattle.std.proofs.lemmas.Map.Keys.{sorted_head, sorted_tail}
use Rattle.plan_schema.specs.declared.name.Name.{Name}
use Rattle.plan_schema.specs.Key.{name_cmp}
use Rattle.planning_rules.specs.Bills.{level}
use Rattle.planning_rules.proofs.LevelLaws.{one_name, same_name}
use Rattle.planning_rules.proofs.Membership.{IsIn, in_contained, contained_in}
use Rattle.low_level_codes.specs.Levels.{as_records, before, are_by_level, AreLevels}
use Rattle.low_level_codes.specs.Graphs.{level_at, HasSteps}
use Rattle.low_level_codes.specs.Numbers.{pair_cmp, holds_pair, HoldsUpTo, HoldsLevels, LacksLevel, StandAt, IsGraph}
use Rattle.low_level_codes.proofs.Places.{never}
use Rattle.low_level_codes.proofs.Numbered.{inside}
use Rattle.low_level_codes.proofs.Steps.{level_is}

both : (a b : Bool) → a ≡ true → b ≡ true → (a && b) ≡ true
both true b x y = y
both false b x y = never x

less_tells : (a b : ℕ) → nat_cmp a b ≡ Less → nat_lt a b ≡ true
less_tells a b e = grind (arith, nat_tests)

equal_tells : (a b : ℕ) → nat_cmp a b ≡ Equal → (a == b) ≡ true
equal_tells a b e = grind (arith, nat_tests)

before_of : (a b : ℕ) (x y : Name) → ordering_then (nat_cmp a b) (name_cmp x y) ≡ Less → before (x, a) (y, b) ≡ true
before_of a b x y e = by_cases (nat_cmp a b) refl e
  where
    second : (p q r : Bool) → q ≡ true → r ≡ true → (p || (q && r)) ≡ true
    second true q r h k = refl
    second false q r h k = both q r h k

    first : (p q : Bool) → p ≡ true → (p || q) ≡ true
    first p q h = ap (λ b. b || q) h

    by_cases : (o : Ordering) → nat_cmp a b ≡ o → ordering_then o (name_cmp x y) ≡ Less → before (x, a) (y, b) ≡ true
    by_cases Less is h = first (nat_lt a b) ((a == b) && is_lt (name_cmp x y)) (less_tells a b is)
    by_cases Equal is h = second (nat_lt a b) (a == b) (is_lt (name_cmp x y)) (equal_tells a b is) (ap is_lt h)
    by_cases Greater is h = cc

pub by_level : (ps : List (ℕ × Name)) → IsStrictlySortedBy pair_cmp ps → are_by_level (map (λ (pair : ℕ × Name). (pair.1, pair.0)) ps) ≡ true
by_level [] h = refl
by_level (p ∷ ps) h = both (list_all (before (p.1, p.0)) (map (λ (pair : ℕ × Name). (pair.1, pair.0)) ps)) (are_by_level (map (λ (pair : ℕ × Name). (pair.1, pair.0)) ps)) (each ps (sorted_head pair_cmp p ps h)) (by_level ps (sorted_tail pair_cmp p ps h))
  where
    each : (qs : List (ℕ × Name)) → AllByRecursion (λ q. pair_cmp p q ≡ Less) qs → list_all (before (p.1, p.0)) (map (λ (pair : ℕ × Name). (pair.1, pair.0)) qs) ≡ true
    each [] h = refl
    each (q ∷ qs) h = both (before (p.1, p.0) (q.1, q.0)) (list_all (before (p.1, p.0)) (map (λ (pair : ℕ × Name). (pair.1, pair.0)) qs)) (before_of p.0 q.0 p.1 q.1 h.0) (each qs h.1)

-- pairs that compare alike are one
pair_parts : (x y : Ordering) → is_eq (ordering_then x y) ≡ true → (x ≡ Equal) × (is_eq y ≡ true)
pair_parts Less y h = cc
pair_parts Equal y h = (refl, h)
pair_parts Greater y h = cc

pub one_pair : (a b : ℕ × Name) → is_eq (pair_cmp a b) ≡ true → (a.0 ≡ b.0) × (a.1 ≡ b.1)
one_pair a b h = let two = pair_parts (nat_cmp a.0 b.0) (name_cmp a.1 b.1) h in (exact_unsigned a.0 b.0 two.0, one_name a.1 b.1 two.1)

pub same_pair : (l : ℕ) (n : Name) → is_eq (pair_cmp (l, n) (l, n)) ≡ true
same_pair l n = ap (λ o. is_eq (ordering_then o (name_cmp n n))) (tied_itself nat_cmp_total l) ∙ same_name n

pub found_pair : (a b : ℕ × Name) (x y : Bool) → x ≡ cond (is_eq (pair_cmp a b)) true y → x ≡ true → (y ≡ true) ⊎ ((a.0 ≡ b.0) × (a.1 ≡ b.1))
found_pair a b x y e h = by_cases (is_eq (pair_cmp a b)) refl e
  where
    by_cases : (t : Bool) → is_eq (pair_cmp a b) ≡ t → x ≡ cond t true y → (y ≡ true) ⊎ ((a.0 ≡ b.0) × (a.1 ≡ b.1))
    by_cases true is e = inr (one_pair a b is)
    by_cases false is e = inl (sym e ∙ h)

-- one more of the names
module _ (levels : List (Option ℕ)) (places : List ℕ) (names : List Name) (count : ℕ) (old new : List (ℕ × Name)) (h : HoldsUpTo levels places names count old)
    (q : ℕ) (n : Name) (l : ℕ) (at_place : slice_get places count ≡ Some q) (at_name : slice_get names count ≡ Some n) (is : level_at levels q ≡ Some l)
    (there : (p : ℕ × Name) → holds_pair new p ≡ cond (is_eq (pair_cmp (l, n) p)) true (holds_pair old p)) (sorted : IsStrictlySortedBy pair_cmp new) where
  pub holds_more : HoldsUpTo levels places names (count + 1) new
  holds_more = record {
    has = λ i r m less place name. elim (cases_lt i count) [
      | inl before ↦ let w = h.has i r m before place name in (w.0, w.1, more (is_eq (pair_cmp (l, n) (w.0, m))) (holds_pair new (w.0, m)) (holds_pair old (w.0, m)) (there (w.0, m)) w.2)
      | inr after ↦
          let same : i ≡ count = omega arith in
          let one : Some r ≡ Some q = sym place ∙ ap (slice_get places) same ∙ at_place in
          let two : Some m ≡ Some n = sym name ∙ ap (slice_get names) same ∙ at_name in
          let r_is : r ≡ q = cc in
          let m_is : n ≡ m = cc in
          (l, ap (level_at levels) r_is ∙ is, here (is_eq (pair_cmp (l, n) (l, m))) (holds_pair new (l, m)) (holds_pair old (l, m)) (there (l, m)) (ap (λ k. is_eq (pair_cmp (l, n) (l, k))) (sym m_is) ∙ same_pair l n))
    ];
    only = λ k m held. elim (found_pair (l, n) (k, m) (holds_pair new (k, m)) (holds_pair old (k, m)) (there (k, m)) held) [
      | inl was ↦ h.only k m was
      | inr same ↦ (count, q, at_place, at_name ∙ ap Some same.1, is ∙ ap Some same.0)
    ];
    order = by_level new sorted;
  }
    where
      more : (b x y : Bool) → x ≡ cond b true y → y ≡ true → x ≡ true
      more true x y e h = e
      more false x y e h = e ∙ h

      here : (b x y : Bool) → x ≡ cond b true y → b ≡ true → x ≡ true
      here true x y e h = e
      here false x y e h = never h

held_pair : (ps : List (ℕ × Name)) (p : ℕ × Name) → holds_pair ps p ≡ true → IsIn p.1 (map (λ (pair : Name × ℕ). pair.0) (map (λ (pair : ℕ × Name). (pair.1, pair.0)) ps))
held_pair [] p h = never h
held_pair (q ∷ qs) p h = by_cases (held_pair qs p) (is_eq (pair_cmp p q)) refl h
  where
    by_cases : (holds_pair qs p ≡ true → IsIn p.1 (map (λ (pair : Name × ℕ). pair.0) (map (λ (pair : ℕ × Name). (pair.1, pair.0)) qs))) → (b : Bool) → is_eq (pair_cmp p q) ≡ b → (b || holds_pair qs p) ≡ true
        → IsIn p.1 (map (λ (pair : Name × ℕ). pair.0) (map (λ (pair : ℕ × Name). (pair.1, pair.0)) (q ∷ qs)))
    by_cases again true is h = inl (sym (one_pair p q is).1)
    by_cases again false is h = inr (again h)

or_right : (a b : Bool) → b ≡ true → (a || b) ≡ true
or_right true b e = refl
or_right false b e = e

each_held : (P : ℕ → Name → Type 0) (ps : List (ℕ × Name)) → ((l : ℕ) (n : Name) → holds_pair ps (l, n) ≡ true → P l n) → AllByRecursion (λ (pair : Name × ℕ). P pair.1 pair.0) (map (λ (pair : ℕ × Name). (pair.1, pair.0)) ps)
each_held P [] h = tt
each_held P (p ∷ ps) h = (
  h p.0 p.1 (ap (λ b. b || holds_pair ps (p.0, p.1)) (same_pair p.0 p.1)),
  each_held P ps (λ l n held. h l n (or_right (is_eq (pair_cmp (l, n) p)) (holds_pair ps (l, n)) held)),
)

name_in : (ps : List (ℕ × Name)) (n : Name) → IsIn n (map (λ (pair : Name × ℕ). pair.0) (map (λ (pair : ℕ × Name). (pair.1, pair.0)) ps)) → (l : ℕ) × (holds_pair ps (l, n) ≡ true)
name_in [] n i = absurd i
name_in (p ∷ ps) n (inl e) = (p.0, subst (λ m. holds_pair (p ∷ ps) (p.0, m) ≡ true) e (ap (λ b. b || holds_pair ps (p.0, p.1)) (same_pair p.0 p.1)))
name_in (p ∷ ps) n (inr i) = let w = name_in ps n i in (w.0, or_right (is_eq (pair_cmp (w.0, n) p)) (holds_pair ps (w.0, n)) w.1)

pub in_at : (ns : List Name) (n : Name) → IsIn n ns → (i : ℕ) × (slice_get ns i ≡ Some n)
in_at [] n i = absurd i
in_at (m ∷ ms) n (inl e) = (0, ap Some e)
in_at (m ∷ ms) n (inr i) = let w = in_at ms n i in (suc w.0, w.1)

at_in : (ns : List Name) (i : ℕ) (n : Name) → slice_get ns i ≡ Some n → IsIn n ns
at_in [] i n is = absurd (let no : ⊥ = cc in no)
at_in (m ∷ ms) zero n is = let same : m ≡ n = cc in inl same
at_in (m ∷ ms) (suc i) n is = inr (at_in ms i n is)

-- what stands at one index of places and of names
pub stand_index : (ns : List Name) (qs : List ℕ) (ps : List Name) → StandAt ns qs ps → (i : ℕ) (p : Name) → slice_get ps i ≡ Some p → (q : ℕ) × (slice_get qs i ≡ Some q) × (slice_get ns q ≡ Some p)
stand_index ns [] [] h i p is = absurd (let no : ⊥ = cc in no)
stand_index ns [] (r ∷ rs) h i p is = absurd h
stand_index ns (k ∷ ks) [] h i p is = absurd h
stand_index ns (k ∷ ks) (r ∷ rs) h zero p is = (k, refl, h.0 ∙ is)
stand_index ns (k ∷ ks) (r ∷ rs) h (suc i) p is = stand_index ns ks rs h.1 i p is

pub stand_at_index : (ns : List Name) (qs : List ℕ) (ps : List Name) → StandAt ns qs ps → (i q : ℕ) → slice_get qs i ≡ Some q → (p : Name) × (slice_get ps i ≡ Some p) × (slice_get ns q ≡ Some p)
stand_at_index ns [] [] h i q is = absurd (let no : ⊥ = cc in no)
stand_at_index ns [] (r ∷ rs) h i q is = absurd h
stand_at_index ns (k ∷ ks) [] h i q is = absurd h
stand_at_index ns (k ∷ ks) (r ∷ rs) h zero q is = let same : k ≡ q = cc in (r, refl, ap (slice_get ns) (sym same) ∙ h.0)
stand_at_index ns (k ∷ ks) (r ∷ rs) h (suc i) q is = stand_at_index ns ks rs h.1 i q is

pub stand_long : (ns : List Name) (qs : List ℕ) (ps : List Name) → StandAt ns qs ps → length qs ≡ length ps
stand_long ns [] [] h = refl
stand_long ns [] (p ∷ ps) h = absurd h
stand_long ns (q ∷ qs) [] h = absurd h
stand_long ns (q ∷ qs) (p ∷ ps) h = ap suc (stand_long ns qs ps h.1)

module _ (bills : List (Name × Name)) (ns : List Name) (ups downs : List (List ℕ)) (g : IsGraph bills ns ups downs) (levels : List (Option ℕ)) (s : HasSteps ups levels)
    (places : List ℕ) (names : List Name) (stand : StandAt ns places names) where
  pub levels_are : (found : List (ℕ × Name)) → HoldsLevels levels places names found → AreLevels bills names (map (λ (pair : ℕ × Name). (pair.1, pair.0)) found)
  levels_are found h = record {
    ordered = h.order;
    members = λ n. (
      (λ there.
          let w = in_at names n (in_contained names n there) in
          let p = stand_index ns places names stand w.0 n w.1 in
          let held = h.has w.0 p.0 n (inside names w.0 n w.1) p.1 w.1 in
          contained_in (map (λ (pair : Name × ℕ). pair.0) (map (λ (pair : ℕ × Name). (pair.1, pair.0)) found)) n (held_pair found (held.0, n) held.2)),
      (λ there.
          let w = name_in found n (in_contained (map (λ (pair : Name × ℕ). pair.0) (map (λ (pair : ℕ × Name). (pair.1, pair.0)) found)) n there) in
          let o = h.only w.0 n w.1 in
          contained_in names n (at_in names o.0 n o.3)),
    );
    each = each_held (λ l n. level (as_records bills) n ≡ Some l) found (λ l n held.
        let o = h.only l n held in
        let p = stand_index ns places names stand o.0 n o.3 in
        let one : Some p.0 ≡ Some o.1 = sym p.1 ∙ o.2 in
        let same : p.0 ≡ o.1 = cc in
        sym (level_is bills ns ups downs g levels s p.0 n p.2) ∙ ap (level_at levels) same ∙ o.4);
  }

  -- a place that lacks a level is that of a name without one
  pub lacking : LacksLevel levels places → (n : Name) × IsIn n names × (level (as_records bills) n ≡ None)
  lacking w = let p = stand_at_index ns places names stand w.0 w.1 w.2 in (p.0, at_in names w.0 p.0 p.1, sym (level_is bills ns ups downs g levels s w.1 p.0 p.2) ∙ w.3)
