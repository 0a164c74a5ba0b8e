-- What is reached upward from places is the ancestors of the names there.
use Rattle.std.proofs.Common.{◌≡◌, ℕ, zero, suc, ◌<◌, ◌≤◌, ◌⊎◌, inl, inr, List, [], ◌∷◌, length, refl, sym, ◌∙◌, ap, subst, arith, Bool, true, false, ◌||◌}
use Rattle.std.specs.Prelude.{Option, Some, None, slice_get, Contains}
use Rattle.std.specs.List.{list_any, AllByRecursion}
use Rattle.plan_schema.specs.declared.name.Name.{Name}
use Rattle.plan_schema.specs.Key.{name_eq}
use Rattle.plan_schema.specs.Contents.{Contents}
use Rattle.planning_rules.specs.Bills.{parents, is_above, is_ancestor, longest_chain}
use Rattle.planning_rules.specs.Refused.{is_cyclic}
use Rattle.planning_rules.proofs.Membership.{IsIn, all_in, all_map, in_contained, contained_in, or_left, or_right, either, any_in, which}
use Rattle.planning_rules.proofs.AncestorLaws.{chains_are_short}
use Rattle.planning_rules.proofs.LevelLaws.{same_name, one_name}
use Rattle.low_level_codes.specs.Levels.{as_records, IsClosure, AreClosed}
use Rattle.low_level_codes.specs.Graphs.{at, marked, IsAt, IsUpward, IsReach}
use Rattle.low_level_codes.specs.Numbers.{StandAt, IsGraph, holds}
use Rattle.low_level_codes.proofs.Places.{never}
use Rattle.low_level_codes.proofs.Numbered.{inside, at_past}

-- ancestors ------------------------------------------------------------------------------------------------------------------

pub parent_above : (c : Contents) (n p : Name) → IsIn p (parents c n) → is_ancestor c n p ≡ true
parent_above c n p i = chains_are_short c n p 1 (any_in (λ q. name_eq q p || is_above 0 c q p) p (parents c n) i (ap (λ b. b || false) (same_name p)))

-- a parent of an ancestor is one
then_parent : (c : Contents) (k : ℕ) (m n p : Name) → is_above k c m n ≡ true → IsIn p (parents c n) → is_above (suc k) c m p ≡ true
then_parent c zero m n p h i = never h
then_parent c (suc k) m n p h i =
    let w = which (λ x. name_eq x n || is_above k c x n) (parents c m) h in
    any_in (λ x. name_eq x p || is_above (suc k) c x p) w.0 (parents c m) w.1
    (or_right (name_eq w.0 p) (is_above (suc k) c w.0 p)
    (elim (either (name_eq w.0 n) (is_above k c w.0 n) w.2) [
      | inl same ↦ any_in (λ x. name_eq x p || is_above k c x p) p (parents c w.0) (subst (λ x. IsIn p (parents c x)) (sym (one_name w.0 n same)) i) (or_left (name_eq p p) (is_above k c p p) (same_name p))
      | inr more ↦ then_parent c k w.0 n p more i
    ]))

pub ancestor_parent : (c : Contents) (m n p : Name) → is_ancestor c m n ≡ true → IsIn p (parents c n) → is_ancestor c m p ≡ true
ancestor_parent c m n p h i = chains_are_short c m p (suc (longest_chain c)) (then_parent c (longest_chain c) m n p h i)

-- names and places ------------------------------------------------------------------------------------------------------------

pub stand_name : (ns : List Name) (qs : List ℕ) (ps : List Name) (q : ℕ) → StandAt ns qs ps → IsAt q qs → (p : Name) × (slice_get ns q ≡ Some p) × IsIn p ps
stand_name ns [] ps q h i = absurd i
stand_name ns (k ∷ ks) [] q h i = absurd h
stand_name ns (k ∷ ks) (r ∷ rs) q h (inl e) = (r, subst (λ j. slice_get ns j ≡ Some r) e h.0, inl refl)
stand_name ns (k ∷ ks) (r ∷ rs) q h (inr i) = let w = stand_name ns ks rs q h.1 i in (w.0, w.1, inr w.2)

pub stand_place : (ns : List Name) (qs : List ℕ) (ps : List Name) (p : Name) → StandAt ns qs ps → IsIn p ps → (q : ℕ) × (slice_get ns q ≡ Some p) × IsAt q qs
stand_place ns [] [] p h i = absurd i
stand_place ns [] (r ∷ rs) p h i = absurd h
stand_place ns (k ∷ ks) [] p h i = absurd i
stand_place ns (k ∷ ks) (r ∷ rs) p h (inl e) = (k, h.0 ∙ ap Some e, inl refl)
stand_place ns (k ∷ ks) (r ∷ rs) p h (inr i) = let w = stand_place ns ks rs p h.1 i in (w.0, w.1, inr w.2)

pub held_in : (ns : List Name) (n : Name) → holds ns n ≡ true → IsIn n ns
held_in ns n h = let w = which (λ m. name_eq n m) ns h in subst (λ m. IsIn m ns) (sym (one_name n w.0 w.2)) w.1

pub in_held : (ns : List Name) (n : Name) → IsIn n ns → holds ns n ≡ true
in_held ns n i = any_in (λ m. name_eq n m) n ns i (same_name n)

pub beyond : (ns : List Name) (i : ℕ) → slice_get ns i ≡ None → length ns ≤ i
beyond [] i is = omega arith
beyond (m ∷ ms) zero is = cc
beyond (m ∷ ms) (suc i) is = let more = beyond ms i is in omega arith

-- a test of the name at a place; no name passes
unfoldable tested : (Name → Bool) → Option Name → Bool
tested test None = true
tested test (Some n) = test n

module _ (bills : List (Name × Name)) (ns : List Name) (ups downs : List (List ℕ)) (g : IsGraph bills ns ups downs) where
  -- a test that parents of passing names pass is closed upward
  upward_test : (test : Name → Bool) → ((n p : Name) → test n ≡ true → IsIn p (parents (as_records bills) n) → test p ≡ true)
      → (i q : ℕ) → tested test (slice_get ns i) ≡ true → IsAt q (at ups i) → tested test (slice_get ns q) ≡ true
  unfolding tested
  upward_test test more i q h up = by_cases (slice_get ns i) refl h
    where
      by_cases : (o : Option Name) → slice_get ns i ≡ o → tested test o ≡ true → tested test (slice_get ns q) ≡ true
      by_cases (Some n) is h = let w = stand_name ns (at ups i) (parents (as_records bills) n) q (g.stand i n is) up in ap (tested test) w.1 ∙ more n w.0 h w.2
      by_cases None is h = absurd (subst (IsAt q) (at_past ups i (let past = beyond ns i is in let whole = g.whole in omega arith)) up)

  -- what is above a marked place is marked
  pub reach_above : (seen : ℕ → Bool) → ((i q : ℕ) → seen i ≡ true → IsAt q (at ups i) → seen q ≡ true) → (k i : ℕ) (m n : Name) → slice_get ns i ≡ Some m → seen i ≡ true
      → is_above k (as_records bills) m n ≡ true → (j : ℕ) × (slice_get ns j ≡ Some n) × (seen j ≡ true)
  reach_above seen closed zero i m n is h above = never above
  reach_above seen closed (suc k) i m n is h above =
      let w = which (λ x. name_eq x n || is_above k (as_records bills) x n) (parents (as_records bills) m) above in
      let p = stand_place ns (at ups i) (parents (as_records bills) m) w.0 (g.stand i m is) w.1 in
      elim (either (name_eq w.0 n) (is_above k (as_records bills) w.0 n) w.2) [
        | inl same ↦ (p.0, p.1 ∙ ap Some (one_name w.0 n same), closed i p.0 h p.2)
        | inr more ↦ reach_above seen closed k p.0 w.0 n p.1 (closed i p.0 h p.2) more
      ]

  module _ (places : List ℕ) (from : List Name) (stand : StandAt ns places from) (seen : List Bool) (r : IsReach ups places seen) where
    unfoldable among : Name → Bool
    among n = holds from n || list_any (λ m. is_ancestor (as_records bills) m n) from

    -- a marked place has one of the names or an ancestor of one
    pub closure_only : (k : ℕ) (n : Name) → slice_get ns k ≡ Some n → marked seen k ≡ true → Contains from n ⊎ (list_any (λ m. is_ancestor (as_records bills) m n) from ≡ true)
    unfolding tested among
    closure_only k n is h =
        let c = as_records bills in
        let up : IsUpward ups places (λ q. tested among (slice_get ns q)) = record {
          begins = λ q i. let w = stand_name ns places from q stand i in ap (tested among) w.1 ∙ or_left (holds from w.0) (list_any (λ m. is_ancestor c m w.0) from) (in_held from w.0 w.2);
          closed = upward_test among (λ m p h i. elim (either (holds from m) (list_any (λ x. is_ancestor c x m) from) h) [
            | inl here ↦ or_right (holds from p) (list_any (λ x. is_ancestor c x p) from) (any_in (λ x. is_ancestor c x p) m from (held_in from m here) (parent_above c m p i))
            | inr above ↦ let w = which (λ x. is_ancestor c x m) from above in or_right (holds from p) (list_any (λ x. is_ancestor c x p) from) (any_in (λ x. is_ancestor c x p) w.0 from w.1 (ancestor_parent c w.0 m p w.2 i))
          ]);
        } in
        let passes : among n ≡ true = sym (ap (tested among) is) ∙ r.least (λ q. tested among (slice_get ns q)) up k h in
        elim (either (holds from n) (list_any (λ m. is_ancestor c m n) from) passes) [
          | inl here ↦ inl (contained_in from n (held_in from n here))
          | inr above ↦ inr above
        ]

    -- and each of them stands at a marked place
    pub closure_has : (n : Name) → Contains from n ⊎ (list_any (λ m. is_ancestor (as_records bills) m n) from ≡ true) → (k : ℕ) × (slice_get ns k ≡ Some n) × (marked seen k ≡ true)
    closure_has n (inl here) = let p = stand_place ns places from n stand (in_contained from n here) in (p.0, p.1, r.upward.begins p.0 p.2)
    closure_has n (inr above) =
        let w = which (λ m. is_ancestor (as_records bills) m n) from above in
        let p = stand_place ns places from w.0 stand w.1 in
        reach_above (marked seen) r.upward.closed (longest_chain (as_records bills)) p.0 w.0 n p.1 (r.upward.begins p.0 p.2) w.2

  -- a name that is its own ancestor stands in each set that holds the places above its own and is closed upward
  pub own_in : (i : ℕ) (n : Name) → slice_get ns i ≡ Some n → (seen : ℕ → Bool) → IsUpward ups (at ups i) seen → is_cyclic (as_records bills) n ≡ true → seen i ≡ true
  own_in i n is seen up h =
      let c = as_records bills in
      let k = suc (length c) in
      let w = which (λ x. name_eq x n || is_above k c x n) (parents c n) h in
      let p = stand_place ns (at ups i) (parents c n) w.0 (g.stand i n is) w.1 in
      let here = up.begins p.0 p.2 in
      elim (either (name_eq w.0 n) (is_above k c w.0 n) w.2) [
        | inl same ↦ subst (λ j. seen j ≡ true) (g.apart p.0 i n (p.1 ∙ ap Some (one_name w.0 n same)) is) here
        | inr more ↦ let found = reach_above seen up.closed k p.0 w.0 n p.1 here more in subst (λ j. seen j ≡ true) (g.apart found.0 i n found.1 is) found.2
      ]

  -- what is reached from the places above a place has it where its name is its own ancestor
  module _ (i : ℕ) (n : Name) (is : slice_get ns i ≡ Some n) (seen : List Bool) (r : IsReach ups (at ups i) seen) where
    pub own_only : marked seen i ≡ true → is_cyclic (as_records bills) n ≡ true
    unfolding tested
    own_only h =
        let c = as_records bills in
        let up : IsUpward ups (at ups i) (λ q. tested (is_ancestor c n) (slice_get ns q)) = record {
          begins = λ q j. let w = stand_name ns (at ups i) (parents c n) q (g.stand i n is) j in ap (tested (is_ancestor c n)) w.1 ∙ parent_above c n w.0 w.2;
          closed = upward_test (is_ancestor c n) (λ m p h j. ancestor_parent c n m p h j);
        } in
        sym (ap (tested (is_ancestor c n)) is) ∙ r.least (λ q. tested (is_ancestor c n) (slice_get ns q)) up i h

    pub own_has : is_cyclic (as_records bills) n ≡ true → marked seen i ≡ true
    own_has h = own_in i n is (marked seen) r.upward h

pub places_within : (ns : List Name) (qs : List ℕ) (ps : List Name) → StandAt ns qs ps → AllByRecursion (λ q. q < length ns) qs
places_within ns [] ps h = tt
places_within ns (q ∷ qs) [] h = absurd h
places_within ns (q ∷ qs) (p ∷ ps) h = (inside ns q p h.0, places_within ns qs ps h.1)

-- the names and all their ancestors hold the parents of each of them
pub closure_closed : (bills : List (Name × Name)) (from closed : List Name) → IsClosure bills from closed → AreClosed bills closed
closure_closed bills from closed is =
    all_map (λ n. IsIn n closed) (λ n. AllByRecursion (Contains closed) (parents c n)) (λ n i. all_map (λ p. IsIn p (parents c n)) (Contains closed) (λ p j. (is.members p).1 (inr (one_up n p ((is.members n).0 (contained_in closed n i)) j))) (parents c n) (all_in (parents c n))) closed (all_in closed)
  where
    c : Contents
    c = as_records bills

    one_up : (n p : Name) → Contains from n ⊎ (list_any (λ m. is_ancestor c m n) from ≡ true) → IsIn p (parents c n) → list_any (λ m. is_ancestor c m p) from ≡ true
    one_up n p (inl here) j = any_in (λ m. is_ancestor c m p) n from (in_contained from n here) (parent_above c n p j)
    one_up n p (inr above) j = let w = which (λ m. is_ancestor c m n) from above in any_in (λ m. is_ancestor c m p) w.0 from w.1 (ancestor_parent c w.0 n p w.2 j)
