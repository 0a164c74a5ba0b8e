-- A frontier by names and by places.
use Rattle.std.proofs.Common.{◌≡◌, ℕ, zero, suc, ◌<◌, ◌≤◌, List, [], ◌∷◌, ◌++◌, length, map, take, drop, refl, sym, ◌∙◌, ap, subst, arith, Bool, true, false, cond, ◌==◌, ◌||◌}
use Rattle.std.proofs.lemmas.Bool.Decides.{nat_tests}
use Rattle.std.specs.Prelude.{Option, Some, option_map, slice_get, unwrap_or, filter}
use Rattle.std.specs.List.{list_any}
use Rattle.plan_schema.specs.declared.name.Name.{Name}
use Rattle.plan_schema.specs.Key.{name_eq}
use Rattle.planning_rules.specs.Plan.{Known}
use Rattle.planning_rules.proofs.LevelLaws.{same_name}
use Rattle.record_versions.specs.declared.version.VersionId.{VersionId}
use Rattle.walk_rules.specs.Cells.{Cells, records}
use Rattle.walk_rules.specs.Walks.{is_ready, frontier}
use Rattle.plan_walk.specs.declared.node.Node.{Node}
use Rattle.plan_walk.specs.Places.{parts_of, AreDistinct, ready_at}
use Rattle.plan_walk.specs.Nodes.{node_names, names_at, ups_at, IsGraph, Fits}
use Rattle.plan_walk.proofs.Places.{each_at, names_place}
use Rattle.plan_walk.proofs.LookUps.{there, ready_name}
use Rattle.plan_walk.proofs.SoFar.{names_long}
use Rattle.plan_walk.proofs.Taking.{get_map}

-- what a filter keeps passes, and what passes is kept
passes : {A : Type 0} (p : A → Bool) (xs : List A) (k : ℕ) (x : A) → slice_get (filter p xs) k ≡ Some x → p x ≡ true
passes p [] k x h = absurd (let never : ⊥ = cc in never)
passes {A = A} p (y ∷ ys) k x h = by_cases (p y) refl k h (passes p ys)
  where
    by_cases : (b : Bool) → p y ≡ b → (k : ℕ) → slice_get (cond b (y ∷ filter p ys) (filter p ys)) k ≡ Some x → ((k : ℕ) (x : A) → slice_get (filter p ys) k ≡ Some x → p x ≡ true) → p x ≡ true
    by_cases true e zero o again = let same : y ≡ x = cc in ap p (sym same) ∙ e
    by_cases true e (suc k) o again = again k x o
    by_cases false e k o again = again k x o

kept : {A : Type 0} (p : A → Bool) (xs : List A) (i : ℕ) (x : A) → slice_get xs i ≡ Some x → p x ≡ true → (k : ℕ) × (slice_get (filter p xs) k ≡ Some x)
kept p [] i x is h = absurd (let never : ⊥ = cc in never)
kept p (y ∷ ys) zero x is h =
    let same : y ≡ x = cc in
    let test : p y ≡ true = ap p same ∙ h in
    (0, ap (λ b. slice_get (cond b (y ∷ filter p ys) (filter p ys)) 0) test ∙ ap Some same)
kept p (y ∷ ys) (suc i) x is h = by_cases (p y) (kept p ys i x is h)
  where
    by_cases : (b : Bool) → (k : ℕ) × (slice_get (filter p ys) k ≡ Some x) → (k : ℕ) × (slice_get (cond b (y ∷ filter p ys) (filter p ys)) k ≡ Some x)
    by_cases true w = (suc w.0, w.1)
    by_cases false w = w

-- two places of one name are one
pub one_place : (ns : List Name) (i k : ℕ) (n : Name) → AreDistinct ns → slice_get ns i ≡ Some n → slice_get ns k ≡ Some n → i ≡ k
one_place [] i k n d a b = absurd (let never : ⊥ = cc in never)
one_place (m ∷ ms) zero zero n d a b = refl
one_place (m ∷ ms) zero (suc k) n d a b = absurd (clash m n (each_at (λ x. name_eq m x ≡ false) ms k n d.0 b) (let same : m ≡ n = cc in same))
  where
    clash : (m n : Name) → name_eq m n ≡ false → m ≡ n → ⊥
    clash m n no_eq same = let yes_eq : name_eq m n ≡ true = ap (name_eq m) (sym same) ∙ same_name m in let never : true ≡ false = sym yes_eq ∙ no_eq in cc
one_place (m ∷ ms) (suc i) zero n d a b = absurd (clash m n (each_at (λ x. name_eq m x ≡ false) ms i n d.0 a) (let same : m ≡ n = cc in same))
  where
    clash : (m n : Name) → name_eq m n ≡ false → m ≡ n → ⊥
    clash m n no_eq same = let yes_eq : name_eq m n ≡ true = ap (name_eq m) (sym same) ∙ same_name m in let never : true ≡ false = sym yes_eq ∙ no_eq in cc
one_place (m ∷ ms) (suc i) (suc k) n d a b = ap suc (one_place ms i k n d.1 a b)

any_place : (front : List ℕ) (k q : ℕ) → slice_get front k ≡ Some q → list_any (λ p. p == q) front ≡ true
any_place [] k q h = absurd (let never : ⊥ = cc in never)
any_place (p ∷ front) zero q h = let same : p ≡ q = cc in let test : (p == q) ≡ true = grind (arith, nat_tests) in ap (λ b. b || list_any (λ r. r == q) front) test
any_place (p ∷ front) (suc k) q h = or_right (p == q) (list_any (λ r. r == q) front) (any_place front k q h)
  where
    or_right : (a b : Bool) → b ≡ true → (a || b) ≡ true
    or_right true b e = refl
    or_right false b e = e

from_map : {A B : Type 0} (f : A → B) (xs : List A) (k : ℕ) (y : B) → slice_get (map f xs) k ≡ Some y → (x : A) × (slice_get xs k ≡ Some x) × (f x ≡ y)
from_map f [] k y h = absurd (let never : ⊥ = cc in never)
from_map f (x ∷ xs) zero y h = (x, refl, let same : f x ≡ y = cc in same)
from_map f (x ∷ xs) (suc k) y h = from_map f xs k y h

module _ (cells : Cells) (plan : VersionId) (nodes : List Node) (graph : IsGraph nodes) (fits : Fits cells plan nodes) (ks : List (Option Known)) (whole : length ks ≡ length nodes) (front : List ℕ)
    (places : (k q : ℕ) → slice_get front k ≡ Some q → q < length nodes)
    (exact : names_at (node_names nodes) front ≡ frontier (records cells) (parts_of (node_names nodes) ks)) where
  all_names : length ks ≡ length (node_names nodes)
  all_names = whole ∙ sym (names_long nodes)

  by_names : names_at (node_names nodes) front ≡ filter (is_ready (records cells) (parts_of (node_names nodes) ks)) (node_names nodes)
  by_names = exact ∙ ap (filter (is_ready (records cells) (parts_of (node_names nodes) ks))) (names_place (node_names nodes) ks all_names)

  -- the places of the frontier are ready
  pub front_ready : (k place : ℕ) → slice_get front k ≡ Some place → (place < length nodes) × (ready_at (ups_at nodes place) ks place ≡ true)
  front_ready k place at =
      let low = places k place at in
      let name = there (node_names nodes) place (subst (λ n. place < n) (sym (names_long nodes)) low) in
      let kth : slice_get (names_at (node_names nodes) front) k ≡ Some name.0 =
      get_map (λ q. unwrap_or (slice_get (node_names nodes) q) []) front k ∙ ap (option_map (λ q. unwrap_or (slice_get (node_names nodes) q) [])) at ∙ ap (λ o. Some (unwrap_or o [])) name.1 in (
        low,
        sym (ready_name cells (node_names nodes) graph.distinct (ups_at nodes) fits.above graph.before ks all_names place name.0 name.1)
            ∙ passes (is_ready (records cells) (parts_of (node_names nodes) ks)) (node_names nodes) k name.0 (ap (λ ns. slice_get ns k) (sym by_names) ∙ kth),
      )

  -- and no others are
  pub ready_front : (q : ℕ) → q < length nodes → ready_at (ups_at nodes q) ks q ≡ true → list_any (λ k. k == q) front ≡ true
  ready_front q low ready =
      let name = there (node_names nodes) q (subst (λ n. q < n) (sym (names_long nodes)) low) in
      let is : is_ready (records cells) (parts_of (node_names nodes) ks) name.0 ≡ true = ready_name cells (node_names nodes) graph.distinct (ups_at nodes) fits.above graph.before ks all_names q name.0 name.1 ∙ ready in
      let w = kept (is_ready (records cells) (parts_of (node_names nodes) ks)) (node_names nodes) q name.0 name.1 is in
      let p = from_map (λ r. unwrap_or (slice_get (node_names nodes) r) []) front w.0 name.0 (ap (λ ns. slice_get ns w.0) by_names ∙ w.1) in
      let other = there (node_names nodes) p.0 (subst (λ n. p.0 < n) (sym (names_long nodes)) (places w.0 p.0 p.1)) in
      let same : slice_get (node_names nodes) p.0 ≡ Some name.0 = other.1 ∙ ap Some (ap (λ o. unwrap_or o []) (sym other.1) ∙ p.2) in
      subst (λ r. list_any (λ k. k == r) front ≡ true) (one_place (node_names nodes) p.0 q name.0 graph.distinct same name.1) (any_place front w.0 p.0 p.1)

-- a list that was written back whole
pub written : {A : Type 0} (xs ys : List A) (n : ℕ) → length ys ≡ n → length xs ≡ length ys → take n (xs ++ drop (length xs) ys) ≡ xs
written xs ys n long same = ap (λ zs. take n (xs ++ zs)) (drop_all ys (length xs) (omega arith)) ∙ ap (take n) (append_none xs) ∙ take_long xs n (omega arith)
  where
    drop_all : {A : Type 0} (zs : List A) (k : ℕ) → length zs ≤ k → drop k zs ≡ []
    drop_all [] zero l = refl
    drop_all [] (suc k) l = refl
    drop_all (z ∷ zs) zero l = absurd (omega arith)
    drop_all (z ∷ zs) (suc k) l = let short : length zs ≤ k = omega arith in drop_all zs k short

    append_none : {A : Type 0} (zs : List A) → zs ++ [] ≡ zs
    append_none [] = refl
    append_none (z ∷ zs) = ap (λ ws. z ∷ ws) (append_none zs)

    take_long : {A : Type 0} (zs : List A) (k : ℕ) → length zs ≤ k → take k zs ≡ zs
    take_long [] zero l = refl
    take_long [] (suc k) l = refl
    take_long (z ∷ zs) zero l = absurd (omega arith)
    take_long (z ∷ zs) (suc k) l = let short : length zs ≤ k = omega arith in ap (λ ws. z ∷ ws) (take_long zs k short)
