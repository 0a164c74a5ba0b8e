-- Results are taken in one after another.
use Rattle.std.proofs.Common.{◌≡◌, ℕ, zero, suc, ◌+◌, List, [], ◌∷◌, ◌++◌, length, map, take, set, refl, sym, ◌∙◌, ap, subst, arith, Bool, true, false, ◌&&◌, ◌==◌, add-one}
use Rattle.std.proofs.lemmas.Bool.{and_parts}
use Rattle.std.proofs.lemmas.Bool.Decides.{nat_tests}
use Rattle.std.specs.Prelude.{Option, Some, None, is_none, option_map, slice_get, unwrap_or}
use Rattle.std.specs.List.{list_all}
use Rattle.plan_schema.specs.declared.name.Name.{Name}
use Rattle.planning_rules.specs.Plan.{Known, has_outcome}
use Rattle.shared_memo.specs.Pairs.{Memo, memo, with_pair}
use Rattle.record_versions.specs.declared.version.VersionId.{VersionId}
use Rattle.walk_rules.specs.declared.key.MemoKey.{MemoKey}
use Rattle.walk_rules.specs.Cells.{Cells, records}
use Rattle.walk_rules.specs.Memo.{Pairs, key_of, key_eq}
use Rattle.walk_rules.specs.Walks.{Took, take_in, drop_one, put, dropped, releases_of}
use Rattle.plan_walk.specs.declared.node.Node.{Node}
use Rattle.plan_walk.specs.Places.{parts_of, known_in, ready_at, lists_at}
use Rattle.plan_walk.specs.Nodes.{node_names, names_at, ups_at, node_key, IsGraph, Fits, state_of}
use Rattle.plan_walk.specs.Results.{IsPut, TakenIn}
use Rattle.plan_walk.proofs.Places.{learn_place, known_elsewhere}
use Rattle.plan_walk.proofs.LookUps.{key_name}
use Rattle.plan_walk.proofs.SoFar.{names_long, name_there, ups_there, key_there}

pub get_map : {A B : Type 0} (f : A → B) (xs : List A) (i : ℕ) → slice_get (map f xs) i ≡ option_map f (slice_get xs i)
get_map f [] i = refl
get_map f (x ∷ xs) zero = refl
get_map f (x ∷ xs) (suc i) = get_map f xs i

pub take_next : {A : Type 0} (xs : List A) (i : ℕ) (x : A) → slice_get xs i ≡ Some x → take (suc i) xs ≡ take i xs ++ x ∷ []
take_next [] i x is = absurd (let never : ⊥ = cc in never)
take_next (y ∷ ys) zero x is = let same : y ≡ x = cc in ap (λ z. z ∷ []) same
take_next (y ∷ ys) (suc i) x is = ap (λ zs. y ∷ zs) (take_next ys i x is)

-- outcomes that stay
pub all_stay : (start now : List (Option Known)) → ((q : ℕ) → has_outcome (known_in start q) ≡ true → known_in now q ≡ known_in start q) → (ups : List ℕ)
    → list_all (λ q. has_outcome (known_in start q)) ups ≡ true → list_all (λ q. has_outcome (known_in now q)) ups ≡ true
all_stay start now stay [] h = refl
all_stay start now stay (q ∷ qs) h =
    let two = and_parts (has_outcome (known_in start q)) (list_all (λ r. has_outcome (known_in start r)) qs) h in
    λ i. and_true (has_outcome (known_in now q)) (list_all (λ r. has_outcome (known_in now r)) qs) (ap has_outcome (stay q two.0) ∙ two.0) (all_stay start now stay qs two.1) i
  where
    and_true : (a b : Bool) → a ≡ true → b ≡ true → (a && b) ≡ true
    and_true true b h k = k
    and_true false b h k = h

pub ready_parts : (ups : List ℕ) (ks : List (Option Known)) (k : ℕ) → ready_at ups ks k ≡ true → (is_none (known_in ks k) ≡ true) × (list_all (λ q. has_outcome (known_in ks q)) ups ≡ true)
ready_parts ups ks k h = and_parts (is_none (known_in ks k)) (list_all (λ q. has_outcome (known_in ks q)) ups) h

pub stays_more : (start now : List (Option Known)) (place : ℕ) (value : Option Known) → ((q : ℕ) → has_outcome (known_in start q) ≡ true → known_in now q ≡ known_in start q) → is_none (known_in start place) ≡ true
    → (q : ℕ) → has_outcome (known_in start q) ≡ true → known_in (set now place value) q ≡ known_in start q
stays_more start now place value stay none q has = by_cases (q == place) refl
  where
    none_has : (o : Option Known) → is_none o ≡ true → has_outcome o ≡ false
    none_has None h = refl
    none_has (Some x) h = cc

    by_cases : (b : Bool) → (q == place) ≡ b → known_in (set now place value) q ≡ known_in start q
    by_cases true is =
        let same : q ≡ place = grind (arith, nat_tests) in
        let lacks : has_outcome (known_in start q) ≡ false = none_has (known_in start q) (ap (λ r. is_none (known_in start r)) same ∙ none) in
        absurd (let never : ⊥ = cc in never)
    by_cases false is = known_elsewhere now place q value is ∙ stay q has

module _ (plan : VersionId) (nodes : List Node) (graph : IsGraph nodes) (front : List ℕ) (results : List (Name × Known)) (names : names_at (node_names nodes) front ≡ map (λ r. r.0) results)
    (at place : ℕ) (node : Node) (r : Name × Known) (here : slice_get front at ≡ Some place) (is : slice_get nodes place ≡ Some node) (result : slice_get results at ≡ Some r) where
  -- the result at a place is that of the part there
  its_name : r.0 ≡ node.name
  its_name =
      let one : slice_get (map (λ (x : Name × Known). x.0) results) at ≡ Some r.0 = get_map (λ (x : Name × Known). x.0) results at ∙ ap (option_map (λ (x : Name × Known). x.0)) result in
      let two : slice_get (names_at (node_names nodes) front) at ≡ Some node.name =
      get_map (λ q. unwrap_or (slice_get (node_names nodes) q) []) front at ∙ ap (option_map (λ q. unwrap_or (slice_get (node_names nodes) q) [])) here
      ∙ ap (λ o. Some (unwrap_or o [])) (name_there nodes place node is) in
      let both : Some r.0 ≡ Some node.name = sym one ∙ ap (λ ns. slice_get ns at) (sym names) ∙ two in
      cc

  stands_there : slice_get (node_names nodes) place ≡ Some r.0
  stands_there = name_there nodes place node is ∙ ap Some (sym its_name)

  module _ (start now : List (Option Known)) (first pairs : Pairs) (most n : ℕ) (whole : length now ≡ length nodes) (s : TakenIn plan nodes start now first pairs most results at n) where
    all_names : length now ≡ length (node_names nodes)
    all_names = whole ∙ sym (names_long nodes)

    learnt : (cells : Cells) (netted before : ℕ) (ps : Pairs)
        → (record { parts = parts_of (node_names nodes) (set now place (Some r.1)); pairs = ps; netted = (netted + at) + 1; reused = before }) ≡ state_of nodes (set now place (Some r.1)) ps (netted + suc at) before
    learnt cells netted before ps = let sums : (netted + at) + 1 ≡ netted + suc at = omega arith in λ i. record { parts = parts_of (node_names nodes) (set now place (Some r.1)); pairs = ps; netted = sums i; reused = before }

    pub taken_dropped : TakenIn plan nodes start (set now place (Some r.1)) first pairs most results (suc at) (n + 1)
    taken_dropped = λ cells netted before fits.
        let step : drop_one (state_of nodes now pairs (netted + at) before) r ≡ state_of nodes (set now place (Some r.1)) pairs (netted + suc at) before =
        (λ i. record { parts = learn_place (node_names nodes) now place r.0 r.1 graph.distinct all_names stands_there i; pairs = pairs; netted = (netted + at) + 1; reused = before })
        ∙ learnt cells netted before pairs in
        subst (λ rs. Took cells most (state_of nodes start first netted before) rs (n + 1) (state_of nodes (set now place (Some r.1)) pairs (netted + suc at) before)) (sym (take_next results at r result))
        (subst (λ t. Took cells most (state_of nodes start first netted before) (take at results ++ r ∷ []) (n + 1) t) step
        (dropped (take at results) n (state_of nodes now pairs (netted + at) before) r (s cells netted before fits)))

    key_same : (cells : Cells) → Fits cells plan nodes → key_of cells r.0 (releases_of (records cells) (parts_of (node_names nodes) now) r.0) ≡ node_key plan node (lists_at now node.ups.items)
    key_same cells fits =
        key_name cells (node_names nodes) graph.distinct (ups_at nodes) fits.above graph.before now all_names place r.0 stands_there
        ∙ (λ i. key_of cells (its_name i) (lists_at now (ups_there nodes place node is i)))
        ∙ sym (key_there cells plan nodes place node (lists_at now node.ups.items) fits is)

    pub taken_put : TakenIn plan nodes start (set now place (Some r.1)) first (with_pair key_eq (memo pairs most) (node_key plan node (lists_at now node.ups.items)) r.1) most results (suc at) n
    taken_put = λ cells netted before fits.
        let after = with_pair key_eq (memo pairs most) (node_key plan node (lists_at now node.ups.items)) r.1 in
        let step : take_in cells most (state_of nodes now pairs (netted + at) before) r ≡ state_of nodes (set now place (Some r.1)) after (netted + suc at) before =
        (λ i. record { parts = learn_place (node_names nodes) now place r.0 r.1 graph.distinct all_names stands_there i; pairs = with_pair key_eq (memo pairs most) (key_same cells fits i) r.1; netted = (netted + at) + 1; reused = before })
        ∙ learnt cells netted before after in
        subst (λ rs. Took cells most (state_of nodes start first netted before) rs n (state_of nodes (set now place (Some r.1)) after (netted + suc at) before)) (sym (take_next results at r result))
        (subst (λ t. Took cells most (state_of nodes start first netted before) (take at results ++ r ∷ []) n t) step
        (put (take at results) n (state_of nodes now pairs (netted + at) before) r (s cells netted before fits)))

long_map : {B C : Type 0} (g : B → C) (xs : List B) → length (map g xs) ≡ length xs
long_map g [] = refl
long_map g (x ∷ xs) = ap suc (long_map g xs)

pub front_long : {A : Type 0} (ns : List Name) (front : List ℕ) (f : A → Name) (results : List A) → names_at ns front ≡ map f results → length front ≡ length results
front_long ns front f results e = sym (long_map (λ q. unwrap_or (slice_get ns q) []) front) ∙ ap length e ∙ long_map f results

pub told_long : {B C : Type 0} (g : B → C) (xs : List B) → length (map g xs) ≡ length xs
told_long g xs = long_map g xs

pub all_taken : {A : Type 0} (xs : List A) → take (length xs) xs ≡ xs
all_taken [] = refl
all_taken (x ∷ xs) = ap (λ ys. x ∷ ys) (all_taken xs)

-- one more result, put or dropped
module _ (plan : VersionId) (nodes : List Node) (graph : IsGraph nodes) (front : List ℕ) (results : List (Name × Known)) (names : names_at (node_names nodes) front ≡ map (λ r. r.0) results)
    (at place : ℕ) (node : Node) (r : Name × Known) (here : slice_get front at ≡ Some place) (is : slice_get nodes place ≡ Some node) (result : slice_get results at ≡ Some r)
    (start now : List (Option Known)) (first : Pairs) (most n m : ℕ) (old new : Memo MemoKey Known) (whole : length now ≡ length nodes) (same_most : old.most ≡ most)
    (s : TakenIn plan nodes start now first old.pairs most results at n) where
  pub taken_next : (b : Bool) → IsPut b (node_key plan node (lists_at now node.ups.items)) r.1 old new → (b ≡ true → m ≡ n + 1) → (b ≡ false → m ≡ n)
      → (after : List (Option Known)) → after ≡ set now place (Some r.1) → TakenIn plan nodes start after first new.pairs most results (at + 1) m
  taken_next true p up same after is_after =
      subst (λ k. TakenIn plan nodes start after first new.pairs most results k m) (sym (add-one at))
      (subst (λ d. TakenIn plan nodes start after first new.pairs most results (suc at) d) (sym (up refl))
      (subst (λ ps. TakenIn plan nodes start after first ps most results (suc at) (n + 1)) (ap (λ (x : Memo MemoKey Known). x.pairs) (sym p))
      (subst (λ ks. TakenIn plan nodes start ks first old.pairs most results (suc at) (n + 1)) (sym is_after)
      (taken_dropped plan nodes graph front results names at place node r here is result start now first old.pairs most n whole s))))
  taken_next false p up same after is_after =
      subst (λ k. TakenIn plan nodes start after first new.pairs most results k m) (sym (add-one at))
      (subst (λ d. TakenIn plan nodes start after first new.pairs most results (suc at) d) (sym (same refl))
      (subst (λ ps. TakenIn plan nodes start after first ps most results (suc at) n)
      (ap (λ k. with_pair key_eq (memo old.pairs k) (node_key plan node (lists_at now node.ups.items)) r.1) (sym same_most) ∙ ap (λ (x : Memo MemoKey Known). x.pairs) (sym p))
      (subst (λ ks. TakenIn plan nodes start ks first (with_pair key_eq (memo old.pairs most) (node_key plan node (lists_at now node.ups.items)) r.1) most results (suc at) n) (sym is_after)
      (taken_put plan nodes graph front results names at place node r here is result start now first old.pairs most n whole s))))
