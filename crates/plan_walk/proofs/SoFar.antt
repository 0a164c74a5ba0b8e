-- The loop over the parts that wait.
use Rattle.std.proofs.Common.{◌≡◌, ℕ, zero, suc, ◌+◌, ◌-◌, ◌<◌, ◌≤◌, ◌⊎◌, inl, inr, List, [], ◌∷◌, ◌++◌, length, set, get_or, refl, sym, ◌∙◌, ap, subst, arith, Bool, true, false, ◌||◌, ◌==◌, length-set}
use Rattle.std.specs.Ordering.{is_eq}
use Rattle.std.specs.Cmp.{tied_itself, nat_cmp_total}
use Rattle.std.proofs.lemmas.Bool.Decides.{nat_tests}
use Rattle.std.specs.Prelude.{Option, Some, slice_get, unwrap_or}
use Rattle.std.specs.List.{AllByRecursion, list_any}
use Rattle.std.specs.Map.{lookup}
use Rattle.plan_schema.specs.declared.name.Name.{Name}
use Rattle.planning_rules.specs.Plan.{Known}
use Rattle.shared_memo.specs.Pairs.{in_front}
use Rattle.record_versions.specs.declared.version.VersionId.{VersionId}
use Rattle.walk_rules.specs.Cells.{Cells, records}
use Rattle.walk_rules.specs.Memo.{Pairs, key_of, key_eq}
use Rattle.walk_rules.specs.Walks.{with_hits, frontier}
use Rattle.plan_walk.specs.declared.node.Node.{Node}
use Rattle.plan_walk.specs.Places.{parts_of, ready_at, lists_at}
use Rattle.plan_walk.specs.Nodes.{node_names, ups_at, downs_at, node_key, IsGraph, Fits, state_of, names_at}
use Rattle.plan_walk.specs.Waiting.{waits}
use Rattle.plan_walk.specs.LookUps.{IsHit, IsMissed}
use Rattle.std.proofs.lemmas.Map.Views.{exact_unsigned_eq}
use Rattle.planning_rules.proofs.Membership.{either}
use Rattle.plan_walk.proofs.Places.{newly_ready, names_place}
use Rattle.plan_walk.proofs.LookUps.{Going, going_to, going_missed, going_hit, going_home, inside}

-- before the place j all has been looked up, and the ready parts from it on wait
pub record SoFar (plan : VersionId) (nodes : List Node) (start now : List (Option Known)) (first pairs : Pairs) (front waiting : List ℕ) (reused : ℕ) : Type 0 where
  pub j : ℕ
  pub few : reused ≤ j
  pub within : j ≤ length nodes
  pub whole : length now ≡ length nodes
  pub later : (q : ℕ) → waits waiting q ≡ true → (j ≤ q) × (q < length nodes)
  pub all : (q : ℕ) → j ≤ q → q < length nodes → ready_at (ups_at nodes q) now q ≡ true → waits waiting q ≡ true
  pub going : (cells : Cells) (netted before : ℕ) → Fits cells plan nodes → Going cells (node_names nodes) (state_of nodes start first netted before) j now pairs (before + reused) (names_at (node_names nodes) front)

-- the least of the places that wait is taken out
pub record Takes (waiting : List ℕ) (place : ℕ) (left : List ℕ) : Type 0 where
  pub here : waits waiting place ≡ true
  pub later : (q : ℕ) → waits left q ≡ true → place < q
  pub stays : (q : ℕ) → waits waiting q ≡ true → (waits left q ≡ true) ⊎ (q ≡ place)
  pub alone : (q : ℕ) → waits left q ≡ true → waits waiting q ≡ true

-- nodes ---------------------------------------------------------------------------------------------------------------------

pub names_long : (nodes : List Node) → length (node_names nodes) ≡ length nodes
names_long [] = refl
names_long (node ∷ nodes) = ap suc (names_long nodes)

pub name_there : (nodes : List Node) (i : ℕ) (node : Node) → slice_get nodes i ≡ Some node → slice_get (node_names nodes) i ≡ Some node.name
name_there [] i node is = absurd (let never : ⊥ = cc in never)
name_there (other ∷ nodes) zero node is = let same : other ≡ node = cc in ap (λ (n : Node). Some n.name) same
name_there (other ∷ nodes) (suc i) node is = name_there nodes i node is

pub ups_there : (nodes : List Node) (i : ℕ) (node : Node) → slice_get nodes i ≡ Some node → ups_at nodes i ≡ node.ups.items
ups_there [] i node is = absurd (let never : ⊥ = cc in never)
ups_there (other ∷ nodes) zero node is = let same : other ≡ node = cc in ap (λ (n : Node). n.ups.items) same
ups_there (other ∷ nodes) (suc i) node is = ups_there nodes i node is

pub downs_there : (nodes : List Node) (i : ℕ) (node : Node) → slice_get nodes i ≡ Some node → downs_at nodes i ≡ node.downs.items
downs_there [] i node is = absurd (let never : ⊥ = cc in never)
downs_there (other ∷ nodes) zero node is = let same : other ≡ node = cc in ap (λ (n : Node). n.downs.items) same
downs_there (other ∷ nodes) (suc i) node is = downs_there nodes i node is

pub names_more : (ns : List Name) (front : List ℕ) (place : ℕ) (n : Name) → slice_get ns place ≡ Some n → names_at ns (front ++ place ∷ []) ≡ names_at ns front ++ n ∷ []
names_more ns [] place n is = ap (λ o. unwrap_or o [] ∷ []) is
names_more ns (q ∷ qs) place n is = ap (λ more. unwrap_or (slice_get ns q) [] ∷ more) (names_more ns qs place n is)

pub key_there : (cells : Cells) (plan : VersionId) (nodes : List Node) (i : ℕ) (node : Node) (lists : List (List ℕ)) → Fits cells plan nodes → slice_get nodes i ≡ Some node
    → node_key plan node lists ≡ key_of cells node.name lists
key_there cells plan nodes i node lists fits is =
    let keyed = fits.keyed i node is in
    λ j. record { part = keyed.0 j; calendar = keyed.1 j; plan = fits.plan_is j; releases = lists }

not_true : (b : Bool) → (b ≡ true → ⊥) → b ≡ false
not_true true f = absurd (f refl)
not_true false f = refl

not_itself : (q i : ℕ) → i < q → (q == i) ≡ false
not_itself q i l = grind (arith, nat_tests)

pub each_down : (low high : ℕ) (qs : List ℕ) (q : ℕ) → AllByRecursion (λ k. (low < k) × (k < high)) qs → list_any (λ k. k == q) qs ≡ true → (low < q) × (q < high)
each_down low high [] q all any = cc
each_down low high (r ∷ rs) q all any =
    let again = each_down low high rs q all.1 in
    elim (either (r == q) (list_any (λ k. k == q) rs) any) [
      | inl here ↦ let same : r ≡ q = exact_unsigned_eq r q here in subst (λ k. (low < k) × (k < high)) same all.0
      | inr later ↦ again later
    ]

-- the steps -----------------------------------------------------------------------------------------------------------------

module _ (plan : VersionId) (nodes : List Node) (graph : IsGraph nodes) (start now : List (Option Known)) (first pairs : Pairs) (front waiting : List ℕ) (reused : ℕ)
    (s : SoFar plan nodes start now first pairs front waiting reused) (place : ℕ) (left : List ℕ) (t : Takes waiting place left) where
  pub place_inside : place < length nodes
  place_inside = (s.later place t.here).1

  -- between the last place and this one nothing is ready
  none_between : (k : ℕ) → s.j ≤ k → k < place → ready_at (ups_at nodes k) now k ≡ false
  none_between k low high =
      not_true (ready_at (ups_at nodes k) now k) (λ ready.
      let inside = place_inside in
      elim (t.stays k (s.all k low (omega arith) ready)) [
        | inl still ↦ let after = t.later k still in omega arith
        | inr same ↦ omega arith
      ])

  at_place : (cells : Cells) (netted before : ℕ) → Fits cells plan nodes → Going cells (node_names nodes) (state_of nodes start first netted before) place now pairs (before + reused) (names_at (node_names nodes) front)
  at_place cells netted before fits =
      let here = s.later place t.here in
      let long = names_long nodes in
      going_to cells (node_names nodes) graph.distinct (ups_at nodes) fits.above graph.before (state_of nodes start first netted before) place s.j now pairs (before + reused) (names_at (node_names nodes) front)
      (s.going cells netted before fits) here.0 (omega arith) none_between

  still_waits : (q : ℕ) → place < q → q < length nodes → ready_at (ups_at nodes q) now q ≡ true → waits left q ≡ true
  still_waits q low high ready =
      let here = s.later place t.here in
      elim (t.stays q (s.all q (omega arith) high ready)) [
        | inl still ↦ still
        | inr same ↦ absurd (omega arith)
      ]

  pub step_passed : ready_at (ups_at nodes place) now place ≡ false → SoFar plan nodes start now first pairs front left reused
  step_passed fails = record {
    j = suc place;
    few = let here = s.later place t.here in let few = s.few in omega arith;
    within = let here = place_inside in omega arith;
    whole = s.whole;
    later = λ q h. let after = t.later q h in (omega arith, (s.later q (t.alone q h)).1);
    all = λ q low high ready. still_waits q (omega arith) high ready;
    going = λ cells netted before fits.
        let long = names_long nodes in
        let here = place_inside in
        going_to cells (node_names nodes) graph.distinct (ups_at nodes) fits.above graph.before (state_of nodes start first netted before) (suc place) place now pairs (before + reused) (names_at (node_names nodes) front)
        (at_place cells netted before fits) (omega arith) (omega arith) (λ k low high. let same : place ≡ k = omega arith in subst (λ i. ready_at (ups_at nodes i) now i ≡ false) same fails);
  }

  module _ (node : Node) (is : slice_get nodes place ≡ Some node) (ready : ready_at node.ups.items now place ≡ true) where
    ready_here : ready_at (ups_at nodes place) now place ≡ true
    ready_here = ap (λ ups. ready_at ups now place) (ups_there nodes place node is) ∙ ready

    key_here : (cells : Cells) → Fits cells plan nodes → key_of cells node.name (lists_at now (ups_at nodes place)) ≡ node_key plan node (lists_at now node.ups.items)
    key_here cells fits =
        ap (λ ups. key_of cells node.name (lists_at now ups)) (ups_there nodes place node is) ∙ sym (key_there cells plan nodes place node (lists_at now node.ups.items) fits is)

    pub step_missed : (more : List (Option Known)) (longer after : List ℕ) → IsMissed (node_key plan node (lists_at now node.ups.items)) place pairs now more front longer left after
        → SoFar plan nodes start more first pairs longer after reused
    step_missed more longer after m =
        let so : SoFar plan nodes start now first pairs (front ++ place ∷ []) left reused = record {
          j = suc place;
          few = let here = s.later place t.here in let few = s.few in omega arith;
          within = let here = place_inside in omega arith;
          whole = s.whole;
          later = λ q h. let later = t.later q h in (omega arith, (s.later q (t.alone q h)).1);
          all = λ q low high r. still_waits q (omega arith) high r;
          going = λ cells netted before fits.
              subst (λ f. Going cells (node_names nodes) (state_of nodes start first netted before) (suc place) now pairs (before + reused) f)
              (sym (names_more (node_names nodes) front place node.name (name_there nodes place node is)))
              (going_missed cells (node_names nodes) graph.distinct (ups_at nodes) fits.above graph.before (state_of nodes start first netted before) place node.name now pairs (before + reused) (names_at (node_names nodes) front)
              (at_place cells netted before fits) (name_there nodes place node is) ready_here (ap (λ key. lookup (key_eq key) pairs) (key_here cells fits) ∙ m.none));
        } in
        subst (λ w. SoFar plan nodes start more first pairs longer w reused) (sym m.same_waiting)
        (subst (λ l. SoFar plan nodes start more first pairs l left reused) (sym m.joined)
        (subst (λ k. SoFar plan nodes start k first pairs (front ++ place ∷ []) left reused) (sym m.same) so))

    -- what waits after a hit is later
    pub hit_later : (more : List (Option Known)) (longer after : List ℕ) → IsHit (node_key plan node (lists_at now node.ups.items)) place node.downs.items pairs now more front longer left after
        → (q : ℕ) → waits after q ≡ true → place < q
    hit_later more longer after h q w =
        elim (h.alone q w) [
          | inl was ↦ t.later q was
          | inr down ↦ (each_down place (length nodes) (downs_at nodes place) q (graph.after place) (ap (list_any (λ k. k == q)) (downs_there nodes place node is) ∙ down)).0
        ]

    pub step_hit : (more : List (Option Known)) (longer after : List ℕ) → IsHit (node_key plan node (lists_at now node.ups.items)) place node.downs.items pairs now more front longer left after
        → SoFar plan nodes start more first (in_front (key_eq (node_key plan node (lists_at now node.ups.items))) pairs) longer after (reused + 1)
    step_hit more longer after h =
        let downs = downs_there nodes place node is in
        let so : SoFar plan nodes start (set now place (Some h.value)) first (in_front (key_eq (node_key plan node (lists_at now node.ups.items))) pairs) front after (reused + 1) = record {
          j = suc place;
          few = let here = s.later place t.here in let few = s.few in omega arith;
          within = let here = place_inside in omega arith;
          whole = length-set now place (Some h.value) ∙ s.whole;
          later = λ q w. elim (h.alone q w) [
            | inl was ↦ let later = t.later q was in (omega arith, (s.later q (t.alone q was)).1)
            | inr down ↦ after_place q down
          ];
          all = λ q low high r. elim (newly_ready now place q (Some h.value) (ups_at nodes q) (not_itself q place (omega arith)) r) [
            | inl was ↦ h.stays q (still_waits q (omega arith) high was)
            | inr up ↦ h.all q (ap (list_any (λ k. k == q)) (sym downs) ∙ graph.below place q up)
          ];
          going = λ cells netted before fits.
              let key = key_here cells fits in
              let sums : (before + reused) + 1 ≡ before + (reused + 1) = omega arith in
              subst (λ r. Going cells (node_names nodes) (state_of nodes start first netted before) (suc place) (set now place (Some h.value)) (in_front (key_eq (node_key plan node (lists_at now node.ups.items))) pairs) r (names_at (node_names nodes) front)) sums
              (subst (λ k. Going cells (node_names nodes) (state_of nodes start first netted before) (suc place) (set now place (Some h.value)) (in_front (key_eq k) pairs) ((before + reused) + 1) (names_at (node_names nodes) front)) key
              (going_hit cells (node_names nodes) graph.distinct (ups_at nodes) fits.above graph.before (state_of nodes start first netted before) place node.name h.value now pairs (before + reused) (names_at (node_names nodes) front)
              (at_place cells netted before fits) (name_there nodes place node is) ready_here (ap (λ k. lookup (key_eq k) pairs) key ∙ h.found)));
        } in
        subst (λ l. SoFar plan nodes start more first (in_front (key_eq (node_key plan node (lists_at now node.ups.items))) pairs) l after (reused + 1)) (sym h.same_front)
        (subst (λ k. SoFar plan nodes start k first (in_front (key_eq (node_key plan node (lists_at now node.ups.items))) pairs) front after (reused + 1)) (sym h.learnt) so)
      where
        after_place : (q : ℕ) → list_any (λ k. k == q) node.downs.items ≡ true → (suc place ≤ q) × (q < length nodes)
        after_place q down =
            let w = each_down place (length nodes) (downs_at nodes place) q (graph.after place) (ap (list_any (λ k. k == q)) (downs_there nodes place node is) ∙ down) in
            (omega arith, w.1)

-- the beginning and the end -------------------------------------------------------------------------------------------------

pub begins : (plan : VersionId) (nodes : List Node) (known : List (Option Known)) (pairs : Pairs) (waiting : List ℕ) → length known ≡ length nodes
    → ((q : ℕ) → waits waiting q ≡ true → q < length nodes) → ((q : ℕ) → ready_at (ups_at nodes q) known q ≡ true → q < length nodes → waits waiting q ≡ true)
    → SoFar plan nodes known known pairs pairs [] waiting 0
begins plan nodes known pairs waiting whole inside all = record {
  j = 0;
  few = omega arith;
  within = omega arith;
  whole = whole;
  later = λ q h. (omega arith, inside q h);
  all = λ q low high r. all q r high;
  going = λ cells netted before fits. record {
    within = omega arith;
    whole = whole ∙ sym (names_long nodes);
    state = λ i. record { parts = parts_of (node_names nodes) known; pairs = pairs; netted = netted; reused = add_none before i };
    fronts = refl;
  };
}
  where
    add_none : (before : ℕ) → before ≡ before + 0
    add_none before = omega arith

pub ends : (plan : VersionId) (nodes : List Node) (graph : IsGraph nodes) (start now : List (Option Known)) (first pairs : Pairs) (front waiting : List ℕ) (reused : ℕ)
    → length start ≡ length nodes → SoFar plan nodes start now first pairs front waiting reused → ((q : ℕ) → waits waiting q ≡ false) → (cells : Cells) (netted before : ℕ) → Fits cells plan nodes
    → (with_hits cells (state_of nodes start first netted before) ≡ state_of nodes now pairs netted (before + reused)) × (frontier (records cells) (parts_of (node_names nodes) now) ≡ names_at (node_names nodes) front)
ends plan nodes graph start now first pairs front waiting reused whole s none cells netted before fits =
    let long = names_long nodes in
    let within = s.within in
    let last = going_to cells (node_names nodes) graph.distinct (ups_at nodes) fits.above graph.before (state_of nodes start first netted before) (length (node_names nodes)) s.j now pairs (before + reused) (names_at (node_names nodes) front)
    (s.going cells netted before fits) (omega arith) (omega arith) (λ k low high. not_true (ready_at (ups_at nodes k) now k) (λ ready. let w = s.all k low (omega arith) ready in let n = none k in let never : ⊥ = cc in never)) in
    going_home cells (node_names nodes) graph.distinct (ups_at nodes) fits.above graph.before (state_of nodes start first netted before) now pairs (before + reused) (names_at (node_names nodes) front)
    (names_place (node_names nodes) start (whole ∙ sym long)) last

-- how far the least place that waits is from the end
abbrev pub room : ℕ → List ℕ → ℕ
room n [] = 0
room n (k ∷ ks) = n - k

first_waits : (q : ℕ) (qs : List ℕ) → waits (q ∷ qs) q ≡ true
first_waits q qs = ap (λ o. is_eq o || waits qs q) (tied_itself nat_cmp_total q)

pub shrinks : (n place : ℕ) (waiting left after : List ℕ) → waiting ≡ place ∷ left → place < n → ((q : ℕ) → waits after q ≡ true → place < q) → room n after < room n waiting
shrinks n place waiting left [] order l h = let fits : 0 < n - place = omega arith in subst (λ w. 0 < room n w) (sym order) fits
shrinks n place waiting left (q ∷ qs) order l h = let later = h q (first_waits q qs) in let fits : n - q < n - place = omega arith in subst (λ w. n - q < room n w) (sym order) fits

-- an element by its place
pub at_index : {A : Type 0} (xs : List A) (i : ℕ) (x d : A) → i < length xs → x ≡ get_or xs i d → slice_get xs i ≡ Some x
at_index [] i x d l is = absurd (omega arith)
at_index (y ∷ ys) zero x d l is = ap Some (sym is)
at_index (y ∷ ys) (suc i) x d l is = let short : i < length ys = omega arith in at_index ys i x d short is

-- places below a bound
pub no_places : (n : ℕ) (k q : ℕ) → slice_get (let none : List ℕ = [] in none) k ≡ Some q → q < n
no_places n k q h = absurd (let never : ⊥ = cc in never)

pub places_more : (n : ℕ) (front : List ℕ) (place : ℕ) → place < n → ((k q : ℕ) → slice_get front k ≡ Some q → q < n) → (k q : ℕ) → slice_get (front ++ place ∷ []) k ≡ Some q → q < n
places_more n [] place low all zero q h = let same : place ≡ q = cc in subst (λ p. p < n) same low
places_more n [] place low all (suc k) q h = absurd (let never : ⊥ = cc in never)
places_more n (p ∷ front) place low all zero q h = all 0 q h
places_more n (p ∷ front) place low all (suc k) q h = places_more n front place low (λ j r e. all (suc j) r e) k q h
