-- The parts of a walk are made one after another.
use Rattle.std.proofs.Common.{◌≡◌, ℕ, zero, suc, ◌+◌, ◌<◌, inl, inr, List, [], ◌∷◌, ◌++◌, length, take, refl, sym, ◌∙◌, ap, subst, arith, false, add-one}
use Rattle.std.specs.Prelude.{Some, slice_get, option_map, Contains}
use Rattle.std.specs.List.{AllByRecursion}
use Rattle.plan_schema.specs.declared.name.Name.{Name}
use Rattle.plan_schema.specs.declared.change.CellName.TheVariants as names
use Rattle.plan_schema.specs.Key.{name_eq}
use Rattle.planning_rules.specs.Bills.{parents}
use Rattle.planning_rules.proofs.Membership.{in_contained}
use Rattle.low_level_codes.specs.Numbers.{Lacks, Numbers}
use Rattle.low_level_codes.proofs.Numbered.{kept, stand_kept}
use Rattle.walk_rules.specs.Cells.{Cells, records, version_in}
use Rattle.plan_walk.specs.declared.node.Node.{Node}
use Rattle.plan_walk.specs.Places.{AreDistinct, StandAt}
use Rattle.plan_walk.specs.Nodes.{node_names, ups_at, Fits}
use Rattle.plan_walk.specs.Making.{Bare, bare, bares, IsKeyed, IsNew, Joins, AreMade}
use Rattle.plan_walk.proofs.Places.{each_at}
use Rattle.plan_walk.proofs.LookUps.{there, inside}
use Rattle.plan_walk.proofs.SoFar.{names_long, name_there, ups_there}
use Rattle.plan_walk.proofs.Taking.{get_map, take_next}
use Rattle.plan_walk.proofs.Fronts.{one_place}
use Rattle.plan_walk.proofs.Joining.{all_last, all_more, names_joined, bares_joined, graph_joined}
use Rattle.plan_walk.proofs.Ordered.{in_at}

-- a name that stands there has a place
pub not_lacking : (ns : List Name) (p : Name) → Contains ns p → Lacks ns p → ⊥
not_lacking ns p has lacks = let w = in_at ns p (in_contained ns p has) in lacks w.0 w.1

-- places at which names stand are places
pub stand_low : (ns : List Name) (qs : List ℕ) (ps : List Name) → StandAt ns qs ps → AllByRecursion (λ q. q < length ns) qs
stand_low ns [] [] h = tt
stand_low ns [] (p ∷ ps) h = absurd h
stand_low ns (q ∷ qs) [] h = absurd h
stand_low ns (q ∷ qs) (p ∷ ps) h = (inside ns q p h.0, stand_low ns qs ps h.1)

distinct_first : (ns : List Name) (i : ℕ) → AreDistinct ns → AreDistinct (take i ns)
distinct_first ns zero d = tt
distinct_first [] (suc i) d = tt
distinct_first (n ∷ ns) (suc i) d = (firsts (λ m. name_eq n m ≡ false) ns i d.0, distinct_first ns i d.1)
  where
    firsts : (P : Name → Type 0) (ns : List Name) (i : ℕ) → AllByRecursion P ns → AllByRecursion P (take i ns)
    firsts P ns zero h = tt
    firsts P [] (suc i) h = tt
    firsts P (m ∷ ms) (suc i) h = (h.0, firsts P ms i h.1)

taken_from : (ns : List Name) (i k : ℕ) (n : Name) → slice_get (take i ns) k ≡ Some n → (k < i) × (slice_get ns k ≡ Some n)
taken_from ns zero k n at = absurd (let never : ⊥ = cc in never)
taken_from [] (suc i) k n at = absurd (let never : ⊥ = cc in never)
taken_from (m ∷ ms) (suc i) zero n at = (omega arith, at)
taken_from (m ∷ ms) (suc i) (suc k) n at = let w = taken_from ms i k n at in let less = w.0 in (omega arith, w.1)

-- the numbers of the names so far are their places
pub numbers_more : (ns old new : List Name) (i place : ℕ) (n : Name) → AreDistinct ns → slice_get ns i ≡ Some n → old ≡ take i ns → slice_get new place ≡ Some n → Numbers old n new → new ≡ take (i + 1) ns
numbers_more ns old new i place n d at is stands (inr more) = more.0 ∙ ap (λ ms. ms ++ n ∷ []) is ∙ sym (take_next ns i n at) ∙ ap (λ k. take k ns) (sym (add-one i))
numbers_more ns old new i place n d at is stands (inl same) =
    let w = taken_from ns i place n (ap (λ ms. slice_get ms place) (sym (same ∙ is)) ∙ stands) in
    let less = w.0 in
    let one : place ≡ i = one_place ns place i n d w.1 at in
    absurd (omega arith)

pub made_begins : (cells : Cells) (ns : List Name) → AreMade cells (take 0 ns) []
made_begins cells ns = record {
  named = refl;
  graph = record { distinct = tt; before = λ i. tt; below = λ i k h. cc; after = λ i. tt };
  keyed = tt;
}

keyed_kept : (cells : Cells) (ns more : List Name) (b : Bare) → IsKeyed cells ns b → IsKeyed cells (ns ++ more) b
keyed_kept cells ns more b k = record {
  part = k.part;
  calendar = k.calendar;
  stand = stand_kept ns (ns ++ more) (kept ns more) b.ups (parents (records cells) b.name) k.stand;
}

pub made_more : (cells : Cells) (all : List Name) (i : ℕ) (n : Name) (old new : List Node) (node : Node) → AreDistinct all → slice_get all i ≡ Some n → AreMade cells (take i all) old → IsNew cells (take i all) n node → Joins old node new
    → AreMade cells (take (i + 1) all) new
made_more cells all i n old new node d at made is joins =
    subst (AreMade cells (take (i + 1) all)) (sym joins.appended) (subst (λ ms. AreMade cells ms (joins.now ++ node ∷ [])) next parts)
  where
    next : take i all ++ n ∷ [] ≡ take (i + 1) all
    next = sym (take_next all i n at) ∙ ap (λ k. take k all) (sym (add-one i))

    its_names : node_names old ++ node.name ∷ [] ≡ take i all ++ n ∷ []
    its_names = λ j. made.named j ++ is.named j ∷ []

    low : AllByRecursion (λ q. q < length old) node.ups.items
    low = subst (λ k. AllByRecursion (λ q. q < k) node.ups.items) (sym (ap length made.named) ∙ names_long old) (stand_low (take i all) node.ups.items (parents (records cells) node.name) is.keyed.stand)

    parts : AreMade cells (take i all ++ n ∷ []) (joins.now ++ node ∷ [])
    parts = record {
      named = names_joined old joins.now node joins.linked ∙ its_names;
      graph = graph_joined old joins.now node joins.linked made.graph (subst AreDistinct (sym (its_names ∙ next)) (distinct_first all (i + 1) d)) low is.alone;
      keyed = subst (AllByRecursion (IsKeyed cells (take i all ++ n ∷ []))) (sym (bares_joined old joins.now node joins.linked))
          (all_last (IsKeyed cells (take i all ++ n ∷ [])) (bares old) (bare node)
          (all_more (IsKeyed cells (take i all)) (IsKeyed cells (take i all ++ n ∷ [])) (keyed_kept cells (take i all) (n ∷ [])) (bares old) made.keyed)
          (keyed_kept cells (take i all) (n ∷ []) (bare node) is.keyed));
    }

-- parts of names fit their cells
pub made_fits : (cells : Cells) (ns : List Name) (nodes : List Node) → AreMade cells ns nodes → Fits cells (version_in cells names.Plan) nodes
made_fits cells ns nodes made = record {
  plan_is = refl;
  keyed = λ i node is. let k = keyed_at i node is in (k.part, k.calendar);
  above = λ i n at.
      let less : i < length nodes = subst (λ m. i < m) (names_long nodes) (inside (node_names nodes) i n at) in
      let node = there nodes i less in
      let one : Some node.0.name ≡ Some n = sym (name_there nodes i node.0 node.1) ∙ at in
      let named : node.0.name ≡ n = cc in
      let k = keyed_at i node.0 node.1 in
      subst (λ m. StandAt (node_names nodes) (ups_at nodes i) (parents (records cells) m)) named
      (subst (λ qs. StandAt (node_names nodes) qs (parents (records cells) node.0.name)) (sym (ups_there nodes i node.0 node.1)) (subst (λ ms. StandAt ms node.0.ups.items (parents (records cells) node.0.name)) (sym made.named) k.stand));
}
  where
    keyed_at : (i : ℕ) (node : Node) → slice_get nodes i ≡ Some node → IsKeyed cells ns (bare node)
    keyed_at i node is = each_at (IsKeyed cells ns) (bares nodes) i (bare node) made.keyed (get_map bare nodes i ∙ ap (option_map bare) is)
