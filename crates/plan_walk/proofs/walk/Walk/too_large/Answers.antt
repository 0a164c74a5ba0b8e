use Rattle.std.proofs.Common.{◌≡◌, ℕ, Bool, List, [], ◌∙◌, ap, sym, subst, refl, length, Some}
use Rattle.std.specs.Prelude.{slice_get}
use Rattle.std.specs.List.{AllByRecursion}
use Rattle.plan_schema.specs.declared.name.Name.{Name}
use Rattle.planning_rules.specs.Plan.{plan}
use Rattle.planning_rules.specs.Refused.{is_large, least_name}
use Rattle.walk_rules.specs.Cells.{records}
use Rattle.walk_rules.specs.Rights.{AreRight}
use Rattle.walk_rules.specs.Walks.{names_of, frontier, IsSettled}
use Rattle.walk_rules.specs.Works.{AreUpward}
use Rattle.plan_walk.specs.declared.node.Node.{Node}
use Rattle.plan_walk.specs.Places.{known_in, parts_of}
use Rattle.plan_walk.specs.Nodes.{node_names, names_at, shown}
use Rattle.plan_walk.specs.View.{View}
use Rattle.plan_walk.specs.Walk.{round_of}
use Rattle.plan_walk.proofs.Places.{each_at, known_place, names_place}
use Rattle.plan_walk.proofs.Shown.{shown_long}
use Rattle.plan_walk.proofs.SoFar.{names_long}
use Rattle.plan_walk.proofs.Ends.{upward, ends_settled}
use Rattle.plan_walk.proofs.Larges.{large_same}
use Rattle.plan_walk.proofs.walk.Walk.too_large.Goals as goal

pub returns : goal.returns
returns c =
    let nodes = c.self.inside.nodes.items in
    let known = c.self.inside.known.items in
    let r = records c.self.inside.job.cells in
    let parts = parts_of (node_names nodes) (shown known) in
    let front = names_at (node_names nodes) c.self.inside.front.items in
    let w : View = record { job = c.self.inside.job; parts = parts; front = front } in
    let long : length (shown known) ≡ length (node_names nodes) = shown_long known ∙ c.self.invariant.whole ∙ sym (names_long nodes) in
    let names : names_of parts ≡ node_names nodes = names_place (node_names nodes) (shown known) long in
    let right : AreRight r parts = subst (λ (v : View). AreRight (records v.job.cells) v.parts) (sym c.self.view_is) c.requires.open.right in
    let is : front ≡ frontier r parts = subst (λ (v : View). v.front ≡ frontier (records v.job.cells) v.parts) (sym c.self.view_is) c.requires.open.front in
    let done : front ≡ [] = subst (λ (v : View). v.front ≡ []) (sym c.self.view_is) c.requires.done in
    let up : AreUpward r [] (names_of parts) = subst (AreUpward r []) (sym names) (upward c.self.inside.job.cells c.self.inside.plan nodes c.self.invariant.graph c.self.invariant.fits) in
    let settled : AllByRecursion (IsSettled r parts) (node_names nodes) = subst (AllByRecursion (IsSettled r parts)) names ((ends_settled w (round_of front) is refl up).all (ap round_of done)) in
    let found : (test : Name → Bool) → ((k : ℕ) (n : Name) → slice_get (node_names nodes) k ≡ Some n → test n ≡ is_large (known_in (shown known) k)) → c.least_large.result ≡ least_name test (node_names nodes) =
    subst (λ ks. (test : Name → Bool) → ((k : ℕ) (n : Name) → slice_get (node_names nodes) k ≡ Some n → test n ≡ is_large (known_in (shown ks) k)) → c.least_large.result ≡ least_name test (node_names nodes)) c.as_slice-2.ensures.value
    (subst (λ (ns : List Node). (test : Name → Bool) → ((k : ℕ) (n : Name) → slice_get (node_names ns) k ≡ Some n → test n ≡ is_large (known_in (shown c.as_slice-2.result.now) k)) → c.least_large.result ≡ least_name test (node_names ns)) c.as_slice.ensures.value c.least_large.ensures) in
    let here : c.least_large.result ≡ least_name (λ n. is_large (plan r n)) (names_of parts) =
    found (λ n. is_large (plan r n)) (λ k n at. large_same r parts right n (each_at (IsSettled r parts) (node_names nodes) k n settled at)
    ∙ ap is_large (known_place (node_names nodes) (shown known) k n c.self.invariant.graph.distinct long at)) ∙ ap (least_name (λ n. is_large (plan r n))) (sym names) in
    subst (λ (v : View). c.least_large.result ≡ least_name (λ n. is_large (plan (records v.job.cells) n)) (names_of v.parts)) c.self.view_is here
