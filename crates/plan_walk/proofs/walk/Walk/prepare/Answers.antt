use Rattle.std.proofs.Common.{◌≡◌, ℕ, ◌<◌, List, length, take, ◌∙◌, ap, sym, subst, Some, arith}
use Rattle.std.specs.Prelude.{slice_get, Contains}
use Rattle.std.specs.List.{AllByRecursion}
use Rattle.plan_schema.specs.declared.name.Name.{Name}
use Rattle.plan_schema.specs.declared.change.CellName.TheVariants as names
use Rattle.planning_rules.specs.Bills.{parents}
use Rattle.walk_rules.specs.Cells.{records, version_in}
use Rattle.walk_rules.specs.Walks.{unknown, frontier}
use Rattle.walk_rules.specs.Rights.{AreRight}
use Rattle.plan_jobs.specs.Jobs.{asked_by}
use Rattle.walk_names.specs.Names.{AreWalkNames}
use Rattle.plan_walk.specs.declared.node.Node.{Node}
use Rattle.plan_walk.specs.Places.{AreDistinct, parts_of}
use Rattle.plan_walk.specs.Nodes.{Fits, node_names, names_at, shown}
use Rattle.plan_walk.specs.Making.{AreMade}
use Rattle.plan_walk.specs.Walk.{CanStep}
use Rattle.plan_walk.proofs.Shown.{shown_long}
use Rattle.plan_walk.proofs.Ordered.{distinct, parents_before}
use Rattle.plan_walk.proofs.Making.{made_fits}
use Rattle.plan_walk.proofs.Beginning.{as_many, nothing_made, nothing_right, all_step, begins}
use Rattle.plan_walk.proofs.walk.Walk.prepare.Goals as goal

pub nodes_of-requires-clause-distinct : goal.nodes_of-requires-clause-distinct
nodes_of-requires-clause-distinct c = subst AreDistinct (sym c.as_slice.ensures.value) (distinct (records c.args.job.cells) c.in_ok-names.names.items c.in_ok-names.ensures.names.ordered)

pub nodes_of-requires-clause-steps : goal.nodes_of-requires-clause-steps
nodes_of-requires-clause-steps c =
    let asked = asked_by (records c.args.job.cells) c.args.job.wanted in
    subst (AllByRecursion (CanStep c.args.job.cells)) (sym c.as_slice.ensures.value) (all_step c.args.job.wanted c.args.job.cells c.requires.job c.requires.wants asked c.in_ok-names.names.items c.in_ok-names.ensures.names)

pub nodes_of-requires-clause-before : goal.nodes_of-requires-clause-before
nodes_of-requires-clause-before c =
    let r = records c.args.job.cells in
    subst (λ (ns : List Name). (i : ℕ) (n : Name) → slice_get ns i ≡ Some n → AllByRecursion (Contains (take i ns)) (parents r n)) (sym c.as_slice.ensures.value)
    (parents_before r (asked_by r c.args.job.wanted) c.in_ok-names.names.items c.in_ok-names.ensures.names)

pub ready_places-requires-clause-whole : goal.ready_places-requires-clause-whole
ready_places-requires-clause-whole c =
    let nodes = c.in_ok-nodes.nodes.items in
    let known = c.in_ok-known.known.items in
    let counted = c.len.ensures in
    let many : c.len.result ≡ length nodes = omega arith in
    ap length c.as_slice-3.ensures.value ∙ sym (shown_long known) ∙ as_many (shown known) nodes c.len.result many c.in_ok-known.ensures ∙ sym (ap length c.as_slice-2.ensures.value)

pub invariant_of-result : goal.invariant_of-result
invariant_of-result c =
    let cells = c.args.job.cells in
    let nodes = c.in_ok-nodes.nodes.items in
    let known = c.in_ok-known.known.items in
    let ns = c.in_ok-names.names.items in
    let made : AreMade cells ns nodes = subst (λ ms. AreMade cells ms nodes) c.as_slice.ensures.value c.in_ok-nodes.ensures.nodes in
    let counted = c.len.ensures in
    let many : c.len.result ≡ length nodes = omega arith in
    record {
      is_job = c.requires.job;
      graph = made.graph;
      fits = subst (λ p. Fits cells p nodes) (sym c.version_of-plan.ensures) (made_fits cells ns nodes made);
      whole = sym (shown_long known) ∙ as_many (shown known) nodes c.len.result many c.in_ok-known.ensures;
      names = subst (AreWalkNames (records cells) (asked_by (records cells) c.args.job.wanted)) (sym made.named) c.in_ok-names.ensures.names;
      steps = subst (AllByRecursion (CanStep cells)) (sym made.named)
          (all_step c.args.job.wanted cells c.requires.job c.requires.wants (asked_by (records cells) c.args.job.wanted) ns c.in_ok-names.ensures.names);
      places = subst (λ (ms : List Node). (k q : ℕ) → slice_get c.in_ok-front.front.items k ≡ Some q → q < length ms) c.as_slice-2.ensures.value c.in_ok-front.ensures.places;
      numbered = c.in_ok-nodes.ensures.places ∙ c.as_slice.ensures.value ∙ sym made.named;
    }

pub returns-clause-begins : goal.returns-clause-begins
returns-clause-begins c =
    let cells = c.args.job.cells in
    let nodes = c.in_ok-nodes.nodes.items in
    let known = c.in_ok-known.known.items in
    let ns = c.in_ok-names.names.items in
    let made : AreMade cells ns nodes = subst (λ ms. AreMade cells ms nodes) c.as_slice.ensures.value c.in_ok-nodes.ensures.nodes in
    let counted = c.len.ensures in
    let many : c.len.result ≡ length nodes = omega arith in
    let parts : parts_of (node_names nodes) (shown known) ≡ unknown ns = nothing_made (shown known) ns nodes c.len.result made.named many c.in_ok-known.ensures in
    begins c.args.job ns (names_at (node_names nodes) c.in_ok-front.front.items) (parts_of (node_names nodes) (shown known)) c.in_ok-names.ensures.names parts

pub returns-clause-open : goal.returns-clause-open
returns-clause-open c =
    let cells = c.args.job.cells in
    let nodes = c.in_ok-nodes.nodes.items in
    let known = c.in_ok-known.known.items in
    let ns = c.in_ok-names.names.items in
    let made : AreMade cells ns nodes = subst (λ ms. AreMade cells ms nodes) c.as_slice.ensures.value c.in_ok-nodes.ensures.nodes in
    let counted = c.len.ensures in
    let many : c.len.result ≡ length nodes = omega arith in
    let parts : parts_of (node_names nodes) (shown known) ≡ unknown ns = nothing_made (shown known) ns nodes c.len.result made.named many c.in_ok-known.ensures in
    let plan = version_in cells names.Plan in
    let front = c.in_ok-front.front.items in
    let fits : Fits cells plan c.as_slice-2.result.now = subst (λ (ms : List Node). Fits cells plan ms) (sym c.as_slice-2.ensures.value) (made_fits cells ns nodes made) in
    let ready : frontier (records cells) (parts_of (node_names nodes) (shown known)) ≡ names_at (node_names nodes) front =
    subst (λ ks. frontier (records cells) (parts_of (node_names nodes) (shown ks)) ≡ names_at (node_names nodes) front) c.as_slice-3.ensures.value
    (subst (λ (ms : List Node). frontier (records cells) (parts_of (node_names ms) (shown c.as_slice-3.result.now)) ≡ names_at (node_names ms) front) c.as_slice-2.ensures.value (c.in_ok-front.ensures.front cells plan fits)) in
    record { front = sym ready; right = subst (AreRight (records cells)) (sym parts) (nothing_right (records cells) ns) }
