use Rattle.std.proofs.Common.{◌≡◌, [], ◌∙◌, sym, subst, length}
use Rattle.walk_rules.specs.Cells.{records}
use Rattle.walk_rules.specs.Walks.{names_of}
use Rattle.walk_rules.specs.Works.{AreUpward}
use Rattle.plan_jobs.specs.Jobs.{asked_by}
use Rattle.walk_names.specs.Names.{AreWalkNames}
use Rattle.plan_walk.specs.Places.{parts_of}
use Rattle.plan_walk.specs.Nodes.{node_names, shown}
use Rattle.plan_walk.specs.Walk.{WalksItsJob}
use Rattle.plan_walk.proofs.Places.{names_place}
use Rattle.plan_walk.proofs.Shown.{shown_long}
use Rattle.plan_walk.proofs.SoFar.{names_long}
use Rattle.plan_walk.proofs.Ends.{upward}
use Rattle.plan_walk.proofs.walk.Walk.holds.Goals as goal

pub returns : goal.returns
returns c =
    let nodes = c.self.inside.nodes.items in
    let known = c.self.inside.known.items in
    let job = c.self.inside.job in
    let r = records job.cells in
    let long : length (shown known) ≡ length (node_names nodes) = shown_long known ∙ c.self.invariant.whole ∙ sym (names_long nodes) in
    let names : names_of (parts_of (node_names nodes) (shown known)) ≡ node_names nodes = names_place (node_names nodes) (shown known) long in
    subst WalksItsJob c.self.view_is (record {
      is_job = c.self.invariant.is_job;
      names = subst (AreWalkNames r (asked_by r job.wanted)) (sym names) c.self.invariant.names;
      upward = subst (AreUpward r []) (sym names) (upward job.cells c.self.inside.plan nodes c.self.invariant.graph c.self.invariant.fits);
    })
