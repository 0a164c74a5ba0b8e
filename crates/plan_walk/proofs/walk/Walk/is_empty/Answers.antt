use Rattle.std.proofs.Common.{◌≡◌, ◌==◌, arith, vec_len, ◌∙◌, ap, sym, length}
use Rattle.plan_walk.specs.Nodes.{node_names, shown}
use Rattle.plan_walk.specs.View.{View}
use Rattle.plan_walk.proofs.Shown.{shown_long}
use Rattle.plan_walk.proofs.SoFar.{names_long}
use Rattle.plan_walk.proofs.Finding.{parts_long}
use Rattle.plan_walk.proofs.walk.Walk.is_empty.Goals as goal

pub returns : goal.returns
returns c =
    let nodes = c.self.inside.nodes.items in
    let known = c.self.inside.known.items in
    let long : length (shown known) ≡ length (node_names nodes) = shown_long known ∙ c.self.invariant.whole ∙ sym (names_long nodes) in
    let rest : length nodes ≡ length c.args.self.now.parts = sym (names_long nodes) ∙ sym (parts_long (node_names nodes) (shown known) long) ∙ ap (λ (w : View). length w.parts) c.self.view_is in
    let same : vec_len c.self.inside.nodes ≡ length nodes = omega arith in
    c.is_empty.ensures ∙ ap (λ n. n == 0) (same ∙ rest)
