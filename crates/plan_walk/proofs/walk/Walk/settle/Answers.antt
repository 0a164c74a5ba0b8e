use Rattle.std.proofs.Common.{◌≡◌, ℕ, ◌<◌, inl, inr, List, [], ◌++◌, length, take, drop, map, sym, ◌∙◌, ap, subst, true, ◌==◌}
use Rattle.std.specs.Prelude.{Some, slice_get}
use Rattle.std.specs.List.{list_any}
use Rattle.walk_rules.specs.Cells.{records, Stands}
use Rattle.walk_rules.specs.Rights.{AreRight}
use Rattle.walk_rules.specs.Walks.{frontier, names_of}
use Rattle.walk_rules.specs.Works.{AreUpward}
use Rattle.plan_walk.specs.declared.node.Node.{Node}
use Rattle.plan_walk.specs.Places.{parts_of, ready_at}
use Rattle.plan_walk.specs.Nodes.{Fits, node_names, names_at, shown, ups_at, state_of}
use Rattle.plan_walk.specs.Results.{told}
use Rattle.plan_walk.specs.Settled.{SettledBy, AreSound}
use Rattle.plan_walk.specs.View.{View}
use Rattle.plan_walk.specs.Walk.{IsSolved, Settles, IsOpen, EndsSettled, round_of}
use Rattle.plan_walk.proofs.Shown.{shown_long}
use Rattle.plan_walk.proofs.Places.{names_place}
use Rattle.plan_walk.proofs.SoFar.{names_long}
use Rattle.plan_walk.proofs.WalkRight.{right_after}
use Rattle.plan_walk.proofs.Sounds.{sound_of}
use Rattle.plan_walk.proofs.Ends.{upward, ends_settled}
use Rattle.plan_walk.proofs.Fronts.{front_ready, ready_front, written}
use Rattle.plan_walk.proofs.walk.Walk.settle.Goals as goal

pub settle_parts-requires-clause-ready : goal.settle_parts-requires-clause-ready
settle_parts-requires-clause-ready c =
    let nodes = c.self.inside.nodes.items in
    let known = c.self.inside.known.items in
    let front = c.self.inside.front.items in
    let cells = c.self.inside.job.cells in
    let exact : names_at (node_names nodes) front ≡ frontier (records cells) (parts_of (node_names nodes) (shown known)) = subst (λ (w : View). w.front ≡ frontier (records w.job.cells) w.parts) (sym c.self.view_is) c.requires.open.front in
    let whole : length (shown known) ≡ length nodes = shown_long known ∙ c.self.invariant.whole in
    subst (λ ks. (k place : ℕ) → slice_get c.as_slice-2.result.now k ≡ Some place → (place < length c.as_slice.result.now) × (ready_at (ups_at c.as_slice.result.now place) (shown ks) place ≡ true)) (sym c.as_mut_slice.ensures.value)
    (subst (λ fs. (k place : ℕ) → slice_get fs k ≡ Some place → (place < length c.as_slice.result.now) × (ready_at (ups_at c.as_slice.result.now place) (shown known) place ≡ true)) (sym c.as_slice-2.ensures.value)
    (subst (λ (ns : List Node). (k place : ℕ) → slice_get front k ≡ Some place → (place < length ns) × (ready_at (ups_at ns place) (shown known) place ≡ true)) (sym c.as_slice.ensures.value)
    (front_ready cells c.self.inside.plan nodes c.self.invariant.graph c.self.invariant.fits (shown known) whole front c.self.invariant.places exact)))

pub settle_parts-requires-clause-exact : goal.settle_parts-requires-clause-exact
settle_parts-requires-clause-exact c =
    let nodes = c.self.inside.nodes.items in
    let known = c.self.inside.known.items in
    let front = c.self.inside.front.items in
    let cells = c.self.inside.job.cells in
    let exact : names_at (node_names nodes) front ≡ frontier (records cells) (parts_of (node_names nodes) (shown known)) = subst (λ (w : View). w.front ≡ frontier (records w.job.cells) w.parts) (sym c.self.view_is) c.requires.open.front in
    let whole : length (shown known) ≡ length nodes = shown_long known ∙ c.self.invariant.whole in
    subst (λ ks. (q : ℕ) → q < length c.as_slice.result.now → ready_at (ups_at c.as_slice.result.now q) (shown ks) q ≡ true → list_any (λ k. k == q) c.as_slice-2.result.now ≡ true) (sym c.as_mut_slice.ensures.value)
    (subst (λ fs. (q : ℕ) → q < length c.as_slice.result.now → ready_at (ups_at c.as_slice.result.now q) (shown known) q ≡ true → list_any (λ k. k == q) fs ≡ true) (sym c.as_slice-2.ensures.value)
    (subst (λ (ns : List Node). (q : ℕ) → q < length ns → ready_at (ups_at ns q) (shown known) q ≡ true → list_any (λ k. k == q) front ≡ true) (sym c.as_slice.ensures.value)
    (ready_front cells c.self.inside.plan nodes c.self.invariant.graph c.self.invariant.fits (shown known) whole front c.self.invariant.places exact)))

pub settle_parts-requires-clause-names : goal.settle_parts-requires-clause-names
settle_parts-requires-clause-names c =
    let results : told c.as_slice-3.result.now ≡ c.args.solved = ap told c.as_slice-3.ensures.value ∙ c.solved.view_is in
    let names : names_at (node_names c.as_slice.result.now) c.as_slice-2.result.now ≡ c.args.self.now.front =
    (λ i. names_at (node_names (c.as_slice.ensures.value i)) (c.as_slice-2.ensures.value i)) ∙ ap (λ (w : View). w.front) c.self.view_is in
    elim c.requires.solved [
      | inl none ↦ inl (results ∙ none)
      | inr all ↦ inr (names ∙ sym all.1 ∙ ap (map (λ r. r.0)) (sym results))
    ]

pub returns-clause-settles : goal.returns-clause-settles
returns-clause-settles c =
    let nodes = c.self.inside.nodes.items in
    let known = c.self.inside.known.items in
    let cells = c.self.inside.job.cells in
    let now = c.settle_parts.new.known in
    let next = c.settle_parts.new.next.items in
    let pairs = c.settle_parts.new.memo.pairs in
    let back : take c.self.inside.known.len (now ++ drop (length now) known) ≡ now =
    written now known c.self.inside.known.len (ap length (sym c.as_mut_slice.ensures.value) ∙ c.as_mut_slice.ensures.len) (c.settle_parts.auto.known ∙ ap length c.as_mut_slice.ensures.value) in
    let fits : Fits cells c.self.inside.plan c.as_slice.result.now = subst (λ (ns : List Node). Fits cells c.self.inside.plan ns) (sym c.as_slice.ensures.value) c.self.invariant.fits in
    let slices = c.in_ok-tally.ensures.settled cells fits in
    let s : SettledBy cells nodes c.args.memo.now.most (shown known) (shown now) c.args.memo.now.pairs pairs (told c.solved.inside.results.items) next c.in_ok-tally.tally =
    subst (λ rs. SettledBy cells nodes c.args.memo.now.most (shown known) (shown now) c.args.memo.now.pairs pairs (told rs) next c.in_ok-tally.tally) c.as_slice-3.ensures.value
    (subst (λ ks. SettledBy cells nodes c.args.memo.now.most (shown ks) (shown now) c.args.memo.now.pairs pairs (told c.as_slice-3.result.now) next c.in_ok-tally.tally) c.as_mut_slice.ensures.value
    (subst (λ (ns : List Node). SettledBy cells ns c.args.memo.now.most (shown c.as_mut_slice.result.now) (shown now) c.args.memo.now.pairs pairs (told c.as_slice-3.result.now) next c.in_ok-tally.tally) c.as_slice.ensures.value slices)) in
    let front : names_at (node_names nodes) next ≡ frontier (records cells) (parts_of (node_names nodes) (shown (take c.self.inside.known.len (now ++ drop (length now) known)))) =
    sym s.front ∙ ap (λ ks. frontier (records cells) (parts_of (node_names nodes) (shown ks))) (sym back) in
    let after : View = record { job = c.self.inside.job; parts = parts_of (node_names nodes) (shown (take c.self.inside.known.len (now ++ drop (length now) known))); front = names_at (node_names nodes) next } in
    let before : View = record { job = c.self.inside.job; parts = parts_of (node_names nodes) (shown known); front = names_at (node_names nodes) c.self.inside.front.items } in
    let here : Settles before after c.args.memo.now.pairs pairs c.args.memo.now.most (told c.solved.inside.results.items) c.round_after-round.result c.in_ok-tally.tally = record {
      middle = s.middle;
      took = s.took;
      hits = s.hits ∙ ap (λ ks. state_of nodes (shown ks) pairs c.in_ok-tally.tally.netted c.in_ok-tally.tally.reused) (sym back);
      front = front;
      done = c.round_after-round.ensures (node_names nodes) ∙ ap (λ ps. round_of (names_at (node_names nodes) ps)) c.as_slice-4.ensures.value;
    } in
    subst (λ (w : View). Settles w after c.args.memo.now.pairs pairs c.args.memo.now.most c.args.solved c.round_after-round.result c.in_ok-tally.tally) c.self.view_is
    (subst (λ rs. Settles before after c.args.memo.now.pairs pairs c.args.memo.now.most rs c.round_after-round.result c.in_ok-tally.tally) c.solved.view_is here)

pub returns-clause-open : goal.returns-clause-open
returns-clause-open c =
    let nodes = c.self.inside.nodes.items in
    let known = c.self.inside.known.items in
    let cells = c.self.inside.job.cells in
    let now = c.settle_parts.new.known in
    let next = c.settle_parts.new.next.items in
    let pairs = c.settle_parts.new.memo.pairs in
    let results = told c.solved.inside.results.items in
    let back : take c.self.inside.known.len (now ++ drop (length now) known) ≡ now =
    written now known c.self.inside.known.len (ap length (sym c.as_mut_slice.ensures.value) ∙ c.as_mut_slice.ensures.len) (c.settle_parts.auto.known ∙ ap length c.as_mut_slice.ensures.value) in
    let fits : Fits cells c.self.inside.plan c.as_slice.result.now = subst (λ (ns : List Node). Fits cells c.self.inside.plan ns) (sym c.as_slice.ensures.value) c.self.invariant.fits in
    let slices = c.in_ok-tally.ensures.settled cells fits in
    let s : SettledBy cells nodes c.args.memo.now.most (shown known) (shown now) c.args.memo.now.pairs pairs results next c.in_ok-tally.tally =
    subst (λ rs. SettledBy cells nodes c.args.memo.now.most (shown known) (shown now) c.args.memo.now.pairs pairs (told rs) next c.in_ok-tally.tally) c.as_slice-3.ensures.value
    (subst (λ ks. SettledBy cells nodes c.args.memo.now.most (shown ks) (shown now) c.args.memo.now.pairs pairs (told c.as_slice-3.result.now) next c.in_ok-tally.tally) c.as_mut_slice.ensures.value
    (subst (λ (ns : List Node). SettledBy cells ns c.args.memo.now.most (shown c.as_mut_slice.result.now) (shown now) c.args.memo.now.pairs pairs (told c.as_slice-3.result.now) next c.in_ok-tally.tally) c.as_slice.ensures.value slices)) in
    let before : View = record { job = c.self.inside.job; parts = parts_of (node_names nodes) (shown known); front = names_at (node_names nodes) c.self.inside.front.items } in
    let all_right : AreRight (records cells) (parts_of (node_names nodes) (shown known)) = subst (λ (w : View). AreRight (records w.job.cells) w.parts) (sym c.self.view_is) c.requires.open.right in
    let solved : IsSolved before results = subst (λ rs. IsSolved before rs) (sym c.solved.view_is) (subst (λ (w : View). IsSolved w c.args.solved) (sym c.self.view_is) c.requires.solved) in
    let m = c.requires.meant.0 in
    let sound = sound_of m c.self.inside.job c.self.inside.plan nodes (shown known) (length known) c.self.inside.front.items c.self.inside.places c.self.invariant (shown_long known ∙ c.self.invariant.whole) c.args.memo.now.pairs results all_right solved
    (subst (λ (w : View). Stands m w.job.cells) (sym c.self.view_is) c.requires.meant.2) in
    let known_right : AreRight (records cells) (parts_of (node_names nodes) (shown now)) =
    right_after m cells nodes (shown known) c.args.memo.now.pairs results sound c.requires.meant.1 (shown now) pairs c.args.memo.now.most next c.in_ok-tally.tally s in
    subst (λ ks. IsOpen (record { job = c.self.inside.job; parts = parts_of (node_names nodes) (shown ks); front = names_at (node_names nodes) next })) (sym back)
    (record { front = sym s.front; right = known_right })

pub returns-clause-ends : goal.returns-clause-ends
returns-clause-ends c =
    let nodes = c.self.inside.nodes.items in
    let known = c.self.inside.known.items in
    let cells = c.self.inside.job.cells in
    let now = c.settle_parts.new.known in
    let next = c.settle_parts.new.next.items in
    let back : take c.self.inside.known.len (now ++ drop (length now) known) ≡ now =
    written now known c.self.inside.known.len (ap length (sym c.as_mut_slice.ensures.value) ∙ c.as_mut_slice.ensures.len) (c.settle_parts.auto.known ∙ ap length c.as_mut_slice.ensures.value) in
    let fits : Fits cells c.self.inside.plan c.as_slice.result.now = subst (λ (ns : List Node). Fits cells c.self.inside.plan ns) (sym c.as_slice.ensures.value) c.self.invariant.fits in
    let slices = c.in_ok-tally.ensures.settled cells fits in
    let front : frontier (records cells) (parts_of (node_names nodes) (shown now)) ≡ names_at (node_names nodes) next =
    subst (λ (ns : List Node). frontier (records cells) (parts_of (node_names ns) (shown now)) ≡ names_at (node_names ns) next) c.as_slice.ensures.value slices.front in
    let long : length (shown now) ≡ length (node_names nodes) =
    shown_long now ∙ c.settle_parts.auto.known ∙ ap length c.as_mut_slice.ensures.value ∙ c.self.invariant.whole ∙ sym (names_long nodes) in
    let up : AreUpward (records cells) [] (names_of (parts_of (node_names nodes) (shown now))) =
    subst (AreUpward (records cells) []) (sym (names_place (node_names nodes) (shown now) long)) (upward cells c.self.inside.plan nodes c.self.invariant.graph c.self.invariant.fits) in
    let after : View = record { job = c.self.inside.job; parts = parts_of (node_names nodes) (shown now); front = names_at (node_names nodes) next } in
    subst (λ ks. EndsSettled (record { job = c.self.inside.job; parts = parts_of (node_names nodes) (shown ks); front = names_at (node_names nodes) next }) c.round_after-round.result) (sym back)
    (ends_settled after c.round_after-round.result (sym front) (c.round_after-round.ensures (node_names nodes) ∙ ap (λ ps. round_of (names_at (node_names nodes) ps)) c.as_slice-4.ensures.value) up)

pub returns-clause-right : goal.returns-clause-right
returns-clause-right c =
    let nodes = c.self.inside.nodes.items in
    let known = c.self.inside.known.items in
    let cells = c.self.inside.job.cells in
    let results = told c.solved.inside.results.items in
    let before : View = record { job = c.self.inside.job; parts = parts_of (node_names nodes) (shown known); front = names_at (node_names nodes) c.self.inside.front.items } in
    let all_right : AreRight (records cells) (parts_of (node_names nodes) (shown known)) = subst (λ (w : View). AreRight (records w.job.cells) w.parts) (sym c.self.view_is) c.requires.open.right in
    let solved : IsSolved before results = subst (λ rs. IsSolved before rs) (sym c.solved.view_is) (subst (λ (w : View). IsSolved w c.args.solved) (sym c.self.view_is) c.requires.solved) in
    let fits : Fits cells c.self.inside.plan c.as_slice.result.now = subst (λ (ns : List Node). Fits cells c.self.inside.plan ns) (sym c.as_slice.ensures.value) c.self.invariant.fits in
    λ m memo_right stands.
    let sound = sound_of m c.self.inside.job c.self.inside.plan nodes (shown known) (length known) c.self.inside.front.items c.self.inside.places c.self.invariant (shown_long known ∙ c.self.invariant.whole) c.args.memo.now.pairs results all_right solved
    (subst (λ (w : View). Stands m w.job.cells) (sym c.self.view_is) stands) in
    let slices : AreSound m cells c.as_slice.result.now (shown c.as_mut_slice.result.now) c.args.memo.now.pairs (told c.as_slice-3.result.now) =
    subst (λ rs. AreSound m cells c.as_slice.result.now (shown c.as_mut_slice.result.now) c.args.memo.now.pairs (told rs)) (sym c.as_slice-3.ensures.value)
    (subst (λ ks. AreSound m cells c.as_slice.result.now (shown ks) c.args.memo.now.pairs results) (sym c.as_mut_slice.ensures.value)
    (subst (λ (ns : List Node). AreSound m cells ns (shown known) c.args.memo.now.pairs results) (sym c.as_slice.ensures.value) sound)) in
    c.settle_parts.ensures.right m cells fits slices memo_right

pub returns-in_err-tally-clause-right : goal.returns-in_err-tally-clause-right
returns-in_err-tally-clause-right c =
    let nodes = c.self.inside.nodes.items in
    let known = c.self.inside.known.items in
    let cells = c.self.inside.job.cells in
    let results = told c.solved.inside.results.items in
    let before : View = record { job = c.self.inside.job; parts = parts_of (node_names nodes) (shown known); front = names_at (node_names nodes) c.self.inside.front.items } in
    let all_right : AreRight (records cells) (parts_of (node_names nodes) (shown known)) = subst (λ (w : View). AreRight (records w.job.cells) w.parts) (sym c.self.view_is) c.requires.open.right in
    let solved : IsSolved before results = subst (λ rs. IsSolved before rs) (sym c.solved.view_is) (subst (λ (w : View). IsSolved w c.args.solved) (sym c.self.view_is) c.requires.solved) in
    let fits : Fits cells c.self.inside.plan c.as_slice.result.now = subst (λ (ns : List Node). Fits cells c.self.inside.plan ns) (sym c.as_slice.ensures.value) c.self.invariant.fits in
    λ m memo_right stands.
    let sound = sound_of m c.self.inside.job c.self.inside.plan nodes (shown known) (length known) c.self.inside.front.items c.self.inside.places c.self.invariant (shown_long known ∙ c.self.invariant.whole) c.args.memo.now.pairs results all_right solved
    (subst (λ (w : View). Stands m w.job.cells) (sym c.self.view_is) stands) in
    let slices : AreSound m cells c.as_slice.result.now (shown c.as_mut_slice.result.now) c.args.memo.now.pairs (told c.as_slice-3.result.now) =
    subst (λ rs. AreSound m cells c.as_slice.result.now (shown c.as_mut_slice.result.now) c.args.memo.now.pairs (told rs)) (sym c.as_slice-3.ensures.value)
    (subst (λ ks. AreSound m cells c.as_slice.result.now (shown ks) c.args.memo.now.pairs results) (sym c.as_mut_slice.ensures.value)
    (subst (λ (ns : List Node). AreSound m cells ns (shown known) c.args.memo.now.pairs results) (sym c.as_slice.ensures.value) sound)) in
    c.settle_parts.ensures.right m cells fits slices memo_right
