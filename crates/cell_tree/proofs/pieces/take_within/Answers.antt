use Rattle.std.proofs.Common.{◌≡◌, ◌∙◌, ap, slice_set}
use Rattle.std.specs.Prelude.{Result, Ok, Err, OnOk, OnErr}
use Rattle.std.specs.Arc.{arc_with_value}
use Rattle.std.specs.Map.{remove_entry}
use Rattle.std.specs.BTreeMap.{is_at}
use Rattle.cell_tree.specs.Pairs.{all_pairs}
use Rattle.cell_tree.proofs.Sets.{all_out, all_same}
use Rattle.cell_tree.proofs.pieces.take_within.Goals as goal

ok_then : {A E : Type 0} {P Q : Type 0} (r : Result A E) → (P → Q) → OnOk r P → OnOk r Q
ok_then (Ok a) f p = f p
ok_then (Err e) f p = p

err_then : {A E : Type 0} {P Q : Type 0} (r : Result A E) → (P → Q) → OnErr r P → OnErr r Q
err_then (Ok a) f p = p
err_then (Err e) f p = f p

pub returns-in-Some-clause-ok : goal.returns-in-Some-clause-ok
returns-in-Some-clause-ok g c =
    let cmp = g.K.Ord.cmp in
    let k = c.args.key.now in
    let ps = c.args.pieces.now.items in
    let i = c.args.place in
    let q = c.index_mut.result.now in
    let new = c.take_out.new.self in
    ok_then {P = new ≡ remove_entry (is_at (cmp k)) c.in-Some.piece.now} {Q = all_pairs (slice_set ps i (arc_with_value q new)) ≡ remove_entry (is_at (cmp k)) (all_pairs ps)} c.take_out.result
    (λ e. all_out cmp k ps i q c.requires.in_range c.index_mut.ensures.value c.requires.below c.requires.above new (e ∙ ap (remove_entry (is_at (cmp k))) c.in-Some.ensures.value))
    c.take_out.ensures.ok

pub returns-in-Some-clause-err : goal.returns-in-Some-clause-err
returns-in-Some-clause-err g c =
    let cmp = g.K.Ord.cmp in
    let k = c.args.key.now in
    let ps = c.args.pieces.now.items in
    let i = c.args.place in
    let q = c.index_mut.result.now in
    let new = c.take_out.new.self in
    err_then {P = new ≡ c.in-Some.piece.now} {Q = all_pairs (slice_set ps i (arc_with_value q new)) ≡ all_pairs ps} c.take_out.result
    (λ e. all_same cmp k ps i q c.requires.in_range c.index_mut.ensures.value new (e ∙ c.in-Some.ensures.value))
    c.take_out.ensures.err
