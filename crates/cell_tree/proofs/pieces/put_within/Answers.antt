use Rattle.std.proofs.Common.{◌≡◌, ◌+◌, Bool, length, ◌∙◌, ap, slice_set}
use Rattle.std.proofs.lemmas.Result.{IfOk-weaker}
use Rattle.std.specs.Prelude.{Result, Ok, Err, OnOk, OnErr, if◌then◌else◌}
use Rattle.std.specs.Arc.{arc_value, arc_with_value}
use Rattle.std.specs.BTreeMap.{insert_entry}
use Rattle.cell_tree.specs.Pairs.{all_pairs}
use Rattle.cell_tree.proofs.Sets.{all_put, all_same, count_put}
use Rattle.cell_tree.proofs.pieces.put_within.Goals as goal

ok_then : {A E : Type 0} {P Q : Type 0} (r : Result A E) → (P → Q) → OnOk r P → OnOk r Q
ok_then (Ok a) f p = f p
ok_then (Err e) f p = p

err_then : {A E : Type 0} {P Q : Type 0} (r : Result A E) → (P → Q) → OnErr r P → OnErr r Q
err_then (Ok a) f p = p
err_then (Err e) f p = f p

pub returns-in-Some-clause-ok : goal.returns-in-Some-clause-ok
returns-in-Some-clause-ok g c =
    let cmp = g.K.Ord.cmp in
    let k = c.args.key in
    let ps = c.args.pieces.now.items in
    let i = c.args.place in
    let q = c.index_mut.result.now in
    let new = c.put.new.self in
    let v = arc_value c.args.value.now in
    ok_then {P = new ≡ insert_entry cmp c.in-Some.piece.now k v} {Q = all_pairs (slice_set ps i (arc_with_value q new)) ≡ insert_entry cmp (all_pairs ps) k v} c.put.result
    (λ e. all_put cmp k ps i q c.requires.in_range c.index_mut.ensures.value c.requires.below c.requires.above v new (e ∙ ap (λ l. insert_entry cmp l k v) c.in-Some.ensures.value))
    c.put.ensures.ok

pub returns-in-Some-clause-err : goal.returns-in-Some-clause-err
returns-in-Some-clause-err g c =
    let cmp = g.K.Ord.cmp in
    let k = c.args.key in
    let ps = c.args.pieces.now.items in
    let i = c.args.place in
    let q = c.index_mut.result.now in
    let new = c.put.new.self in
    err_then {P = new ≡ c.in-Some.piece.now} {Q = all_pairs (slice_set ps i (arc_with_value q new)) ≡ all_pairs ps} c.put.result
    (λ e. all_same cmp k ps i q c.requires.in_range c.index_mut.ensures.value new (e ∙ c.in-Some.ensures.value))
    c.put.ensures.err

pub returns-in-Some-clause-count : goal.returns-in-Some-clause-count
returns-in-Some-clause-count g c =
    let cmp = g.K.Ord.cmp in
    let ps = c.args.pieces.now.items in
    let i = c.args.place in
    let q = c.index_mut.result.now in
    let new = c.put.new.self in
    IfOk-weaker c.put.result
    (λ (more : Bool). length new ≡ length c.in-Some.piece.now + (if more then 1 else 0))
    (λ (more : Bool). length (all_pairs (slice_set ps i (arc_with_value q new))) ≡ length (all_pairs ps) + (if more then 1 else 0))
    (λ more e. count_put cmp c.args.key ps i q c.requires.in_range c.index_mut.ensures.value (if more then 1 else 0) new (e ∙ ap (λ l. length l + (if more then 1 else 0)) c.in-Some.ensures.value))
    c.put.ensures.len
