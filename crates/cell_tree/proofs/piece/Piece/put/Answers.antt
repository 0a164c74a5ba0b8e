use Rattle.std.proofs.Common.{◌≡◌, ◌+◌, length, ◌∙◌, ap, subst, arith, slice_set}
use Rattle.std.specs.Arc.{arc_value}
use Rattle.std.specs.BTreeMap.{insert_entry}
use Rattle.cell_tree.specs.Pairs.{shown}
use Rattle.cell_tree.specs.Places.{IsAt, IsGap}
use Rattle.cell_tree.proofs.Sets.{insert_set, insert_new, sorted_put, length_put, length_inserted}
use Rattle.cell_tree.proofs.piece.Piece.put.Goals as goal

pub invariant_of-self : goal.invariant_of-self
invariant_of-self g c =
    let cmp = g.K.Ord.cmp in
    let k = c.args.key in
    let v = c.in_ok-value.value in
    let es = c.self.inside.pairs.items in
    let i = c.in-Ok.place in
    let x = c.index_mut-pair.result.now in
    let at : IsAt cmp k es i = subst (λ l. IsAt cmp k l i) c.deref.ensures.value c.in-Ok.ensures.found in
    let new = insert_set cmp k es i at x v c.index_mut-pair.ensures.value in
    let long : length (slice_set es i (x.0, v)) ≡ length es = length_put es i (x.0, v) in
    (omega (arith, long, c.self.invariant.0), omega (arith, long, c.self.invariant.1), sorted_put g.met.K.Ord.total k (arc_value v) es (slice_set es i (x.0, v)) c.self.invariant.2 new)

pub invariant_of-self-in-Err : goal.invariant_of-self-in-Err
invariant_of-self-in-Err g c =
    let cmp = g.K.Ord.cmp in
    let k = c.args.key in
    let v = c.in_ok-value.value in
    let es = c.self.inside.pairs.items in
    let i = c.in-Err.place in
    let gap : IsGap cmp k es i = subst (λ l. IsGap cmp k l i) c.deref.ensures.value c.in-Err.ensures.absent in
    let items = c.in_ok-insert-in-Err.ensures.items in
    let new = ap shown items ∙ insert_new cmp k es i gap v in
    let long : length c.insert.new.self.items ≡ length es + 1 = ap length items ∙ length_inserted es i (k, v) gap.in_range in
    (omega (arith, long), omega (arith, long, c.if-len-ge-MOST.false), sorted_put g.met.K.Ord.total k (arc_value v) es c.insert.new.self.items c.self.invariant.2 new)

pub returns-in-Ok-clause-ok : goal.returns-in-Ok-clause-ok
returns-in-Ok-clause-ok g c =
    let cmp = g.K.Ord.cmp in
    let k = c.args.key in
    let v = c.in_ok-value.value in
    let es = c.self.inside.pairs.items in
    let i = c.in-Ok.place in
    let x = c.index_mut-pair.result.now in
    let at : IsAt cmp k es i = subst (λ l. IsAt cmp k l i) c.deref.ensures.value c.in-Ok.ensures.found in
    insert_set cmp k es i at x v c.index_mut-pair.ensures.value ∙ (λ j. insert_entry cmp (c.self.view_is j) k (c.in_ok-value.ensures j))

pub returns-in_ok-insert-in-Err-clause-ok : goal.returns-in_ok-insert-in-Err-clause-ok
returns-in_ok-insert-in-Err-clause-ok g c =
    let cmp = g.K.Ord.cmp in
    let k = c.args.key in
    let v = c.in_ok-value.value in
    let es = c.self.inside.pairs.items in
    let i = c.in-Err.place in
    let gap : IsGap cmp k es i = subst (λ l. IsGap cmp k l i) c.deref.ensures.value c.in-Err.ensures.absent in
    ap shown c.in_ok-insert-in-Err.ensures.items ∙ insert_new cmp k es i gap v ∙ (λ j. insert_entry cmp (c.self.view_is j) k (c.in_ok-value.ensures j))
