use Rattle.std.proofs.Common.{◌≡◌, ◌+◌, length, ◌∙◌, sym, ap, subst, arith}
use Rattle.std.specs.List.{remove}
use Rattle.std.specs.List.Sorted.{IsStrictlySortedBy}
use Rattle.std.specs.Map.{keys_of, remove_entry}
use Rattle.std.specs.BTreeMap.{is_at}
use Rattle.cell_tree.specs.Pairs.{shown}
use Rattle.cell_tree.specs.Places.{IsAt, IsGap}
use Rattle.cell_tree.proofs.Order.{remove-absent}
use Rattle.cell_tree.proofs.Cuts.{lookup-gap}
use Rattle.cell_tree.proofs.Sets.{remove_out, sorted_out, length_removed}
use Rattle.cell_tree.proofs.piece.Piece.take_out.Goals as goal

pub returns-in_default-clause-ok : goal.returns-in_default-clause-ok
returns-in_default-clause-ok g c =
    let cmp = g.K.Ord.cmp in
    let k = c.args.key.now in
    let es = c.self.inside.pairs.items in
    let i = c.in_default.field-0 in
    let gap : IsGap cmp k es i = subst (λ l. IsGap cmp k l i) c.deref.ensures.value c.in_default.ensures.absent in
    let same : remove_entry (is_at (cmp k)) (shown es) ≡ shown es = remove-absent cmp k (shown es) (lookup-gap cmp k es i gap) in
    sym (subst (λ l. remove_entry (is_at (cmp k)) l ≡ l) c.self.view_is same)

pub invariant_of-self : goal.invariant_of-self
invariant_of-self g c =
    let cmp = g.K.Ord.cmp in
    let k = c.args.key.now in
    let es = c.self.inside.pairs.items in
    let i = c.in-Ok.place in
    let at : IsAt cmp k es i = subst (λ l. IsAt cmp k l i) c.deref.ensures.value c.in-Ok.ensures.found in
    let items : c.remove.new.self.items ≡ remove es i = c.remove.ensures.items in
    let long : length c.remove.new.self.items + 1 ≡ length es = ap (λ l. length l + 1) items ∙ length_removed es i at.in_range in
    (omega (arith, long), omega (arith, long), subst (λ l. IsStrictlySortedBy cmp (keys_of l)) (sym items) (sorted_out cmp k es i at c.self.invariant.2))

pub returns-clause-ok : goal.returns-clause-ok
returns-clause-ok g c =
    let cmp = g.K.Ord.cmp in
    let k = c.args.key.now in
    let es = c.self.inside.pairs.items in
    let i = c.in-Ok.place in
    let at : IsAt cmp k es i = subst (λ l. IsAt cmp k l i) c.deref.ensures.value c.in-Ok.ensures.found in
    let items : c.remove.new.self.items ≡ remove es i = c.remove.ensures.items in
    ap shown items ∙ remove_out cmp k es i at ∙ ap (remove_entry (is_at (cmp k))) c.self.view_is
