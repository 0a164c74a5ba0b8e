use Rattle.std.proofs.Common.{◌≡◌, ◌+◌, List, Bool, true, false, length, sym, subst, arith}
use Rattle.std.proofs.lemmas.Grind.{common_steps}
use Rattle.std.specs.Prelude.{if◌then◌else◌}
use Rattle.std.specs.Arc.{arc_value}
use Rattle.std.specs.List.Sorted.{IsStrictlySortedBy}
use Rattle.std.specs.Map.{keys_of}
use Rattle.std.specs.BTreeMap.{insert_entry}
use Rattle.cell_tree.specs.Pairs.{all_pairs}
use Rattle.cell_tree.proofs.Order.{sorted-insert}
use Rattle.cell_tree.proofs.pieces.Pieces.put.Goals as goal

-- how many pairs there are, by whether the key is new
counted : {X : Type 0} (old new : List X) (t b : Bool) → t ≡ b → length new ≡ length old + (if t then 1 else 0) → length new ≡ length old + (if b then 1 else 0)
counted old new t b e = subst (λ (r : Bool). length new ≡ length old + (if r then 1 else 0)) e

pub invariant_of-self : goal.invariant_of-self
invariant_of-self g c =
    let cmp = g.K.Ord.cmp in
    let old = all_pairs c.self.inside.list.items in
    let new = all_pairs c.put_within.new.pieces.items in
    let pairs : new ≡ insert_entry cmp old c.args.key (arc_value c.args.value) = c.in-Ok.ensures.ok in
    let more : c.in_ok-more.more ≡ c.self.inside.len + 1 = grind (arith, common_steps, c.checked_add.ensures) in (
      omega (arith, c.put_within.ensures.len, c.self.invariant.0),
      omega (arith, more, counted old new c.in-Ok.new true c.if-new.true c.in-Ok.ensures.count, c.self.invariant.1),
      subst (λ l. IsStrictlySortedBy cmp (keys_of l)) (sym pairs) (sorted-insert g.met.K.Ord.total c.args.key old (arc_value c.args.value) c.self.invariant.2),
    )

pub invariant_of-self-else-new : goal.invariant_of-self-else-new
invariant_of-self-else-new g c =
    let cmp = g.K.Ord.cmp in
    let old = all_pairs c.self.inside.list.items in
    let new = all_pairs c.put_within.new.pieces.items in
    let pairs : new ≡ insert_entry cmp old c.args.key (arc_value c.args.value) = c.in-Ok.ensures.ok in (
      omega (arith, c.put_within.ensures.len, c.self.invariant.0),
      omega (arith, counted old new c.in-Ok.new false c.if-new.false c.in-Ok.ensures.count, c.self.invariant.1),
      subst (λ l. IsStrictlySortedBy cmp (keys_of l)) (sym pairs) (sorted-insert g.met.K.Ord.total c.args.key old (arc_value c.args.value) c.self.invariant.2),
    )
