use Rattle.std.proofs.Common.{◌≡◌, ◌+◌, ◌<◌, ◌++◌, length, ◌∙◌, sym, ap, subst, arith}
use Rattle.std.proofs.lemmas.Grind.{common_steps}
use Rattle.std.specs.List.Sorted.{IsStrictlySortedBy}
use Rattle.std.specs.Map.{keys_of}
use Rattle.std.specs.Arc.{arc_value}
use Rattle.cell_tree.specs.Pairs.{all_pairs}
use Rattle.cell_tree.proofs.Sets.{two_sorted, all_joined}
use Rattle.cell_tree.proofs.pieces.join_next.Goals as goal

pub joined-requires-clause-sorted : goal.joined-requires-clause-sorted
joined-requires-clause-sorted g c =
    let cmp = g.K.Ord.cmp in
    let ps = c.args.pieces.now.items in
    let i = c.args.place in
    let p = c.index-first.result.now in
    let q = c.index-next.result.now in
    let lt : i + 1 < length ps = grind (arith, common_steps, c.in-Some.ensures) in
    subst (λ l. IsStrictlySortedBy cmp (keys_of l)) (sym (λ j. c.deref-3.ensures j ++ c.deref-4.ensures j))
    (two_sorted ps i p q lt c.index-first.ensures c.index-next.ensures cmp c.requires.sorted)

pub returns-clause-pairs : goal.returns-clause-pairs
returns-clause-pairs g c =
    let ps = c.args.pieces.now.items in
    let i = c.args.place in
    let p = c.index-first.result.now in
    let q = c.index-next.result.now in
    let new = c.in_ok-joined-2.joined in
    let lt : i + 1 < length ps = grind (arith, common_steps, c.in-Some.ensures) in
    let both : arc_value new ≡ arc_value p ++ arc_value q = c.in_ok-joined-2.ensures.ok ∙ c.in_ok-joined.ensures ∙ (λ j. c.deref-3.ensures j ++ c.deref-4.ensures j) in
    ap all_pairs c.remove.ensures.items ∙ all_joined ps i p q lt c.index-first.ensures c.index-next.ensures new both
