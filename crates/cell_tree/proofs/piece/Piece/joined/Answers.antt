use Rattle.std.proofs.Common.{◌≡◌, ◌<◌, ◌≤◌, ◌++◌, length, sym, subst, arith}
use Rattle.std.proofs.lemmas.Grind.{common_steps}
use Rattle.std.specs.Map.{keys_of}
use Rattle.std.specs.List.Sorted.{IsStrictlySortedBy}
use Rattle.cell_tree.specs.Pairs.{shown}
use Rattle.cell_tree.proofs.Showing.{sorted_under}
use Rattle.cell_tree.proofs.piece.Piece.joined.Goals as goal

pub invariant_of-result : goal.invariant_of-result
invariant_of-result g c =
    let cmp = g.K.Ord.cmp in
    let items = c.share_pairs-2.new.pairs.items in
    let new : shown items ≡ c.args.self.now ++ c.args.next.now = grind (arith, common_steps) in
    let some : 0 < length items = grind (arith, common_steps) in
    let few : length items ≤ 64 = grind (arith, common_steps) in
    (some, few, sorted_under cmp items (subst (λ l. IsStrictlySortedBy cmp (keys_of l)) (sym new) c.requires.sorted))
