use Rattle.std.proofs.Common.{◌≡◌, ◌<◌, None, IsSome, length, ◌∙◌, sym, ap, subst, arith}
use Rattle.std.proofs.lemmas.Grind.{common_steps}
use Rattle.std.specs.List.Sorted.{IsStrictlySortedBy}
use Rattle.std.specs.Map.{keys_of, lookup, remove_entry}
use Rattle.std.specs.BTreeMap.{is_at}
use Rattle.cell_tree.specs.Pairs.{all_pairs}
use Rattle.cell_tree.proofs.Order.{remove-absent, length-remove, sorted-remove}
use Rattle.cell_tree.proofs.pieces.Pieces.take_out.Goals as goal

pub returns-then-is_none-clause-ok : goal.returns-then-is_none-clause-ok
returns-then-is_none-clause-ok g c =
    let cmp = g.K.Ord.cmp in
    let k = c.args.key.now in
    let none : lookup (is_at (cmp k)) c.args.self.now ≡ None = grind (arith, common_steps, c.get.ensures) in
    sym (remove-absent cmp k c.args.self.now none)

pub join_near-requires : goal.join_near-requires
join_near-requires g c =
    let cmp = g.K.Ord.cmp in
    let old = c.self.inside.list.items in
    let test = is_at (cmp c.args.key.now) in
    let pairs : all_pairs c.take_within.new.pieces.items ≡ remove_entry test (all_pairs old) = c.in_ok-take_within.ensures.ok in
    record { sorted = subst (λ l. IsStrictlySortedBy cmp (keys_of l)) (sym pairs) (sorted-remove cmp test (all_pairs old) c.self.invariant.2) }

pub invariant_of-self-2 : goal.invariant_of-self-2
invariant_of-self-2 g c =
    let cmp = g.K.Ord.cmp in
    let k = c.args.key.now in
    let old = c.self.inside.list.items in
    let test = is_at (cmp k) in
    let pairs : all_pairs c.join_near.new.pieces.items ≡ remove_entry test (all_pairs old) = c.join_near.ensures.pairs ∙ c.in_ok-take_within.ensures.ok in
    let some : 0 < length c.take_within.new.pieces.items = omega (arith, c.in_ok-take_within.ensures.len, c.self.invariant.0) in
    let there : IsSome (lookup test c.args.self.now) = grind (arith, common_steps, c.get.ensures) in
    let many = c.self.invariant.1 ∙ ap length c.self.view_is in
    let fewer = ap length (pairs ∙ ap (remove_entry test) c.self.view_is) in (
      c.join_near.ensures.some some,
      omega (arith, many, fewer, length-remove cmp k c.args.self.now there),
      subst (λ l. IsStrictlySortedBy cmp (keys_of l)) (sym pairs) (sorted-remove cmp test (all_pairs old) c.self.invariant.2),
    )
