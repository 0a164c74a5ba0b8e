use Rattle.std.proofs.Common.{◌≡◌, ◌+◌, ◌∙◌, ap, cond, arith}
use Rattle.std.proofs.lemmas.Result.{on_ok_weaker}
use Rattle.std.specs.BTreeMap.{insert_entry}
use Rattle.plan_schema.specs.Key.{key_cmp}
use Rattle.planning_rules.specs.Trace.{End}
use Rattle.full_pegging.specs.Following.{shown_share}
use Rattle.full_pegging.specs.Shares.{share_at, counted_at}
use Rattle.full_pegging.proofs.Counting.{counted_more, same_itself}
use Rattle.full_pegging.proofs.at_ends.Counts.add.Goals as goal

pub overflow_add-qty : goal.overflow_add-qty
overflow_add-qty c =
    let share = shown_share c.args.share.now in
    let own : share_at share.0 c.args.share.now ≡ share.1 = ap (λ b. cond b share.1 0) (same_itself share.0) in
    let at = c.at.ensures share.0 c.key_of-key.ensures in
    let qty = c.qty_of.ensures in
    let few = c.requires in
    omega (arith, own, at, qty, few)

pub returns : goal.returns
returns c =
    let share = shown_share c.args.share.now in
    let counts = c.args.self.now.by_key.entries in
    on_ok_weaker c.put.result
    (λ entries (end : End).
    ap (λ es. counted_at es end) entries
    ∙ (λ i. counted_at (insert_entry key_cmp counts (c.key_of-key.ensures i) (c.at.ensures share.0 c.key_of-key.ensures i + c.qty_of.ensures i)) end)
    ∙ counted_more counts end share.0 share.1)
    c.put.ensures
