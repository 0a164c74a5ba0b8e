use Rattle.std.proofs.Common.{◌≡◌, List, [], ◌∷◌, map, sym, ◌∙◌, ap, subst}
use Rattle.plan_schema.specs.declared.key.Key.{Key}
use Rattle.plan_schema.specs.declared.key.Record.{Record}
use Rattle.planning_rules.specs.Trace.{surplus_end}
use Rattle.full_pegging.specs.Following.{shown_share}
use Rattle.full_pegging.specs.Shares.{counted_at}
use Rattle.full_pegging.proofs.Sharing.{SharedSoFar, shared_next, nothing_more}
use Rattle.full_pegging.proofs.shares.add_surplus.Goals as goal

pub loop-key-preserved-in-Continue-1 : goal.loop-key-preserved-in-Continue-1
loop-key-preserved-in-Continue-1 c =
    let rest : List (Key × Record) = c.next.new.self in
    let row : Key × Record = (c.in-Some.key, c.deref.result.now) in
    let here : c.loop-key.key-iterator ≡ row ∷ rest = c.in-Some.ensures.steps ∙ ap (λ (value : Record). (c.in-Some.key, value) ∷ rest) (sym c.deref.ensures) in
    shared_next surplus_end (counted_at c.args.counts.now.by_key.entries) c.args.cell.now rest (map shown_share c.args.shares.now.items) c.loop-key.shares.items (c.in-Some-surplus_share.share ∷ []) c.push.new.self.items row
    (subst (λ (rows : List (Key × Record)). SharedSoFar surplus_end (counted_at c.args.counts.now.by_key.entries) c.args.cell.now rows (map shown_share c.args.shares.now.items) (map shown_share c.loop-key.shares.items)) here c.loop-key.invariant)
    c.in_ok-push.ensures.items c.in-Some-surplus_share.ensures

pub loop-key-preserved : goal.loop-key-preserved
loop-key-preserved c =
    let rest : List (Key × Record) = c.next.new.self in
    let row : Key × Record = (c.in-Some.key, c.deref.result.now) in
    let here : c.loop-key.key-iterator ≡ row ∷ rest = c.in-Some.ensures.steps ∙ ap (λ (value : Record). (c.in-Some.key, value) ∷ rest) (sym c.deref.ensures) in
    shared_next surplus_end (counted_at c.args.counts.now.by_key.entries) c.args.cell.now rest (map shown_share c.args.shares.now.items) c.loop-key.shares.items [] c.loop-key.shares.items row
    (subst (λ (rows : List (Key × Record)). SharedSoFar surplus_end (counted_at c.args.counts.now.by_key.entries) c.args.cell.now rows (map shown_share c.args.shares.now.items) (map shown_share c.loop-key.shares.items)) here c.loop-key.invariant)
    (sym (nothing_more c.loop-key.shares.items)) c.in_default.ensures
