use Rattle.std.proofs.Common.{◌≡◌, List, ◌∷◌, length, sym, ◌∙◌, ap, subst}
use Rattle.plan_schema.specs.declared.key.Key.{Key}
use Rattle.plan_schema.specs.declared.key.Record.{Record}
use Rattle.explosion.proofs.Totals.{AddedReceipts, receipts_next, receipts_small, receipts_end, all_small}
use Rattle.explosion.proofs.sums.add_receipts.Goals as goal

pub loop-key-preserved : goal.loop-key-preserved
loop-key-preserved c =
    let rest : List (Key × Record) = c.next.new.self in
    let row : Key × Record = (c.in-Some.key, c.deref.result.now) in
    let here : c.loop-key.key-iterator ≡ row ∷ rest = c.in-Some.ensures.steps ∙ ap (λ (value : Record). (c.in-Some.key, value) ∷ rest) (sym c.deref.ensures) in
    receipts_next c.args.start (length c.args.sums.now) c.args.cell.now rest c.loop-key.sums row c.requires.sound
    (subst (λ (rows : List (Key × Record)). AddedReceipts c.args.start (length c.args.sums.now) c.args.cell.now rows c.loop-key.sums) here c.loop-key.invariant)
    c.add_receipt.new.sums c.add_receipt.auto.sums c.add_receipt.ensures.sums

pub returns-clause-sums : goal.returns-clause-sums
returns-clause-sums c =
    receipts_end c.args.start (length c.args.sums.now) c.args.cell.now c.loop-key.sums
    (subst (λ (rows : List (Key × Record)). AddedReceipts c.args.start (length c.args.sums.now) c.args.cell.now rows c.loop-key.sums) c.in-None.ensures.steps.0 c.loop-key.invariant)

pub returns-clause-small : goal.returns-clause-small
returns-clause-small c =
    all_small 200_000_000_000_000 c.loop-key.sums (receipts_small c.args.start (length c.args.sums.now) c.args.cell.now c.loop-key.key-iterator c.loop-key.sums c.requires.rows c.loop-key.invariant)
