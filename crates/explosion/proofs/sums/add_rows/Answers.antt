use Rattle.std.proofs.Common.{◌≡◌, List, ◌∷◌, length, sym, ◌∙◌, ap, subst}
use Rattle.plan_schema.specs.declared.key.Key.{Key}
use Rattle.plan_schema.specs.declared.key.Record.{Record}
use Rattle.explosion.proofs.Totals.{AddedRows, next_fits, rows_more, rows_end}
use Rattle.explosion.proofs.sums.add_rows.Goals as goal

pub add_row-next-requires-clause-next : goal.add_row-next-requires-clause-next
add_row-next-requires-clause-next c =
    let rest : List (Key × Record) = c.next.new.self in
    let row : Key × Record = (c.in-Some.key, c.deref.result.now) in
    let here : c.loop-key.key-iterator ≡ row ∷ rest = c.in-Some.ensures.steps ∙ ap (λ (value : Record). (c.in-Some.key, value) ∷ rest) (sym c.deref.ensures) in
    next_fits c.args.start (length c.args.sums.now) c.args.releases.now c.args.cell.now rest c.loop-key.next c.loop-key.sums row
    (subst (λ (rows : List (Key × Record)). AddedRows c.args.start (length c.args.sums.now) c.args.releases.now c.args.cell.now rows c.loop-key.next c.loop-key.sums) here c.loop-key.invariant)
    c.requires.each

pub loop-key-preserved : goal.loop-key-preserved
loop-key-preserved c =
    let rest : List (Key × Record) = c.next.new.self in
    let row : Key × Record = (c.in-Some.key, c.deref.result.now) in
    let here : c.loop-key.key-iterator ≡ row ∷ rest = c.in-Some.ensures.steps ∙ ap (λ (value : Record). (c.in-Some.key, value) ∷ rest) (sym c.deref.ensures) in
    rows_more c.args.start (length c.args.sums.now) c.args.releases.now c.args.cell.now rest c.loop-key.next c.loop-key.sums row
    (subst (λ (rows : List (Key × Record)). AddedRows c.args.start (length c.args.sums.now) c.args.releases.now c.args.cell.now rows c.loop-key.next c.loop-key.sums) here c.loop-key.invariant)
    c.requires.each c.requires.sound c.requires.lists c.add_row-next.result c.add_row-next.new.sums c.add_row-next.auto.sums c.add_row-next.ensures.next c.add_row-next.ensures.sums

pub returns : goal.returns
returns c =
    rows_end c.args.start (length c.args.sums.now) c.args.releases.now c.args.cell.now c.loop-key.next c.loop-key.sums
    (subst (λ (rows : List (Key × Record)). AddedRows c.args.start (length c.args.sums.now) c.args.releases.now c.args.cell.now rows c.loop-key.next c.loop-key.sums) c.in-None.ensures.steps.0 c.loop-key.invariant)
