use Rattle.std.proofs.Common.{◌≡◌, List, ◌∷◌, map, sym, ◌∙◌, ap, subst}
use Rattle.plan_schema.specs.declared.key.Key.{Key}
use Rattle.plan_schema.specs.declared.key.Record.{Record}
use Rattle.planning_rules.specs.Netting.{limit}
use Rattle.pegging.specs.Pegs.{shown}
use Rattle.pegging.proofs.Pegged.{PeggedBills, next_fits, row_fits, bills_next}
use Rattle.pegging.proofs.pegs.add_bills.Goals as goal

pub add_row-requires-clause-next : goal.add_row-requires-clause-next
add_row-requires-clause-next c =
    let rest : List (Key × Record) = c.next.new.self in
    let row : Key × Record = (c.in-Some.key, c.deref.result.now) in
    let here : c.loop-key.key-iterator ≡ row ∷ rest = c.in-Some.ensures.steps ∙ ap (λ (value : Record). (c.in-Some.key, value) ∷ rest) (sym c.deref.ensures) in
    next_fits c.args.start c.args.at c.args.releases.now c.args.cell.now rest c.loop-key.next (map shown c.args.pegs.now) (map shown c.loop-key.pegs) row
    (subst (λ (rows : List (Key × Record)). PeggedBills c.args.start c.args.at c.args.releases.now c.args.cell.now rows c.loop-key.next (map shown c.args.pegs.now) (map shown c.loop-key.pegs)) here c.loop-key.invariant)
    c.requires.each

pub add_row-requires-clause-fits : goal.add_row-requires-clause-fits
add_row-requires-clause-fits c =
    let rest : List (Key × Record) = c.next.new.self in
    let row : Key × Record = (c.in-Some.key, c.deref.result.now) in
    let here : c.loop-key.key-iterator ≡ row ∷ rest = c.in-Some.ensures.steps ∙ ap (λ (value : Record). (c.in-Some.key, value) ∷ rest) (sym c.deref.ensures) in
    row_fits c.args.start c.args.at c.args.releases.now c.args.cell.now rest c.loop-key.next (map shown c.args.pegs.now) (map shown c.loop-key.pegs) row
    (subst (λ (rows : List (Key × Record)). PeggedBills c.args.start c.args.at c.args.releases.now c.args.cell.now rows c.loop-key.next (map shown c.args.pegs.now) (map shown c.loop-key.pegs)) here c.loop-key.invariant)
    c.requires.each limit c.requires.fits

pub loop-key-preserved : goal.loop-key-preserved
loop-key-preserved c =
    let rest : List (Key × Record) = c.next.new.self in
    let row : Key × Record = (c.in-Some.key, c.deref.result.now) in
    let here : c.loop-key.key-iterator ≡ row ∷ rest = c.in-Some.ensures.steps ∙ ap (λ (value : Record). (c.in-Some.key, value) ∷ rest) (sym c.deref.ensures) in
    bills_next c.args.start c.args.at c.args.releases.now c.args.cell.now rest c.loop-key.next (map shown c.args.pegs.now) (map shown c.loop-key.pegs) row
    (subst (λ (rows : List (Key × Record)). PeggedBills c.args.start c.args.at c.args.releases.now c.args.cell.now rows c.loop-key.next (map shown c.args.pegs.now) (map shown c.loop-key.pegs)) here c.loop-key.invariant)
    c.requires.each c.in_ok-next.next (map shown c.add_row.new.pegs) c.in_ok-next.ensures.next c.in_ok-next.ensures.pegs
