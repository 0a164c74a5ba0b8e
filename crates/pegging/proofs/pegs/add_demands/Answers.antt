use Rattle.std.proofs.Common.{◌≡◌, List, [], ◌∷◌, ◌++◌, map, sym, ◌∙◌, ap, subst}
use Rattle.plan_schema.specs.declared.key.Key.{Key}
use Rattle.plan_schema.specs.declared.key.Record.{Record}
use Rattle.planning_rules.specs.Pegs.{Peg}
use Rattle.explosion.specs.Sums.{demands_in}
use Rattle.std.proofs.lemmas.List.{map-append}
use Rattle.explosion.proofs.Totals.{append_none}
use Rattle.pegging.specs.Pegs.{shown, demand_pegs}
use Rattle.pegging.proofs.Pegged.{PeggedDemands, demands_next}
use Rattle.pegging.proofs.pegs.add_demands.Goals as goal

pub loop-key-preserved-in-Continue-1 : goal.loop-key-preserved-in-Continue-1
loop-key-preserved-in-Continue-1 c =
    let rest : List (Key × Record) = c.next.new.self in
    let row : Key × Record = (c.in-Some.key, c.deref.result.now) in
    let here : c.loop-key.key-iterator ≡ row ∷ rest = c.in-Some.ensures.steps ∙ ap (λ (value : Record). (c.in-Some.key, value) ∷ rest) (sym c.deref.ensures) in
    let one : map shown (c.in-Some-demand_peg.peg ∷ []) ≡ demand_pegs c.args.start c.args.at (demands_in (row ∷ [])) = c.in-Some-demand_peg.ensures in
    demands_next c.args.start c.args.at c.args.cell.now rest (map shown c.args.pegs.now) (map shown c.loop-key.pegs) (map shown c.push.new.self) row
    (subst (λ (rows : List (Key × Record)). PeggedDemands c.args.start c.args.at c.args.cell.now rows (map shown c.args.pegs.now) (map shown c.loop-key.pegs)) here c.loop-key.invariant)
    (ap (map shown) c.in_ok-push.ensures.ok ∙ map-append shown c.loop-key.pegs (c.in-Some-demand_peg.peg ∷ []) ∙ ap (λ (ps : List Peg). map shown c.loop-key.pegs ++ ps) one)

pub loop-key-preserved : goal.loop-key-preserved
loop-key-preserved c =
    let rest : List (Key × Record) = c.next.new.self in
    let row : Key × Record = (c.in-Some.key, c.deref.result.now) in
    let here : c.loop-key.key-iterator ≡ row ∷ rest = c.in-Some.ensures.steps ∙ ap (λ (value : Record). (c.in-Some.key, value) ∷ rest) (sym c.deref.ensures) in
    let none : [] ≡ demand_pegs c.args.start c.args.at (demands_in (row ∷ [])) = c.in_default.ensures in
    demands_next c.args.start c.args.at c.args.cell.now rest (map shown c.args.pegs.now) (map shown c.loop-key.pegs) (map shown c.loop-key.pegs) row
    (subst (λ (rows : List (Key × Record)). PeggedDemands c.args.start c.args.at c.args.cell.now rows (map shown c.args.pegs.now) (map shown c.loop-key.pegs)) here c.loop-key.invariant)
    (sym (append_none (map shown c.loop-key.pegs)) ∙ ap (λ (ps : List Peg). map shown c.loop-key.pegs ++ ps) none)
