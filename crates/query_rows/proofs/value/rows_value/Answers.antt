use Rattle.std.proofs.Common.{◌≡◌, List, ◌∷◌, sym, ◌∙◌, ap, subst, arith}
use Rattle.plan_schema.specs.declared.key.Key.{Key}
use Rattle.plan_schema.specs.declared.key.Record.{Record}
use Rattle.query_rows.proofs.Values.{SummedRows, rows_next, rows_room, rows_end}
use Rattle.query_rows.proofs.value.rows_value.Goals as goal

pub overflow_add-sum : goal.overflow_add-sum
overflow_add-sum c =
    let rest : List (Key × Record) = c.next.new.self in
    let row : Key × Record = (c.in-Some.key, c.deref.result.now) in
    let here : c.loop-key.key-iterator ≡ row ∷ rest = c.in-Some.ensures.steps ∙ ap (λ (value : Record). (c.in-Some.key, value) ∷ rest) (sym c.deref.ensures) in
    let room = rows_room c.args.column c.args.cell.now rest c.loop-key.sum row
    (subst (λ (rows : List (Key × Record)). SummedRows c.args.column c.args.cell.now rows c.loop-key.sum) here c.loop-key.invariant) c.iter-key-items.ensures.bound in
    omega (arith, room)

pub loop-key-preserved : goal.loop-key-preserved
loop-key-preserved c =
    let rest : List (Key × Record) = c.next.new.self in
    let row : Key × Record = (c.in-Some.key, c.deref.result.now) in
    let here : c.loop-key.key-iterator ≡ row ∷ rest = c.in-Some.ensures.steps ∙ ap (λ (value : Record). (c.in-Some.key, value) ∷ rest) (sym c.deref.ensures) in
    rows_next c.args.column c.args.cell.now rest c.loop-key.sum c.from-sum.result row
    (subst (λ (rows : List (Key × Record)). SummedRows c.args.column c.args.cell.now rows c.loop-key.sum) here c.loop-key.invariant)
    (c.from-sum.ensures ∙ c.added.ensures) (omega (arith, c.added.type_inv, c.from-sum.ensures))

pub returns : goal.returns
returns c =
    rows_end c.args.column c.args.cell.now c.loop-key.sum
    (subst (λ (rows : List (Key × Record)). SummedRows c.args.column c.args.cell.now rows c.loop-key.sum) c.in-None.ensures.steps.0 c.loop-key.invariant)
