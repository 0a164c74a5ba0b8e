use Rattle.std.proofs.Common.{◌≡◌, List, [], ◌∷◌, ◌++◌, sym, ◌∙◌, ap, subst}
use Rattle.plan_schema.specs.declared.key.Key.{Key}
use Rattle.plan_schema.specs.declared.key.Record.{Record}
use Rattle.plan_answer.proofs.Shown.{ShownRows, rows_next, rows_end}
use Rattle.plan_answer.proofs.records.row_lines.Goals as goal

pub loop-key-preserved : goal.loop-key-preserved
loop-key-preserved c =
    let rest : List (Key × Record) = c.next.new.self in
    let row : Key × Record = (c.in-Some.key, c.deref.result.now) in
    let here : c.loop-key.key-iterator ≡ row ∷ rest = c.in-Some.ensures.steps ∙ ap (λ (value : Record). (c.in-Some.key, value) ∷ rest) (sym c.deref.ensures) in
    rows_next c.args.cell.now rest c.loop-key.lines c.push.new.self row
    (subst (λ (rows : List (Key × Record)). ShownRows c.args.cell.now rows c.loop-key.lines) here c.loop-key.invariant)
    (c.in_ok-push.ensures.ok ∙ ap (λ text. c.loop-key.lines ++ text ∷ []) (c.as_slice.ensures.value ∙ c.row_bytes.ensures))

pub returns : goal.returns
returns c = rows_end c.args.cell.now c.loop-key.lines (subst (λ (rows : List (Key × Record)). ShownRows c.args.cell.now rows c.loop-key.lines) c.in-None.ensures.steps.0 c.loop-key.invariant)
