use Rattle.std.proofs.Common.{◌≡◌, ◌∙◌, ◌++◌, ◌∷◌, [], ℕ, ◌+◌, List, Bor, take, refl, ap, rules, true}
use Rattle.std.specs.Result.{is_ok}
use Rattle.std.proofs.lemmas.List.{map-append}
use Rattle.csv.specs.Records.{fields_of, Row}
use Rattle.plan_import.proofs.Records.{field_at-end, field_at-take}
use Rattle.plan_import.proofs.fields_of_row.Goals as goal

pub loop-field-preserved : goal.loop-field-preserved
loop-field-preserved c =
    let inv = c.loop-field.invariant in
    let s = rw c.in-Some.is at c.next.ensures.steps in
    let good : is_ok c.push.result ≡ true = search rules in
    let items = rw good at c.push.ensures.items in
    let more : take (c.loop-field.field-iterator.at + 1) (fields_of c.args.row.now) ≡ take c.loop-field.field-iterator.at (fields_of c.args.row.now) ++ (c.in-Some.field.now ∷ [])
    = field_at-take (fields_of c.args.row.now) c.loop-field.field-iterator.at c.in-Some.field.now (rw inv.row at s.1) in
    record {
      row = ap (λ (b : Bor Row). b.now) s.0 ∙ inv.row;
      read = rw (items, map-append (λ (b : Bor (List ℕ)). b.now) c.loop-field.fields.items (c.in-Some.field ∷ []), inv.read, s.2, more) refl;
    }

pub returns : goal.returns
returns c =
    let inv = c.loop-field.invariant in
    let s = rw c.in-None.is at c.next.ensures.steps in
    inv.read ∙ field_at-end (fields_of c.args.row.now) c.loop-field.field-iterator.at (rw inv.row at s.1)
