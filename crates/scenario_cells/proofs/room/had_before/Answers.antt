use Rattle.std.proofs.Common.{◌≡◌, ◌∙◌, sym, ap, ◌||◌, true, false}
use Rattle.std.specs.Prelude.{is_some}
use Rattle.std.specs.List.{list_any}
use Rattle.std.specs.Ordering.{is_eq}
use Rattle.plan_schema.specs.declared.key.Key.{Key}
use Rattle.plan_schema.specs.declared.key.Record.{Record}
use Rattle.plan_schema.specs.Key.{key_cmp}
use Rattle.plan_schema.specs.Contents.{record_at}
use Rattle.scenario_cells.proofs.HeldLaws.{held_contents, record_is, copied_some}
use Rattle.scenario_cells.proofs.RoomLaws.{puts_show}
use Rattle.scenario_cells.proofs.room.had_before.Goals as goal

pub returns-then-is_some : goal.returns-then-is_some
returns-then-is_some c =
    let h = c.args.held.now in
    let cells = c.args.store.now in
    let key = c.args.key.now in
    let had = c.is_some.ensures ∙ copied_some c.row.result ∙ ap is_some (c.row.ensures ∙ record_is cells h key c.requires) in
    let there : is_some (record_at (held_contents cells h) key) ≡ true = sym had ∙ c.if-is_some.true in
    sym (puts_show (held_contents cells h) c.args.rows.now key ∙ ap (λ b. b || list_any (λ (row : Key × Record). is_eq (key_cmp key row.0)) c.args.rows.now) there)

pub returns : goal.returns
returns c =
    let h = c.args.held.now in
    let cells = c.args.store.now in
    let key = c.args.key.now in
    let had = c.is_some.ensures ∙ copied_some c.row.result ∙ ap is_some (c.row.ensures ∙ record_is cells h key c.requires) in
    let there : is_some (record_at (held_contents cells h) key) ≡ false = sym had ∙ c.if-is_some.false in
    c.is_among.ensures ∙ sym (puts_show (held_contents cells h) c.args.rows.now key ∙ ap (λ b. b || list_any (λ (row : Key × Record). is_eq (key_cmp key row.0)) c.args.rows.now) there)
