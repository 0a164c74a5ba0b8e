use Rattle.std.proofs.Common.{◌≡◌, ◌∙◌, sym, ap, true, false, Bool, ◌∷◌, not, cond}
use Rattle.std.specs.Prelude.{Some, None, Option, map, if◌then◌else◌}
use Rattle.plan_schema.specs.declared.key.Key.{Key}
use Rattle.plan_schema.specs.declared.key.Record.{Record}
use Rattle.plan_schema.specs.declared.refusal.Refusal.TheVariants as refusals
use Rattle.plan_schema.specs.Refusals.{first_of}
use Rattle.plan_schema.specs.Contents.{Contents, record_at}
use Rattle.scenario_rules.specs.World.{OwnChanges}
use Rattle.scenario_rules.specs.Same.{same_option, same_record}
use Rattle.scenario_rules.specs.Refused.{conflict_at}
use Rattle.std.specs.Arc.{arc_value}
use Rattle.std.specs.Option.{option_copied}
use Rattle.std.specs.Ordering.{is_eq}
use Rattle.std.specs.Cmp.{tied_itself}
use Rattle.plan_schema.specs.Key.{cell_of}
use Rattle.record_versions.specs.Versions.{CellList, cell_at}
use Rattle.record_versions.proofs.Orders.{cell_total}
use Rattle.version_rules.proofs.CellRows.{row_found}
use Rattle.scenario_cells.specs.declared.held.Held.{Held}
use Rattle.scenario_cells.specs.Held.{rows_in, contents_by, IsHeld}
use Rattle.scenario_cells.proofs.Join.{rows_meant}
use Rattle.scenario_cells.proofs.HeldLaws.{held_contents, record_is}
use Rattle.scenario_cells.proofs.conflicts.conflict.Goals as goal

-- what the first own change says
conflict_here : (above base : Contents) (key : Key) (value : Option Record) (rest : OwnChanges) (t : Bool) → same_option same_record (record_at above key) (record_at base key) ≡ t
    → first_of (map (conflict_at above base) ((key, value) ∷ rest)) ≡ (if t then first_of (map (conflict_at above base) rest) else Some (refusals.Conflict key))
conflict_here above base key value rest true e = ap (λ b. first_of ((if not b then Some (refusals.Conflict key) else None) ∷ map (conflict_at above base) rest)) e
conflict_here above base key value rest false e = ap (λ b. first_of ((if not b then Some (refusals.Conflict key) else None) ∷ map (conflict_at above base) rest)) e

-- the record under a key of the base, as it is found by the id of the key's cell
base_record_is : (cells : CellList) (h : Held) (key : Key) → IsHeld (cell_at cells) h → record_at (rows_in (cell_at cells) h.base (cell_of key)) key ≡ record_at (contents_by (cell_at cells) h.base) key
base_record_is cells h key held =
    let c = contents_by (cell_at cells) h.base in
    ap (λ rows. record_at rows key) (rows_meant (cell_at cells) c h.base (cell_of key) held.base) ∙ row_found c (cell_of key) key
    ∙ ap (λ b. cond b (record_at c key) None) (ap is_eq (tied_itself cell_total (cell_of key)))

pub loop-key-preserved : goal.loop-key-preserved
loop-key-preserved c =
    let cells = c.args.store.now in
    let a = held_contents cells c.args.above.now in
    let b = contents_by (cell_at cells) c.args.child.now.base in
    let key = c.in-Some.key in
    let rest : OwnChanges = c.next.new.self in
    let found : same_option same_record (option_copied c.row.result) (option_copied c.row-mine.result) ≡ same_option same_record (record_at a key) (record_at b key) = λ i. same_option same_record ((c.row.ensures ∙ record_is cells c.args.above.now key c.requires.above) i) ((c.row-mine.ensures ∙ base_record_is cells c.args.child.now key c.requires.child) i) in
    let t : same_option same_record (record_at a key) (record_at b key) ≡ true = sym found ∙ sym c.same_rows.ensures ∙ c.if-not-same_rows.false in
    c.loop-key.invariant ∙ ap (λ (own : OwnChanges). first_of (map (conflict_at a b) own)) c.in-Some.ensures.steps ∙ conflict_here a b key (arc_value c.in-Some._value.now) rest true t

pub returns-then-not-same_rows : goal.returns-then-not-same_rows
returns-then-not-same_rows c =
    let cells = c.args.store.now in
    let a = held_contents cells c.args.above.now in
    let b = contents_by (cell_at cells) c.args.child.now.base in
    let key = c.in-Some.key in
    let rest : OwnChanges = c.next.new.self in
    let found : same_option same_record (option_copied c.row.result) (option_copied c.row-mine.result) ≡ same_option same_record (record_at a key) (record_at b key) = λ i. same_option same_record ((c.row.ensures ∙ record_is cells c.args.above.now key c.requires.above) i) ((c.row-mine.ensures ∙ base_record_is cells c.args.child.now key c.requires.child) i) in
    let t : same_option same_record (record_at a key) (record_at b key) ≡ false = sym found ∙ sym c.same_rows.ensures ∙ c.if-not-same_rows.true in
    sym (c.loop-key.invariant ∙ ap (λ (own : OwnChanges). first_of (map (conflict_at a b) own)) c.in-Some.ensures.steps ∙ conflict_here a b key (arc_value c.in-Some._value.now) rest false t)
