-- A scenario in memory after a change of one row.
use Rattle.std.proofs.Common.{◌≡◌, ℕ, ◌+◌, [], ◌∷◌, refl, sym, ◌∙◌, ap, subst, Bool, true, false, cond, ◌&&◌, arith, length}
use Rattle.std.specs.Prelude.{Option, Some, None, if◌then◌else◌, is_some}
use Rattle.std.specs.Ordering.{is_eq}
use Rattle.std.specs.Borrow.{Bor}
use Rattle.std.specs.Option.{option_copied}
use Rattle.std.specs.BTreeMap.{insert_entry}
use Rattle.std.specs.FinMap.{is_sorted}
use Rattle.std.specs.Cmp.{tied_itself}
use Rattle.plan_schema.specs.declared.key.Key.{Key}
use Rattle.plan_schema.specs.declared.key.Record.{Record}
use Rattle.plan_schema.specs.declared.change.CellName.{CellName}
use Rattle.plan_schema.specs.Key.{key_cmp, cell_of}
use Rattle.plan_schema.specs.Base.{is_part_key, part_count}
use Rattle.plan_schema.specs.Contents.{Contents, record_at, is_ordered, cell_rows}
use Rattle.scenario_rules.specs.World.{OwnChanges, changed, laid_over, contents_of}
use Rattle.scenario_rules.proofs.Maps.{sorted_insert}
use Rattle.scenario_rules.proofs.Keys.{key_total}
use Rattle.scenario_rules.proofs.LaidOver.{ordered_changed}
use Rattle.plan_schema.specs.Cell.{cell_cmp}
use Rattle.record_versions.specs.Versions.{IdList, CellList, id_at, are_ordered_ids, cell_at}
use Rattle.record_versions.proofs.Orders.{cell_total}
use Rattle.version_rules.specs.Meaning.{AreMeant}
use Rattle.version_rules.proofs.CellRows.{rows_changed, ordered_laid, laid_insert, row_found}
use Rattle.version_rules.proofs.Meant.{all_kept}
use Rattle.scenario_cells.specs.declared.held.Held.{Held}
use Rattle.scenario_cells.specs.Held.{rows_in, contents_by, scenario_by, changed_by, IsHeld, IsReady, IsChanged}
use Rattle.scenario_cells.specs.Rows.{renewed_ids, store_with, new_id, new_rows, IsRecounted}
use Rattle.scenario_cells.proofs.Join.{ordered_by, rows_meant, join_is, contents_kept}
use Rattle.scenario_cells.proofs.RowLaws.{ids_after_row, renewed_ordered, keeps_older, row_means}
use Rattle.scenario_rules.proofs.Counts.{parts_change, length_change}

-- the contents of what is held
abbrev pub held_contents : CellList → Held → Contents
held_contents cells h = contents_of (scenario_by (cell_at cells) h)

pub contents_ordered : (cells : CellList) (h : Held) → is_ordered (held_contents cells h) ≡ true
contents_ordered cells h = ordered_laid (contents_by (cell_at cells) h.base) h.own (ordered_by (cell_at cells) h.base)

abbrev pub rows_after : CellList → Held → Key → Option Record → Contents
rows_after cells h key new = cell_rows (changed (held_contents cells h) key new) (cell_of key)

in_own_cell : (key : Key) → is_eq (cell_cmp (cell_of key) (cell_of key)) ≡ true
in_own_cell key = ap is_eq (tied_itself cell_total (cell_of key))

-- the rows of the key's cell, as they are found by its id
pub rows_are : (cells : CellList) (h : Held) (key : Key) (new : Option Record) → IsHeld (cell_at cells) h → new_rows cells h.ids key new ≡ rows_after cells h key new
rows_are cells h key new held =
    ap (λ rows. changed rows key new) (rows_meant (cell_at cells) (held_contents cells h) h.ids (cell_of key) held.contents)
    ∙ sym (rows_changed (held_contents cells h) key new (cell_of key) (contents_ordered cells h) (in_own_cell key))

-- the record under a key, as it is found by the id of the key's cell
pub record_is : (cells : CellList) (h : Held) (key : Key) → IsHeld (cell_at cells) h → record_at (rows_in (cell_at cells) h.ids (cell_of key)) key ≡ record_at (held_contents cells h) key
record_is cells h key held =
    ap (λ rows. record_at rows key) (rows_meant (cell_at cells) (held_contents cells h) h.ids (cell_of key) held.contents)
    ∙ row_found (held_contents cells h) (cell_of key) key ∙ ap (λ b. cond b (record_at (held_contents cells h) key) None) (in_own_cell key)

-- what is held next, with new counts
abbrev pub next_held : Held → IdList → IdList → OwnChanges → ℕ → ℕ → Held
next_held h base ids own parts records = record { parent = h.parent; owner = h.owner; private = h.private; base = base; ids = ids; own = own; parts = parts; records = records }

abbrev own_next : Bool → Held → Key → Option Record → OwnChanges
own_next root h key new = if root then h.own else insert_entry key_cmp h.own key new

abbrev base_next : Bool → Held → IdList → IdList
base_next root h ids = if root then ids else h.base

module _ (cells : CellList) (point : ℕ) (h : Held) (key : Key) (new : Option Record) (held : IsHeld (cell_at cells) h) where
  abbrev stored : CellList
  stored = store_with cells (new_id point key) (rows_after cells h key new)

  abbrev ids_next : IdList
  ids_next = renewed_ids h.ids (new_id point key) (rows_after cells h key new)

  abbrev after : Contents
  after = changed (held_contents cells h) key new

  means : AreMeant (cell_at stored) after (id_at ids_next)
  means = row_means cells point h.ids (held_contents cells h) key new held.ids_ordered (contents_ordered cells h) held.contents

  after_ordered : is_ordered after ≡ true
  after_ordered = ordered_changed (held_contents cells h) key new (contents_ordered cells h)

  joined : contents_by (cell_at stored) ids_next ≡ after
  joined = join_is (cell_at stored) ids_next after (renewed_ordered h.ids (new_id point key) (rows_after cells h key new) held.ids_ordered) after_ordered means

  -- the base after the change, and the contents
  base_is : (root : Bool) → IsReady point root h → contents_by (cell_at stored) (base_next root h ids_next) ≡ (if root then after else contents_by (cell_at cells) h.base)
  base_is true ready = joined
  base_is false ready = contents_kept (cell_at cells) (cell_at stored) h.base held.base_ordered held.base (λ cell id is. keeps_older cells (new_id point key) (rows_after cells h key new) id (ready.older refl cell id is))

  contents_is : (root : Bool) → IsReady point root h → laid_over (contents_by (cell_at stored) (base_next root h ids_next)) (own_next root h key new) ≡ after
  contents_is true ready =
      ap (λ own. laid_over (contents_by (cell_at stored) ids_next) own) (ready.rooted refl) ∙ joined
  contents_is false ready =
      ap (λ c. laid_over c (insert_entry key_cmp h.own key new)) (base_is false ready)
      ∙ laid_insert (contents_by (cell_at cells) h.base) h.own key new (ordered_by (cell_at cells) h.base) held.own_ordered (sorted_insert key_total key new h.own held.own_ordered)

  scenario_is : (root : Bool) (parts records : ℕ) → IsReady point root h
      → scenario_by (cell_at stored) (next_held h (base_next root h ids_next) ids_next (own_next root h key new) parts records) ≡ changed_by root (scenario_by (cell_at cells) h) ((key, new) ∷ [])
  scenario_is true parts records ready =
      let same : contents_by (cell_at stored) ids_next ≡ changed (contents_by (cell_at cells) h.base) key new = joined ∙ ap (λ own. changed (laid_over (contents_by (cell_at cells) h.base) own) key new) (ready.rooted refl) in
      λ i. record { parent = h.parent; owner = h.owner; private = h.private; base = same i; own = h.own }
  scenario_is false parts records ready =
      λ i. record { parent = h.parent; owner = h.owner; private = h.private; base = base_is false ready i; own = insert_entry key_cmp h.own key new }

  own_sorted : (root : Bool) → is_sorted key_cmp (own_next root h key new) ≡ true
  own_sorted true = held.own_ordered
  own_sorted false = sorted_insert key_total key new h.own held.own_ordered

  base_sorted : (root : Bool) → are_ordered_ids (base_next root h ids_next) ≡ true
  base_sorted true = renewed_ordered h.ids (new_id point key) (rows_after cells h key new) held.ids_ordered
  base_sorted false = held.base_ordered

  base_meant : (root : Bool) → IsReady point root h → AreMeant (cell_at stored) (contents_by (cell_at stored) (base_next root h ids_next)) (id_at (base_next root h ids_next))
  base_meant true ready = subst (λ c. AreMeant (cell_at stored) c (id_at ids_next)) (sym joined) means
  base_meant false ready =
      subst (λ c. AreMeant (cell_at stored) c (id_at h.base)) (sym (base_is false ready))
      (all_kept (cell_at cells) (cell_at stored) (contents_by (cell_at cells) h.base) (id_at h.base)
      (λ cell id is. keeps_older cells (new_id point key) (rows_after cells h key new) id (ready.older refl cell id is)) held.base)

  base_ids : (root : Bool) (cell : CellName) → id_at (base_next root h ids_next) cell ≡ (if root then id_at ids_next cell else id_at h.base cell)
  base_ids true cell = refl
  base_ids false cell = refl

  is_changed_here : (root : Bool) (parts records : ℕ) → IsReady point root h → parts ≡ part_count after → records ≡ length after
      → IsChanged point root ((key, new) ∷ []) (cell_at cells) (cell_at stored) h (next_held h (base_next root h ids_next) ids_next (own_next root h key new) parts records)
  is_changed_here root parts records ready ps rs = record {
    held = record {
      base_ordered = base_sorted root;
      ids_ordered = renewed_ordered h.ids (new_id point key) (rows_after cells h key new) held.ids_ordered;
      own_ordered = own_sorted root;
      base = base_meant root ready;
      contents = subst (λ c. AreMeant (cell_at stored) c (id_at ids_next)) (sym (contents_is root ready)) means;
      parts = ps ∙ ap part_count (sym (contents_is root ready));
      records = rs ∙ ap length (sym (contents_is root ready));
    };
    scenario = scenario_is root parts records ready;
    contents = λ cell. ids_after_row point h.ids after key new cell held.ids_ordered;
    base = base_ids root;
  }

-- the counts come out
pub new_records : (cells : CellList) (h : Held) (key : Key) (new : Option Record) (records : ℕ) → IsHeld (cell_at cells) h
    → records + cond (is_some (record_at (held_contents cells h) key)) 1 0 ≡ h.records + cond (is_some new) 1 0 → records ≡ length (changed (held_contents cells h) key new)
new_records cells h key new records held e = omega (arith, e, held.records, length_change (held_contents cells h) key new (contents_ordered cells h))

both : (a b : Bool) → ◌≡◌ {A = ℕ} (cond a (cond b 1 0) 0) (cond (a && b) 1 0)
both true b = refl
both false b = refl

pub new_parts : (cells : CellList) (h : Held) (key : Key) (new : Option Record) (parts : ℕ) → IsHeld (cell_at cells) h
    → parts + cond (is_some (record_at (held_contents cells h) key) && is_part_key key) 1 0 ≡ h.parts + cond (is_some new && is_part_key key) 1 0
    → parts ≡ part_count (changed (held_contents cells h) key new)
new_parts cells h key new parts held e =
    omega (arith, e, held.parts, parts_change (held_contents cells h) key new (contents_ordered cells h), both (is_some (record_at (held_contents cells h) key)) (is_part_key key), both (is_some new) (is_part_key key))

-- with what the calls give
pub is_changed : (cells cells' : CellList) (point : ℕ) (root : Bool) (h : Held) (key : Key) (new : Option Record) (ids base : IdList) (own : OwnChanges) (parts records : ℕ)
    → IsHeld (cell_at cells) h → IsReady point root h
    → ids ≡ renewed_ids h.ids (new_id point key) (new_rows cells h.ids key new)
    → cells' ≡ store_with cells (new_id point key) (new_rows cells h.ids key new)
    → own ≡ (if root then h.own else insert_entry key_cmp h.own key new)
    → base ≡ (if root then ids else h.base)
    → parts ≡ part_count (changed (held_contents cells h) key new) → records ≡ length (changed (held_contents cells h) key new)
    → IsChanged point root ((key, new) ∷ []) (cell_at cells) (cell_at cells') h (next_held h base ids own parts records)
is_changed cells cells' point root h key new ids base own parts records held ready is cs os bs ps rs =
    let rows = rows_are cells h key new held in
    let ids_are : ids ≡ renewed_ids h.ids (new_id point key) (rows_after cells h key new) = is ∙ ap (renewed_ids h.ids (new_id point key)) rows in
    let cells_are : cells' ≡ store_with cells (new_id point key) (rows_after cells h key new) = cs ∙ ap (store_with cells (new_id point key)) rows in
    let base_are : base ≡ base_next root h (renewed_ids h.ids (new_id point key) (rows_after cells h key new)) = bs ∙ ap (base_next root h) ids_are in
    let P : CellList × IdList × IdList × OwnChanges → Type 0 = λ q. IsChanged point root ((key, new) ∷ []) (cell_at cells) (cell_at q.0) h (next_held h q.1 q.2 q.3 parts records) in
    subst P (sym (λ i. (cells_are i, base_are i, ids_are i, os i))) (is_changed_here cells point h key new held root parts records ready ps rs)

pub records_are : (cells : CellList) (h : Held) (key : Key) (new : Option Record) (records : ℕ) (had has : Bool) → IsHeld (cell_at cells) h
    → had ≡ is_some (record_at (held_contents cells h) key) → has ≡ is_some new → IsRecounted h.records had has records → records ≡ length (changed (held_contents cells h) key new)
records_are cells h key new records had has held is it e =
    new_records cells h key new records held (subst (λ (q : Bool × Bool). IsRecounted h.records q.0 q.1 records) (λ i. (is i, it i)) e)

pub parts_are : (cells : CellList) (h : Held) (key : Key) (new : Option Record) (parts : ℕ) (had has part : Bool) → IsHeld (cell_at cells) h
    → had ≡ is_some (record_at (held_contents cells h) key) → has ≡ is_some new → part ≡ is_part_key key → IsRecounted h.parts (had && part) (has && part) parts
    → parts ≡ part_count (changed (held_contents cells h) key new)
parts_are cells h key new parts had has part held is it ps e =
    new_parts cells h key new parts held (subst (λ (q : Bool × Bool × Bool). IsRecounted h.parts (q.0 && q.2) (q.1 && q.2) parts) (λ i. (is i, it i, ps i)) e)

pub copied_some : {A : Type 0} (r : Option (Bor A)) → is_some r ≡ is_some (option_copied r)
copied_some None = refl
copied_some (Some a) = refl
