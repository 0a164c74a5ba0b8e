-- What the rows of a part's cell tell: its parents, and the calendar that it names.
use Rattle.std.proofs.Common.{◌≡◌, List, [], ◌∷◌, map, refl, sym, ◌∙◌, ap, Bool, true, false, cond, ◌&&◌, ◌||◌}
use Rattle.std.proofs.lemmas.Bool.{and_parts}
use Rattle.std.specs.Prelude.{Option, Some, None}
use Rattle.std.specs.Option.{option_map}
use Rattle.std.specs.List.{list_all, filter_map, cons_option}
use Rattle.plan_schema.specs.declared.name.Name.{Name}
use Rattle.plan_schema.specs.declared.key.Key.{Key}
use Rattle.plan_schema.specs.declared.key.Key.TheVariants as keys
use Rattle.plan_schema.specs.declared.key.Record.{Record}
use Rattle.plan_schema.specs.declared.key.Record.TheVariants as rows
use Rattle.plan_schema.specs.declared.change.CellName.{CellName}
use Rattle.plan_schema.specs.declared.change.CellName.TheVariants as names
use Rattle.plan_schema.specs.Key.{name_eq, cell_of}
use Rattle.plan_schema.specs.Cell.{cell_eq}
use Rattle.plan_schema.specs.Contents.{Contents, record_at, cell_rows}
use Rattle.plan_schema.specs.Sound.{is_sound_key, record_has_names, is_within, is_sound_row, are_sound_rows}
use Rattle.planning_rules.specs.Bills.{ParentBill, bill_in, bills_of, parents, parent_in}
use Rattle.record_versions.specs.declared.version.VersionId.{VersionId}
use Rattle.record_versions.specs.Versions.{IdList, CellList, id_at, are_ordered_ids}
use Rattle.walk_rules.specs.Cells.{Cells, held, are_own_rows}
use Rattle.walk_rules.specs.Steps.{calendar_of, calendar_in}
use Rattle.walk_rules.proofs.Local.{bills_same, record_same}
use Rattle.plan_jobs.specs.Collects.{AreWholeCells, cell_by, cells_by, records_by, is_calendar, IsVisited}
use Rattle.plan_jobs.specs.Names.{has_name, IsWith}
use Rattle.plan_jobs.proofs.Rows.{rows_of, rows_held, own_held, own_all, apart}
use Rattle.plan_jobs.proofs.Found.{held_by, ascending_by}

never : {A : Type 0} → false ≡ true → A
never h = cc

bill_parent : (p q m : Name) (value : Record) → name_eq m p ≡ true → (is_sound_key (keys.Bill q m) && record_has_names value && is_within (keys.Bill q m) value) ≡ true
    → option_map (λ bill. bill.parent) (bill_in p (keys.Bill q m, value)) ≡ Some q
bill_parent p q m (rows.Bill per span) own sound =
    let one : ParentBill = record { parent = q; per = per; span = span } in
    ap (λ b. option_map (λ bill. bill.parent) (cond b (Some one) None)) own
bill_parent p q m value own sound = never (and_parts (is_sound_key (keys.Bill q m) && record_has_names value) false sound).1

row_parent : (p : Name) (key : Key) (value : Record) → cell_eq (cell_of key) (names.Part p) ≡ true → is_sound_row key value ≡ true → option_map (λ bill. bill.parent) (bill_in p (key, value)) ≡ parent_in (key, value)
row_parent p (keys.Bill q m) value own sound = bill_parent p q m value own sound
row_parent p key value own sound = refl

-- the parents in sound rows of a part's own cell
parents_own : (p : Name) (cell : Contents) → are_own_rows (names.Part p) cell ≡ true → are_sound_rows cell ≡ true → parents cell p ≡ filter_map parent_in cell
parents_own p [] own sound = refl
parents_own p (row ∷ cell) own sound =
    let mine = and_parts (cell_eq (cell_of row.0) (names.Part p)) (are_own_rows (names.Part p) cell) own in
    let good = and_parts (is_sound_row row.0 row.1) (are_sound_rows cell) sound in
    by_cases (bill_in p row) ∙ (λ i. cons_option (row_parent p row.0 row.1 mine.0 good.0 i) (parents_own p cell mine.1 good.1 i))
  where
    by_cases : (o : Option ParentBill) → map (λ bill. bill.parent) (cons_option o (bills_of cell p)) ≡ cons_option (option_map (λ bill. bill.parent) o) (parents cell p)
    by_cases None = refl
    by_cases (Some bill) = refl

-- a part's parents, and its calendar, by the rows of its cell
module _ (w : Contents) (p : Name) (cell : Contents) (here : cell_rows w (names.Part p) ≡ cell) where
  its_cell : are_own_rows (names.Part p) cell ≡ true → cell_rows w (names.Part p) ≡ cell_rows cell (names.Part p)
  its_cell own = here ∙ sym (own_all cell (names.Part p) own)

  pub parents_here : are_own_rows (names.Part p) cell ≡ true → are_sound_rows cell ≡ true → parents w p ≡ filter_map parent_in cell
  parents_here own sound = ap (map (λ bill. bill.parent)) (bills_same w cell p (its_cell own)) ∙ parents_own p cell own sound

  pub calendar_here : are_own_rows (names.Part p) cell ≡ true → calendar_in w p ≡ calendar_of (record_at cell (keys.Part p))
  calendar_here own = ap calendar_of (record_same w cell (keys.Part p) (its_cell own))

sound_held : (cells : Cells) (name : CellName) (cell : VersionId × Contents) → list_all (λ c. are_sound_rows c.1) cells ≡ true → held cells name ≡ Some cell → are_sound_rows cell.1 ≡ true
sound_held [] name cell h is = absurd (let no : ⊥ = cc in no)
sound_held (first ∷ cells) name cell h is = by_cases (cell_eq first.0.cell name) (λ o. sound_held cells name cell two.1 o) is
  where
    two : (are_sound_rows first.1 ≡ true) × (list_all (λ c. are_sound_rows c.1) cells ≡ true)
    two = and_parts (are_sound_rows first.1) (list_all (λ c. are_sound_rows c.1) cells) h

    by_cases : (b : Bool) → (held cells name ≡ Some cell → are_sound_rows cell.1 ≡ true) → cond b (Some first) (held cells name) ≡ Some cell → are_sound_rows cell.1 ≡ true
    by_cases true again o = let same : first ≡ cell = cc in ap (λ x. are_sound_rows x.1) (sym same) ∙ two.0
    by_cases false again o = again o

module _ (store : CellList) (ids : IdList) (whole : AreWholeCells store ids) (ordered : are_ordered_ids ids ≡ true) where
  -- the records of a name
  pub rows_by : (name : CellName) → cell_rows (records_by store ids) name ≡ rows_of (option_map (cell_by store) (id_at ids name))
  rows_by name = rows_held (cells_by store ids) name whole.own (apart (cells_by store ids) (ascending_by store ids ordered whole.named)) ∙ ap rows_of (held_by store ids name whole.named)

  own_by : (name : CellName) (cell : VersionId × Contents) → option_map (cell_by store) (id_at ids name) ≡ Some cell → are_own_rows name cell.1 ≡ true
  own_by name cell is = own_held (cells_by store ids) name cell whole.own (held_by store ids name whole.named ∙ is)

  module _ (p : Name) where
    -- where the part has no cell
    pub no_parents : None ≡ option_map (cell_by store) (id_at ids (names.Part p)) → parents (records_by store ids) p ≡ []
    no_parents is = parents_here (records_by store ids) p [] (rows_by (names.Part p) ∙ ap rows_of (sym is)) refl refl

    pub no_calendar : None ≡ option_map (cell_by store) (id_at ids (names.Part p)) → calendar_in (records_by store ids) p ≡ None
    no_calendar is = calendar_here (records_by store ids) p [] (rows_by (names.Part p) ∙ ap rows_of (sym is)) refl

    -- and where it has one
    module _ (cell : VersionId × Contents) (is : Some cell ≡ option_map (cell_by store) (id_at ids (names.Part p))) where
      pub its_parents : parents (records_by store ids) p ≡ filter_map parent_in cell.1
      its_parents = parents_here (records_by store ids) p cell.1 (rows_by (names.Part p) ∙ ap rows_of (sym is)) (own_by (names.Part p) cell (sym is))
          (sound_held (cells_by store ids) (names.Part p) cell whole.sound (held_by store ids (names.Part p) whole.named ∙ sym is))

      pub its_calendar : calendar_in (records_by store ids) p ≡ calendar_of (record_at cell.1 (keys.Part p))
      its_calendar = calendar_here (records_by store ids) p cell.1 (rows_by (names.Part p) ∙ ap rows_of (sym is)) (own_by (names.Part p) cell (sym is))

-- the names that are put for a part: its own cell's, and its calendar's
module _ (c : Contents) (part : Name) (old mid : List CellName) (own : IsWith old (names.Part part) mid) where
  pub without_calendar : calendar_in c part ≡ None → IsVisited c part old mid
  without_calendar none names.Plan = own names.Plan
  without_calendar none (names.Part n) = own (names.Part n)
  without_calendar none (names.Cal k) = own (names.Cal k) ∙ ap (λ o. is_calendar o k || has_name old (names.Cal k)) (sym none)

  pub with_calendar : (k : Name) (new : List CellName) → calendar_in c part ≡ Some k → IsWith mid (names.Cal k) new → IsVisited c part old new
  with_calendar k new is with names.Plan = with names.Plan ∙ own names.Plan
  with_calendar k new is with (names.Part n) = with (names.Part n) ∙ own (names.Part n)
  with_calendar k new is with (names.Cal j) = with (names.Cal j) ∙ ap (λ b. name_eq k j || b) (own (names.Cal j)) ∙ ap (λ o. is_calendar o j || has_name old (names.Cal j)) (sym is)
