-- The cells of a scenario by its ids.
use Rattle.std.proofs.Common.{◌≡◌, List, [], ◌∷◌, map, refl, sym, ◌∙◌, ap, Bool, true, false, cond, ◌&&◌, ◌||◌}
use Rattle.std.proofs.lemmas.Bool.{and_parts}
use Rattle.std.specs.Prelude.{Option, Some, None, filter, is_some}
use Rattle.std.specs.Option.{option_map}
use Rattle.std.specs.List.{list_all, filter_map, cons_option}
use Rattle.std.specs.Map.{lookup}
use Rattle.std.specs.BTreeMap.{is_at}
use Rattle.std.specs.FinMap.{is_sorted}
use Rattle.std.specs.FinMap.Entries.{below_all}
use Rattle.std.specs.Ordering.{is_eq, is_lt}
use Rattle.std.specs.declared.cmp.Ordering.{Ordering}
use Rattle.plan_schema.specs.declared.change.CellName.{CellName}
use Rattle.plan_schema.specs.Cell.{cell_cmp, cell_eq}
use Rattle.plan_schema.specs.Contents.{Contents}
use Rattle.record_versions.specs.declared.version.VersionId.{VersionId}
use Rattle.record_versions.specs.Versions.{IdList, CellList, id_at, are_ordered_ids, cell_at}
use Rattle.record_versions.proofs.Cells.{seen, seen_lookup}
use Rattle.record_versions.proofs.Orders.{cell_total, cell_exact}
use Rattle.record_versions.proofs.Same.{same_lists}
use Rattle.walk_rules.specs.Cells.{Cells, held}
use Rattle.walk_rules.proofs.RightLaws.{one_cell}
use Rattle.plan_jobs.specs.Jobs.{by_name, are_ascending}
use Rattle.plan_jobs.specs.Names.{has_name, are_ordered}
use Rattle.plan_jobs.specs.Collects.{cell_by, cells_by}
use Rattle.plan_jobs.proofs.Rows.{held_is_lookup}
use Rattle.plan_jobs.proofs.Kept.{kept, ascending_kept, held_kept}

-- a function of the values leaves the order of the keys
module _ {K V W : Type 0} (f : V → W) (R : K → K → Ordering) where
  below_seen : (k : K) (es : List (K × V)) → below_all R k (seen f es) ≡ below_all R k es
  below_seen k [] = refl
  below_seen k (e ∷ es) = ap (λ b. is_lt (R k e.0) && b) (below_seen k es)

  pub sorted_seen : (es : List (K × V)) → is_sorted R (seen f es) ≡ is_sorted R es
  sorted_seen [] = refl
  sorted_seen (e ∷ es) = λ i. below_seen e.0 es i && sorted_seen es i

-- each id is under its own cell's name
abbrev pub are_named : IdList → Bool
are_named ids = list_all (λ entry. cell_eq entry.1.cell entry.0) ids

module _ (store : CellList) where
  by_name_by : (ids : IdList) → are_named ids ≡ true → by_name (cells_by store ids) ≡ seen (cell_by store) ids
  by_name_by [] h = refl
  by_name_by (entry ∷ ids) h =
      let two = and_parts (cell_eq entry.1.cell entry.0) (are_named ids) h in
      λ i. (one_cell entry.1.cell entry.0 two.0 i, cell_by store entry.1) ∷ by_name_by ids two.1 i

  pub ascending_by : (ids : IdList) → are_ordered_ids ids ≡ true → are_named ids ≡ true → are_ascending (cells_by store ids) ≡ true
  ascending_by ids h named = ap (is_sorted cell_cmp) (by_name_by ids named) ∙ sorted_seen (cell_by store) cell_cmp ids ∙ h

  pub held_by : (ids : IdList) (name : CellName) → are_named ids ≡ true → held (cells_by store ids) name ≡ option_map (cell_by store) (id_at ids name)
  held_by ids name named =
      held_is_lookup (cells_by store ids) name ∙ ap (lookup (is_at (cell_cmp name))) (by_name_by ids named) ∙ sym (seen_lookup (cell_by store) (is_at (cell_cmp name)) ids)

  -- the cells of names, fetched one after another
  abbrev pub fetched : IdList → List CellName → Cells
  fetched ids names = filter_map (λ name. option_map (cell_by store) (id_at ids name)) names

  -- with their names
  abbrev keyed : IdList → List CellName → List (CellName × (VersionId × Contents))
  keyed ids names = filter_map (λ name. option_map (λ id. (name, cell_by store id)) (id_at ids name)) names

  abbrev cells_in : List (CellName × (VersionId × Contents)) → Cells
  cells_in es = map (λ e. e.1) es

  keyed_fetched : (ids : IdList) (names : List CellName) → cells_in (keyed ids names) ≡ fetched ids names
  keyed_fetched ids [] = refl
  keyed_fetched ids (name ∷ names) = by_cases (keyed_fetched ids names) (id_at ids name)
    where
      by_cases : cells_in (keyed ids names) ≡ fetched ids names → (o : Option VersionId)
          → cells_in (cons_option (option_map (λ id. (name, cell_by store id)) o) (keyed ids names)) ≡ cons_option (option_map (cell_by store) o) (fetched ids names)
      by_cases rest None = rest
      by_cases rest (Some id) = ap (λ cells. cell_by store id ∷ cells) rest

  named_cells_in : (cells : Cells) → cells_in (by_name cells) ≡ cells
  named_cells_in [] = refl
  named_cells_in (cell ∷ cells) = ap (λ rest. cell ∷ rest) (named_cells_in cells)

  below_keyed : (ids : IdList) (k : CellName) (names : List CellName) → list_all (λ other. is_lt (cell_cmp k other)) names ≡ true → below_all cell_cmp k (keyed ids names) ≡ true
  below_keyed ids k [] h = refl
  below_keyed ids k (name ∷ names) h =
      let two = and_parts (is_lt (cell_cmp k name)) (list_all (λ other. is_lt (cell_cmp k other)) names) h in
      by_cases two.0 (below_keyed ids k names two.1) (id_at ids name)
    where
      by_cases : is_lt (cell_cmp k name) ≡ true → below_all cell_cmp k (keyed ids names) ≡ true → (o : Option VersionId)
          → below_all cell_cmp k (cons_option (option_map (λ id. (name, cell_by store id)) o) (keyed ids names)) ≡ true
      by_cases here rest None = rest
      by_cases here rest (Some id) = λ i. here i && rest i

  sorted_keyed : (ids : IdList) (names : List CellName) → are_ordered names ≡ true → is_sorted cell_cmp (keyed ids names) ≡ true
  sorted_keyed ids [] h = refl
  sorted_keyed ids (name ∷ names) h =
      let two = and_parts (list_all (λ other. is_lt (cell_cmp name other)) names) (are_ordered names) h in
      by_cases (below_keyed ids name names two.0) (sorted_keyed ids names two.1) (id_at ids name)
    where
      by_cases : below_all cell_cmp name (keyed ids names) ≡ true → is_sorted cell_cmp (keyed ids names) ≡ true → (o : Option VersionId)
          → is_sorted cell_cmp (cons_option (option_map (λ id. (name, cell_by store id)) o) (keyed ids names)) ≡ true
      by_cases here rest None = rest
      by_cases here rest (Some id) = λ i. here i && rest i

  -- what is found among them
  looked_up : (ids : IdList) (q : CellName) (names : List CellName) → lookup (is_at (cell_cmp q)) (keyed ids names) ≡ cond (has_name names q) (option_map (cell_by store) (id_at ids q)) None
  looked_up ids q [] = refl
  looked_up ids q (name ∷ names) = by_cases (looked_up ids q names) (cell_eq q name) refl (id_at ids name) refl
    where
      none_twice : (b : Bool) (o : Option (VersionId × Contents)) → o ≡ None → cond b o None ≡ o
      none_twice true o h = refl
      none_twice false o h = sym h

      by_cases : lookup (is_at (cell_cmp q)) (keyed ids names) ≡ cond (has_name names q) (option_map (cell_by store) (id_at ids q)) None → (b : Bool) → cell_eq q name ≡ b → (o : Option VersionId) → id_at ids name ≡ o
          → lookup (is_at (cell_cmp q)) (cons_option (option_map (λ id. (name, cell_by store id)) o) (keyed ids names)) ≡ cond (b || has_name names q) (option_map (cell_by store) (id_at ids q)) None
      by_cases rest true same None is =
          let none : option_map (cell_by store) (id_at ids q) ≡ None = ap (λ n. option_map (cell_by store) (id_at ids n)) (one_cell q name same) ∙ ap (option_map (cell_by store)) is in
          rest ∙ none_twice (has_name names q) (option_map (cell_by store) (id_at ids q)) none
      by_cases rest true same (Some id) is =
          ap (λ b. cond b (Some (cell_by store id)) (lookup (is_at (cell_cmp q)) (keyed ids names))) same
          ∙ sym (ap (λ n. option_map (cell_by store) (id_at ids n)) (one_cell q name same) ∙ ap (option_map (cell_by store)) is)
      by_cases rest false same None is = rest
      by_cases rest false same (Some id) is = ap (λ b. cond b (Some (cell_by store id)) (lookup (is_at (cell_cmp q)) (keyed ids names))) same ∙ rest

  -- the cells of names are those among all whose names these are
  pub fetched_is_kept : (ids : IdList) (names : List CellName) → are_ordered_ids ids ≡ true → are_named ids ≡ true → are_ordered names ≡ true
      → fetched ids names ≡ filter (λ cell. has_name names cell.0.cell) (cells_by store ids)
  fetched_is_kept ids names ordered named h =
      let all = cells_by store ids in
      let those = kept (has_name names) all in
      let up = ascending_kept (has_name names) all (ascending_by ids ordered named) in
      let same : keyed ids names ≡ by_name those = same_lists cell_total cell_exact (keyed ids names) (by_name those) (sorted_keyed ids names h) up
      (λ q. looked_up ids q names ∙ sym (sym (held_is_lookup those q) ∙ held_kept (has_name names) all q ∙ ap (λ o. cond (has_name names q) o None) (held_by ids q named))) in
      sym (keyed_fetched ids names) ∙ ap cells_in same ∙ named_cells_in those

  pub ascending_fetched : (ids : IdList) (names : List CellName) → are_ordered_ids ids ≡ true → are_named ids ≡ true → are_ordered names ≡ true → are_ascending (fetched ids names) ≡ true
  ascending_fetched ids names ordered named h =
      ap are_ascending (fetched_is_kept ids names ordered named h) ∙ ascending_kept (has_name names) (cells_by store ids) (ascending_by ids ordered named)

-- an id that is found is in the store
pub stored_at : (store : CellList) (ids : IdList) (name : CellName) (id : VersionId) → list_all (λ entry. is_some (cell_at store entry.1)) ids ≡ true → id_at ids name ≡ Some id → is_some (cell_at store id) ≡ true
stored_at store [] name id h is = absurd (let no : ⊥ = cc in no)
stored_at store (entry ∷ ids) name id h is = by_cases (is_eq (cell_cmp name entry.0)) (λ o. stored_at store ids name id two.1 o) is
  where
    two : (is_some (cell_at store entry.1) ≡ true) × (list_all (λ other. is_some (cell_at store other.1)) ids ≡ true)
    two = and_parts (is_some (cell_at store entry.1)) (list_all (λ other. is_some (cell_at store other.1)) ids) h

    by_cases : (b : Bool) → (id_at ids name ≡ Some id → is_some (cell_at store id) ≡ true) → cond b (Some entry.1) (id_at ids name) ≡ Some id → is_some (cell_at store id) ≡ true
    by_cases true again o = let same : entry.1 ≡ id = cc in ap (λ x. is_some (cell_at store x)) (sym same) ∙ two.0
    by_cases false again o = again o
