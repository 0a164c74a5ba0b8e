-- One row of a scenario put or taken away: the ids of its cells and what they mean.
use Rattle.std.proofs.Common.{◌≡◌, ◌≢◌, ℕ, [], ◌∷◌, refl, sym, ◌∙◌, ap, subst, Bool, true, false, cond, ◌||◌}
use Rattle.std.specs.Prelude.{Option, Some, None, if◌then◌else◌}
use Rattle.std.specs.BTreeMap.{is_at}
use Rattle.std.specs.Ordering.{is_eq, ordering_reverse}
use Rattle.std.specs.declared.cmp.Ordering.{Ordering}
use Rattle.std.specs.declared.cmp.Ordering.TheVariants.{Less, Equal, Greater}
use Rattle.std.specs.Cmp.{tied_itself}
use Rattle.plan_schema.specs.declared.key.Key.{Key}
use Rattle.plan_schema.specs.declared.key.Record.{Record}
use Rattle.plan_schema.specs.declared.change.CellName.{CellName}
use Rattle.plan_schema.specs.Key.{cell_of}
use Rattle.plan_schema.specs.Cell.{cell_cmp, cell_eq}
use Rattle.plan_schema.specs.Contents.{Contents, is_ordered, cell_rows}
use Rattle.scenario_rules.specs.World.{changed}
use Rattle.scenario_rules.proofs.Maps.{lookup_insert, lookup_insert_other, lookup_remove_same, lookup_remove_other, sorted_insert, sorted_remove}
use Rattle.record_versions.specs.declared.version.VersionId.{VersionId}
use Rattle.record_versions.specs.Versions.{IdList, CellList, id_at, without_id, are_ordered_ids, id_cmp, id_eq, cell_at}
use Rattle.record_versions.proofs.Orders.{cell_total, cell_exact, id_total, id_exact}
use Rattle.record_versions.proofs.Same.{is_same}
use Rattle.version_rules.specs.Ids.{id_for, renewed, are_about, after_changes}
use Rattle.version_rules.specs.Meaning.{IsMeant, AreMeant}
use Rattle.version_rules.proofs.CellRows.{rows_apart}
use Rattle.version_rules.proofs.Meant.{meant_id}
use Rattle.scenario_cells.specs.Held.{KeepsOlder}
use Rattle.scenario_cells.specs.Rows.{renewed_ids, store_with, new_id, new_rows}

-- the id of a cell, where one cell's is renewed
pub id_renewed : (ids : IdList) (id : VersionId) (rows : Contents) (q : CellName) → are_ordered_ids ids ≡ true
    → id_at (renewed_ids ids id rows) q ≡ cond (cell_eq q id.cell) (id_for id.point id.cell rows) (id_at ids q)
id_renewed ids id [] q o = by_cases (cell_eq q id.cell) refl
  where
    by_cases : (t : Bool) → cell_eq q id.cell ≡ t → id_at (without_id ids id.cell) q ≡ cond (cell_eq q id.cell) None (id_at ids q)
    by_cases true t =
        let same = cell_exact q id.cell (is_same (cell_cmp q id.cell) t) in
        ap (id_at (without_id ids id.cell)) same ∙ lookup_remove_same cell_total cell_exact id.cell ids o ∙ sym (ap (λ b. cond b None (id_at ids q)) t)
    by_cases false t = lookup_remove_other cell_total cell_exact q id.cell ids t ∙ sym (ap (λ b. cond b None (id_at ids q)) t)
id_renewed ids id (row ∷ rows) q o = lookup_insert cell_total q id.cell id ids

pub renewed_ordered : (ids : IdList) (id : VersionId) (rows : Contents) → are_ordered_ids ids ≡ true → are_ordered_ids (renewed_ids ids id rows) ≡ true
renewed_ordered ids id [] o = sorted_remove cell_cmp (is_at (cell_cmp id.cell)) ids o
renewed_ordered ids id (row ∷ rows) o = sorted_insert cell_total id.cell id ids o

pub cell_flips : (a b : CellName) → cell_eq a b ≡ cell_eq b a
cell_flips a b = ap is_eq (cell_total.antisymm a b) ∙ reversed (cell_cmp b a)
  where
    reversed : (r : Ordering) → is_eq (ordering_reverse r) ≡ is_eq r
    reversed Less = refl
    reversed Equal = refl
    reversed Greater = refl

either_none : (a : Bool) → (a || false) ≡ a
either_none true = refl
either_none false = refl

-- the ids after a change of one row are those of the definition
pub ids_after_row : (point : ℕ) (ids : IdList) (c : Contents) (key : Key) (new : Option Record) (q : CellName) → are_ordered_ids ids ≡ true
    → id_at (renewed_ids ids (record { point = point; cell = cell_of key }) (cell_rows c (cell_of key))) q ≡ after_changes point c ((key, new) ∷ []) (id_at ids) q
ids_after_row point ids c key new q o =
    id_renewed ids (record { point = point; cell = cell_of key }) (cell_rows c (cell_of key)) q o ∙ by_cases (cell_eq q (cell_of key)) refl
  where
    about : are_about ((key, new) ∷ []) q ≡ cell_eq q (cell_of key)
    about = either_none (cell_eq (cell_of key) q) ∙ cell_flips (cell_of key) q

    by_cases : (t : Bool) → cell_eq q (cell_of key) ≡ t
        → cond (cell_eq q (cell_of key)) (id_for point (cell_of key) (cell_rows c (cell_of key))) (id_at ids q) ≡ after_changes point c ((key, new) ∷ []) (id_at ids) q
    by_cases true t =
        let same : q ≡ cell_of key = cell_exact q (cell_of key) (is_same (cell_cmp q (cell_of key)) t) in
        ap (λ b. cond b (id_for point (cell_of key) (cell_rows c (cell_of key))) (id_at ids q)) t
        ∙ ap (renewed point c) (sym same)
        ∙ sym (ap (λ b. if b then renewed point c q else id_at ids q) (about ∙ t))
    by_cases false t =
        ap (λ b. cond b (id_for point (cell_of key) (cell_rows c (cell_of key))) (id_at ids q)) t
        ∙ sym (ap (λ b. if b then renewed point c q else id_at ids q) (about ∙ t))

-- a store with a new cell
pub stored_other : (cells : CellList) (id other : VersionId) (rows : Contents) → id_eq other id ≡ false → cell_at (store_with cells id rows) other ≡ cell_at cells other
stored_other cells id other [] h = refl
stored_other cells id other (row ∷ rows) h = lookup_insert_other id_total other id (row ∷ rows) cells h

pub stored_here : (cells : CellList) (id : VersionId) (rows : Contents) → rows ≢ [] → cell_at (store_with cells id rows) id ≡ Some rows
stored_here cells id [] h = absurd (h refl)
stored_here cells id (row ∷ rows) h =
    lookup_insert id_total id id (row ∷ rows) cells ∙ ap (λ r. cond (is_eq r) (Some (row ∷ rows)) (cell_at cells id)) (tied_itself id_total id)

not_same : (a b : VersionId) → a ≢ b → id_eq a b ≡ false
not_same a b h = by_cases (id_eq a b) refl
  where
    by_cases : (t : Bool) → id_eq a b ≡ t → id_eq a b ≡ false
    by_cases true t = absurd (h (id_exact a b (is_same (id_cmp a b) t)))
    by_cases false t = t

pub keeps_older : (cells : CellList) (id : VersionId) (rows : Contents) → KeepsOlder id.point cells (store_with cells id rows)
keeps_older cells id rows other h = stored_other cells id other rows (not_same other id (λ e. h (ap (λ i. i.point) e)))

pub row_keeps : (cells cells' : CellList) (point : ℕ) (ids : IdList) (key : Key) (new : Option Record) → cells' ≡ store_with cells (new_id point key) (new_rows cells ids key new) → KeepsOlder point cells cells'
row_keeps cells cells' point ids key new is = subst (λ (after : CellList). KeepsOlder point cells after) (sym is) (keeps_older cells (new_id point key) (new_rows cells ids key new))

-- what the ids mean after a change of one row
pub row_means : (cells : CellList) (point : ℕ) (ids : IdList) (c : Contents) (key : Key) (new : Option Record) → are_ordered_ids ids ≡ true → is_ordered c ≡ true → AreMeant (cell_at cells) c (id_at ids)
    → let id : VersionId = record { point = point; cell = cell_of key } in let rows = cell_rows (changed c key new) (cell_of key) in
    AreMeant (cell_at (store_with cells id rows)) (changed c key new) (id_at (renewed_ids ids id rows))
row_means cells point ids c key new oi oc meant q =
    let id : VersionId = record { point = point; cell = cell_of key } in
    let rows = cell_rows (changed c key new) (cell_of key) in
    let P : Option VersionId → Type 0 = λ o. IsMeant (cell_at (store_with cells id rows)) q (cell_rows (changed c key new) q) o in
    subst P (sym (id_renewed ids id rows q oi)) (by_cases (cell_eq q (cell_of key)) refl)
  where
    other : (o : Option VersionId) → IsMeant (cell_at cells) q (cell_rows c q) o → cell_eq q (cell_of key) ≡ false
        → IsMeant (cell_at (store_with cells (record { point = point; cell = cell_of key }) (cell_rows (changed c key new) (cell_of key)))) q (cell_rows c q) o
    other None h t = h
    other (Some i) h t =
        let id : VersionId = record { point = point; cell = cell_of key } in
        let rows = cell_rows (changed c key new) (cell_of key) in
        let apart : i ≢ id = λ e. clash (sym (ap (λ n. cell_eq n (cell_of key)) (sym h.1 ∙ ap (λ v. v.cell) e) ∙ ap is_eq (tied_itself cell_total (cell_of key))) ∙ t) in
        (stored_other cells id i rows (not_same i id apart) ∙ h.0, h.1, h.2)
      where
        clash : true ≡ false → ⊥
        clash e = cc

    by_cases : (t : Bool) → cell_eq q (cell_of key) ≡ t
        → IsMeant (cell_at (store_with cells (record { point = point; cell = cell_of key }) (cell_rows (changed c key new) (cell_of key)))) q (cell_rows (changed c key new) q)
        (cond (cell_eq q (cell_of key)) (id_for point (cell_of key) (cell_rows (changed c key new) (cell_of key))) (id_at ids q))
    by_cases true t =
        let id : VersionId = record { point = point; cell = cell_of key } in
        let rows = cell_rows (changed c key new) (cell_of key) in
        let m' = cell_at (store_with cells id rows) in
        let same : cell_of key ≡ q = sym (cell_exact q (cell_of key) (is_same (cell_cmp q (cell_of key)) t)) in
        let here : IsMeant m' (cell_of key) rows (id_for point (cell_of key) rows) = meant_id m' point (cell_of key) rows (stored_here cells id rows) in
        let P : CellName → Type 0 = λ n. IsMeant m' n (cell_rows (changed c key new) n) (id_for point (cell_of key) rows) in
        let Q : Bool → Type 0 = λ b. IsMeant m' q (cell_rows (changed c key new) q) (cond b (id_for point (cell_of key) rows) (id_at ids q)) in
        subst Q (sym t) (subst P same here)
    by_cases false t =
        let id : VersionId = record { point = point; cell = cell_of key } in
        let rows = cell_rows (changed c key new) (cell_of key) in
        let m' = cell_at (store_with cells id rows) in
        let Q : Bool → Type 0 = λ b. IsMeant m' q (cell_rows (changed c key new) q) (cond b (id_for point (cell_of key) rows) (id_at ids q)) in
        let P : Contents → Type 0 = λ r. IsMeant m' q r (id_at ids q) in
        let apart : cell_eq (cell_of key) q ≡ false = cell_flips (cell_of key) q ∙ t in
        subst Q (sym t) (subst P (sym (rows_apart c key new q oc apart)) (other (id_at ids q) (meant q) t))
