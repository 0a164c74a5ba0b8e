-- The records that the root begins with, in cells.
use Rattle.std.proofs.Common.{◌≡◌, [], ◌∷◌, ◌++◌, refl, sym, ◌∙◌, ap, subst, Bool, true, false, cond}
use Rattle.std.specs.Prelude.{Option, Some, None, unwrap_or}
use Rattle.std.specs.Option.{option_map}
use Rattle.std.proofs.lemmas.List.{map-append}
use Rattle.std.specs.BTreeMap.{is_at}
use Rattle.std.specs.Ordering.{is_eq}
use Rattle.std.specs.Cmp.{tied_itself}
use Rattle.plan_schema.specs.declared.key.Key.{Key}
use Rattle.plan_schema.specs.declared.key.Record.{Record}
use Rattle.plan_schema.specs.declared.change.CellName.{CellName}
use Rattle.plan_schema.specs.Key.{key_cmp, cell_of}
use Rattle.plan_schema.specs.Cell.{cell_cmp, cell_eq}
use Rattle.plan_schema.specs.Contents.{Contents, record_at, is_ordered, cell_rows}
use Rattle.scenario_rules.specs.World.{changed, laid_over}
use Rattle.scenario_rules.specs.Steps.{all_put}
use Rattle.scenario_rules.proofs.LaidOver.{shows_laid}
use Rattle.record_versions.specs.Versions.{IdList, CellList, id_at, cell_at}
use Rattle.record_versions.proofs.Orders.{cell_total, cell_exact}
use Rattle.record_versions.proofs.Same.{is_same}
use Rattle.version_rules.specs.Ids.{id_for, renewed}
use Rattle.version_rules.proofs.CellRows.{same_contents, rows_changed, rows_apart, ordered_laid}
use Rattle.scenario_cells.specs.Rows.{renewed_ids, store_with, new_id, new_rows}
use Rattle.scenario_cells.specs.Grouped.{IsGrouped}
use Rattle.scenario_cells.proofs.Join.{rows_meant, lookup_puts, sorted_puts}
use Rattle.scenario_cells.proofs.RowLaws.{row_means, id_renewed, renewed_ordered, cell_flips}
use Rattle.scenario_cells.proofs.LaidLaws.{laid_more}

pub nothing_grouped : IsGrouped [] [] []
nothing_grouped = record { ordered = refl; meant = λ q. refl; new = λ q. refl }

module _ (done : Contents) (cells : CellList) (ids : IdList) (k : Key) (v : Record) (so_far : IsGrouped (laid_over [] (all_put done)) cells ids) where
  abbrev c : Contents
  c = laid_over [] (all_put done)

  abbrev c' : Contents
  c' = changed c k (Some v)

  oc : is_ordered c ≡ true
  oc = ordered_laid [] (all_put done) refl

  more : laid_over [] (all_put (done ++ (k, v) ∷ [])) ≡ c'
  more = ap (laid_over []) (map-append (λ (row : Key × Record). (row.0, Some row.1)) done ((k, v) ∷ [])) ∙ laid_more [] (all_put done) k (Some v)

  rows_are : new_rows cells ids k (Some v) ≡ cell_rows c' (cell_of k)
  rows_are =
      ap (λ rows. changed rows k (Some v)) (rows_meant (cell_at cells) c ids (cell_of k) so_far.meant)
      ∙ sym (rows_changed c k (Some v) (cell_of k) oc (ap is_eq (tied_itself cell_total (cell_of k))))

  abbrev ids_next : IdList
  ids_next = renewed_ids ids (new_id 0 k) (cell_rows c' (cell_of k))

  new_next : (q : CellName) → id_at ids_next q ≡ renewed 0 c' q
  new_next q = id_renewed ids (new_id 0 k) (cell_rows c' (cell_of k)) q so_far.ordered ∙ by_cases (cell_eq q (cell_of k)) refl
    where
      by_cases : (t : Bool) → cell_eq q (cell_of k) ≡ t → cond (cell_eq q (cell_of k)) (id_for 0 (cell_of k) (cell_rows c' (cell_of k))) (id_at ids q) ≡ renewed 0 c' q
      by_cases true t =
          ap (λ b. cond b (id_for 0 (cell_of k) (cell_rows c' (cell_of k))) (id_at ids q)) t ∙ ap (renewed 0 c') (sym (cell_exact q (cell_of k) (is_same (cell_cmp q (cell_of k)) t)))
      by_cases false t =
          ap (λ b. cond b (id_for 0 (cell_of k) (cell_rows c' (cell_of k))) (id_at ids q)) t ∙ so_far.new q ∙ ap (id_for 0 q) (sym (rows_apart c k (Some v) q oc (cell_flips (cell_of k) q ∙ t)))

  next : IsGrouped c' (store_with cells (new_id 0 k) (cell_rows c' (cell_of k))) ids_next
  next = record {
    ordered = renewed_ordered ids (new_id 0 k) (cell_rows c' (cell_of k)) so_far.ordered;
    meant = row_means cells 0 ids c k (Some v) so_far.ordered oc so_far.meant;
    new = new_next;
  }

  pub grouped_next : (cells' : CellList) (ids' : IdList) → ids' ≡ renewed_ids ids (new_id 0 k) (new_rows cells ids k (Some v)) → cells' ≡ store_with cells (new_id 0 k) (new_rows cells ids k (Some v))
      → IsGrouped (laid_over [] (all_put (done ++ (k, v) ∷ []))) cells' ids'
  grouped_next cells' ids' is cs =
      let P : CellList × IdList × Contents → Type 0 = λ q. IsGrouped q.2 q.0 q.1 in
      subst P (sym (λ i. ((cs ∙ ap (store_with cells (new_id 0 k)) rows_are) i, (is ∙ ap (renewed_ids ids (new_id 0 k)) rows_are) i, more i))) next

-- contents that are put one after another
pub all_laid : (c : Contents) → is_ordered c ≡ true → laid_over [] (all_put c) ≡ c
all_laid c o = same_contents (laid_over [] (all_put c)) c (ordered_laid [] (all_put c) refl) o (λ q. shows_laid [] (all_put c) q refl (sorted_puts c ∙ o) ∙ ap (λ r. unwrap_or r None) (lookup_puts (is_at (key_cmp q)) c) ∙ one (record_at c q))
  where
    one : (r : Option Record) → unwrap_or (option_map Some r) None ≡ r
    one None = refl
    one (Some v) = refl
