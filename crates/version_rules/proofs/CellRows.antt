-- The rows of a cell, after changes of its own and of others.
use Rattle.std.proofs.Common.{◌≡◌, [], ◌∷◌, refl, sym, ◌∙◌, ap, Bool, true, false, cond, ◌||◌}
use Rattle.std.specs.Prelude.{Option, Some, None, unwrap_or}
use Rattle.std.specs.Map.{lookup}
use Rattle.std.specs.BTreeMap.{is_at, insert_entry}
use Rattle.std.specs.FinMap.{is_sorted}
use Rattle.std.specs.FinMap.Entries.{find-where_key, is_sorted-where_key}
use Rattle.std.specs.Ordering.{is_eq}
use Rattle.plan_schema.specs.declared.key.Key.{Key}
use Rattle.plan_schema.specs.declared.key.Record.{Record}
use Rattle.plan_schema.specs.declared.change.CellName.{CellName}
use Rattle.plan_schema.specs.Key.{key_cmp, cell_of}
use Rattle.plan_schema.specs.Cell.{cell_eq}
use Rattle.plan_schema.specs.Contents.{Contents, record_at, is_ordered, cell_rows}
use Rattle.scenario_rules.specs.World.{OwnChanges, changed, laid_over}
use Rattle.scenario_rules.proofs.Maps.{holds, is_so, lookup_is_find, lookup_insert}
use Rattle.scenario_rules.proofs.Keys.{key_total, key_exact}
use Rattle.scenario_rules.proofs.LaidOver.{changed_shows, others_show, ordered_changed, shows_laid}
use Rattle.record_versions.proofs.Same.{same_lists, is_same}
use Rattle.version_rules.specs.Ids.{are_about}

abbrev in_cell : CellName → Key → Bool
in_cell cell key = cell_eq (cell_of key) cell

pub same_contents : (a b : Contents) → is_ordered a ≡ true → is_ordered b ≡ true → ((q : Key) → record_at a q ≡ record_at b q) → a ≡ b
same_contents = same_lists key_total key_exact

-- a row of the cell is found among its rows, and no other is
pub row_found : (c : Contents) (cell : CellName) (q : Key) → record_at (cell_rows c cell) q ≡ cond (in_cell cell q) (record_at c q) None
row_found c cell q =
    lookup_is_find key_cmp q (cell_rows c cell)
    ∙ find-where_key key_cmp (in_cell cell) q (λ x h. ap (in_cell cell) (sym (key_exact q x h))) c
    ∙ ap (λ o. cond (in_cell cell q) o None) (sym (lookup_is_find key_cmp q c))

pub rows_ordered : (c : Contents) (cell : CellName) → is_ordered c ≡ true → is_ordered (cell_rows c cell) ≡ true
rows_ordered c cell h = is_so (is_ordered (cell_rows c cell)) (is_sorted-where_key key_cmp (in_cell cell) c (holds (is_ordered c) h))

pub one_key : (q k : Key) → is_eq (key_cmp q k) ≡ true → q ≡ k
one_key q k h = key_exact q k (is_same (key_cmp q k) h)

-- a change of another cell
pub rows_apart : (c : Contents) (k : Key) (new : Option Record) (cell : CellName) → is_ordered c ≡ true → in_cell cell k ≡ false → cell_rows (changed c k new) cell ≡ cell_rows c cell
rows_apart c k new cell h apart =
    same_contents (cell_rows (changed c k new) cell) (cell_rows c cell) (rows_ordered (changed c k new) cell (ordered_changed c k new h)) (rows_ordered c cell h)
    (λ q. row_found (changed c k new) cell q ∙ by_cases q (is_eq (key_cmp q k)) refl ∙ sym (row_found c cell q))
  where
    by_cases : (q : Key) (t : Bool) → is_eq (key_cmp q k) ≡ t → cond (in_cell cell q) (record_at (changed c k new) q) None ≡ cond (in_cell cell q) (record_at c q) None
    by_cases q true t =
        let out : in_cell cell q ≡ false = ap (in_cell cell) (one_key q k t) ∙ apart in
        ap (λ b. cond b (record_at (changed c k new) q) None) out ∙ sym (ap (λ b. cond b (record_at c q) None) out)
    by_cases q false t = ap (λ r. cond (in_cell cell q) r None) (others_show c q k new t)

-- a change of this cell
pub rows_changed : (c : Contents) (k : Key) (new : Option Record) (cell : CellName) → is_ordered c ≡ true → in_cell cell k ≡ true → cell_rows (changed c k new) cell ≡ changed (cell_rows c cell) k new
rows_changed c k new cell h here =
    let rows = cell_rows c cell in
    let ordered = rows_ordered c cell h in
    same_contents (cell_rows (changed c k new) cell) (changed rows k new) (rows_ordered (changed c k new) cell (ordered_changed c k new h)) (ordered_changed rows k new ordered)
    (λ q. row_found (changed c k new) cell q ∙ by_cases ordered q (is_eq (key_cmp q k)) refl)
  where
    by_cases : is_ordered (cell_rows c cell) ≡ true → (q : Key) (t : Bool) → is_eq (key_cmp q k) ≡ t
        → cond (in_cell cell q) (record_at (changed c k new) q) None ≡ record_at (changed (cell_rows c cell) k new) q
    by_cases ordered q true t =
        let at = one_key q k t in
        let inside : in_cell cell q ≡ true = ap (in_cell cell) at ∙ here in
        ap (λ b. cond b (record_at (changed c k new) q) None) inside ∙ ap (record_at (changed c k new)) at ∙ changed_shows c k new h
        ∙ sym (ap (record_at (changed (cell_rows c cell) k new)) at ∙ changed_shows (cell_rows c cell) k new ordered)
    by_cases ordered q false t =
        ap (λ r. cond (in_cell cell q) r None) (others_show c q k new t) ∙ sym (row_found c cell q) ∙ sym (others_show (cell_rows c cell) q k new t)

pub ordered_laid : (c : Contents) (later : OwnChanges) → is_ordered c ≡ true → is_ordered (laid_over c later) ≡ true
ordered_laid c [] h = h
ordered_laid c (change ∷ later) h = ordered_laid (changed c change.0 change.1) later (ordered_changed c change.0 change.1 h)

not_either : (a b : Bool) → (a || b) ≡ false → (a ≡ false) × (b ≡ false)
not_either true b h = cc
not_either false b h = (refl, h)

-- changes of other cells
pub rows_not_about : (c : Contents) (later : OwnChanges) (cell : CellName) → is_ordered c ≡ true → are_about later cell ≡ false → cell_rows (laid_over c later) cell ≡ cell_rows c cell
rows_not_about c [] cell h a = refl
rows_not_about c (change ∷ later) cell h a =
    let two = not_either (in_cell cell change.0) (are_about later cell) a in
    rows_not_about (changed c change.0 change.1) later cell (ordered_changed c change.0 change.1 h) two.1 ∙ rows_apart c change.0 change.1 cell h two.0

-- the same changes to contents that are alike in the cell
pub rows_alike : (c d : Contents) (later : OwnChanges) (cell : CellName) → is_ordered c ≡ true → is_ordered d ≡ true → cell_rows c cell ≡ cell_rows d cell
    → cell_rows (laid_over c later) cell ≡ cell_rows (laid_over d later) cell
rows_alike c d [] cell h k same = same
rows_alike c d (change ∷ later) cell h k same =
    rows_alike (changed c change.0 change.1) (changed d change.0 change.1) later cell (ordered_changed c change.0 change.1 h) (ordered_changed d change.0 change.1 k)
    (by_cases (in_cell cell change.0) refl)
  where
    by_cases : (t : Bool) → in_cell cell change.0 ≡ t → cell_rows (changed c change.0 change.1) cell ≡ cell_rows (changed d change.0 change.1) cell
    by_cases true t = rows_changed c change.0 change.1 cell h t ∙ ap (λ rows. changed rows change.0 change.1) same ∙ sym (rows_changed d change.0 change.1 cell k t)
    by_cases false t = rows_apart c change.0 change.1 cell h t ∙ same ∙ sym (rows_apart d change.0 change.1 cell k t)

-- a later change among the own ones shows as a change laid over them
pub laid_insert : (c : Contents) (own : OwnChanges) (k : Key) (new : Option Record) → is_ordered c ≡ true → is_sorted key_cmp own ≡ true → is_sorted key_cmp (insert_entry key_cmp own k new) ≡ true
    → laid_over c (insert_entry key_cmp own k new) ≡ changed (laid_over c own) k new
laid_insert c own k new h s s' =
    let laid = ordered_laid c own h in
    same_contents (laid_over c (insert_entry key_cmp own k new)) (changed (laid_over c own) k new) (ordered_laid c (insert_entry key_cmp own k new) h) (ordered_changed (laid_over c own) k new laid)
    (λ q. shows_laid c (insert_entry key_cmp own k new) q h s' ∙ ap (λ o. unwrap_or o (record_at c q)) (lookup_insert key_total q k new own) ∙ by_cases laid q (is_eq (key_cmp q k)) refl)
  where
    by_cases : is_ordered (laid_over c own) ≡ true → (q : Key) (t : Bool) → is_eq (key_cmp q k) ≡ t
        → unwrap_or (cond (is_eq (key_cmp q k)) (Some new) (lookup (is_at (key_cmp q)) own)) (record_at c q) ≡ record_at (changed (laid_over c own) k new) q
    by_cases laid q true t =
        ap (λ b. unwrap_or (cond b (Some new) (lookup (is_at (key_cmp q)) own)) (record_at c q)) t
        ∙ sym (ap (record_at (changed (laid_over c own) k new)) (one_key q k t) ∙ changed_shows (laid_over c own) k new laid)
    by_cases laid q false t =
        ap (λ b. unwrap_or (cond b (Some new) (lookup (is_at (key_cmp q)) own)) (record_at c q)) t
        ∙ sym (shows_laid c own q h s) ∙ sym (others_show (laid_over c own) q k new t)
