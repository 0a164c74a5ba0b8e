-- Of the rows of some keys, collected cells have the same as the contents, in the same order, where each such key's cell was collected
-- and the keys are ordered as their cells are.
use Rattle.std.proofs.Common.{◌≡◌, ◌⊎◌, inl, inr, [], ◌∷◌, ◌++◌, refl, sym, ◌∙◌, ap, subst, Bool, true, false, cond, ◌&&◌}
use Rattle.std.proofs.lemmas.Bool.{and_parts}
use Rattle.std.proofs.lemmas.List.Elements.{filter-append}
use Rattle.std.specs.Prelude.{None, filter}
use Rattle.std.specs.List.{AllByRecursion}
use Rattle.std.specs.FinMap.Entries.{below_all, find-where_key, is_sorted-where_key}
use Rattle.std.specs.Ordering.{is_lt}
use Rattle.plan_schema.specs.declared.key.Key.{Key}
use Rattle.plan_schema.specs.declared.key.Record.{Record}
use Rattle.plan_schema.specs.declared.change.CellName.{CellName}
use Rattle.plan_schema.specs.Key.{key_cmp, cell_of}
use Rattle.plan_schema.specs.Cell.{cell_cmp, cell_eq}
use Rattle.plan_schema.specs.Contents.{Contents, record_at, is_ordered, cell_rows}
use Rattle.scenario_rules.proofs.Maps.{holds, is_so, lookup_is_find}
use Rattle.scenario_rules.proofs.Keys.{key_exact}
use Rattle.version_rules.proofs.CellRows.{same_contents, rows_ordered}
use Rattle.walk_rules.specs.Cells.{Cells, records, are_own_rows, are_own_cells}
use Rattle.walk_rules.proofs.Local.{record_same}
use Rattle.walk_rules.proofs.RightLaws.{one_cell}
use Rattle.plan_jobs.specs.Jobs.{by_name, are_ascending}
use Rattle.plan_jobs.proofs.Rows.{apart}
use Rattle.query_rows.proofs.RowLaws.{AreKnownCells, known_cells}

-- the rows whose keys are kept
abbrev pub kept_rows : (Key → Bool) → Contents → Contents
kept_rows kept c = filter (λ row. kept row.0) c

-- the keys that are kept are ordered as their cells are
abbrev pub RiseByCell : (Key → Bool) → Type 0
RiseByCell kept = (key other : Key) → kept key ≡ true → kept other ≡ true → is_lt (cell_cmp (cell_of key) (cell_of other)) ≡ true → is_lt (key_cmp key other) ≡ true

module _ (kept : Key → Bool) where
  kept_found : (c : Contents) (key : Key) → record_at (kept_rows kept c) key ≡ cond (kept key) (record_at c key) None
  kept_found c key =
      lookup_is_find key_cmp key (kept_rows kept c)
      ∙ find-where_key key_cmp kept key (λ x h. ap kept (sym (key_exact key x h))) c
      ∙ ap (λ o. cond (kept key) o None) (sym (lookup_is_find key_cmp key c))

  kept_ordered : (c : Contents) → is_ordered c ≡ true → is_ordered (kept_rows kept c) ≡ true
  kept_ordered c h = is_so (is_ordered (kept_rows kept c)) (is_sorted-where_key key_cmp kept c (holds (is_ordered c) h))

below_append : (key : Key) (xs ys : Contents) → below_all key_cmp key xs ≡ true → below_all key_cmp key ys ≡ true → below_all key_cmp key (xs ++ ys) ≡ true
below_append key [] ys h k = k
below_append key (x ∷ xs) ys h k =
    let two = and_parts (is_lt (key_cmp key x.0)) (below_all key_cmp key xs) h in
    let rest = below_append key xs ys two.1 k in
    λ i. two.0 i && rest i

ordered_append : (xs ys : Contents) → is_ordered xs ≡ true → is_ordered ys ≡ true → AllByRecursion (λ x. below_all key_cmp x.0 ys ≡ true) xs → is_ordered (xs ++ ys) ≡ true
ordered_append [] ys s t below = t
ordered_append (x ∷ xs) ys s t below =
    let two = and_parts (below_all key_cmp x.0 xs) (is_ordered xs) s in
    let here = below_append x.0 xs ys two.0 below.0 in
    let rest = ordered_append xs ys two.1 t below.1 in
    λ i. here i && rest i

-- cells in order -------------------------------------------------------------------------------------------------------------------

module _ (kept : Key → Bool) (rises : RiseByCell kept) where
  -- a key that is kept stands below those of later cells
  below_rows : (key : Key) → kept key ≡ true → (name : CellName) (rows : Contents) → are_own_rows name rows ≡ true → is_lt (cell_cmp (cell_of key) name) ≡ true → below_all key_cmp key (kept_rows kept rows) ≡ true
  below_rows key is name [] own less = refl
  below_rows key is name (row ∷ rows) own less =
      let two = and_parts (cell_eq (cell_of row.0) name) (are_own_rows name rows) own in
      by_kept (below_rows key is name rows two.1 less) (ap (λ other. is_lt (cell_cmp (cell_of key) other)) (one_cell (cell_of row.0) name two.0) ∙ less) (kept row.0) refl
    where
      by_kept : below_all key_cmp key (kept_rows kept rows) ≡ true → is_lt (cell_cmp (cell_of key) (cell_of row.0)) ≡ true → (b : Bool) → kept row.0 ≡ b
          → below_all key_cmp key (cond b (row ∷ kept_rows kept rows) (kept_rows kept rows)) ≡ true
      by_kept rest here true e = let first = rises key row.0 is e here in λ i. first i && rest i
      by_kept rest here false e = rest

  below_cells : (key : Key) → kept key ≡ true → (cells : Cells) → are_own_cells cells ≡ true → below_all cell_cmp (cell_of key) (by_name cells) ≡ true → below_all key_cmp key (kept_rows kept (records cells)) ≡ true
  below_cells key is [] own below = refl
  below_cells key is (cell ∷ cells) own below =
      let mine = and_parts (are_own_rows cell.0.cell cell.1) (are_own_cells cells) own in
      let less = and_parts (is_lt (cell_cmp (cell_of key) cell.0.cell)) (below_all cell_cmp (cell_of key) (by_name cells)) below in
      subst (λ rows. below_all key_cmp key rows ≡ true) (sym (filter-append (λ (row : Key × Record). kept row.0) cell.1 (records cells)))
      (below_append key (kept_rows kept cell.1) (kept_rows kept (records cells)) (below_rows key is cell.0.cell cell.1 mine.0 less.0) (below_cells key is cells mine.1 less.1))

  each_below : (cells : Cells) → are_own_cells cells ≡ true → (name : CellName) → below_all cell_cmp name (by_name cells) ≡ true → (rows : Contents) → are_own_rows name rows ≡ true
      → AllByRecursion (λ x. below_all key_cmp x.0 (kept_rows kept (records cells)) ≡ true) (kept_rows kept rows)
  each_below cells owns name below [] own = tt
  each_below cells owns name below (row ∷ rows) own =
      let two = and_parts (cell_eq (cell_of row.0) name) (are_own_rows name rows) own in
      by_kept (each_below cells owns name below rows two.1) (ap (λ other. below_all cell_cmp other (by_name cells)) (one_cell (cell_of row.0) name two.0) ∙ below) (kept row.0) refl
    where
      by_kept : AllByRecursion (λ x. below_all key_cmp x.0 (kept_rows kept (records cells)) ≡ true) (kept_rows kept rows) → below_all cell_cmp (cell_of row.0) (by_name cells) ≡ true → (b : Bool) → kept row.0 ≡ b
          → AllByRecursion (λ x. below_all key_cmp x.0 (kept_rows kept (records cells)) ≡ true) (cond b (row ∷ kept_rows kept rows) (kept_rows kept rows))
      by_kept rest here true e = (below_cells row.0 e cells owns here, rest)
      by_kept rest here false e = rest

  kept_rise : (cells : Cells) → are_ascending cells ≡ true → are_own_cells cells ≡ true → AllByRecursion (λ cell. is_ordered (kept_rows kept cell.1) ≡ true) cells → is_ordered (kept_rows kept (records cells)) ≡ true
  kept_rise [] ascending own ordered = refl
  kept_rise (cell ∷ cells) ascending own ordered =
      let mine = and_parts (are_own_rows cell.0.cell cell.1) (are_own_cells cells) own in
      let rise = and_parts (below_all cell_cmp cell.0.cell (by_name cells)) (are_ascending cells) ascending in
      subst (λ rows. is_ordered rows ≡ true) (sym (filter-append (λ (row : Key × Record). kept row.0) cell.1 (records cells)))
      (ordered_append (kept_rows kept cell.1) (kept_rows kept (records cells)) ordered.0 (kept_rise cells rise.1 mine.1 ordered.1) (each_below cells mine.1 cell.0.cell rise.0 cell.1 mine.0))

-- collected cells ------------------------------------------------------------------------------------------------------------------

-- one of some rows is kept, if any are
first_kept : (kept : Key → Bool) (name : CellName) (rows : Contents) → are_own_rows name rows ≡ true → (kept_rows kept rows ≡ []) ⊎ ((key : Key) × (kept key ≡ true) × (cell_of key ≡ name))
first_kept kept name [] own = inl refl
first_kept kept name (row ∷ rows) own =
    let two = and_parts (cell_eq (cell_of row.0) name) (are_own_rows name rows) own in
    by_kept (first_kept kept name rows two.1) (one_cell (cell_of row.0) name two.0) (kept row.0) refl
  where
    by_kept : (kept_rows kept rows ≡ []) ⊎ ((key : Key) × (kept key ≡ true) × (cell_of key ≡ name)) → cell_of row.0 ≡ name → (b : Bool) → kept row.0 ≡ b
        → (cond b (row ∷ kept_rows kept rows) (kept_rows kept rows) ≡ []) ⊎ ((key : Key) × (kept key ≡ true) × (cell_of key ≡ name))
    by_kept rest here true e = inr (row.0, e, here)
    by_kept rest here false e = rest

module _ (c : Contents) (cells : Cells) (ordered : is_ordered c ≡ true) (ascending : are_ascending cells ≡ true) (own : are_own_cells cells ≡ true) (kept : Key → Bool) (rises : RiseByCell kept)
    (same : (key : Key) → kept key ≡ true → cell_rows (records cells) (cell_of key) ≡ cell_rows c (cell_of key)) where
  cell_ordered : (name : CellName) (rows : Contents) → cell_rows (records cells) name ≡ rows → are_own_rows name rows ≡ true → is_ordered (kept_rows kept rows) ≡ true
  cell_ordered name rows is mine = elim (first_kept kept name rows mine) [ inl none ↦ ap is_ordered none | inr some ↦ kept_ordered kept rows (rows_are some) ]
    where
      rows_are : (key : Key) × (kept key ≡ true) × (cell_of key ≡ name) → is_ordered rows ≡ true
      rows_are some =
          ap is_ordered (sym is ∙ ap (cell_rows (records cells)) (sym some.2) ∙ same some.0 some.1) ∙ rows_ordered c (cell_of some.0) ordered

  cells_ordered : (some : Cells) → are_own_cells some ≡ true → AreKnownCells (records cells) some → AllByRecursion (λ cell. is_ordered (kept_rows kept cell.1) ≡ true) some
  cells_ordered [] mine known = tt
  cells_ordered (cell ∷ some) mine known =
      let two = and_parts (are_own_rows cell.0.cell cell.1) (are_own_cells some) mine in
      (cell_ordered cell.0.cell cell.1 known.0 two.0, cells_ordered some two.1 known.1)

  kept_alike : (key : Key) → record_at (kept_rows kept (records cells)) key ≡ record_at (kept_rows kept c) key
  kept_alike key = kept_found kept (records cells) key ∙ by_kept (kept key) refl ∙ sym (kept_found kept c key)
    where
      by_kept : (b : Bool) → kept key ≡ b → cond b (record_at (records cells) key) None ≡ cond b (record_at c key) None
      by_kept true e = record_same (records cells) c key (same key e)
      by_kept false e = refl

  pub kept_same : kept_rows kept (records cells) ≡ kept_rows kept c
  kept_same =
      same_contents (kept_rows kept (records cells)) (kept_rows kept c)
      (kept_rise kept rises cells ascending own (cells_ordered cells own (known_cells cells own (apart cells ascending)))) (kept_ordered kept c ordered) kept_alike
