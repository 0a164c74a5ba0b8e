-- Rows of parts among cells.
use Rattle.std.proofs.Common.{◌≡◌, ◌⊎◌, inl, inr, ℕ, zero, suc, ◌<◌, length, get_or, List, [], ◌∷◌, ◌++◌, map, refl, sym, ◌∙◌, ap, subst, arith, Bool, true, false, cond}
use Rattle.std.specs.Prelude.{Option, Some, None, filter, flat_map, is_some}
use Rattle.std.specs.List.{cons_option, AllByRecursion, list_all}
use Rattle.record_versions.specs.declared.version.VersionId.{VersionId}
use Rattle.std.specs.Ordering.{is_lt, is_eq, ordering_then}
use Rattle.std.specs.declared.cmp.Ordering.TheVariants.{Equal}
use Rattle.std.specs.Cmp.{tied_itself}
use Rattle.std.specs.Cmp.Lexicographic.{nat_list_cmp_total}
use Rattle.std.specs.FinMap.Entries.{below_all}
use Rattle.std.proofs.lemmas.Bool.{and_parts}
use Rattle.std.proofs.lemmas.List.Elements.{filter_map-append}
use Rattle.std.proofs.lemmas.Grind.{flat_map-append}
use Rattle.plan_schema.specs.declared.name.Name.{Name}
use Rattle.plan_schema.specs.declared.change.CellName.{CellName}
use Rattle.plan_schema.specs.declared.change.CellName.TheVariants as names
use Rattle.plan_schema.specs.declared.key.Key.{Key}
use Rattle.plan_schema.specs.declared.key.Key.TheVariants as keys
use Rattle.plan_schema.specs.declared.key.Record.{Record}
use Rattle.plan_schema.specs.Key.{key_cmp, cell_of}
use Rattle.plan_schema.specs.Cell.{cell_eq, cell_name}
use Rattle.plan_jobs.proofs.Rows.{eq_turned}
use Rattle.plan_schema.specs.Contents.{Contents, is_ordered, record_at, cell_rows}
use Rattle.planning_rules.specs.Plan.{Known}
use Rattle.query_language.specs.declared.column.Column.{Column}
use Rattle.query_language.specs.Trees.{QueryTree, CondTree}
use Rattle.query_rules.specs.Queries.{part_in, parts_of, column_value, is_selected, selected_from}
use Rattle.walk_rules.specs.Cells.{Cells, records, are_own_rows, are_own_cells}
use Rattle.walk_rules.specs.Rights.{AreApart}
use Rattle.walk_rules.proofs.RightLaws.{one_cell, own_all, own_none, rows_append, none_of}
use Rattle.query_rows.specs.Rows.{value_by, is_selected_with, row_with, rows_in, rows_over}
use Rattle.query_rows.proofs.Values.{value_is_from_cell, meets_same}
use Rattle.explosion.proofs.Totals.{append_none}

-- the parts of one cell ---------------------------------------------------------------------------------------------------------

part_name : (m n : Name) → cell_eq (names.Part m) (names.Part n) ≡ true → m ≡ n
part_name m n h = ap cell_name (one_cell (names.Part m) (names.Part n) h)

tied : (n : Name) → key_cmp (keys.Part n) (keys.Part n) ≡ Equal
tied n = ap (λ o. ordering_then o Equal) (tied_itself nat_list_cmp_total n)

-- a part's record stands once
none_more : (n : Name) (rows : Contents) → are_own_rows (names.Part n) rows ≡ true → below_all key_cmp (keys.Part n) rows ≡ true → parts_of rows ≡ []
none_more n [] own below = refl
none_more n (row ∷ rows) own below = by_key row.0 row.1 (none_more n rows here.1 under.1) here.0 under.0
  where
    here : (cell_eq (cell_of row.0) (names.Part n) ≡ true) × (are_own_rows (names.Part n) rows ≡ true)
    here = and_parts (cell_eq (cell_of row.0) (names.Part n)) (are_own_rows (names.Part n) rows) own

    under : (is_lt (key_cmp (keys.Part n) row.0) ≡ true) × (below_all key_cmp (keys.Part n) rows ≡ true)
    under = and_parts (is_lt (key_cmp (keys.Part n) row.0)) (below_all key_cmp (keys.Part n) rows) below

    by_key : (key : Key) (value : Record) → parts_of rows ≡ [] → cell_eq (cell_of key) (names.Part n) ≡ true → is_lt (key_cmp (keys.Part n) key) ≡ true → cons_option (part_in (key, value)) (parts_of rows) ≡ []
    by_key (keys.Part m) value again mine less =
        let one : m ≡ n = part_name m n mine in
        let tie : is_lt (key_cmp (keys.Part n) (keys.Part m)) ≡ false = ap (λ k. is_lt (key_cmp (keys.Part n) (keys.Part k))) one ∙ ap is_lt (tied n) in
        let never : true ≡ false = sym less ∙ tie in
        cc
    by_key _ value again mine less = again

pub one_part : (n : Name) (rows : Contents) → are_own_rows (names.Part n) rows ≡ true → is_ordered rows ≡ true → parts_of rows ≡ cond (is_some (record_at rows (keys.Part n))) (n ∷ []) []
one_part n [] own ordered = refl
one_part n (row ∷ rows) own ordered = by_key row.0 row.1 (one_part n rows here.1 rise.1) here.0 rise.0
  where
    here : (cell_eq (cell_of row.0) (names.Part n) ≡ true) × (are_own_rows (names.Part n) rows ≡ true)
    here = and_parts (cell_eq (cell_of row.0) (names.Part n)) (are_own_rows (names.Part n) rows) own

    rise : (below_all key_cmp row.0 rows ≡ true) × (is_ordered rows ≡ true)
    rise = and_parts (below_all key_cmp row.0 rows) (is_ordered rows) ordered

    by_key : (key : Key) (value : Record) → parts_of rows ≡ cond (is_some (record_at rows (keys.Part n))) (n ∷ []) [] → cell_eq (cell_of key) (names.Part n) ≡ true → below_all key_cmp key rows ≡ true
        → cons_option (part_in (key, value)) (parts_of rows) ≡ cond (is_some (cond (is_eq (key_cmp (keys.Part n) key)) (Some value) (record_at rows (keys.Part n)))) (n ∷ []) []
    by_key (keys.Part m) value again mine below =
        let one : m ≡ n = part_name m n mine in
        let found : is_eq (key_cmp (keys.Part n) (keys.Part m)) ≡ true = ap (λ k. is_eq (key_cmp (keys.Part n) (keys.Part k))) one ∙ ap is_eq (tied n) in
        let none : parts_of rows ≡ [] = none_more n rows here.1 (subst (λ k. below_all key_cmp (keys.Part k) rows ≡ true) one below) in
        (λ i. one i ∷ none i) ∙ (λ i. cond (is_some (cond (sym found i) (Some value) (record_at rows (keys.Part n)))) (n ∷ []) [])
    by_key keys.Plan value again mine below = again
    by_key (keys.Cal k) value again mine below = again
    by_key (keys.Holiday k d) value again mine below = again
    by_key (keys.Stock k) value again mine below = again
    by_key (keys.Demand k o) value again mine below = again
    by_key (keys.Receipt k o) value again mine below = again
    by_key (keys.Bill p k) value again mine below = again

-- other cells have no parts
pub no_parts : (name : CellName) (rows : Contents) → are_own_rows name rows ≡ true → ((n : Name) → cell_eq (names.Part n) name ≡ false) → parts_of rows ≡ []
no_parts name [] own other = refl
no_parts name (row ∷ rows) own other = by_key row.0 row.1 (no_parts name rows here.1 other) here.0
  where
    here : (cell_eq (cell_of row.0) name ≡ true) × (are_own_rows name rows ≡ true)
    here = and_parts (cell_eq (cell_of row.0) name) (are_own_rows name rows) own

    by_key : (key : Key) (value : Record) → parts_of rows ≡ [] → cell_eq (cell_of key) name ≡ true → cons_option (part_in (key, value)) (parts_of rows) ≡ []
    by_key (keys.Part m) value again mine = let never : true ≡ false = sym mine ∙ other m in cc
    by_key _ value again mine = again

-- what is known of cells ---------------------------------------------------------------------------------------------------------

-- a row by the definition's values is a row by values that are the same
row_same : (plans : Name → Option Known) (c : Contents) (n : Name) (query : QueryTree) (values : Column → ℕ) → ((column : Column) → values column ≡ column_value plans c n column)
    → row_with values n query ≡ row_with (column_value plans c n) n query
row_same plans c n query values e = λ i. cond (selected_same query.cond i) ((n, map (whole i) query.columns) ∷ []) []
  where
    selected_same : (cond : Option CondTree) → is_selected_with values n cond ≡ is_selected_with (column_value plans c n) n cond
    selected_same None = refl
    selected_same (Some a) = meets_same plans c n values e a ∙ sym (meets_same plans c n (column_value plans c n) (λ column. refl) a)

    whole : values ≡ column_value plans c n
    whole = λ i column. e column i

-- the definition's rows, part by part
selected_rows : (plans : Name → Option Known) (c : Contents) (query : QueryTree) (ns : List Name)
    → map (λ n. (n, map (column_value plans c n) query.columns)) (filter (is_selected plans c query.cond) ns) ≡ flat_map (λ n. row_with (column_value plans c n) n query) ns
selected_rows plans c query [] = refl
selected_rows plans c query (n ∷ ns) = by_case (is_selected plans c query.cond n) (same query.cond) (selected_rows plans c query ns)
  where
    same : (cond : Option CondTree) → is_selected plans c cond n ≡ is_selected_with (column_value plans c n) n cond
    same None = refl
    same (Some a) = sym (meets_same plans c n (column_value plans c n) (λ column. refl) a)

    row : Name → Name × List ℕ
    row m = (m, map (column_value plans c m) query.columns)

    by_case : (b : Bool) → b ≡ is_selected_with (column_value plans c n) n query.cond
        → map (λ m. (m, map (column_value plans c m) query.columns)) (filter (is_selected plans c query.cond) ns) ≡ flat_map (λ m. row_with (column_value plans c m) m query) ns
        → map (λ m. (m, map (column_value plans c m) query.columns)) (cond b (n ∷ filter (is_selected plans c query.cond) ns) (filter (is_selected plans c query.cond) ns))
        ≡ row_with (column_value plans c n) n query ++ flat_map (λ m. row_with (column_value plans c m) m query) ns
    by_case true e again = (λ i. (n, map (column_value plans c n) query.columns) ∷ again i) ∙ λ i. cond (e i) ((n, map (column_value plans c n) query.columns) ∷ []) [] ++ flat_map (λ m. row_with (column_value plans c m) m query) ns
    by_case false e again = again ∙ λ i. cond (e i) ((n, map (column_value plans c n) query.columns) ∷ []) [] ++ flat_map (λ m. row_with (column_value plans c m) m query) ns

-- each cell's rows are those of its name among all records
abbrev pub AreKnownCells : Contents → Cells → Type 0
AreKnownCells c cells = AllByRecursion (λ cell. cell_rows c cell.0.cell ≡ cell.1) cells

known_later : (c d : Contents) (first : CellName) (rows : Contents) (cells : Cells) → are_own_rows first rows ≡ true → AllByRecursion (λ other. cell_eq other.0.cell first ≡ false) cells
    → c ≡ rows ++ d → AreKnownCells d cells → AreKnownCells c cells
known_later c d first rows [] own apart is known = tt
known_later c d first rows (cell ∷ cells) own apart is known = (
  ap (λ x. cell_rows x cell.0.cell) is ∙ rows_append rows d cell.0.cell ∙ (λ i. own_none rows first cell.0.cell own (eq_turned cell.0.cell first ∙ apart.0) i ++ known.0 i),
  known_later c d first rows cells own apart.1 is known.1,
)

pub known_cells : (cells : Cells) → are_own_cells cells ≡ true → AreApart cells → AreKnownCells (records cells) cells
known_cells [] own apart = tt
known_cells (cell ∷ cells) own apart =
    let two = and_parts (are_own_rows cell.0.cell cell.1) (are_own_cells cells) own in (
      rows_append cell.1 (records cells) cell.0.cell ∙ (λ i. own_all cell.1 cell.0.cell two.0 i ++ none_of cells cell.0.cell two.1 apart.0 i) ∙ append_none cell.1,
      known_later (records (cell ∷ cells)) (records cells) cell.0.cell cell.1 cells two.0 apart.0 refl (known_cells cells two.1 apart.1),
    )

-- the rows of one cell's parts, from its own rows
rows_of_cell : (plans : Name → Option Known) (c : Contents) (query : QueryTree) (name : CellName) (rows : Contents) → cell_rows c name ≡ rows → (some : Contents) → are_own_rows name some ≡ true
    → flat_map (λ n. row_with (value_by rows (plans n) n) n query) (parts_of some) ≡ flat_map (λ n. row_with (column_value plans c n) n query) (parts_of some)
rows_of_cell plans c query name rows is [] own = refl
rows_of_cell plans c query name rows is (row ∷ some) own =
    let two = and_parts (cell_eq (cell_of row.0) name) (are_own_rows name some) own in
    by_key row.0 row.1 two.0 (rows_of_cell plans c query name rows is some two.1)
  where
    by_key : (key : Key) (value : Record) → cell_eq (cell_of key) name ≡ true
        → flat_map (λ n. row_with (value_by rows (plans n) n) n query) (parts_of some) ≡ flat_map (λ n. row_with (column_value plans c n) n query) (parts_of some)
        → flat_map (λ n. row_with (value_by rows (plans n) n) n query) (cons_option (part_in (key, value)) (parts_of some)) ≡ flat_map (λ n. row_with (column_value plans c n) n query) (cons_option (part_in (key, value)) (parts_of some))
    by_key (keys.Part n) value mine again =
        let named : names.Part n ≡ name = one_cell (names.Part n) name mine in
        let here : cell_rows c (names.Part n) ≡ rows = ap (cell_rows c) named ∙ is in
        λ i. row_same plans c n query (value_by rows (plans n) n) (λ column. ap (λ x. value_by x (plans n) n column) (sym here) ∙ value_is_from_cell plans c n column) i ++ again i
    by_key _ value mine again = again

over_cells : (plans : Name → Option Known) (c : Contents) (query : QueryTree) (cells : Cells) → are_own_cells cells ≡ true → AreKnownCells c cells
    → rows_over plans query cells ≡ flat_map (λ n. row_with (column_value plans c n) n query) (parts_of (records cells))
over_cells plans c query [] own known = refl
over_cells plans c query (cell ∷ cells) own known =
    let two = and_parts (are_own_rows cell.0.cell cell.1) (are_own_cells cells) own in
    let row : Name → List (Name × List ℕ) = λ n. row_with (column_value plans c n) n query in
    (λ i. rows_of_cell plans c query cell.0.cell cell.1 known.0 cell.1 two.0 i ++ over_cells plans c query cells two.1 known.1 i)
    ∙ sym (flat_map-append row (parts_of cell.1) (parts_of (records cells)))
    ∙ ap (flat_map row) (sym (filter_map-append part_in cell.1 (records cells)))

-- the rows of cells that hold their own rows, no two with one name, are the rows of all their records
pub rows_are_selected : (plans : Name → Option Known) (query : QueryTree) (cells : Cells) → are_own_cells cells ≡ true → AreApart cells → rows_over plans query cells ≡ selected_from plans (records cells) query
rows_are_selected plans query cells own apart =
    over_cells plans (records cells) query cells own (known_cells cells own apart) ∙ sym (selected_rows plans (records cells) query (parts_of (records cells)))

-- one cell ------------------------------------------------------------------------------------------------------------------------

pub rows_of_part : (plans : Name → Option Known) (query : QueryTree) (n : Name) (rows : Contents) (known : Option Known) → are_own_rows (names.Part n) rows ≡ true → is_ordered rows ≡ true
    → is_some (record_at rows (keys.Part n)) ≡ true → known ≡ plans n → row_with (value_by rows known n) n query ≡ rows_in plans query rows
rows_of_part plans query n rows known own ordered there is =
    let row : Name → List (Name × List ℕ) = λ m. row_with (value_by rows (plans m) m) m query in
    ap (λ k. row_with (value_by rows k n) n query) is
    ∙ sym (ap (flat_map row) (one_part n rows own ordered ∙ ap (λ b. cond b (n ∷ []) []) there) ∙ append_none (row n))

pub rows_of_none : (plans : Name → Option Known) (query : QueryTree) (n : Name) (rows : Contents) → are_own_rows (names.Part n) rows ≡ true → is_ordered rows ≡ true
    → is_some (record_at rows (keys.Part n)) ≡ false → rows_in plans query rows ≡ []
rows_of_none plans query n rows own ordered there =
    ap (flat_map (λ m. row_with (value_by rows (plans m) m) m query)) (one_part n rows own ordered ∙ ap (λ b. cond b (n ∷ []) []) there)

rows_of_plan : (plans : Name → Option Known) (query : QueryTree) (name : CellName) (rows : Contents) → are_own_rows name rows ≡ true → name ≡ names.Plan → rows_in plans query rows ≡ []
rows_of_plan plans query name rows own is =
    ap (flat_map (λ m. row_with (value_by rows (plans m) m) m query)) (no_parts names.Plan rows (ap (λ n. are_own_rows n rows) (sym is) ∙ own) (λ n. refl))

rows_of_calendar : (plans : Name → Option Known) (query : QueryTree) (name : CellName) (k : Name) (rows : Contents) → are_own_rows name rows ≡ true → name ≡ names.Cal k → rows_in plans query rows ≡ []
rows_of_calendar plans query name k rows own is =
    ap (flat_map (λ m. row_with (value_by rows (plans m) m) m query)) (no_parts (names.Cal k) rows (ap (λ n. are_own_rows n rows) (sym is) ∙ own) (λ n. refl))

pub rows_of_other : (plans : Name → Option Known) (query : QueryTree) (name : CellName) (rows : Contents) → are_own_rows name rows ≡ true → (name ≡ names.Plan) ⊎ ((k : Name) × (name ≡ names.Cal k)) → rows_in plans query rows ≡ []
rows_of_other plans query name rows own (inl is) = rows_of_plan plans query name rows own is
rows_of_other plans query name rows own (inr w) = rows_of_calendar plans query name w.0 rows own w.1

-- a cell of a list that holds own rows
pub own_at : {A : Type 0} (shown : A → VersionId × Contents) (xs : List A) (i : ℕ) (x d : A) → list_all (λ (cell : VersionId × Contents). are_own_rows cell.0.cell cell.1) (map shown xs) ≡ true → i < length xs → x ≡ get_or xs i d
    → are_own_rows (shown x).0.cell (shown x).1 ≡ true
own_at shown [] i x d own low is = absurd (omega arith)
own_at shown (y ∷ ys) zero x d own low is =
    let two = and_parts (are_own_rows (shown y).0.cell (shown y).1) (list_all (λ (cell : VersionId × Contents). are_own_rows cell.0.cell cell.1) (map shown ys)) own in
    ap (λ z. are_own_rows (shown z).0.cell (shown z).1) is ∙ two.0
own_at shown (y ∷ ys) (suc i) x d own low is =
    let two = and_parts (are_own_rows (shown y).0.cell (shown y).1) (list_all (λ (cell : VersionId × Contents). are_own_rows cell.0.cell cell.1) (map shown ys)) own in
    let short : i < length ys = omega arith in
    own_at shown ys i x d two.1 short is
