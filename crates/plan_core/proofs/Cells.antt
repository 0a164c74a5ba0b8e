-- The cells of a scenario of a forest make jobs.
use Rattle.std.proofs.Common.{◌≡◌, ◌≢◌, ◌+◌, ◌≤◌, List, [], ◌∷◌, length, map, refl, sym, ◌∙◌, ap, subst, Bool, true, false, not, ◌&&◌, cond, arith, length-append}
use Rattle.std.proofs.lemmas.Bool.{and_parts}
use Rattle.std.specs.Prelude.{Option, Some, None, IsSome, is_some, unwrap_or, filter}
use Rattle.std.specs.List.{AllByRecursion, list_all}
use Rattle.std.specs.FinMap.Entries.{below_all}
use Rattle.std.specs.Ordering.{is_eq, is_lt}
use Rattle.std.specs.Cmp.{tied_itself}
use Rattle.plan_schema.specs.declared.key.Key.TheVariants as keys
use Rattle.plan_schema.specs.declared.change.CellName.{CellName}
use Rattle.plan_schema.specs.declared.change.CellName.TheVariants as names
use Rattle.plan_schema.specs.Key.{cell_of}
use Rattle.plan_schema.specs.Cell.{cell_cmp, cell_eq}
use Rattle.plan_schema.specs.Contents.{Contents, record_at, cell_rows}
use Rattle.plan_schema.specs.Sound.{is_sound_row, are_sound_rows}
use Rattle.scenario_rules.specs.Whole.{AreWholeContents, AreWithinLimits}
use Rattle.record_versions.specs.declared.version.VersionId.{VersionId}
use Rattle.record_versions.specs.Versions.{IdList, CellList, id_at, are_ordered_ids, cell_at}
use Rattle.record_versions.proofs.Orders.{cell_total, cell_exact}
use Rattle.version_rules.specs.Meaning.{Meaning, IsMeant, AreMeant}
use Rattle.version_rules.proofs.CellRows.{row_found}
use Rattle.scenario_cells.proofs.Join.{each_found}
use Rattle.walk_rules.specs.Cells.{Cells, Stands, are_own_rows}
use Rattle.walk_rules.proofs.RightLaws.{one_cell}
use Rattle.plan_jobs.specs.Jobs.{has_rows}
use Rattle.plan_jobs.specs.Collects.{cell_by, cells_by, records_by, AreWholeCells}
use Rattle.plan_jobs.proofs.Kept.{all_kept}
use Rattle.plan_jobs.proofs.Rows.{eq_turned, below_apart}

-- rows of a cell -------------------------------------------------------------------------------------------------------------------------

-- each row of a cell is of it
rows_own : (c : Contents) (cell : CellName) → are_own_rows cell (cell_rows c cell) ≡ true
rows_own [] cell = refl
rows_own (row ∷ c) cell = by_cases (rows_own c cell) (cell_eq (cell_of row.0) cell) refl
  where
    by_cases : are_own_rows cell (cell_rows c cell) ≡ true → (t : Bool) → cell_eq (cell_of row.0) cell ≡ t → are_own_rows cell (cond (cell_eq (cell_of row.0) cell) (row ∷ cell_rows c cell) (cell_rows c cell)) ≡ true
    by_cases rest true t = ap (λ b. are_own_rows cell (cond b (row ∷ cell_rows c cell) (cell_rows c cell))) t ∙ λ i. t i && rest i
    by_cases rest false t = ap (λ b. are_own_rows cell (cond b (row ∷ cell_rows c cell) (cell_rows c cell))) t ∙ rest

rows_sound : (c : Contents) (cell : CellName) → are_sound_rows c ≡ true → are_sound_rows (cell_rows c cell) ≡ true
rows_sound c cell h = all_kept (λ row. is_sound_row row.0 row.1) (λ row. cell_eq (cell_of row.0) cell) c h

some_rows_here : (rows : Contents) → rows ≢ [] → has_rows rows ≡ true
some_rows_here [] h = absurd (h refl)
some_rows_here (row ∷ rows) h = refl

-- the rows of all cells but one
abbrev others : Contents → CellName → Contents
others c cell = filter (λ row. not (cell_eq (cell_of row.0) cell)) c

parted : (c : Contents) (cell : CellName) → length (cell_rows c cell) + length (others c cell) ≡ length c
parted [] cell = omega arith
parted (row ∷ c) cell =
    let rest = parted c cell in
    elim (cell_eq (cell_of row.0) cell) as (λ b. length (cond b (row ∷ cell_rows c cell) (cell_rows c cell)) + length (cond (not b) (row ∷ others c cell) (others c cell)) ≡ length (row ∷ c)) [
      | true ↦ omega arith
      | false ↦ omega arith
    ]

other_rows : (c : Contents) (cell other : CellName) → cell_eq other cell ≡ false → cell_rows (others c cell) other ≡ cell_rows c other
other_rows [] cell other apart = refl
other_rows (row ∷ c) cell other apart = by_cases (other_rows c cell other apart) (cell_eq (cell_of row.0) cell) refl
  where
    by_cases : cell_rows (others c cell) other ≡ cell_rows c other → (t : Bool) → cell_eq (cell_of row.0) cell ≡ t
        → cell_rows (cond (not (cell_eq (cell_of row.0) cell)) (row ∷ others c cell) (others c cell)) other ≡ cond (cell_eq (cell_of row.0) other) (row ∷ cell_rows c other) (cell_rows c other)
    by_cases rest true t =
        let here = one_cell (cell_of row.0) cell t in
        let not_here : cell_eq (cell_of row.0) other ≡ false = ap (λ x. cell_eq x other) here ∙ eq_turned other cell ∙ apart in
        ap (λ b. cell_rows (cond (not b) (row ∷ others c cell) (others c cell)) other) t ∙ rest ∙ sym (ap (λ b. cond b (row ∷ cell_rows c other) (cell_rows c other)) not_here)
    by_cases rest false t =
        ap (λ b. cell_rows (cond (not b) (row ∷ others c cell) (others c cell)) other) t ∙ λ i. cond (cell_eq (cell_of row.0) other) (row ∷ rest i) (rest i)

-- no more rows than the contents have, since the cells differ
few_rows : (store : CellList) (ids : IdList) (c : Contents) → are_ordered_ids ids ≡ true → AllByRecursion (λ e. (cell_by store e.1).1 ≡ cell_rows c e.0) ids → length (records_by store ids) ≤ length c
few_rows store [] c s h = omega arith
few_rows store (e ∷ ids) c s h =
    let two = and_parts (below_all cell_cmp e.0 ids) (are_ordered_ids ids) s in
    let rest : length (records_by store ids) ≤ length (others c e.0) = few_rows store ids (others c e.0) two.1 (kept_rows ids two.0 h.1) in
    let both = parted c e.0 in
    let long = length-append (cell_by store e.1).1 (records_by store ids) in
    let here : length (cell_by store e.1).1 ≡ length (cell_rows c e.0) = ap length h.0 in
    omega arith
  where
    kept_rows : (more : IdList) → below_all cell_cmp e.0 more ≡ true → AllByRecursion (λ x. (cell_by store x.1).1 ≡ cell_rows c x.0) more
        → AllByRecursion (λ x. (cell_by store x.1).1 ≡ cell_rows (others c e.0) x.0) more
    kept_rows [] b h = tt
    kept_rows (x ∷ more) b h =
        let two = and_parts (is_lt (cell_cmp e.0 x.0)) (below_all cell_cmp e.0 more) b in
        (h.0 ∙ sym (other_rows c e.0 x.0 (below_apart e.0 x.0 two.0)), kept_rows more two.1 h.1)

-- the cells of contents ------------------------------------------------------------------------------------------------------------------

mapped_all : {A B : Type 0} (P : A → Type 0) (f : A → B) (t : B → Bool) → ((a : A) → P a → t (f a) ≡ true) → (xs : List A) → AllByRecursion P xs → list_all t (map f xs) ≡ true
mapped_all P f t each [] h = refl
mapped_all P f t each (x ∷ xs) h = λ i. each x h.0 i && mapped_all P f t each xs h.1 i

all_test : {A : Type 0} (P : A → Type 0) (t : A → Bool) → ((a : A) → P a → t a ≡ true) → (xs : List A) → AllByRecursion P xs → list_all t xs ≡ true
all_test P t each [] h = refl
all_test P t each (x ∷ xs) h = λ i. each x h.0 i && all_test P t each xs h.1 i

all_then : {A : Type 0} (P Q : A → Type 0) → ((a : A) → P a → Q a) → (xs : List A) → AllByRecursion P xs → AllByRecursion Q xs
all_then P Q each [] h = tt
all_then P Q each (x ∷ xs) h = (each x h.0, all_then P Q each xs h.1)

-- an id means the rows of its cell
record IsOne (m : Meaning) (c : Contents) (entry : CellName × VersionId) : Type 0 where
  means : m entry.1 ≡ Some (cell_rows c entry.0)
  named : entry.1.cell ≡ entry.0
  filled : cell_rows c entry.0 ≢ []

each_one : (m : Meaning) (c : Contents) (ids : IdList) → are_ordered_ids ids ≡ true → AreMeant m c (id_at ids) → AllByRecursion (IsOne m c) ids
each_one m c ids ordered meant =
    each_found cell_total cell_exact (λ cell id. IsOne m c (cell, id)) ids ordered
    (λ cell id found.
    let it : IsMeant m cell (cell_rows c cell) (Some id) = subst (λ o. IsMeant m cell (cell_rows c cell) o) found (meant cell) in
    record { means = it.0; named = it.1; filled = it.2 })

module _ (store : CellList) (ids : IdList) (c : Contents) (ordered : are_ordered_ids ids ≡ true) (meant : AreMeant (cell_at store) c (id_at ids)) where
  ones : AllByRecursion (IsOne (cell_at store) c) ids
  ones = each_one (cell_at store) c ids ordered meant

  rows_are : (entry : CellName × VersionId) → IsOne (cell_at store) c entry → (cell_by store entry.1).1 ≡ cell_rows c entry.0
  rows_are entry one = ap (λ o. unwrap_or o []) one.means

  plan_there : IsSome (record_at c keys.Plan) → is_some (id_at ids names.Plan) ≡ true
  plan_there horizon = by_cases (id_at ids names.Plan) (meant names.Plan)
    where
      by_cases : (o : Option VersionId) → IsMeant (cell_at store) names.Plan (cell_rows c names.Plan) o → is_some o ≡ true
      by_cases (Some id) h = refl
      by_cases None h =
          let gone : record_at c keys.Plan ≡ None = sym (row_found c names.Plan keys.Plan) ∙ ap (λ rows. record_at rows keys.Plan) h in
          absurd (let no : ⊥ = (let wrong : false ≡ true = ap is_some (sym gone) ∙ horizon in cc) in no)

  pub whole_cells : AreWholeContents c → AreWithinLimits c → AreWholeCells store ids
  whole_cells whole limits = record {
    plan = plan_there whole.horizon;
    named = all_test (IsOne (cell_at store) c) (λ entry. cell_eq entry.1.cell entry.0) (λ entry one. ap (λ n. cell_eq n entry.0) one.named ∙ ap is_eq (tied_itself cell_total entry.0)) ids ones;
    stored = all_test (IsOne (cell_at store) c) (λ entry. is_some (cell_at store entry.1)) (λ entry one. ap is_some one.means) ids ones;
    filled = mapped_all (IsOne (cell_at store) c) (λ entry. cell_by store entry.1) (λ cell. has_rows cell.1) (λ entry one. ap has_rows (rows_are entry one) ∙ some_rows_here (cell_rows c entry.0) one.filled) ids ones;
    sound = mapped_all (IsOne (cell_at store) c) (λ entry. cell_by store entry.1) (λ cell. are_sound_rows cell.1) (λ entry one. ap are_sound_rows (rows_are entry one) ∙ rows_sound c entry.0 whole.sound) ids ones;
    own = mapped_all (IsOne (cell_at store) c) (λ entry. cell_by store entry.1) (λ cell. are_own_rows cell.0.cell cell.1)
        (λ entry one. (λ i. are_own_rows (one.named i) (rows_are entry one i)) ∙ rows_own c entry.0) ids ones;
    few =
        let most = limits.records in
        let fewer = few_rows store ids c ordered (all_then (IsOne (cell_at store) c) (λ entry. (cell_by store entry.1).1 ≡ cell_rows c entry.0) rows_are ids ones) in
        omega arith;
  }

  -- another meaning of the same contents by the same ids means what the store has
  pub all_stand : (m : Meaning) → AreMeant m c (id_at ids) → Stands m (cells_by store ids)
  all_stand m also = both ids ones (each_one m c ids ordered also)
    where
      both : (some : IdList) → AllByRecursion (IsOne (cell_at store) c) some → AllByRecursion (IsOne m c) some → Stands m (cells_by store some)
      both [] h k = tt
      both (entry ∷ some) h k = (k.0.means ∙ ap Some (sym (rows_are entry h.0)), both some h.1 k.1)

pub stand_kept : (m : Meaning) (t : VersionId × Contents → Bool) (cells : Cells) → Stands m cells → Stands m (filter t cells)
stand_kept m t [] h = tt
stand_kept m t (cell ∷ cells) h =
    let rest = stand_kept m t cells h.1 in
    elim (t cell) as (λ b. Stands m (cond b (cell ∷ filter t cells) (filter t cells))) [ true ↦ (h.0, rest) | false ↦ rest ]
