-- The cells of a job.
use Rattle.std.proofs.Common.{◌≡◌, ◌+◌, ◌≤◌, [], ◌∷◌, ◌++◌, length, refl, sym, ◌∙◌, ap, arith, Bool, true, false, cond, length-append}
use Rattle.std.proofs.lemmas.Bool.{and_parts}
use Rattle.std.specs.Prelude.{Option, Some, None, is_some}
use Rattle.std.specs.List.{list_all}
use Rattle.std.proofs.lemmas.List.FromFn.{length-map-range_with_len}
use Rattle.plan_schema.specs.declared.name.Name.{Name}
use Rattle.planning_rules.specs.Days.{start_of, days_of, works, works_by}
use Rattle.plan_schema.specs.declared.change.CellName.{CellName}
use Rattle.plan_schema.specs.declared.change.CellName.TheVariants as names
use Rattle.plan_schema.specs.declared.key.Key.{Key}
use Rattle.plan_schema.specs.declared.key.Key.TheVariants as keys
use Rattle.plan_schema.specs.Key.{cell_of}
use Rattle.plan_schema.specs.Cell.{cell_eq}
use Rattle.plan_schema.specs.Sound.{are_sound_rows}
use Rattle.plan_schema.specs.Contents.{Contents, record_at, cell_rows}
use Rattle.record_versions.specs.declared.version.VersionId.{VersionId}
use Rattle.walk_rules.specs.Cells.{Cells, records, held, are_own_rows, are_own_cells}
use Rattle.walk_rules.proofs.Local.{record_here}
use Rattle.walk_rules.proofs.RightLaws.{one_cell}
use Rattle.plan_jobs.specs.declared.job.Wanted.{Wanted}
use Rattle.plan_jobs.specs.Jobs.{IsJob, has_rows}
use Rattle.plan_jobs.proofs.Rows.{apart, rows_held, rows_of}

-- what holds of a job's cell
pub record HeldCell (cells : Cells) (name : CellName) (rows : Contents) : Type 0 where
  pub rows_are : cell_rows (records cells) name ≡ rows
  pub sound : are_sound_rows rows ≡ true
  pub few : length rows ≤ 200_000
  pub filled : has_rows rows ≡ true
  pub own : are_own_rows name rows ≡ true

record Among (cells : Cells) (name : CellName) (rows : Contents) : Type 0 where
  sound : are_sound_rows rows ≡ true
  few : length rows ≤ length (records cells)
  filled : has_rows rows ≡ true
  own : are_own_rows name rows ≡ true

among : (cells : Cells) (name : CellName) (id : VersionId) (rows : Contents) → list_all (λ cell. has_rows cell.1) cells ≡ true → list_all (λ cell. are_sound_rows cell.1) cells ≡ true → are_own_cells cells ≡ true
    → held cells name ≡ Some (id, rows) → Among cells name rows
among [] name id rows filled sound own is = absurd (let never : ⊥ = cc in never)
among (cell ∷ cells) name id rows filled sound own is = by_cases (cell_eq cell.0.cell name) refl (λ later. among cells name id rows f.1 s.1 o.1 later) is
  where
    f : (has_rows cell.1 ≡ true) × (list_all (λ x. has_rows x.1) cells ≡ true)
    f = and_parts (has_rows cell.1) (list_all (λ x. has_rows x.1) cells) filled

    s : (are_sound_rows cell.1 ≡ true) × (list_all (λ x. are_sound_rows x.1) cells ≡ true)
    s = and_parts (are_sound_rows cell.1) (list_all (λ x. are_sound_rows x.1) cells) sound

    o : (are_own_rows cell.0.cell cell.1 ≡ true) × (are_own_cells cells ≡ true)
    o = and_parts (are_own_rows cell.0.cell cell.1) (are_own_cells cells) own

    more : length (cell.1 ++ records cells) ≡ length cell.1 + length (records cells)
    more = length-append cell.1 (records cells)

    by_cases : (b : Bool) → cell_eq cell.0.cell name ≡ b → (held cells name ≡ Some (id, rows) → Among cells name rows) → cond b (Some cell) (held cells name) ≡ Some (id, rows) → Among (cell ∷ cells) name rows
    by_cases true e again at =
        let same : cell ≡ (id, rows) = cc in
        let here : cell.1 ≡ rows = ap (λ (x : VersionId × Contents). x.1) same in
        let long = more in
        let same_long : length cell.1 ≡ length rows = ap length here in
        record {
          sound = ap are_sound_rows (sym here) ∙ s.0;
          few = omega arith;
          filled = ap has_rows (sym here) ∙ f.0;
          own = ap (λ rs. are_own_rows name rs) (sym here) ∙ ap (λ x. are_own_rows x cell.1) (sym (one_cell cell.0.cell name e)) ∙ o.0;
        }
    by_cases false e again at =
        let w = again at in
        let long = more in
        let low = w.few in
        record { sound = w.sound; few = omega arith; filled = w.filled; own = w.own }

pub held_cell : (wanted : Wanted) (cells : Cells) (name : CellName) (id : VersionId) (rows : Contents) → IsJob wanted cells → held cells name ≡ Some (id, rows) → HeldCell cells name rows
held_cell wanted cells name id rows job is =
    let a = among cells name id rows job.filled job.sound job.own is in
    let low = a.few in
    let most = job.few in
    record {
      rows_are = rows_held cells name job.own (apart cells job.ascending) ∙ ap rows_of is;
      sound = a.sound;
      few = omega arith;
      filled = a.filled;
      own = a.own;
    }

-- where a record is there, so is its cell
pub cell_there : (wanted : Wanted) (cells : Cells) (key : Key) → IsJob wanted cells → is_some (record_at (records cells) key) ≡ true → is_some (held cells (cell_of key)) ≡ true
cell_there wanted cells key job h = by_cases (held cells (cell_of key)) refl
  where
    by_cases : (o : Option (VersionId × Contents)) → held cells (cell_of key) ≡ o → is_some o ≡ true
    by_cases (Some x) e = refl
    by_cases None e =
        let none : cell_rows (records cells) (cell_of key) ≡ [] = rows_held cells (cell_of key) job.own (apart cells job.ascending) ∙ ap rows_of e in
        let gone : is_some (record_at (records cells) key) ≡ false = ap is_some (sym (record_here (records cells) key)) ∙ ap (λ rows. is_some (record_at rows key)) none in
        let never : true ≡ false = sym h ∙ gone in cc

-- where its cell isn't there, neither is a record
pub no_record : (wanted : Wanted) (cells : Cells) (key : Key) → IsJob wanted cells → held cells (cell_of key) ≡ None → record_at (records cells) key ≡ None
no_record wanted cells key job e =
    sym (record_here (records cells) key) ∙ ap (λ rows. record_at rows key) (rows_held cells (cell_of key) job.own (apart cells job.ascending) ∙ ap rows_of e)

-- a record of a cell
pub record_of : (cells : Cells) (key : Key) (rows : Contents) → HeldCell cells (cell_of key) rows → record_at rows key ≡ record_at (records cells) key
record_of cells key rows h = ap (λ rs. record_at rs key) (sym h.rows_are) ∙ record_here (records cells) key

-- the plan's cell has the horizon
pub plan_there : (rows : Contents) → has_rows rows ≡ true → are_own_rows names.Plan rows ≡ true → is_some (record_at rows keys.Plan) ≡ true
plan_there [] h own = let never : false ≡ true = h in cc
plan_there ((keys.Plan, v) ∷ rows) h own = refl
plan_there ((keys.Cal a, v) ∷ rows) h own = cc
plan_there ((keys.Holiday a b, v) ∷ rows) h own = cc
plan_there ((keys.Part a, v) ∷ rows) h own = cc
plan_there ((keys.Stock a, v) ∷ rows) h own = cc
plan_there ((keys.Demand a b, v) ∷ rows) h own = cc
plan_there ((keys.Receipt a b, v) ∷ rows) h own = cc
plan_there ((keys.Bill a b, v) ∷ rows) h own = cc

-- a calendar has as many days as the horizon
pub works_length : (c : Contents) (calendar : Option Name) → length (works c calendar) ≡ days_of c
works_length c None = length-map-range_with_len (λ t. true) 0 (days_of c)
works_length c (Some name) = length-map-range_with_len (λ t. works_by c name (record_at c (keys.Cal name)) (start_of c + t)) 0 (days_of c)
