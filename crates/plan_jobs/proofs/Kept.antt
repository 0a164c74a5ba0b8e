-- Those of some cells whose names pass a test.
use Rattle.std.proofs.Common.{◌≡◌, ◌≤◌, List, [], ◌∷◌, length, refl, sym, ◌∙◌, ap, arith, Bool, true, false, cond, ◌&&◌, length-append}
use Rattle.std.proofs.lemmas.Bool.{and_parts}
use Rattle.std.specs.Prelude.{Some, None, filter}
use Rattle.std.specs.List.{list_all}
use Rattle.std.specs.FinMap.{is_sorted}
use Rattle.std.specs.FinMap.Entries.{is_sorted-where_key}
use Rattle.plan_schema.specs.declared.change.CellName.{CellName}
use Rattle.plan_schema.specs.Cell.{cell_cmp, cell_eq}
use Rattle.plan_schema.specs.Contents.{Contents}
use Rattle.scenario_rules.proofs.Maps.{holds, is_so}
use Rattle.record_versions.specs.declared.version.VersionId.{VersionId}
use Rattle.walk_rules.specs.Cells.{Cells, records, held}
use Rattle.walk_rules.proofs.RightLaws.{one_cell}
use Rattle.plan_jobs.specs.Jobs.{by_name, are_ascending}

pub all_kept : {A : Type 0} (p q : A → Bool) (xs : List A) → list_all p xs ≡ true → list_all p (filter q xs) ≡ true
all_kept p q [] h = refl
all_kept p q (x ∷ xs) h =
    let two = and_parts (p x) (list_all p xs) h in
    let rest = all_kept p q xs two.1 in
    elim (q x) as (λ b. list_all p (cond b (x ∷ filter q xs) (filter q xs)) ≡ true) [ true ↦ λ i. two.0 i && rest i | false ↦ rest ]

pub few_kept : (q : VersionId × Contents → Bool) (cells : Cells) → length (records (filter q cells)) ≤ length (records cells)
few_kept q [] = omega arith
few_kept q (cell ∷ cells) =
    let rest = few_kept q cells in
    let long = length-append cell.1 (records cells) in
    let fewer = length-append cell.1 (records (filter q cells)) in
    elim (q cell) as (λ b. length (records (cond b (cell ∷ filter q cells) (filter q cells))) ≤ length (records (cell ∷ cells))) [ true ↦ omega arith | false ↦ omega arith ]

module _ (t : CellName → Bool) where
  abbrev pub kept : Cells → Cells
  kept cells = filter (λ cell. t cell.0.cell) cells

  pub by_name_kept : (cells : Cells) → by_name (kept cells) ≡ filter (λ e. t e.0) (by_name cells)
  by_name_kept [] = refl
  by_name_kept (cell ∷ cells) =
      let rest = by_name_kept cells in
      elim (t cell.0.cell) as (λ b. by_name (cond b (cell ∷ kept cells) (kept cells)) ≡ cond b ((cell.0.cell, cell) ∷ filter (λ e. t e.0) (by_name cells)) (filter (λ e. t e.0) (by_name cells))) [
        | true ↦ ap (λ es. (cell.0.cell, cell) ∷ es) rest
        | false ↦ rest
      ]

  pub ascending_kept : (cells : Cells) → are_ascending cells ≡ true → are_ascending (kept cells) ≡ true
  ascending_kept cells h =
      ap (is_sorted cell_cmp) (by_name_kept cells)
      ∙ is_so (is_sorted cell_cmp (filter (λ e. t e.0) (by_name cells))) (is_sorted-where_key cell_cmp t (by_name cells) (holds (are_ascending cells) h))

  -- what is held of them
  pub held_kept : (cells : Cells) (name : CellName) → held (kept cells) name ≡ cond (t name) (held cells name) None
  held_kept [] name = elim (t name) as (λ b. None ≡ cond b (held [] name) None) [ true ↦ refl | false ↦ refl ]
  held_kept (cell ∷ cells) name = by_cases (held_kept cells name) (cell_eq cell.0.cell name) refl (t cell.0.cell) refl
    where
      same_test : cell_eq cell.0.cell name ≡ true → (b : Bool) → t cell.0.cell ≡ b → t name ≡ b
      same_test same b is = ap t (sym (one_cell cell.0.cell name same)) ∙ is

      by_cases : held (kept cells) name ≡ cond (t name) (held cells name) None → (e : Bool) → cell_eq cell.0.cell name ≡ e → (b : Bool) → t cell.0.cell ≡ b
          → held (cond b (cell ∷ kept cells) (kept cells)) name ≡ cond (t name) (cond e (Some cell) (held cells name)) None
      by_cases rest true same true is =
          ap (λ e. cond e (Some cell) (held (kept cells) name)) same ∙ sym (ap (λ b. cond b (Some cell) None) (same_test same true is))
      by_cases rest true same false is =
          let fails = same_test same false is in
          rest ∙ ap (λ b. cond b (held cells name) None) fails ∙ sym (ap (λ b. cond b (Some cell) None) fails)
      by_cases rest false same true is = ap (λ e. cond e (Some cell) (held (kept cells) name)) same ∙ rest
      by_cases rest false same false is = rest
