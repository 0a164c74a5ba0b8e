-- The cells that are wanted, and that they make a job.
use Rattle.std.proofs.Common.{◌≡◌, List, [], ◌∷◌, Result, Ok, Err, IfOk, refl, sym, ◌∙◌, ap, arith, true, cond}
use Rattle.std.specs.Prelude.{Option, Some, None, filter, is_some}
use Rattle.std.specs.Option.{option_map}
use Rattle.plan_schema.specs.declared.change.CellName.{CellName}
use Rattle.plan_schema.specs.declared.change.CellName.TheVariants as names
use Rattle.plan_schema.specs.Sound.{are_sound_rows}
use Rattle.record_versions.specs.declared.version.VersionId.{VersionId}
use Rattle.record_versions.specs.Versions.{IdList, CellList, id_at, are_ordered_ids}
use Rattle.walk_rules.specs.Cells.{Cells, held, are_own_rows}
use Rattle.plan_jobs.specs.declared.job.Wanted.{Wanted}
use Rattle.plan_jobs.specs.declared.job.Wanted.TheVariants as wants
use Rattle.plan_jobs.specs.Jobs.{has_rows, wants_plan, IsJob}
use Rattle.plan_jobs.specs.Names.{has_name}
use Rattle.plan_jobs.specs.Collects.{AreWholeCells, CollectedFrom, cell_by, cells_by, records_by, is_wanted, collected}
use Rattle.plan_jobs.proofs.Found.{ascending_by, held_by}
use Rattle.plan_jobs.proofs.Kept.{all_kept, few_kept, ascending_kept, held_kept}

filter_all : {A : Type 0} (xs : List A) → filter (λ x. true) xs ≡ xs
filter_all [] = refl
filter_all (x ∷ xs) = ap (λ ys. x ∷ ys) (filter_all xs)

module _ (store : CellList) (ids : IdList) where
  pub all_collected : {E : Type 0} (r : Result Cells E) → IfOk r (λ cells. cells ≡ cells_by store ids) → IfOk r (λ cells. CollectedFrom store ids wants.All cells)
  all_collected (Ok cells) h = h ∙ sym (filter_all (cells_by store ids))
  all_collected (Err e) h = tt

  pub named_collected : {E : Type 0} (wanted : Wanted) (names : List CellName) → ((cell : CellName) → has_name names cell ≡ is_wanted (records_by store ids) wanted cell)
      → (r : Result Cells E) → IfOk r (λ cells. cells ≡ filter (λ cell. has_name names cell.0.cell) (cells_by store ids)) → IfOk r (λ cells. CollectedFrom store ids wanted cells)
  named_collected wanted names same (Ok cells) h = h ∙ λ i. filter (λ cell. same cell.0.cell i) (cells_by store ids)
  named_collected wanted names same (Err e) h = tt

  module _ (whole : AreWholeCells store ids) (ordered : are_ordered_ids ids ≡ true) (wanted : Wanted) where
    plan_wanted : (wanted : Wanted) → wants_plan wanted ≡ true → is_wanted (records_by store ids) wanted names.Plan ≡ true
    plan_wanted (wants.Cell name) h = let no : ⊥ = cc in absurd no
    plan_wanted (wants.Part name) h = refl
    plan_wanted wants.All h = refl

    its_plan : (o : Option VersionId) → is_some o ≡ true → is_some (option_map (cell_by store) o) ≡ true
    its_plan None h = h
    its_plan (Some id) h = refl

    pub is_job : IsJob wanted (collected store ids wanted)
    is_job =
        let all = cells_by store ids in
        let t = λ (name : CellName). is_wanted (records_by store ids) wanted name in
        record {
          ascending = ascending_kept t all (ascending_by store ids ordered whole.named);
          filled = all_kept (λ cell. has_rows cell.1) (λ cell. t cell.0.cell) all whole.filled;
          sound = all_kept (λ cell. are_sound_rows cell.1) (λ cell. t cell.0.cell) all whole.sound;
          own = all_kept (λ cell. are_own_rows cell.0.cell cell.1) (λ cell. t cell.0.cell) all whole.own;
          few = let less = few_kept (λ cell. t cell.0.cell) all in let most = whole.few in omega arith;
          plan = λ h. ap is_some (held_kept t all names.Plan ∙ ap (λ b. cond b (held all names.Plan) None) (plan_wanted wanted h) ∙ held_by store ids names.Plan whole.named) ∙ its_plan (id_at ids names.Plan) whole.plan;
        }
