-- The record of the horizon in a job's cells.
use Rattle.std.proofs.Common.{◌≡◌, sym, ap, ◌∙◌, true, false}
use Rattle.std.specs.Prelude.{Some, None, is_some}
use Rattle.plan_schema.specs.declared.change.CellName.TheVariants as names
use Rattle.plan_schema.specs.declared.key.Key.TheVariants as keys
use Rattle.plan_schema.specs.declared.key.Record.{Record}
use Rattle.plan_schema.specs.Contents.{Contents, record_at}
use Rattle.plan_schema.specs.Sound.{is_sound_row}
use Rattle.plan_schema.proofs.Orders.{sound_at}
use Rattle.record_versions.specs.declared.version.VersionId.{VersionId}
use Rattle.walk_rules.specs.Cells.{Cells, records, held}
use Rattle.plan_jobs.specs.declared.job.Wanted.{Wanted}
use Rattle.plan_jobs.specs.Jobs.{IsJob, wants_plan}
use Rattle.walk_names.proofs.JobCells.{HeldCell, held_cell, record_of, plan_there}

module _ (wanted : Wanted) (cells : Cells) (job : IsJob wanted cells) where
  pub plan_held : wants_plan wanted ≡ true → held cells names.Plan ≡ None → ⊥
  plan_held wants none = let never : true ≡ false = sym (job.plan wants) ∙ ap is_some none in cc

  module _ (id : VersionId) (rows : Contents) (is : held cells names.Plan ≡ Some (id, rows)) where
    cell : HeldCell cells names.Plan rows
    cell = held_cell wanted cells names.Plan id rows job is

    pub row_there : record_at rows keys.Plan ≡ None → ⊥
    row_there none = let never : true ≡ false = sym (plan_there rows cell.filled cell.own) ∙ ap is_some none in cc

    pub row_of_all : (r : Record) → record_at rows keys.Plan ≡ Some r → record_at (records cells) keys.Plan ≡ Some r
    row_of_all r here = sym (record_of cells keys.Plan rows cell) ∙ here

    pub row_sound : (r : Record) → record_at rows keys.Plan ≡ Some r → is_sound_row keys.Plan r ≡ true
    row_sound r here = sound_at rows keys.Plan r cell.sound here
