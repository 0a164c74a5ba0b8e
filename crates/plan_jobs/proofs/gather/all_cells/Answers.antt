use Rattle.std.proofs.Common.{◌≡◌, ◌++◌, sym, ◌∙◌, ap}
use Rattle.record_versions.specs.Shown.{cells_of}
use Rattle.plan_jobs.specs.Jobs.{are_ascending}
use Rattle.plan_jobs.specs.Collects.{cells_by}
use Rattle.record_versions.specs.Versions.{IdList}
use Rattle.plan_jobs.proofs.Rows.{append_none}
use Rattle.plan_jobs.proofs.Found.{ascending_by}
use Rattle.plan_jobs.proofs.gather.all_cells.Goals as goal

pub of-requires : goal.of-requires
of-requires c =
    let whole : cells_of c.loop-name.cells.items ≡ cells_by c.args.store.now c.args.ids.now =
    sym (append_none (cells_of c.loop-name.cells.items)) ∙ ap (λ (es : IdList). cells_of c.loop-name.cells.items ++ cells_by c.args.store.now es) (sym c.in-None.ensures.steps.0) ∙ c.loop-name.invariant.cells in
    ap are_ascending whole ∙ ascending_by c.args.store.now c.args.ids.now c.requires.ordered c.requires.whole.named
