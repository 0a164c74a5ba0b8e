use Rattle.std.proofs.Common.{◌≡◌, List, ◌++◌, sym, ◌∙◌, ap}
use Rattle.record_versions.specs.Shown.{cells_of}
use Rattle.plan_jobs.specs.Jobs.{are_ascending}
use Rattle.plan_schema.specs.declared.change.CellName.{CellName}
use Rattle.plan_jobs.proofs.Rows.{append_none}
use Rattle.plan_jobs.proofs.Found.{fetched, fetched_is_kept, ascending_fetched}
use Rattle.plan_jobs.proofs.gather.named_cells.Goals as goal

pub of-requires : goal.of-requires
of-requires c =
    let all : cells_of c.loop-name.cells.items ≡ fetched c.args.store.now c.args.ids.now c.args.names =
    sym (append_none (cells_of c.loop-name.cells.items)) ∙ ap (λ (ns : List CellName). cells_of c.loop-name.cells.items ++ fetched c.args.store.now c.args.ids.now ns) (sym c.in_default.ensures) ∙ c.loop-name.invariant in
    ap are_ascending all ∙ ascending_fetched c.args.store.now c.args.ids.now c.args.names c.requires.ordered c.requires.whole.named c.requires.names

pub returns : goal.returns
returns c =
    let all : cells_of c.loop-name.cells.items ≡ fetched c.args.store.now c.args.ids.now c.args.names =
    sym (append_none (cells_of c.loop-name.cells.items)) ∙ ap (λ (ns : List CellName). cells_of c.loop-name.cells.items ++ fetched c.args.store.now c.args.ids.now ns) (sym c.in_default.ensures) ∙ c.loop-name.invariant in
    c.of.ensures ∙ all ∙ fetched_is_kept c.args.store.now c.args.ids.now c.args.names c.requires.ordered c.requires.whole.named c.requires.names
