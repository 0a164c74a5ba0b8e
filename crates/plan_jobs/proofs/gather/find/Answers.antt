use Rattle.std.proofs.Common.{◌≡◌, Some, None, sym, ◌∙◌, ap, true, false}
use Rattle.std.specs.Prelude.{is_some}
use Rattle.record_versions.specs.Versions.{id_at, cell_at}
use Rattle.plan_jobs.proofs.Found.{stored_at}
use Rattle.plan_jobs.proofs.gather.find.Goals as goal

pub unreachable-requires : goal.unreachable-requires
unreachable-requires c =
    let id = c.in_ok-id.field-0.now in
    let is : Some id ≡ id_at c.args.ids.now c.args.name = c.in_ok-id.ensures in
    let none : None ≡ cell_at c.args.store.now id = c.in_default.ensures in
    let there = stored_at c.args.store.now c.args.ids.now c.args.name id c.requires.stored (sym is) in
    let wrong : false ≡ true = ap is_some none ∙ there in
    cc
