use Rattle.std.proofs.Common.{◌∙◌, sym, subst}
use Rattle.record_versions.specs.Versions.{CellList}
use Rattle.plan_jobs.specs.Collects.{AreWholeCells, CollectedFrom}
use Rattle.plan_core.proofs.Asked.{cells_whole, asked}
use Rattle.plan_core.proofs.kept.Core.ask.Goals as goal

pub collect-requires : goal.collect-requires
collect-requires c =
    subst (λ (store : CellList). AreWholeCells store c.in-Some-ids.ids.now) (sym c.store.ensures)
    (cells_whole c.self.inside.forest c.args.user.now c.args.scenario.now c.in-Some-ids.ids.now c.holds.ensures (sym c.in_default.ensures) c.len-count.ensures.ordered c.in-Some-ids.ensures.ids)

pub returns-clause-ok : goal.returns-clause-ok
returns-clause-ok c =
    let x = c.self.inside in
    let job = c.in_ok-job.job in
    asked x.began.base x.began.earlier x.journal.entries x.memo x.tally c.args.self.now x.forest x.before x.carried c.args.user.now c.args.scenario.now c.in-Some-ids.ids.now c.args.wanted job
    c.self.invariant c.self.view_is c.holds.ensures (sym c.in_default.ensures) c.len-count.ensures.ordered c.in-Some-ids.ensures.ids (c.in_ok-job.ensures.point ∙ c.point-2.ensures) c.in_ok-job.ensures.wanted c.in_ok-job.ensures.job
    (subst (λ (store : CellList). CollectedFrom store c.in-Some-ids.ids.now c.args.wanted job.cells) c.store.ensures c.in_ok-job.ensures.cells)
