use Rattle.std.proofs.Common.{◌∙◌, sym}
use Rattle.record_versions.specs.Versions.{cell_at}
use Rattle.scenario_merge.specs.Grown.{world_by}
use Rattle.scenario_merge.proofs.FirstLaws.{branch_later}
use Rattle.scenario_merge.proofs.refusals.branch_refusal.Goals as goal

pub returns : goal.returns
returns c =
    let m = cell_at c.args.store.now in
    let w = world_by m c.args.scenarios.now.entries in
    c.full_scenarios.ensures m
    ∙ sym (branch_later w c.args.user.now c.args.parent.now c.args.child.now c.requires.forest.whole c.requires.there (sym (c.in_default.ensures m)) (sym (c.in_default-too_deep.ensures m)))
