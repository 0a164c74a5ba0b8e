use Rattle.std.proofs.Common.{◌∙◌, sym}
use Rattle.record_versions.specs.Versions.{cell_at}
use Rattle.scenario_merge.specs.Grown.{world_by}
use Rattle.scenario_merge.proofs.FirstLaws.{drop_later}
use Rattle.scenario_merge.proofs.refusals.drop_refusal.Goals as goal

pub returns : goal.returns
returns c =
    let m = cell_at c.args.store.now in
    let w = world_by m c.args.scenarios.now.entries in
    c.has_children.ensures m ∙ sym (drop_later w c.args.user.now c.args.name.now c.requires.whole (sym (c.in_default.ensures m)) (sym c.in_default-root_refusal.ensures))
