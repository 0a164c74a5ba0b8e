use Rattle.std.proofs.Common.{◌∙◌, sym}
use Rattle.record_versions.specs.Versions.{cell_at}
use Rattle.scenario_merge.specs.Grown.{world_by}
use Rattle.scenario_rules.proofs.StepLaws.{not_root}
use Rattle.scenario_merge.proofs.FirstLaws.{update_later}
use Rattle.scenario_merge.proofs.refusals.update_refusal.Goals as goal

pub room_for_own-requires-clause-other : goal.room_for_own-requires-clause-other
room_for_own-requires-clause-other c = not_root c.args.name.now (sym c.in_default-root_refusal.ensures)

pub returns : goal.returns
returns c =
    let m = cell_at c.args.store.now in
    let w = world_by m c.args.scenarios.now.entries in
    c.room_for_own.ensures ∙ sym (update_later w c.args.user.now c.args.name.now c.requires.forest.whole c.requires.there (sym (c.in_default.ensures m)) (sym c.in_default-root_refusal.ensures))
