use Rattle.std.proofs.Common.{◌≡◌, ◌∙◌, sym, ap}
use Rattle.std.specs.Prelude.{None}
use Rattle.record_versions.specs.Versions.{cell_at}
use Rattle.scenario_rules.specs.Refused.{named, access_refusal}
use Rattle.scenario_merge.specs.Grown.{world_by}
use Rattle.scenario_merge.proofs.FirstLaws.{access_passes}
use Rattle.scenario_merge.proofs.refusals.first_refusal.Goals as goal

pub returns : goal.returns
returns c =
    let m = cell_at c.args.store.now in
    let w = world_by m c.args.scenarios.now.entries in
    let user = c.args.user.now in
    let free : access_refusal w user (named c.args.change.now) ≡ None = ap (access_refusal w user) (sym c.named_by.ensures) ∙ sym (c.in_default.ensures m) in
    c.later_refusal.ensures ∙ sym (access_passes w user c.args.change.now free)
