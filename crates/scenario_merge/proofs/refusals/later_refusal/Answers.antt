use Rattle.std.proofs.Common.{◌∙◌, sym, ap, refl}
use Rattle.std.specs.Prelude.{Some}
use Rattle.record_versions.specs.Versions.{cell_at}
use Rattle.scenario_merge.specs.Grown.{world_by}
use Rattle.scenario_rules.specs.Refused.{later_refusal}
use Rattle.scenario_merge.proofs.refusals.later_refusal.Goals as goal

pub returns-in-Put : goal.returns-in-Put
returns-in-Put c =
    let w = world_by (cell_at c.args.store.now) c.args.scenarios.now.entries in
    c.room_for_one.ensures (Some c.in-Put.value) refl ∙ ap (later_refusal w c.args.user.now) (sym c.in-Put.is)
