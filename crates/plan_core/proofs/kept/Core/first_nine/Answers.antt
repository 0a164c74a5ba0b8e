use Rattle.std.proofs.Common.{◌∙◌, ap}
use Rattle.plan_core.specs.Changes.{first_nine}
use Rattle.plan_core.proofs.kept.Core.first_nine.Goals as goal

pub returns : goal.returns
returns c = c.but_for_room.ensures ∙ ap first_nine c.refusal.ensures
