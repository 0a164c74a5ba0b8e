use Rattle.std.proofs.Common.{◌∙◌}
use Rattle.explosion.proofs.Totals.{at_list}
use Rattle.explosion.proofs.adding.release_at.Goals as goal

pub returns : goal.returns
returns c = c.as_slice.ensures ∙ at_list c.args.releases.now c.args.place c.index-releases-place.result c.index-releases-place.result c.requires c.index-releases-place.is
