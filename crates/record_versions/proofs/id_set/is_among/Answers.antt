use Rattle.std.proofs.Common.{◌∙◌}
use Rattle.record_versions.proofs.Searched.{search_tells}
use Rattle.record_versions.proofs.id_set.is_among.Goals as goal

pub returns : goal.returns
returns g c =
    c.is_ok.ensures.value
    ∙ search_tells g.met.K.Ord.total c.args.key.now c.args.keys.now c.binary_search.result c.requires c.binary_search.ensures.bound c.binary_search.ensures.position
