use Rattle.std.proofs.Common.{sym}
use Rattle.std.proofs.lemmas.List.Sorted.{list_any-IsPermutation}
use Rattle.record_versions.specs.Versions.{id_eq}
use Rattle.record_versions.proofs.id_set.IdSet.of.Goals as goal

pub returns : goal.returns
returns c = λ id. sym (list_any-IsPermutation (id_eq id) c.args.ids.items c.sort.new.keys.items c.sort.ensures.same)
