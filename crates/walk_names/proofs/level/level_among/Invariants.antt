use Rattle.std.proofs.Common.{◌≡◌, take, None}
use Rattle.std.specs.Map.{lookup}
use Rattle.plan_schema.specs.Key.{name_eq}
use Rattle.walk_names.proofs.level.level_among.Given as goal

abbrev pub invariant-loop-other : goal.invariant-loop-other
invariant-loop-other l = lookup (name_eq l.name) (take l.other-index l.levels) ≡ None
