use Rattle.std.proofs.Common.{◌≡◌, ◌+◌}
use Rattle.plan_schema.specs.Base.{part_count}
use Rattle.plan_schema.proofs.contents.Contents.parts.Given as goal

abbrev pub invariant-loop-key : goal.invariant-loop-key
invariant-loop-key l = l.parts + part_count l.key-iterator ≡ part_count l.self
