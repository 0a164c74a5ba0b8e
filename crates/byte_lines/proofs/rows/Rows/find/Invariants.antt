use Rattle.std.proofs.Common.{◌≡◌}
use Rattle.byte_lines.specs.Rows.{slot_at}
use Rattle.byte_lines.proofs.rows.Rows.find.Given as goal

abbrev pub invariant-loop-rows : goal.invariant-loop-rows
invariant-loop-rows l = slot_at l.rows l.name ≡ slot_at l.self l.name
