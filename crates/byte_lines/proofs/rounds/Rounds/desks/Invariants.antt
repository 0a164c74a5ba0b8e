use Rattle.std.proofs.Common.{◌≡◌, ◌^◌, ◌-◌, take, min}
use Rattle.byte_lines.specs.Desks.{desk_count}
use Rattle.byte_lines.proofs.rounds.Rounds.desks.Given as goal

abbrev pub invariant-loop-round : goal.invariant-loop-round
invariant-loop-round g l = l.count ≡ min (desk_count (take l.round-index l.round-items)) (2 ^ 64 - 1)
