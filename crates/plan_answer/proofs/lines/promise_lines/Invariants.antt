use Rattle.std.proofs.Common.{◌≡◌, map}
use Rattle.std.specs.List.{range_with_len}
use Rattle.plan_answer.specs.Replies.{promised_line}
use Rattle.plan_answer.proofs.lines.promise_lines.Given as goal

abbrev pub invariant-loop-day : goal.invariant-loop-day
invariant-loop-day l = l.lines ≡ map (promised_line l.start l.promised) (range_with_len 0 l.day)
