use Rattle.std.proofs.Common.{◌≡◌}
use Rattle.session_rules.specs.Answers.{plan_lines}
use Rattle.plan_answer.proofs.lines.plan_lines.Given as goal

abbrev pub invariant-loop-day : goal.invariant-loop-day
invariant-loop-day l = l.lines ≡ plan_lines l.start l.day l.outcome
