use Rattle.std.proofs.Common.{◌≡◌, map, take}
use Rattle.pegging.specs.Pegs.{shown}
use Rattle.session_rules.specs.Answers.{peg_line}
use Rattle.plan_answer.proofs.lines.peg_lines.Given as goal

abbrev pub invariant-loop-peg : goal.invariant-loop-peg
invariant-loop-peg l = l.lines ≡ map (λ peg. peg_line (shown peg)) (take l.peg-index l.pegs)
