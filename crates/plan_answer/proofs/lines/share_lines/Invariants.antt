use Rattle.std.proofs.Common.{◌≡◌, map, take}
use Rattle.full_pegging.specs.Following.{shown_share}
use Rattle.session_rules.specs.Answers.{share_line}
use Rattle.plan_answer.proofs.lines.share_lines.Given as goal

abbrev pub invariant-loop-share : goal.invariant-loop-share
invariant-loop-share l = l.lines ≡ map (λ share. share_line (shown_share share)) (take l.share-index l.shares)
