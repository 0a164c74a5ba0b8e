use Rattle.std.proofs.Common.{◌≡◌, length}
use Rattle.query_language.specs.Reading.{check_from, check_of}
use Rattle.query_language.proofs.check.check_query.Given as goal

abbrev pub invariant-loop-place : goal.invariant-loop-place
invariant-loop-place l = check_from 32 (length l.text) l.progress l.tokens ≡ check_of l.text

abbrev pub decreases-loop-place : goal.decreases-loop-place
decreases-loop-place l = length l.tokens
