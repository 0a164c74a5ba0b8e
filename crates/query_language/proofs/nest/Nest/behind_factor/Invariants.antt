use Rattle.std.proofs.Common.{◌≡◌, reverse}
use Rattle.arrayvec.specs.ArrayVec.{array_vec_len}
use Rattle.query_language.specs.Reading.{behind_factor}
use Rattle.query_language.proofs.nest.Nest.behind_factor.Given as goal

abbrev pub invariant-loop-openers : goal.invariant-loop-openers
invariant-loop-openers l = behind_factor (reverse l.openers.items) ≡ behind_factor l.fn.self

abbrev pub decreases-loop-openers : goal.decreases-loop-openers
decreases-loop-openers l = array_vec_len l.openers
