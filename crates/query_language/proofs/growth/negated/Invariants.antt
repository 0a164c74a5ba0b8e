use Rattle.std.proofs.Common.{◌≡◌, vec_len}
use Rattle.query_language.specs.Growing.{negated, behind_nots, levels_of}
use Rattle.query_language.specs.Trees.{cond_tree}
use Rattle.query_language.proofs.growth.negated.Given as goal

abbrev pub invariant-loop-levels : goal.invariant-loop-levels
invariant-loop-levels l =
    (negated (levels_of l.levels.items) (cond_tree l.factor) ≡ negated (levels_of l.fn.levels.items) (cond_tree l.fn.factor))
    × (behind_nots (levels_of l.levels.items) ≡ behind_nots (levels_of l.fn.levels.items))

abbrev pub decreases-loop-levels : goal.decreases-loop-levels
decreases-loop-levels l = vec_len l.levels
