use Rattle.std.proofs.Common.{◌≡◌, length, Ok}
use Rattle.std.specs.List.{fold}
use Rattle.query_language.specs.Reading.{check_from}
use Rattle.query_language.specs.Growing.{grow, pieces_from, grown_query, growth_tree, tree_of}
use Rattle.query_language.proofs.read.query_in.Given as goal

abbrev pub invariant-loop-token : goal.invariant-loop-token
invariant-loop-token l =
    (check_from 32 (length l.text) l.progress l.tokens ≡ Ok tt)
    × (grown_query (fold grow (growth_tree l.growth) (pieces_from 32 l.progress l.tokens)) ≡ tree_of l.text)

abbrev pub decreases-loop-token : goal.decreases-loop-token
decreases-loop-token l = length l.tokens
