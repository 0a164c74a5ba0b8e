-- Rounds of one pair each.
use Rattle.std.proofs.Common.{◌≡◌, ◌<◌, ◌≤◌, ◌==◌, List, [], ◌∷◌, length, Bool, true, false, refl, if◌then◌else◌, arith}
use Rattle.std.proofs.lemmas.Bool.Decides.{nat_tests}
use Rattle.std.specs.List.{onto_first}
use Rattle.program_words.specs.declared.rounds.PlacedPair.{PlacedPair}
use Rattle.program_words.specs.Rounds.{Pair, pair_of, rounds_in, have_one_pair_each}

one_alone : (placed : PlacedPair) → have_one_pair_each (rounds_in (placed ∷ [])) ≡ true
unfolding rounds_in
one_alone placed = at placed.ends_round (pair_of placed) where
  at : (ends : Bool) (pair : Pair) → have_one_pair_each (if ends then (pair ∷ []) ∷ [] else onto_first pair []) ≡ true
  at true pair = refl
  at false pair = refl

pub one_alone_of : (placed : List PlacedPair) → 1 ≤ length placed → length placed < 2 → have_one_pair_each (rounds_in placed) ≡ true
one_alone_of [] some few = absurd (omega (arith, some))
one_alone_of (placed ∷ []) some few = one_alone placed
one_alone_of (placed ∷ next ∷ more) some few = absurd (omega (arith, few))

-- a pair before others in their round
joins : (pair other : Pair) (ends : Bool) (rounds : List (List Pair)) → have_one_pair_each (onto_first pair (if ends then (other ∷ []) ∷ rounds else onto_first other rounds)) ≡ false
joins pair other true rounds = refl
joins pair other false [] = refl
joins pair other false (round ∷ rounds) = let many : (length (pair ∷ other ∷ round) == 1) ≡ false = grind (arith, nat_tests) in rw many refl

pub none_more : (placed next : PlacedPair) (rest : List PlacedPair) → placed.ends_round ≡ false → have_one_pair_each (rounds_in (placed ∷ next ∷ rest)) ≡ false
unfolding rounds_in
none_more placed next rest ends = rw ends (joins (pair_of placed) (pair_of next) next.ends_round (rounds_in rest))
