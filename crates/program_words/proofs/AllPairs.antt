-- The pairs of all rounds.
use Rattle.std.proofs.Common.{◌≡◌, ◌∙◌, List, [], ◌∷◌, Bool, true, false, map, refl, ap, if◌then◌else◌}
use Rattle.std.specs.List.{onto_first}
use Rattle.program_words.specs.declared.rounds.PlacedPair.{PlacedPair}
use Rattle.program_words.specs.Rounds.{Pair, pair_of, rounds_in, all_pairs}

onto_first-pairs : (pair : Pair) (rounds : List (List Pair)) → all_pairs (onto_first pair rounds) ≡ pair ∷ all_pairs rounds
onto_first-pairs pair [] = refl
onto_first-pairs pair (round ∷ rounds) = refl

one_more : (ends_round : Bool) (pair : Pair) (rounds : List (List Pair)) → all_pairs (if ends_round then (pair ∷ []) ∷ rounds else onto_first pair rounds) ≡ pair ∷ all_pairs rounds
one_more true pair rounds = refl
one_more false pair rounds = onto_first-pairs pair rounds

pub pairs_of_rounds : (placed : List PlacedPair) → all_pairs (rounds_in placed) ≡ map pair_of placed
unfolding rounds_in
pairs_of_rounds [] = refl
pairs_of_rounds (p ∷ placed) = one_more p.ends_round (pair_of p) (rounds_in placed) ∙ ap (λ (l : List Pair). pair_of p ∷ l) (pairs_of_rounds placed)
