-- Pairs of files, in rounds.
use Rattle.std.specs.Prelude.{ℕ, ◌+◌, ◌==◌, nat_le, Bool, true, false, List, [], ◌∷◌, length, codes, bytes_eq, if◌then◌else◌, Option, Some, None, option_map}
use Rattle.std.specs.List.{onto_first, flat_map, list_all}
use Rattle.program_words.specs.declared.rounds.PlacedPair.{PlacedPair}
use Rattle.program_words.specs.declared.rounds.TheConstants.{PAIR_LIMIT}

-- the input and the output of a session
pub record Pair : Type 0 where
  pub input : List ℕ
  pub output : List ℕ

abbrev pub pair_of : PlacedPair → Pair
pair_of placed = record { input = placed.input; output = placed.output }

-- a round for each pair that ends one, with those before it
unfoldable pub rounds_in : List PlacedPair → List (List Pair)
rounds_in [] = []
rounds_in (placed ∷ rest) =
    if placed.ends_round then (pair_of placed ∷ []) ∷ rounds_in rest else onto_first (pair_of placed) (rounds_in rest)

abbrev pub with_pair : PlacedPair → Option (List PlacedPair) → Option (List PlacedPair)
with_pair pair = option_map (λ rest. pair ∷ rest)

-- pairs IN OUT: a round ends with the last of them, and with each that the word `/` follows
unfoldable pub placed_pairs : List (List ℕ) → Option (List PlacedPair)
placed_pairs [] = None
placed_pairs (input ∷ []) = None
placed_pairs (input ∷ output ∷ []) = Some (record { input = input; output = output; ends_round = true } ∷ [])
placed_pairs (input ∷ output ∷ next ∷ more) =
    if bytes_eq next (codes "/") then with_pair (record { input = input; output = output; ends_round = true }) (placed_pairs more)
    else with_pair (record { input = input; output = output; ends_round = false }) (placed_pairs (next ∷ more))

-- the pairs of words that may be missing
abbrev pub pairs_behind : Option (List (List ℕ)) → Option (List PlacedPair)
pairs_behind None = Some []
pairs_behind (Some words) = placed_pairs words

-- with so many before them these are no more than a run may have
abbrev pub is_few : ℕ → Option (List PlacedPair) → Bool
is_few before None = false
is_few before (Some pairs) = nat_le (before + length pairs) PAIR_LIMIT

abbrev pub rounds_from : Option (List PlacedPair) → Option (List (List Pair))
rounds_from found = if is_few 0 found then option_map rounds_in found else None

-- the rounds that words name: one pair or more in each, and no more pairs than a run may have
unfoldable pub rounds_of : List (List ℕ) → Option (List (List Pair))
rounds_of words = rounds_from (placed_pairs words)

-- the pairs of all rounds
abbrev pub all_pairs : List (List Pair) → List Pair
all_pairs rounds = flat_map (λ round. round) rounds

-- the sessions of a run are served one after the other
abbrev pub have_one_pair_each : List (List Pair) → Bool
have_one_pair_each rounds = list_all (λ round. length round == 1) rounds
