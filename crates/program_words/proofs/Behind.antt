-- Pairs behind others.
use Rattle.std.proofs.Common.{◌≡◌, ◌∙◌, true, false, ℕ, ◌+◌, ◌≤◌, nat_le, rules, List, [], ◌∷◌, ◌++◌, length, Option, Some, None, refl, sym, ap, arith, if◌then◌else◌}
use Rattle.std.specs.Prelude.{option_map}
use Rattle.std.proofs.lemmas.Bool.Decides.{nat_tests}
use Rattle.std.proofs.lemmas.List.{append_assoc}
use Rattle.program_words.specs.declared.rounds.TheConstants.{PAIR_LIMIT}
use Rattle.program_words.specs.declared.rounds.PlacedPair.{PlacedPair}
use Rattle.program_words.specs.Rounds.{is_few, with_pair, rounds_from, rounds_in}

-- a pair that others follow, put behind earlier ones
pub put_behind : (before : List PlacedPair) (pair : PlacedPair) (more : Option (List PlacedPair))
    → option_map (λ pairs. before ++ pairs) (with_pair pair more) ≡ option_map (λ pairs. (before ++ pair ∷ []) ++ pairs) more
put_behind before pair None = refl
put_behind before pair (Some pairs) = ap Some (sym (append_assoc before (pair ∷ []) pairs))

-- one more before, or one more behind
pub few_behind : (before : ℕ) (pair : PlacedPair) (more : Option (List PlacedPair)) → is_few before (with_pair pair more) ≡ is_few (before + 1) more
few_behind before pair None = refl
few_behind before pair (Some pairs) = (let same : before + length (pair ∷ pairs) ≡ before + 1 + length pairs = omega arith in ap (λ n. nat_le n PAIR_LIMIT) same)

-- all pairs were read
pub rounds_read : (found : Option (List PlacedPair)) (pairs : List PlacedPair) → option_map (λ more. [] ++ more) found ≡ Some pairs → length pairs ≤ PAIR_LIMIT → rounds_from found ≡ Some (rounds_in pairs)
rounds_read None pairs h few = cc
rounds_read (Some found) pairs h few =
    let same : found ≡ pairs = search (rules, h) in
    let fits : nat_le (0 + length pairs) PAIR_LIMIT ≡ true = grind (arith, nat_tests) in
    ap (λ (l : List PlacedPair). rounds_from (Some l)) same ∙ ap (λ fit. if fit then Some (rounds_in pairs) else None) fits

pub rounds_unread : (found : Option (List PlacedPair)) → is_few 0 found ≡ false → rounds_from found ≡ None
rounds_unread found h = rw h refl
