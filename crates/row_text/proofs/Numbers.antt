-- Numbers in decimal digits.
use Rattle.std.proofs.Common.{ℕ, ◌+◌, ◌-◌, ◌*◌, ◌≤◌, List, [], ◌∷◌, arith}
use Rattle.row_text.specs.Number.{number_from}

pub number_from_grows : (n : ℕ) (bytes : List ℕ) → n ≤ number_from n bytes
number_from_grows n [] = omega arith
number_from_grows n (b ∷ bytes) = omega (arith, number_from_grows (10 * n + (b - 48)) bytes)
