use Rattle.std.proofs.Common.{◌≡◌, ◌≤◌, ◌+◌, ℕ, Bool, true, false, min, cond, refl, arith}
use Rattle.turn_table.specs.Rule.{greatest, fewest}

-- what the caller says of the count is enough for the mark
enough : (taken faults : ℕ) (failed : Bool) → taken ≤ faults → (failed ≡ true → min (taken + 1) greatest ≤ faults) → fewest taken (cond failed 1 0) ≤ faults
enough taken faults true low up = let h = up refl in omega (arith, low, h)
enough taken faults false low up = omega (arith, low)
