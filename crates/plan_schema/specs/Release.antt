-- The number that is made from a list of quantities once and kept with it.
use Rattle.std.specs.Prelude.{ℕ, ◌+◌, ◌*◌, ◌%◌, ◌^◌, List, fold}

-- one more quantity
abbrev pub mixed : ℕ → ℕ → ℕ
mixed print qty = (print * 6_364_136_223_846_793_005 + qty) % 2 ^ 64

abbrev pub fingerprint : List ℕ → ℕ
fingerprint days = fold mixed 0 days
