-- The numbers that texts are made from: each draw sets a state of 64 bits anew, and tells a number below a limit.
use Rattle.std.specs.Prelude.{ℕ, zero, suc, ◌+◌, ◌*◌, ◌/◌, ◌%◌, ◌^◌}

-- the state behind a state
unfoldable pub next : ℕ → ℕ
next state = (state * 6364136223846793005 + 1442695040888963407) % 2 ^ 64

-- the state after so many draws
abbrev pub after : ℕ → ℕ → ℕ
after zero state = state
after (suc draws) state = next (after draws state)

-- the number below a limit that a state tells: its upper 31 bits, modulo the limit
unfoldable pub told : ℕ → ℕ → ℕ
told limit state = (state / 2 ^ 33) % limit

-- the k-th draw from a state on, below a limit
abbrev pub draw : ℕ → ℕ → ℕ → ℕ
draw k limit state = told limit (after k state)
