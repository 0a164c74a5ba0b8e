-- By how much days fall short.
use Rattle.std.specs.Prelude.{ℕ, suc, ◌+◌, ◌-◌, length, take, sum, List, map}
use Rattle.std.specs.List.{range_with_len}

-- by how much each day falls short of safety, where nothing is planned
abbrev pub shortages : ℕ → ℕ → List ℕ → List ℕ → List ℕ
shortages balance safety gross sched = map (λ k. (safety + sum (take (suc k) gross)) - ((balance + sum (take (suc k) sched)) + 0)) (range_with_len 0 (length gross))
