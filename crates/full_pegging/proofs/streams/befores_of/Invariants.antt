use Rattle.std.proofs.Common.{◌≡◌, ◌+◌, suc, take, map}
use Rattle.std.specs.Prelude.{sum}
use Rattle.std.specs.List.{range_with_len}
use Rattle.full_pegging.proofs.streams.befores_of.Given as goal

abbrev pub invariant-loop-day : goal.invariant-loop-day
invariant-loop-day l = (l.befores.items ≡ map (λ t. (l.stock + sum (take (suc t) l.sched)) + sum (take t l.planned)) (range_with_len 0 l.day))
    × (l.there ≡ l.stock + sum (take l.day l.sched))
    × (l.made ≡ sum (take l.day l.planned))
