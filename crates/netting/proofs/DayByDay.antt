-- Netting day by day: one more day.
use Rattle.std.proofs.Common.{◌≡◌, ℕ, ◌+◌, ◌<◌, List, [], ◌∷◌, ◌++◌, length, get_or, arith}
use Rattle.std.proofs.lemmas.List.Sums.{sum_by_push}
use Rattle.std.specs.List.{sum}
use Rattle.planning_rules.specs.Netting.{Input, IsOrder}
use Rattle.planning_rules.proofs.NettedLaws.{sum_more, netted_push}
use Rattle.netting.specs.DayByDay.{IsPlannedTo}

pub going_on : (x : Input) (t : ℕ) (p : List ℕ) (balance order next : ℕ) → IsPlannedTo x t p balance → t < length x.gross → t < length x.sched
    → IsOrder x (sum p) t order → next + get_or x.gross t 0 ≡ (balance + get_or x.sched t 0) + order → IsPlannedTo x (t + 1) (p ++ order ∷ []) next
going_on x t p balance order next g hg hs o e = record {
  orders = netted_push x t p order g.orders o;
  balanced = omega (arith, sum_more x.gross t hg, sum_more x.sched t hs, sum_by_push (λ v. v) p order, g.balanced);
}
