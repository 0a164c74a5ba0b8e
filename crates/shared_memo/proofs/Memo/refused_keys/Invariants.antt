use Rattle.std.proofs.Common.{◌≡◌, List, ◌++◌}
use Rattle.std.specs.Arc.{arc_value}
use Rattle.std.specs.Fn.{FnReturnsAt}
use Rattle.shared_memo.specs.Pairs.{Refuses}
use Rattle.shared_memo.proofs.Mapped.{mapped}
use Rattle.shared_memo.proofs.Memo.refused_keys.Given as goal

abbrev pub invariant-loop-key : goal.invariant-loop-key
invariant-loop-key g l =
    (seen : List _) × (l.initial.key-iterator ≡ seen ++ l.key-iterator) × Refuses (FnReturnsAt g.F.Fn l.keep) (mapped arc_value seen) l.refused.items
