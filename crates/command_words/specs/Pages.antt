-- Text that is gathered in a page before it is written.
use Rattle.std.specs.Prelude.{◌≡◌, ℕ, List, ◌++◌, Option, Result, OnOk, OnErr}
use Rattle.plan_schema.specs.declared.outside.SinkFault.{SinkFault}
use Rattle.plan_schema.specs.Outside.{Wrote}

-- a text was put behind what a page held. With Ok some of it all was written, and the page holds the rest; else a front of it all was
-- written. The first three arguments are the sink's meanings: what it has taken, its count of faults and its label.
pub record Gathered {S T : Type 0} (taken : S → Option (List ℕ)) (faults : S → ℕ) (label : S → List ℕ) (old new : S) (before after text : List ℕ) (result : Result T SinkFault) : Type 0 where
  pub written : List ℕ
  pub wrote : OnOk result (Wrote taken faults label old new written result)
  pub rest : OnOk result (written ++ after ≡ before ++ text)
  pub short : OnErr result (Wrote taken faults label old new (before ++ text) result)
