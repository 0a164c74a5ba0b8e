-- The input and the outcome of a part's step as the definitions see them.
use Rattle.std.specs.Prelude.{◌≤◌, ◌≡◌, true, length, All}
use Rattle.netting.specs.declared.step.Input.{Input}
use Rattle.plan_schema.specs.declared.outcome.Outcome.{Outcome}
use Rattle.plan_schema.specs.declared.outcome.NetFault.{NetFault}
use Rattle.plan_schema.specs.declared.outcome.NetFault.TheVariants.{TooLarge, Memory}
use Rattle.plan_schema.specs.Sound.{is_sound_lot}
use Rattle.planning_rules.specs.Netting.{Input as Given, Lists}

-- the input of a step
abbrev pub given : Input → Given
given x = record { stock = x.stock; safety = x.safety; lot = x.lot; lead = x.lead; calendar = x.calendar; gross = x.gross; sched = x.sched }

-- the numbers of an input are within the limits
pub record IsWithin (x : Input) : Type 0 where
  pub some_days : 1 ≤ length x.gross
  pub days : length x.gross ≤ 400
  pub sched_days : length x.sched ≡ length x.gross
  pub calendar_days : length x.calendar ≡ length x.gross
  pub stock : x.stock ≤ 1000000000
  pub safety : x.safety ≤ 1000000000
  pub lead : x.lead ≤ 365
  pub lot : is_sound_lot x.lot ≡ true
  pub gross : All (λ g. g ≤ 1000000000000000) x.gross
  pub sched : All (λ s. s ≤ 200000000000000) x.sched

-- a fact for the answer that a step is too large; want of memory says nothing
abbrev pub WhereLarge : NetFault → Type 0 → Type 0
WhereLarge TooLarge P = P
WhereLarge Memory P = Unit {0}

-- the outcome of a step
abbrev pub told : Outcome → Lists
told o = record { gross = o.gross; sched = o.sched; planned = o.planned; balance = o.balance; release = o.release; late = o.late }
