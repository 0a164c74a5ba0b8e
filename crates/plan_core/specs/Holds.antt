-- What holds of every core.
use Rattle.std.specs.Prelude.{◌≡◌, ℕ, ◌≤◌, length}
use Rattle.plan_schema.specs.declared.limits.TheConstants.{ENTRY_LIMIT, CARRIED_LIMIT}
use Rattle.scenario_rules.specs.Steps.{world_after}
use Rattle.scenario_rules.specs.Refused.{record_counts}
use Rattle.scenario_rules.specs.Journal.{IsLegal}
use Rattle.scenario_rules.specs.Whole.{AreWholeContents, AreWithinLimits}
use Rattle.version_rules.specs.Ids.{ids_after}
use Rattle.scenario_merge.specs.Grown.{Grown, ids_in}
use Rattle.walk_rules.specs.Memo.{MemoRight}
use Rattle.plan_core.specs.State.{State, history, meaning_of}

-- the history is legal and within its limits, the records that it began with are whole, and the memo is right for what ids mean after it
pub record HoldsFor (core : State) : Type 0 where
  pub whole : AreWholeContents core.base
  pub limits : AreWithinLimits core.base
  pub legal : IsLegal core.base (history core)
  pub few : length (history core) ≤ ENTRY_LIMIT
  pub light : record_counts (history core) ≤ CARRIED_LIMIT
  pub right : MemoRight (meaning_of core) core.pairs

-- the scenarios are those after the history, with its ids; and so many entries were there before, and so many records in all entries
pub record IsCore (core : State) (forest : Grown) (before carried : ℕ) : Type 0 where
  pub holds : HoldsFor core
  pub world : forest.world ≡ world_after core.base (history core)
  pub ids : ids_in forest ≡ ids_after core.base (history core)
  pub before_is : before ≡ length core.earlier
  pub carried_is : carried ≡ record_counts (history core)
