-- What is right stays right as the meaning grows.
use Rattle.std.proofs.Common.{◌≡◌, [], ◌∷◌}
use Rattle.std.specs.Prelude.{Option, Some, None}
use Rattle.plan_schema.specs.Contents.{Contents}
use Rattle.planning_rules.specs.Plan.{Known}
use Rattle.record_versions.specs.declared.version.VersionId.{VersionId}
use Rattle.version_rules.specs.Meaning.{Meaning}
use Rattle.walk_rules.specs.declared.key.MemoKey.{MemoKey}
use Rattle.walk_rules.specs.Cells.{Cells, Stands}
use Rattle.walk_rules.specs.Memo.{Pairs, calendar_rows, IsRight, MemoRight}
use Rattle.walk_rules.specs.Rights.{AreMeantCells, Grows, GrowthKeepsMemo, GrowthKeepsCells}

module _ (m later : Meaning) (grows : Grows m later) where
  calendar_grows : (o : Option VersionId) (rows : Contents) → calendar_rows m o ≡ Some rows → calendar_rows later o ≡ Some rows
  calendar_grows None rows h = h
  calendar_grows (Some id) rows h = grows id rows h

  right_grows : (key : MemoKey) (known : Known) → IsRight m key known → IsRight later key known
  right_grows key known right = record {
    part = right.part;
    calendar = right.calendar;
    plan = right.plan;
    part_is = grows key.part right.part right.part_is;
    calendar_is = calendar_grows key.calendar right.calendar right.calendar_is;
    plan_is = grows key.plan right.plan right.plan_is;
    named = right.named;
    lists = right.lists;
    days = right.days;
    value = right.value;
  }

  pub memo_grows : (pairs : Pairs) → MemoRight m pairs → MemoRight later pairs
  memo_grows [] h = tt
  memo_grows (pair ∷ pairs) h = (right_grows pair.0 pair.1 h.0, memo_grows pairs h.1)

  stands_grows : (cells : Cells) → Stands m cells → Stands later cells
  stands_grows [] h = tt
  stands_grows (cell ∷ cells) h = (grows cell.0 cell.1 h.0, stands_grows cells h.1)

  pub cells_grow : (cells : Cells) → AreMeantCells m cells → AreMeantCells later cells
  cells_grow cells meant = record { own = meant.own; apart = meant.apart; stands = stands_grows cells meant.stands }

pub growth_keeps_memo : GrowthKeepsMemo
growth_keeps_memo m later grows pairs h = memo_grows m later grows pairs h

pub growth_keeps_cells : GrowthKeepsCells
growth_keeps_cells m later grows cells h = cells_grow m later grows cells h
