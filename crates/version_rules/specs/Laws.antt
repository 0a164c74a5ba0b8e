-- What holds of ids and their meanings.
use Rattle.std.specs.Prelude.{◌≡◌, ℕ, suc, Bool, true, if◌then◌else◌, List, length, take, Some}
use Rattle.plan_schema.specs.declared.name.Name.{Name}
use Rattle.plan_schema.specs.declared.change.CellName.{CellName}
use Rattle.plan_schema.specs.declared.change.Entry.{Entry}
use Rattle.plan_schema.specs.Contents.{Contents, cell_rows}
use Rattle.scenario_rules.specs.Journal.{IsLegal}
use Rattle.scenario_rules.specs.Whole.{AreWholeContents, AreWithinLimits}
use Rattle.scenario_rules.specs.World.{Scenario, scenario_at, contents_of}
use Rattle.scenario_rules.specs.Steps.{world_after}
use Rattle.record_versions.specs.declared.version.VersionId.{VersionId}
use Rattle.version_rules.specs.Ids.{AreOlder, same_id, side_ids, ids_after}
use Rattle.version_rules.specs.Meaning.{AreWorldMeant, meaning_after}

-- what an id means after some entries it means after more
abbrev pub MeaningsStay : Type 0
MeaningsStay = (base : Contents) (history : List Entry) (point : ℕ) (id : VersionId) (rows : Contents) → meaning_after base (take point history) id ≡ Some rows → meaning_after base history id ≡ Some rows

-- after a legal history the ids mean the cells that they are ids of
abbrev pub IdsHaveMeanings : Type 0
IdsHaveMeanings = (base : Contents) (history : List Entry) → AreWholeContents base → AreWithinLimits base → IsLegal base history
    → AreWorldMeant (meaning_after base history) (world_after base history) (ids_after base history)

-- one side of a scenario: its base, or its contents
abbrev pub side_of : Bool → Scenario → Contents
side_of of_base x = if of_base then x.base else contents_of x

-- after a legal history cells with one id, or both without one, have the same rows, in whichever scenarios' bases or contents they are
abbrev pub SameIdsSameRows : Type 0
SameIdsSameRows = (base : Contents) (history : List Entry) → AreWholeContents base → AreWithinLimits base → IsLegal base history
    → (s t : Name) (x y : Scenario) → scenario_at (world_after base history) s ≡ Some x → scenario_at (world_after base history) t ≡ Some y
    → (s_base t_base : Bool) (cell : CellName) → same_id (side_ids s_base (ids_after base history s) cell) (side_ids t_base (ids_after base history t) cell) ≡ true
    → cell_rows (side_of s_base x) cell ≡ cell_rows (side_of t_base y) cell

-- the ids after a history have the numbers of its entries, or 0, so that the next entry's are new
abbrev pub NextIdsAreNew : Type 0
NextIdsAreNew = (base : Contents) (history : List Entry) → AreOlder (suc (length history)) (ids_after base history)
