-- The ids that are live: those of the bases and of the contents of the scenarios that are there.
use Rattle.std.specs.Prelude.{◌≡◌, true, Bool, List, Some, IsSome}
use Rattle.plan_schema.specs.declared.name.Name.{Name}
use Rattle.plan_schema.specs.declared.change.CellName.{CellName}
use Rattle.scenario_rules.specs.World.{scenario_at}
use Rattle.record_versions.specs.declared.version.VersionId.{VersionId}
use Rattle.record_versions.specs.Versions.{has_id}
use Rattle.version_rules.specs.Ids.{ScenarioIds, side_ids}
use Rattle.scenario_merge.specs.Grown.{Grown, ids_in}

-- an id of a scenario's base or contents
pub record IsIdOf (ids : ScenarioIds) (id : VersionId) : Type 0 where
  pub cell : CellName
  pub of_base : Bool
  pub has : side_ids of_base ids cell ≡ Some id

-- an id is live where the base or the contents of a scenario that is there have it
pub record IsLiveIn (forest : Grown) (id : VersionId) : Type 0 where
  pub scenario : Name
  pub there : IsSome (scenario_at forest.world scenario)
  pub of_it : IsIdOf (ids_in forest scenario) id

-- a set has exactly the live ids
pub record AreLive (forest : Grown) (set : List VersionId) : Type 0 where
  pub all : (id : VersionId) → IsLiveIn forest id → has_id set id ≡ true
  pub alone : (id : VersionId) → has_id set id ≡ true → IsLiveIn forest id
