-- What holds of the scenarios after each legal history.
use Rattle.std.specs.Prelude.{◌≡◌, ◌≤◌, Bool, true, false, not, ◌&&◌, length, Option, Some, None, IsSome}
use Rattle.std.specs.List.{list_all}
use Rattle.std.specs.FinMap.{is_sorted}
use Rattle.plan_schema.specs.declared.name.Name.{Name}
use Rattle.plan_schema.specs.declared.key.Key.{Key}
use Rattle.plan_schema.specs.declared.key.Key.TheVariants as keys
use Rattle.plan_schema.specs.declared.key.Record.{Record}
use Rattle.plan_schema.specs.Key.{name_cmp, name_eq, key_cmp, key_eq}
use Rattle.plan_schema.specs.Contents.{Contents, record_at, is_ordered}
use Rattle.plan_schema.specs.Sound.{is_sound_key, is_sound_row, are_sound_rows}
use Rattle.scenario_rules.specs.World.{OwnChanges, Scenario, World, root, is_root, root_with, scenario_at, contents_of}
use Rattle.plan_schema.specs.declared.limits.TheConstants.{PART_LIMIT, RECORD_LIMIT, SCENARIO_LIMIT}
use Rattle.plan_schema.specs.Base.{part_count}

-- contents that are in key order, with sound rows alone and a horizon among them
pub record AreWholeContents (contents : Contents) : Type 0 where
  pub ordered : is_ordered contents ≡ true
  pub sound : are_sound_rows contents ≡ true
  pub horizon : IsSome (record_at contents keys.Plan)

-- contents with no more parts and records than a scenario may have
pub record AreWithinLimits (contents : Contents) : Type 0 where
  pub parts : part_count contents ≤ PART_LIMIT
  pub records : length contents ≤ RECORD_LIMIT

-- an own change puts a sound row, or takes away a key that a row can have and that isn't the horizon's
abbrev pub is_sound_own : (Key × Option Record) → Bool
is_sound_own (key, Some value) = is_sound_row key value
is_sound_own (key, None) = is_sound_key key && not (key_eq key keys.Plan)

-- own changes that are in key order, and sound
pub record AreWholeChanges (own : OwnChanges) : Type 0 where
  pub ordered : is_sorted key_cmp own ≡ true
  pub sound : list_all is_sound_own own ≡ true

-- a scenario whose base and own changes are so, and whose contents are within the limits
pub record IsWholeScenario (x : Scenario) : Type 0 where
  pub base : AreWholeContents x.base
  pub own : AreWholeChanges x.own
  pub limits : AreWithinLimits (contents_of x)

-- a scenario's parent is another one that is there
pub record HasParent (w : World) (s : Name) (x : Scenario) : Type 0 where
  pub name : Name
  pub is : x.parent ≡ Some name
  pub another : name_eq name s ≡ false
  pub there : IsSome (scenario_at w name)

-- a world of at most 256 scenarios in name order, with its root, in which each scenario is whole, and each but the root has a parent
pub record IsWhole (w : World) : Type 0 where
  pub ordered : is_sorted name_cmp w ≡ true
  pub few : length w ≤ SCENARIO_LIMIT
  pub rooted : (contents : Contents) × (scenario_at w root ≡ Some (root_with contents))
  pub each : (s : Name) (x : Scenario) → scenario_at w s ≡ Some x → IsWholeScenario x
  pub parents : (s : Name) (x : Scenario) → scenario_at w s ≡ Some x → is_root s ≡ false → HasParent w s x
