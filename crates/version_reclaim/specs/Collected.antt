-- Ids put at the end of a list, scenario by scenario.
use Rattle.std.specs.Prelude.{◌≡◌, ◌⊎◌, Bool, true, if◌then◌else◌, List, [], ◌∷◌, ◌++◌, Option, Some}
use Rattle.std.specs.List.{list_any}
use Rattle.record_versions.specs.declared.version.VersionId.{VersionId}
use Rattle.record_versions.specs.Versions.{IdList, id_eq, has_id}
use Rattle.version_rules.specs.Ids.{ScenarioIds, same_id}
use Rattle.version_reclaim.specs.Live.{IsIdOf}

-- the list with an id at its end, unless another one is the same
abbrev pub with_new : Option VersionId → VersionId → List VersionId → List VersionId
with_new other id list = if same_id other (Some id) then list else list ++ id ∷ []

-- an id is that of one of the cells
abbrev pub is_listed : IdList → VersionId → Bool
is_listed ids id = list_any (λ entry. id_eq id entry.1) ids

-- a list has the ids of the cells
abbrev pub AreIn : List VersionId → IdList → Type 0
AreIn list ids = (id : VersionId) → is_listed ids id ≡ true → has_id list id ≡ true

-- a list after the ids of cells were put in it
pub record IsWithIds (ids : IdList) (old new : List VersionId) : Type 0 where
  pub kept : (id : VersionId) → has_id old id ≡ true → has_id new id ≡ true
  pub put : AreIn new ids
  pub alone : (id : VersionId) → has_id new id ≡ true → (has_id old id ≡ true) ⊎ (is_listed ids id ≡ true)

-- a list after the ids of a scenario were put in it
pub record IsWithScenario (ids : ScenarioIds) (old new : List VersionId) : Type 0 where
  pub kept : (id : VersionId) → has_id old id ≡ true → has_id new id ≡ true
  pub put : (id : VersionId) → IsIdOf ids id → has_id new id ≡ true
  pub alone : (id : VersionId) → has_id new id ≡ true → (has_id old id ≡ true) ⊎ IsIdOf ids id
