-- Keys of the memo, and what it is for the memo to be right.
use Rattle.std.specs.Prelude.{◌≡◌, ℕ, ◌≤◌, List, [], ◌++◌, Bool, Option, Some, None, option_map, length}
use Rattle.std.specs.List.{AllByRecursion}
use Rattle.plan_schema.specs.declared.name.Name.{Name}
use Rattle.plan_schema.specs.declared.change.CellName.TheVariants as names
use Rattle.plan_schema.specs.Cell.{cell_name}
use Rattle.plan_schema.specs.Contents.{Contents}
use Rattle.planning_rules.specs.Bills.{parents}
use Rattle.planning_rules.specs.Days.{days_of}
use Rattle.planning_rules.specs.Netting.{limit}
use Rattle.planning_rules.specs.Plan.{Known}
use Rattle.record_versions.specs.declared.version.VersionId.{VersionId}
use Rattle.walk_rules.specs.declared.key.MemoKey.{MemoKey}
use Rattle.walk_rules.specs.contracts.key.MemoKeyPartialEq.TheImpl.{eq-value}
use Rattle.version_rules.specs.Meaning.{Meaning}
use Rattle.walk_rules.specs.Cells.{Cells, records, version_in}
use Rattle.walk_rules.specs.Steps.{step_from, calendar_in}

-- the key of a part: the versions of its cell, of its calendar's and of the plan's, and the release lists of its parents by name
abbrev pub key_of : Cells → Name → List (List ℕ) → MemoKey
key_of cells n lists = record {
  part = version_in cells (names.Part n);
  calendar = option_map (λ k. version_in cells (names.Cal k)) (calendar_in (records cells) n);
  plan = version_in cells names.Plan;
  releases = lists;
}

abbrev pub key_eq : MemoKey → MemoKey → Bool
key_eq a b = eq-value.it a b

-- pairs of the memo, the most recently used first
abbrev pub Pairs : Type 0
Pairs = List (MemoKey × Known)

-- the part that a key is about
abbrev pub part_of : MemoKey → Name
part_of key = cell_name key.part.cell

-- the rows of the calendar's cell; without a calendar there are none
abbrev pub calendar_rows : Meaning → Option VersionId → Option Contents
calendar_rows m None = Some []
calendar_rows m (Some id) = m id

-- a pair is right: the key's versions mean cells, it has a calendar exactly where the part names one, it has a release list of each
-- parent over the horizon, with numbers up to the limit, and the value is what the step from these comes to
pub record IsRight (m : Meaning) (key : MemoKey) (known : Known) : Type 0 where
  pub part : Contents
  pub calendar : Contents
  pub plan : Contents
  pub part_is : m key.part ≡ Some part
  pub calendar_is : calendar_rows m key.calendar ≡ Some calendar
  pub plan_is : m key.plan ≡ Some plan
  pub named : option_map (λ id. cell_name id.cell) key.calendar ≡ calendar_in (plan ++ calendar ++ part) (part_of key)
  pub lists : length key.releases ≡ length (parents (plan ++ calendar ++ part) (part_of key))
  pub days : AllByRecursion (λ list. (length list ≡ days_of (plan ++ calendar ++ part)) × AllByRecursion (λ qty. qty ≤ limit) list) key.releases
  pub value : step_from (plan ++ calendar ++ part) (part_of key) key.releases ≡ Some known

abbrev pub MemoRight : Meaning → Pairs → Type 0
MemoRight m pairs = AllByRecursion (λ pair. IsRight m pair.0 pair.1) pairs
