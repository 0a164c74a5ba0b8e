-- What a right memo gives.
use Rattle.std.specs.Prelude.{◌≡◌, ℕ, List, [], ◌∷◌, true, false, Some}
use Rattle.std.specs.List.{AllByRecursion, list_all}
use Rattle.plan_schema.specs.declared.name.Name.{Name}
use Rattle.plan_schema.specs.declared.change.CellName.TheVariants as names
use Rattle.plan_schema.specs.Cell.{cell_eq}
use Rattle.plan_schema.specs.Contents.{Contents}
use Rattle.planning_rules.specs.Bills.{parents}
use Rattle.planning_rules.specs.Plan.{Known, plan, has_outcome}
use Rattle.record_versions.specs.declared.version.VersionId.{VersionId}
use Rattle.version_rules.specs.Meaning.{Meaning}
use Rattle.walk_rules.specs.Cells.{Cells, records, held, are_own_cells, Stands}
use Rattle.walk_rules.specs.Steps.{step_from, calendar_in}
use Rattle.walk_rules.specs.Memo.{Pairs, key_of, IsRight, MemoRight}
use Rattle.walk_rules.specs.Walks.{Parts, State, known_at, learn, releases_of}

-- no two cells have one name
abbrev pub AreApart : Cells → Type 0
AreApart [] = Unit {0}
AreApart (cell ∷ cells) = AllByRecursion (λ other. cell_eq other.0.cell cell.0.cell ≡ false) cells × AreApart cells

-- the cells of a job: each holds its own rows, no two have one name, and each is what its version means
pub record AreMeantCells (m : Meaning) (cells : Cells) : Type 0 where
  pub own : are_own_cells cells ≡ true
  pub apart : AreApart cells
  pub stands : Stands m cells

-- a name has its cells: the plan's, the part's, and its calendar's if it names one
pub record HasCells (cells : Cells) (n : Name) : Type 0 where
  pub plan : Contents
  pub plan_id : VersionId
  pub plan_held : held cells names.Plan ≡ Some (plan_id, plan)
  pub part : Contents
  pub part_id : VersionId
  pub part_held : held cells (names.Part n) ≡ Some (part_id, part)
  pub calendar_held : (k : Name) → calendar_in (records cells) n ≡ Some k
      → (id : VersionId) × (rows : Contents) × (held cells (names.Cal k) ≡ Some (id, rows))

-- each value that is known is the plan's
abbrev pub AreRight : Contents → Parts → Type 0
AreRight c parts = (n : Name) (known : Known) → known_at parts n ≡ Some known → plan c n ≡ Some known

-- a right pair whose key is that of a part holds what the part's step comes to
abbrev pub HitIsStep : Type 0
HitIsStep = (m : Meaning) (cells : Cells) (n : Name) (lists : List (List ℕ)) (known : Known)
    → AreMeantCells m cells → HasCells cells n → IsRight m (key_of cells n lists) known
    → step_from (records cells) n lists ≡ Some known

-- where what is known is right, the step of a part whose parents all have outcomes comes to its plan
abbrev pub StepIsPlan : Type 0
StepIsPlan = (c : Contents) (parts : Parts) (n : Name) (known : Known)
    → AreRight c parts → list_all (λ p. has_outcome (known_at parts p)) (parents c n) ≡ true
    → step_from c n (releases_of c parts n) ≡ Some known → plan c n ≡ Some known

-- what is learnt from the plan keeps it so
abbrev pub LearningIsRight : Type 0
LearningIsRight = (c : Contents) (parts : Parts) (n : Name) (known : Known)
    → AreRight c parts → plan c n ≡ Some known → AreRight c (learn parts n known)

-- a meaning that grows: what an id means it means later too
abbrev pub Grows : Meaning → Meaning → Type 0
Grows m later = (id : VersionId) (rows : Contents) → m id ≡ Some rows → later id ≡ Some rows

-- what is right stays right as the meaning grows: the pairs of the memo, and the cells of a job
abbrev pub GrowthKeepsMemo : Type 0
GrowthKeepsMemo = (m later : Meaning) → Grows m later → (pairs : Pairs) → MemoRight m pairs → MemoRight later pairs

abbrev pub GrowthKeepsCells : Type 0
GrowthKeepsCells = (m later : Meaning) → Grows m later → (cells : Cells) → AreMeantCells m cells → AreMeantCells later cells

-- a result is its part's plan, and the part's parents all have outcomes
pub record IsResult (cells : Cells) (start : State) (r : Name × Known) : Type 0 where
  pub planned : plan (records cells) r.0 ≡ Some r.1
  pub cells_held : HasCells cells r.0
  pub parents_known : list_all (λ p. has_outcome (known_at start.parts p)) (parents (records cells) r.0) ≡ true
