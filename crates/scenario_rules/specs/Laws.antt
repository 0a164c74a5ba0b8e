-- What holds of the definitions of scenarios.
use Rattle.std.specs.Prelude.{◌≡◌, ◌≢◌, ◌↔◌, ℕ, true, false, List, [], ◌∷◌, take, slice_get, Option, Some, None, unwrap_or, IsSome}
use Rattle.std.specs.List.{list_any}
use Rattle.std.specs.Map.{lookup}
use Rattle.std.specs.BTreeMap.{is_at}
use Rattle.plan_schema.specs.declared.name.Name.{Name}
use Rattle.plan_schema.specs.declared.key.Key.{Key}
use Rattle.plan_schema.specs.declared.key.Record.{Record}
use Rattle.plan_schema.specs.declared.change.Change.{Change}
use Rattle.plan_schema.specs.declared.change.Change.TheVariants as changes
use Rattle.plan_schema.specs.declared.change.Entry.{Entry}
use Rattle.plan_schema.specs.declared.refusal.Refusal.{Refusal}
use Rattle.plan_schema.specs.Key.{name_eq, key_cmp}
use Rattle.plan_schema.specs.Contents.{Contents, record_at}
use Rattle.plan_schema.specs.Sound.{is_sound_change}
use Rattle.scenario_rules.specs.Same.{same_option, same_record}
use Rattle.scenario_rules.specs.World.{OwnChanges, World, scenario_at, scenario, parent_of, contents_in}
use Rattle.scenario_rules.specs.Steps.{step, world_after}
use Rattle.scenario_rules.specs.Refused.{named, scenario_refusal, refused}
use Rattle.scenario_rules.specs.Journal.{IsLegal}
use Rattle.scenario_rules.specs.Whole.{AreWholeContents, AreWithinLimits, IsWhole}

-- two records, or their absence, are the same by their fields exactly where they are equal
abbrev pub SameIsEqual : Type 0
SameIsEqual = (a b : Option Record) → (same_option same_record a b ≡ true) ↔ (a ≡ b)

-- the scenarios that a change touches: of a BRANCH the new one, of a COMMIT the child and its parent, of any other the named one
abbrev pub touched : World → Change → List Name
touched w (changes.Branch s child) = child ∷ []
touched w (changes.Commit s) = s ∷ parent_of (scenario w s) ∷ []
touched w change = named change ∷ []

-- a change leaves every scenario that it doesn't touch as it was, the children of those that it touches among them
abbrev pub StepLeavesOthers : Type 0
StepLeavesOthers = (w : World) (user : Name) (change : Change) (other : Name) → list_any (name_eq other) (touched w change) ≡ false → scenario_at (step w user change) other ≡ scenario_at w other

-- after a DROP the scenario is gone
abbrev pub DropIsGone : Type 0
DropIsGone = (w : World) (user s : Name) → IsWhole w → scenario_at (step w user (changes.Drop s)) s ≡ None

-- and every other scenario is as it was
abbrev pub DropLeavesOthers : Type 0
DropLeavesOthers = (w : World) (user s other : Name) → name_eq other s ≡ false → scenario_at (step w user (changes.Drop s)) other ≡ scenario_at w other

-- what shows under a key: what own changes say of it, else what lies under them
abbrev pub shown : OwnChanges → Key → Option Record → Option Record
shown own key under = unwrap_or (lookup (is_at (key_cmp key)) own) under

-- after an UPDATE own keys show what the own changes say, and all others the parent's records
abbrev pub UpdateShowsParent : Type 0
UpdateShowsParent = (w : World) (user s : Name) (key : Key) → IsWhole w → scenario_refusal w user (changes.Update s) ≡ None
    → record_at (contents_in (step w user (changes.Update s)) s) key ≡ shown (scenario w s).own key (record_at (contents_in w (parent_of (scenario w s))) key)

-- after a COMMIT child and parent have equal contents
abbrev pub CommitJoins : Type 0
CommitJoins = (w : World) (user s : Name) → IsWhole w → scenario_refusal w user (changes.Commit s) ≡ None
    → contents_in (step w user (changes.Commit s)) s ≡ contents_in (step w user (changes.Commit s)) (parent_of (scenario w s))

-- and the parent shows what the child's own changes said, and under all other keys its records as before
abbrev pub CommitKeepsOthers : Type 0
CommitKeepsOthers = (w : World) (user s : Name) (key : Key) → IsWhole w → scenario_refusal w user (changes.Commit s) ≡ None
    → record_at (contents_in (step w user (changes.Commit s)) (parent_of (scenario w s))) key ≡ shown (scenario w s).own key (record_at (contents_in w (parent_of (scenario w s))) key)

-- a change that is refused after some entries isn't the next entry of a legal history
abbrev pub RefusedIsAbsent : Type 0
RefusedIsAbsent = (base : Contents) (history : List Entry) (k : ℕ) (entry : Entry) (refusal : Refusal) → IsLegal base history
    → refused base (take k history) entry.user entry.change ≡ Some refusal → slice_get history k ≢ Some entry

-- a sound change that the scenarios don't refuse keeps the world whole
abbrev pub StepKeepsWhole : Type 0
StepKeepsWhole = (w : World) (user : Name) (change : Change) → IsWhole w → is_sound_change change ≡ true → scenario_refusal w user change ≡ None → IsWhole (step w user change)

-- the world after a legal history is whole, where the records that it began with are, and within the limits
abbrev pub LegalIsWhole : Type 0
LegalIsWhole = (base : Contents) (history : List Entry) → AreWholeContents base → AreWithinLimits base → IsLegal base history → IsWhole (world_after base history)

-- the contents of a scenario of a whole world are in key order, with sound rows alone and a horizon among them
abbrev pub WholeContents : Type 0
WholeContents = (w : World) (s : Name) → IsWhole w → IsSome (scenario_at w s) → AreWholeContents (contents_in w s)
