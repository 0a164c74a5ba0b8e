-- Scenarios: versions of the records that branch from one another. A scenario is laid over what its parent was when it was branched,
-- last updated or last committed, so a later change to the parent doesn't show in it (the rules are this product's own).
use Rattle.std.specs.Prelude.{ℕ, zero, suc, Bool, false, not, ◌||◌, List, [], ◌∷◌, Option, Some, None, unwrap_or, fold, codes}
use Rattle.std.specs.Map.{lookup, remove_entry}
use Rattle.std.specs.BTreeMap.{is_at, insert_entry}
use Rattle.plan_schema.specs.declared.name.Name.{Name}
use Rattle.plan_schema.specs.declared.key.Key.{Key}
use Rattle.plan_schema.specs.declared.key.Record.{Record}
use Rattle.plan_schema.specs.Key.{name_cmp, name_eq}
use Rattle.plan_schema.specs.Contents.{Contents, with_record, without_key}

-- own changes: what a scenario says of each key that it changed, which is a record, or None where the key is gone; in key order, one
-- for each key
abbrev pub OwnChanges : Type 0
OwnChanges = List (Key × Option Record)

-- a scenario: the scenario that it was branched from and the user who branched it (neither for the root), whether its owner alone may
-- use it, what its parent held when it was branched, last updated or last committed, and its own changes since
pub record Scenario : Type 0 where
  pub parent : Option Name
  pub owner : Option Name
  pub private : Bool
  pub base : Contents
  pub own : OwnChanges

-- the scenarios by name, in name order, one for each name
abbrev pub World : Type 0
World = List (Name × Scenario)

-- the name of the root
abbrev pub root : Name
root = codes "Baseline"

abbrev pub is_root : Name → Bool
is_root s = name_eq s root

-- the root with these records: shared, without parent, owner and own changes
abbrev pub root_with : Contents → Scenario
root_with contents = record { parent = None; owner = None; private = false; base = contents; own = [] }

-- the world before the first change: the root alone
abbrev pub begin_with : Contents → World
begin_with contents = (root, root_with contents) ∷ []

-- the scenario of a name, where it is there
abbrev pub scenario_at : World → Name → Option Scenario
scenario_at w s = lookup (is_at (name_cmp s)) w

-- the scenario of a name that is there; an empty one else
abbrev pub scenario : World → Name → Scenario
scenario w s = unwrap_or (scenario_at w s) (root_with [])

-- the world with a scenario under a name, and without the one under it
abbrev pub with_scenario : World → Name → Scenario → World
with_scenario w s x = insert_entry name_cmp w s x

abbrev pub without_scenario : World → Name → World
without_scenario w s = remove_entry (is_at (name_cmp s)) w

-- the parent's name of a scenario that has one
abbrev pub parent_of : Scenario → Name
parent_of x = unwrap_or x.parent []

-- contents with one change: a record put under a key, or the key gone
abbrev pub changed : Contents → Key → Option Record → Contents
changed contents key (Some value) = with_record contents key value
changed contents key None = without_key contents key

-- contents with changes laid over them, one after another
abbrev pub laid_over : Contents → OwnChanges → Contents
laid_over contents changes = fold (λ c change. changed c change.0 change.1) contents changes

-- the contents of a scenario: its own changes laid over its base
abbrev pub contents_of : Scenario → Contents
contents_of x = laid_over x.base x.own

abbrev pub contents_in : World → Name → Contents
contents_in w s = contents_of (scenario w s)

-- whether a name that may be missing is this one
abbrev pub is_name_of : Option Name → Name → Bool
is_name_of None n = false
is_name_of (Some m) n = name_eq m n

abbrev pub is_owner : Scenario → Name → Bool
is_owner x user = is_name_of x.owner user

abbrev pub is_child_of : Scenario → Name → Bool
is_child_of x s = is_name_of x.parent s

-- a user may use a scenario that is shared or their own
abbrev pub may_use : World → Name → Name → Bool
may_use w user s = not (scenario w s).private || is_owner (scenario w s) user

-- how many scenarios stand above one with this parent, counted up to so many
abbrev pub count_above : ℕ → World → Option Name → ℕ
count_above zero w parent = 0
count_above (suc most) w None = 0
count_above (suc most) w (Some p) = suc (count_above most w (scenario w p).parent)
