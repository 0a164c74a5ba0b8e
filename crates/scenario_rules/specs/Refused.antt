-- Why a change is refused.
use Rattle.std.specs.Prelude.{ℕ, ◌+◌, not, ◌&&◌, ◌||◌, nat_lt, nat_le, List, [], ◌∷◌, length, map, sum_by, ◌++◌, Option, Some, None, is_some, is_none}
use Rattle.std.specs.List.{list_any}
use Rattle.plan_schema.specs.declared.name.Name.{Name}
use Rattle.plan_schema.specs.declared.key.Key.{Key}
use Rattle.plan_schema.specs.declared.key.Record.{Record}
use Rattle.plan_schema.specs.declared.change.Change.{Change}
use Rattle.plan_schema.specs.declared.change.Change.TheVariants as changes
use Rattle.plan_schema.specs.declared.change.Entry.{Entry}
use Rattle.plan_schema.specs.declared.refusal.Refusal.{Refusal}
use Rattle.plan_schema.specs.declared.refusal.Refusal.TheVariants as refusals
use Rattle.plan_schema.specs.declared.refusal.Room.TheVariants as rooms
use Rattle.plan_schema.specs.declared.limits.TheConstants.{PART_LIMIT, RECORD_LIMIT, SCENARIO_LIMIT, DEPTH_LIMIT, ENTRY_LIMIT, CARRIED_LIMIT}
use Rattle.plan_schema.specs.Base.{part_count}
use Rattle.plan_schema.specs.Contents.{Contents, record_at}
use Rattle.plan_schema.specs.Refusals.{first_of, where_so, if_any}
use Rattle.scenario_rules.specs.Same.{same_option, same_record}
use Rattle.scenario_rules.specs.World.{World, is_root, scenario_at, scenario, parent_of, contents_in, is_owner, is_child_of, may_use, count_above}
use Rattle.scenario_rules.specs.Steps.{step, world_after}

-- the scenario that a change names; of a BRANCH the one that is branched
abbrev pub named : Change → Name
named (changes.Put s key value) = s
named (changes.Del s key) = s
named (changes.Load s rows) = s
named (changes.Branch s child) = s
named (changes.Share s) = s
named (changes.Update s) = s
named (changes.Commit s) = s
named (changes.Drop s) = s

-- the scenario isn't there
abbrev pub no_scenario : World → Name → Option Refusal
no_scenario w s = where_so (is_none (scenario_at w s)) (refusals.NoScenario s)

-- the user may not use the scenario
abbrev pub denied : World → Name → Name → Option Refusal
denied w user s = where_so (not (may_use w user s)) (refusals.Denied s)

-- whether a user may use a scenario, rule by rule
abbrev pub access_rules : World → Name → Name → List (Option Refusal)
access_rules w user s = no_scenario w s ∷ denied w user s ∷ []

-- a query of a scenario is refused in these two cases, before all that its own rules say
abbrev pub access_refusal : World → Name → Name → Option Refusal
access_refusal w user s = first_of (access_rules w user s)

-- the user may not use the parent that an UPDATE or a COMMIT is about
abbrev pub denied_above : World → Name → Name → Option Refusal
denied_above w user s = if_any (scenario w s).parent (denied w user)

abbrev pub denied_parent : World → Name → Change → Option Refusal
denied_parent w user (changes.Update s) = denied_above w user s
denied_parent w user (changes.Commit s) = denied_above w user s
denied_parent w user _ = None

-- a scenario that isn't the root is shared and dropped by its owner alone
abbrev pub denied_unowned : World → Name → Name → Option Refusal
denied_unowned w user s = where_so (not (is_root s) && not (is_owner (scenario w s) user)) (refusals.Denied s)

abbrev pub denied_owner : World → Name → Change → Option Refusal
denied_owner w user (changes.Share s) = denied_unowned w user s
denied_owner w user (changes.Drop s) = denied_unowned w user s
denied_owner w user _ = None

-- a BRANCH takes a name that is there
abbrev pub taken : World → Change → Option Refusal
taken w (changes.Branch s child) = where_so (is_some (scenario_at w child)) (refusals.Taken child)
taken w _ = None

-- the root isn't shared, updated, committed or dropped
abbrev pub at_root : Change → Option Refusal
at_root (changes.Share s) = where_so (is_root s) (refusals.Root s)
at_root (changes.Update s) = where_so (is_root s) (refusals.Root s)
at_root (changes.Commit s) = where_so (is_root s) (refusals.Root s)
at_root (changes.Drop s) = where_so (is_root s) (refusals.Root s)
at_root _ = None

-- a scenario that is dropped is the parent of another
abbrev pub has_children : World → Change → Option Refusal
has_children w (changes.Drop s) = where_so (list_any (λ entry. is_child_of entry.1 s) w) (refusals.HasChildren s)
has_children w _ = None

-- a branched scenario would have more than 32 above it
abbrev pub too_deep : World → Change → Option Refusal
too_deep w (changes.Branch s child) = where_so (nat_lt DEPTH_LIMIT (count_above (DEPTH_LIMIT + 1) w (Some s))) (refusals.Depth child)
too_deep w _ = None

-- there are 256 scenarios before a BRANCH, the root included
abbrev pub full_scenarios : World → Change → Option Refusal
full_scenarios w (changes.Branch s child) = where_so (nat_le SCENARIO_LIMIT (length w)) (refusals.Full rooms.Scenarios)
full_scenarios w _ = None

-- a DEL finds no record under its key
abbrev pub no_record : World → Change → Option Refusal
no_record w (changes.Del s key) = where_so (is_none (record_at (contents_in w s) key)) (refusals.NoRecord key)
no_record w _ = None

-- under an own key that a COMMIT would give to the parent, the parent's record differs from the base's; no record is the same as no
-- record alone. The least such key is named, since own changes are in key order.
abbrev pub conflict_at : Contents → Contents → (Key × Option Record) → Option Refusal
conflict_at above base change = where_so (not (same_option same_record (record_at above change.0) (record_at base change.0))) (refusals.Conflict change.0)

abbrev pub conflict : World → Change → Option Refusal
conflict w (changes.Commit s) =
    let x = scenario w s in
    first_of (map (conflict_at (contents_in w (parent_of x)) x.base) x.own)
conflict w _ = None

-- the scenario whose contents a change changes: of a COMMIT the parent, of any other the named one
abbrev pub changed_scenario : World → Change → Name
changed_scenario w (changes.Commit s) = parent_of (scenario w s)
changed_scenario w change = named change

-- what it holds after the change; nothing after a DROP
abbrev pub changed_contents : World → Name → Change → Contents
changed_contents w user change = contents_in (step w user change) (changed_scenario w change)

-- it would have more parts than a scenario may
abbrev pub full_parts : World → Name → Change → Option Refusal
full_parts w user change = where_so (nat_lt PART_LIMIT (part_count (changed_contents w user change))) (refusals.Full rooms.Parts)

-- it would have more records than a scenario may
abbrev pub full_records : World → Name → Change → Option Refusal
full_records w user change = where_so (nat_lt RECORD_LIMIT (length (changed_contents w user change))) (refusals.Full rooms.Records)

-- how many records a change carries
abbrev pub record_count : Change → ℕ
record_count (changes.Put s key value) = 1
record_count (changes.Del s key) = 1
record_count (changes.Load s rows) = length rows
record_count _ = 0

abbrev pub record_counts : List Entry → ℕ
record_counts history = sum_by (λ entry. record_count entry.change) history

-- the journal has as many entries as it may, or its records with those of the change would be more than it may carry
abbrev pub full_journal : List Entry → Change → Option Refusal
full_journal history change =
    where_so (nat_le ENTRY_LIMIT (length history) || nat_lt CARRIED_LIMIT (record_counts history + record_count change)) (refusals.Full rooms.Journal)

-- why a change may be refused, rule by rule, in the order in which the rules are looked at: whether the user may use the named
-- scenario, then the rules of the tree and of its records, and last the room for what the change leaves
abbrev pub room_rules : World → Name → Change → List (Option Refusal)
room_rules w user change = full_parts w user change ∷ full_records w user change ∷ []

abbrev pub later_rules : World → Name → Change → List (Option Refusal)
later_rules w user change =
    denied_parent w user change
    ∷ denied_owner w user change
    ∷ taken w change
    ∷ at_root change
    ∷ has_children w change
    ∷ too_deep w change
    ∷ full_scenarios w change
    ∷ no_record w change
    ∷ conflict w change
    ∷ room_rules w user change

abbrev pub change_rules : World → Name → Change → List (Option Refusal)
change_rules w user change = access_rules w user (named change) ++ later_rules w user change

-- the first refusal of a change that the scenarios give, and the first of the later ones
abbrev pub scenario_refusal : World → Name → Change → Option Refusal
scenario_refusal w user change = first_of (change_rules w user change)

abbrev pub later_refusal : World → Name → Change → Option Refusal
later_refusal w user change = first_of (later_rules w user change)

-- the first refusal of a change after a history, or none: those that the scenarios give, and then want of room in the journal
abbrev pub refused : Contents → List Entry → Name → Change → Option Refusal
refused base history user change = first_of (scenario_refusal (world_after base history) user change ∷ full_journal history change ∷ [])
