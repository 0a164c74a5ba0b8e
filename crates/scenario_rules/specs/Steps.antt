-- What each change does to the scenarios.
use Rattle.std.specs.Prelude.{true, false, if◌then◌else◌, List, [], ◌∷◌, Some, None, map, fold}
use Rattle.std.specs.BTreeMap.{insert_entry}
use Rattle.plan_schema.specs.declared.name.Name.{Name}
use Rattle.plan_schema.specs.declared.key.Key.{Key}
use Rattle.plan_schema.specs.declared.key.Record.{Record}
use Rattle.plan_schema.specs.declared.change.Change.{Change}
use Rattle.plan_schema.specs.declared.change.Change.TheVariants as changes
use Rattle.plan_schema.specs.declared.change.Entry.{Entry}
use Rattle.plan_schema.specs.Key.{key_cmp}
use Rattle.plan_schema.specs.Contents.{Contents}
use Rattle.scenario_rules.specs.World.{OwnChanges, World, is_root, begin_with, scenario, with_scenario, without_scenario, parent_of, laid_over, contents_in}

-- own changes with later changes over them, one after another: of those under one key the last one stays
abbrev pub joined : OwnChanges → OwnChanges → OwnChanges
joined own later = fold (λ o change. insert_entry key_cmp o change.0 change.1) own later

-- a scenario takes changes: the root into its base, any other among its own
abbrev pub with_changes : World → Name → OwnChanges → World
with_changes w s later =
    let x = scenario w s in
    with_scenario w s (if is_root s then record x { base = laid_over x.base later } else record x { own = joined x.own later })

-- rows as changes
abbrev pub all_put : List (Key × Record) → OwnChanges
all_put rows = map (λ row. (row.0, Some row.1)) rows

-- what a change does. PUT and LOAD put each record under its key; DEL takes the key away. BRANCH makes a private scenario of the user
-- whose base is the parent's contents. SHARE lets everyone use the scenario. UPDATE makes the parent's contents the base, and the own
-- changes stay. COMMIT gives the own changes to the parent, as PUT and DEL would; then the parent's new contents are the base, and no
-- own change is left. DROP takes the scenario away.
abbrev pub step : World → Name → Change → World
step w user (changes.Put s key value) = with_changes w s ((key, Some value) ∷ [])
step w user (changes.Del s key) = with_changes w s ((key, None) ∷ [])
step w user (changes.Load s rows) = with_changes w s (all_put rows)
step w user (changes.Branch s child) = with_scenario w child (record { parent = Some s; owner = Some user; private = true; base = contents_in w s; own = [] })
step w user (changes.Share s) = with_scenario w s (record (scenario w s) { private = false })
step w user (changes.Update s) =
    let x = scenario w s in
    with_scenario w s (record x { base = contents_in w (parent_of x) })
step w user (changes.Commit s) =
    let x = scenario w s in
    let given = with_changes w (parent_of x) x.own in
    with_scenario given s (record x { base = contents_in given (parent_of x); own = [] })
step w user (changes.Drop s) = without_scenario w s

-- the world after a history of changes, from the records that the root began with
abbrev pub world_after : Contents → List Entry → World
world_after base history = fold (λ w entry. step w entry.user entry.change) (begin_with base) history
