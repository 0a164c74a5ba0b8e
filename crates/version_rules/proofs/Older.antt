-- The ids after a history have the numbers of its entries.
use Rattle.std.proofs.Common.{◌≡◌, ℕ, suc, ◌+◌, ◌<◌, List, [], ◌∷◌, length, ap, subst, Bool, true, false, arith}
use Rattle.std.specs.Prelude.{Option, Some, None, unwrap_or, if◌then◌else◌, fold}
use Rattle.plan_schema.specs.declared.name.Name.{Name}
use Rattle.plan_schema.specs.declared.change.CellName.{CellName}
use Rattle.plan_schema.specs.declared.change.Change.{Change}
use Rattle.plan_schema.specs.declared.change.Change.TheVariants as changes
use Rattle.plan_schema.specs.declared.change.Entry.{Entry}
use Rattle.plan_schema.specs.Key.{name_eq}
use Rattle.plan_schema.specs.Contents.{Contents, cell_rows}
use Rattle.scenario_rules.specs.World.{OwnChanges, World, root, is_root, scenario, parent_of, contents_in}
use Rattle.scenario_rules.specs.Steps.{with_changes, all_put}
use Rattle.record_versions.specs.declared.version.VersionId.{VersionId}
use Rattle.version_rules.specs.Ids.{CellIds, ScenarioIds, WorldIds, no_ids, id_for, renewed, are_about, same_id, after_changes, joined_ids, with_ids, with_contents_ids, with_changed_ids, contents_above, ids_above, step_ids, Versioned, begin_versioned, next_versioned, AreOlder}
use Rattle.version_rules.specs.Laws.{NextIdsAreNew}

-- the ids of one contents are of entries before this one
abbrev AreBelow : ℕ → CellIds → Type 0
AreBelow point ids = (cell : CellName) (id : VersionId) → ids cell ≡ Some id → id.point < point

none_below : (point : ℕ) → AreBelow point (λ cell. None)
none_below point cell id is = absurd (let no : ⊥ = cc in no)

new_below : (point : ℕ) (cell : CellName) (rows : Contents) (id : VersionId) → id_for point cell rows ≡ Some id → id.point < suc point
new_below point cell [] id is = absurd (let no : ⊥ = cc in no)
new_below point cell (row ∷ rows) id is =
    let same : point ≡ id.point = ap (λ (o : Option VersionId). (unwrap_or o id).point) is in
    omega arith

renewed_below : (point : ℕ) (contents : Contents) → AreBelow (suc point) (renewed point contents)
renewed_below point contents cell id is = new_below point cell (cell_rows contents cell) id is

either_below : (point : ℕ) (test : CellName → Bool) (f g : CellIds) → AreBelow point f → AreBelow point g → AreBelow point (λ cell. if test cell then f cell else g cell)
either_below point test f g hf hg cell id is = by_cases (test cell) is
  where
    by_cases : (t : Bool) → (if t then f cell else g cell) ≡ Some id → id.point < point
    by_cases true is = hf cell id is
    by_cases false is = hg cell id is

chosen_below : (point : ℕ) (t : Bool) (f g : CellIds) → AreBelow point f → AreBelow point g → AreBelow point (if t then f else g)
chosen_below point true f g hf hg = hf
chosen_below point false f g hf hg = hg

later_below : (point : ℕ) (ids : CellIds) → AreBelow point ids → AreBelow (suc point) ids
later_below point ids h cell id is = let before = h cell id is in omega arith

changed_below : (point : ℕ) (c : Contents) (later : OwnChanges) (ids : CellIds) → AreBelow (suc point) ids → AreBelow (suc point) (after_changes point c later ids)
changed_below point c later ids h = either_below (suc point) (are_about later) (renewed point c) ids (renewed_below point c) h

joined_below : (point : ℕ) (c : Contents) (own : OwnChanges) (above : CellIds) (child : ScenarioIds) → AreBelow (suc point) above → AreBelow (suc point) child.contents
    → AreBelow (suc point) (joined_ids point c own above child)
joined_below point c own above child ha hc =
    let same : CellName → Bool = λ cell. same_id (above cell) (child.base cell) in
    either_below (suc point) (are_about own) (λ cell. if same cell then child.contents cell else renewed point c cell) above
    (either_below (suc point) same child.contents (renewed point c) hc (renewed_below point c)) ha

-- other ids for a scenario
set_below : (point : ℕ) (ids : WorldIds) (s : Name) (new : ScenarioIds) → AreOlder point ids → AreBelow point new.base → AreBelow point new.contents → AreOlder point (with_ids ids s new)
set_below point ids s new h hb hc = record { base = λ q. bases q (name_eq q s); contents = λ q. contents q (name_eq q s) }
  where
    bases : (q : Name) (t : Bool) → AreBelow point (λ cell. (if t then new else ids q).base cell)
    bases q true = hb
    bases q false = h.base q

    contents : (q : Name) (t : Bool) → AreBelow point (λ cell. (if t then new else ids q).contents cell)
    contents q true = hc
    contents q false = h.contents q

set_contents_below : (point : ℕ) (ids : WorldIds) (s : Name) (new : CellIds) → AreOlder point ids → AreBelow point new → AreOlder point (with_contents_ids ids s new)
set_contents_below point ids s new h hn =
    set_below point ids s (record { base = if is_root s then new else (ids s).base; contents = new }) h (chosen_below point (is_root s) new (ids s).base hn (h.base s)) hn

puts_below : (point : ℕ) (w : World) (ids : WorldIds) (s : Name) (later : OwnChanges) → AreOlder (suc point) ids → AreOlder (suc point) (with_changed_ids point w ids s later)
puts_below point w ids s later h =
    let c = contents_in (with_changes w s later) s in
    set_contents_below (suc point) ids s (after_changes point c later (ids s).contents) h (changed_below point c later (ids s).contents (h.contents s))

above_below : (point : ℕ) (w : World) (ids : WorldIds) (s : Name) → AreOlder (suc point) ids → AreBelow (suc point) (ids_above point w ids s)
above_below point w ids s h =
    let p = parent_of (scenario w s) in
    joined_below point (contents_above w s) (scenario w s).own (ids p).contents (ids s) (h.contents p) (h.contents s)

step_below : (point : ℕ) (w : World) (ids : WorldIds) (change : Change) → AreOlder (suc point) ids → AreOlder (suc point) (step_ids point w ids change)
step_below point w ids (changes.Put s key value) h = puts_below point w ids s ((key, Some value) ∷ []) h
step_below point w ids (changes.Del s key) h = puts_below point w ids s ((key, None) ∷ []) h
step_below point w ids (changes.Load s rows) h = puts_below point w ids s (all_put rows) h
step_below point w ids (changes.Branch s child) h = set_below (suc point) ids child (record { base = (ids s).contents; contents = (ids s).contents }) h (h.contents s) (h.contents s)
step_below point w ids (changes.Share s) h = h
step_below point w ids (changes.Update s) h =
    let p = parent_of (scenario w s) in
    set_below (suc point) ids s (record { base = (ids p).contents; contents = ids_above point w ids s }) h (h.contents p) (above_below point w ids s h)
step_below point w ids (changes.Commit s) h =
    let new = ids_above point w ids s in
    let below = above_below point w ids s h in
    set_below (suc point) (with_contents_ids ids (parent_of (scenario w s)) new) s (record { base = new; contents = new })
    (set_contents_below (suc point) ids (parent_of (scenario w s)) new h below) below below
step_below point w ids (changes.Drop s) h = set_below (suc point) ids s no_ids h (none_below (suc point)) (none_below (suc point))

later_older : (point : ℕ) (ids : WorldIds) → AreOlder point ids → AreOlder (suc point) ids
later_older point ids h = record { base = λ s. later_below point (ids s).base (h.base s); contents = λ s. later_below point (ids s).contents (h.contents s) }

-- after one more entry, and after more
pub next_older : (point : ℕ) (w : World) (ids : WorldIds) (change : Change) → AreOlder point ids → AreOlder (suc point) (step_ids point w ids change)
next_older point w ids change h = step_below point w ids change (later_older point ids h)

rest_older : (v : Versioned) (history : List Entry) → AreOlder (suc v.point) v.ids → AreOlder (suc (v.point + length history)) (fold next_versioned v history).ids
rest_older v [] h =
    let same : v.point ≡ v.point + length {A = Entry} [] = omega arith in
    subst (λ n. AreOlder (suc n) v.ids) same h
rest_older v (entry ∷ rest) h =
    let next = next_versioned v entry in
    let same : suc v.point + length rest ≡ v.point + length (entry ∷ rest) = omega arith in
    subst (λ n. AreOlder (suc n) (fold next_versioned next rest).ids) same
    (rest_older next rest (next_older (suc v.point) v.world v.ids entry.change h))

pub begin_older : (base : Contents) → AreOlder 1 (begin_versioned base).ids
begin_older base =
    set_below 1 (λ name. no_ids) root (record { base = renewed 0 base; contents = renewed 0 base }) (record { base = λ s. none_below 1; contents = λ s. none_below 1 })
    (renewed_below 0 base) (renewed_below 0 base)

pub next_ids_are_new : NextIdsAreNew
next_ids_are_new base history =
    let same : 0 + length history ≡ length history = omega arith in
    subst (λ n. AreOlder (suc n) (fold next_versioned (begin_versioned base) history).ids) same (rest_older (begin_versioned base) history (begin_older base))
