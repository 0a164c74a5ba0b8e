-- A forest after the store has new cells, and after a scenario has changed.
use Rattle.std.proofs.Common.{◌≡◌, ◌≢◌, ℕ, ◌<◌, List, [], ◌∷◌, refl, sym, ◌∙◌, ap, subst, Bool, true, false, cond, ◌&&◌, arith, length}
use Rattle.std.specs.declared.cmp.Ordering.{Ordering}
use Rattle.std.specs.Prelude.{Result, Ok, Err, OnErr, Option, Some, None, if◌then◌else◌, unwrap_or, IsSome}
use Rattle.std.specs.Option.{option_map}
use Rattle.std.specs.List.{AllByRecursion}
use Rattle.std.specs.Ordering.{is_lt}
use Rattle.std.specs.Map.{lookup}
use Rattle.std.specs.BTreeMap.{is_at, insert_entry}
use Rattle.std.specs.FinMap.{is_sorted}
use Rattle.std.specs.FinMap.Entries.{below_all}
use Rattle.plan_schema.specs.declared.name.Name.{Name}
use Rattle.plan_schema.specs.declared.change.CellName.{CellName}
use Rattle.plan_schema.specs.Key.{name_cmp, name_eq}
use Rattle.plan_schema.specs.Base.{part_count}
use Rattle.scenario_rules.specs.World.{OwnChanges, World, Scenario, is_root, scenario_at, laid_over, contents_of, contents_in}
use Rattle.scenario_rules.specs.Steps.{with_changes}
use Rattle.scenario_rules.specs.Whole.{IsWhole}
use Rattle.scenario_rules.proofs.Maps.{lookup_insert}
use Rattle.scenario_rules.proofs.Keys.{name_total, name_exact}
use Rattle.scenario_rules.proofs.Wholeness.{scenario_is, root_is}
use Rattle.record_versions.specs.Versions.{CellList, id_at, cell_at}
use Rattle.record_versions.proofs.Cells.{seen, seen_insert, seen_lookup}
use Rattle.version_rules.specs.Ids.{CellIds, ScenarioIds, WorldIds, no_ids, after_changes, with_changed_ids}
use Rattle.version_rules.specs.Meaning.{Meaning, AreMeant, AreScenarioMeant, AreWorldMeant, Keep}
use Rattle.version_rules.proofs.Meant.{all_kept}
use Rattle.version_rules.proofs.StepMeans.{contents_after}
use Rattle.scenario_cells.specs.declared.held.Held.{Held}
use Rattle.scenario_cells.specs.Held.{contents_by, scenario_by, listed, cell_ids, KeepsOlder, IsHeld, IsReady, changed_by, IsChanged}
use Rattle.scenario_merge.specs.Grown.{Grown, ids_where, ids_of, ids_in, world_by, table_of, grown, IsForest, IsGrown, IsAfterChanges, IsAsBefore}
use Rattle.version_rules.specs.Ids.{AreOlder}
use Rattle.scenario_cells.proofs.Join.{each_found, contents_kept}

abbrev pub Entries : Type 0
Entries = List (Name × Held)

abbrev pub held_at : Entries → Name → Option Held
held_at entries s = lookup (is_at (name_cmp s)) entries

-- what is found in the world and in the table of ids, by what is found in memory
pub scenario_found : (m : Meaning) (entries : Entries) (s : Name) → scenario_at (world_by m entries) s ≡ option_map (scenario_by m) (held_at entries s)
scenario_found m entries s = sym (seen_lookup (scenario_by m) (is_at (name_cmp s)) entries)

pub ids_found : (entries : Entries) (s : Name) → ids_of (table_of entries) s ≡ ids_where (option_map listed (held_at entries s))
ids_found entries s = ap ids_where (sym (seen_lookup listed (is_at (name_cmp s)) entries))

pub ids_at : (entries : Entries) (s : Name) (h : Held) → held_at entries s ≡ Some h → ids_of (table_of entries) s ≡ cell_ids (listed h)
ids_at entries s h is = ids_found entries s ∙ ap (λ o. ids_where (option_map listed o)) is

pub scenario_here : (m : Meaning) (entries : Entries) (s : Name) (h : Held) → held_at entries s ≡ Some h → scenario_at (world_by m entries) s ≡ Some (scenario_by m h)
scenario_here m entries s h is = scenario_found m entries s ∙ ap (option_map (scenario_by m)) is

-- what is held where the world has a scenario
pub found_held : (m : Meaning) (entries : Entries) (s : Name) (x : Scenario) → scenario_at (world_by m entries) s ≡ Some x → (h : Held) × (held_at entries s ≡ Some h) × (x ≡ scenario_by m h)
found_held m entries s x is = by_cases (held_at entries s) refl (sym (scenario_found m entries s) ∙ is)
  where
    by_cases : (o : Option Held) → held_at entries s ≡ o → option_map (scenario_by m) o ≡ Some x → (h : Held) × (held_at entries s ≡ Some h) × (x ≡ scenario_by m h)
    by_cases None e k = absurd (let no : ⊥ = cc in no)
    by_cases (Some h) e k = (h, e, ap (λ o. unwrap_or o x) (sym k))

-- a scenario that isn't held has no ids
none_gone : (m : Meaning) (entries : Entries) (s : Name) → scenario_at (world_by m entries) s ≡ None → ids_of (table_of entries) s ≡ no_ids
none_gone m entries s gone = ids_found entries s ∙ by_cases (held_at entries s) (sym (scenario_found m entries s) ∙ gone)
  where
    by_cases : (o : Option Held) → option_map (scenario_by m) o ≡ None → ids_where (option_map listed o) ≡ no_ids
    by_cases None h = refl
    by_cases (Some held) h = absurd (let no : ⊥ = cc in no)

-- each id of a world whose forest holds means its cell
pub forest_grown : (entries : Entries) (cells : CellList) → IsForest entries cells → IsGrown (grown entries cells)
forest_grown entries cells forest = record { whole = forest.whole; meant = meant; gone = none_gone (cell_at cells) entries }
  where
    meant : AreWorldMeant (cell_at cells) (world_by (cell_at cells) entries) (ids_of (table_of entries))
    meant s x is =
        let found = found_held (cell_at cells) entries s x is in
        let held = forest.held s found.0 found.1 in
        let P : Scenario → Type 0 = λ z. AreScenarioMeant (cell_at cells) z (ids_of (table_of entries) s) in
        let Q : ScenarioIds → Type 0 = λ ids. AreScenarioMeant (cell_at cells) (scenario_by (cell_at cells) found.0) ids in
        subst P (sym found.2) (subst Q (sym (ids_at entries s found.0 found.1)) (record { base = held.base; contents = held.contents }))

-- what is held stays so where its ids keep their meanings
pub scenario_stays : (m m' : Meaning) (h : Held) → IsHeld m h → Keep m m' (id_at h.base) → scenario_by m' h ≡ scenario_by m h
scenario_stays m m' h held kb =
    let same = contents_kept m m' h.base held.base_ordered held.base kb in
    λ i. record { parent = h.parent; owner = h.owner; private = h.private; base = same i; own = h.own }

pub held_stays : (m m' : Meaning) (h : Held) → IsHeld m h → Keep m m' (id_at h.base) → Keep m m' (id_at h.ids) → IsHeld m' h
held_stays m m' h held kb kc =
    let same = scenario_stays m m' h held kb in
    let P : Scenario → Type 0 = λ x. AreMeant m' x.base (id_at h.base) in
    let Q : Scenario → Type 0 = λ x. AreMeant m' (contents_of x) (id_at h.ids) in
    record {
      base_ordered = held.base_ordered;
      ids_ordered = held.ids_ordered;
      own_ordered = held.own_ordered;
      base = subst P (sym same) (all_kept m m' (contents_by m h.base) (id_at h.base) kb held.base);
      contents = subst Q (sym same) (all_kept m m' (contents_of (scenario_by m h)) (id_at h.ids) kc held.contents);
      parts = held.parts ∙ ap (λ x. part_count (contents_of x)) (sym same);
      records = held.records ∙ ap (λ x. length (contents_of x)) (sym same);
    }

pub sorted_seen : {K V W : Type 0} (f : V → W) (R : K → K → Ordering) (es : List (K × V)) → is_sorted R (seen f es) ≡ is_sorted R es
sorted_seen f R [] = refl
sorted_seen {K = K} {V = V} f R (e ∷ es) = λ i. below_seen es i && sorted_seen f R es i
  where
    below_seen : (es : List (K × V)) → below_all R e.0 (seen f es) ≡ below_all R e.0 es
    below_seen [] = refl
    below_seen (d ∷ es) = ap (λ b. is_lt (R e.0 d.0) && b) (below_seen es)

not_itself : (n p : ℕ) → n < p → n ≢ p
not_itself n p h e = omega arith

module _ (entries : Entries) (cells cells' : CellList) (point : ℕ) (forest : IsForest entries cells) (keeps : KeepsOlder point cells cells') (older : AreOlder point (ids_of (table_of entries))) where
  pub base_keeps : (s : Name) (h : Held) → held_at entries s ≡ Some h → Keep (cell_at cells) (cell_at cells') (id_at h.base)
  base_keeps s h is cell id found = keeps id (not_itself id.point point (older.base s cell id (ap (λ (ids : ScenarioIds). ids.base cell) (ids_at entries s h is) ∙ found)))

  pub ids_keep : (s : Name) (h : Held) → held_at entries s ≡ Some h → Keep (cell_at cells) (cell_at cells') (id_at h.ids)
  ids_keep s h is cell id found = keeps id (not_itself id.point point (older.contents s cell id (ap (λ (ids : ScenarioIds). ids.contents cell) (ids_at entries s h is) ∙ found)))

  same_scenarios : (es : Entries) → AllByRecursion (λ (e : Name × Held). scenario_by (cell_at cells') e.1 ≡ scenario_by (cell_at cells) e.1) es → world_by (cell_at cells') es ≡ world_by (cell_at cells) es
  same_scenarios [] all = refl
  same_scenarios (e ∷ es) all = λ i. (e.0, all.0 i) ∷ same_scenarios es all.1 i

  pub world_stays : world_by (cell_at cells') entries ≡ world_by (cell_at cells) entries
  world_stays =
      same_scenarios entries (each_found name_total name_exact (λ s h. scenario_by (cell_at cells') h ≡ scenario_by (cell_at cells) h) entries
      (sym (sorted_seen (scenario_by (cell_at cells)) name_cmp entries) ∙ forest.whole.ordered)
      (λ s h is. scenario_stays (cell_at cells) (cell_at cells') h (forest.held s h is) (base_keeps s h is)))

  pub forest_stays : IsForest entries cells'
  forest_stays = record {
    whole = subst IsWhole (sym world_stays) forest.whole;
    held = λ s h is. held_stays (cell_at cells) (cell_at cells') h (forest.held s h is) (base_keeps s h is) (ids_keep s h is);
  }

  -- a scenario that changed, in the place of what it was
  module _ (s : Name) (later : OwnChanges) (h new : Held) (is : held_at entries s ≡ Some h) (change : IsChanged point (is_root s) later (cell_at cells) (cell_at cells') h new) where
    abbrev next : Entries
    next = insert_entry name_cmp entries s new

    abbrev before : World
    before = world_by (cell_at cells) entries

    pub next_world : world_by (cell_at cells') next ≡ with_changes before s later
    next_world =
        seen_insert (scenario_by (cell_at cells')) name_cmp entries s new
        ∙ ap (λ w. insert_entry name_cmp w s (scenario_by (cell_at cells') new)) world_stays
        ∙ ap (insert_entry name_cmp before s) (change.scenario ∙ ap (λ x. changed_by (is_root s) x later) (sym (scenario_is before s (scenario_by (cell_at cells) h) (scenario_here (cell_at cells) entries s h is))))

    next_held_at : (q : Name) → held_at next q ≡ cond (name_eq q s) (Some new) (held_at entries q)
    next_held_at q = lookup_insert name_total q s new entries

    pub next_forest : IsWhole (with_changes before s later) → IsForest next cells'
    next_forest whole = record { whole = subst IsWhole (sym next_world) whole; held = λ q z found. by_cases q z (name_eq q s) refl (sym (next_held_at q) ∙ found) }
      where
        by_cases : (q : Name) (z : Held) (t : Bool) → name_eq q s ≡ t → cond (name_eq q s) (Some new) (held_at entries q) ≡ Some z → IsHeld (cell_at cells') z
        by_cases q z true t found =
            let one : Some new ≡ Some z = sym (ap (λ b. cond b (Some new) (held_at entries q)) t) ∙ found in
            subst (IsHeld (cell_at cells')) (ap (λ o. unwrap_or o new) one) change.held
        by_cases q z false t found = forest_stays.held q z (sym (ap (λ b. cond b (Some new) (held_at entries q)) t) ∙ found)

    abbrev ids : WorldIds
    ids = ids_of (table_of entries)

    abbrev new_contents : CellIds
    new_contents = after_changes point (contents_in (with_changes before s later) s) later (ids s).contents

    abbrev new_ids : ScenarioIds
    new_ids = record { base = if is_root s then new_contents else (ids s).base; contents = new_contents }

    contents_are : laid_over (contents_of (scenario_by (cell_at cells) h)) later ≡ contents_in (with_changes before s later) s
    contents_are =
        let here = scenario_here (cell_at cells) entries s h is in
        sym (contents_after before s later forest.whole (subst IsSome (sym here) refl) ∙ ap (λ z. laid_over (contents_of z) later) (scenario_is before s (scenario_by (cell_at cells) h) here))

    contents_ids : (cell : CellName) → id_at new.ids cell ≡ new_contents cell
    contents_ids cell = change.contents cell ∙ (λ i. after_changes point (contents_are i) later (sym (ids_at entries s h is) i).contents cell)

    chosen : (t : Bool) (a b : CellIds) (cell : CellName) → (if t then a cell else b cell) ≡ (if t then a else b) cell
    chosen true a b cell = refl
    chosen false a b cell = refl

    base_ids : (cell : CellName) → id_at new.base cell ≡ (if is_root s then new_contents else (ids s).base) cell
    base_ids cell =
        change.base cell
        ∙ (λ i. if is_root s then contents_ids cell i else (sym (ids_at entries s h is) i).base cell)
        ∙ chosen (is_root s) new_contents (ids s).base cell

    new_ids_are : cell_ids (listed new) ≡ new_ids
    new_ids_are = λ i. record { base = λ cell. base_ids cell i; contents = λ cell. contents_ids cell i }

    pub next_ids : ids_of (table_of next) ≡ with_changed_ids point before (ids_of (table_of entries)) s later
    next_ids = λ i q. by_cases q (name_eq q s) refl i
      where
        by_cases : (q : Name) (t : Bool) → name_eq q s ≡ t → ids_of (table_of next) q ≡ with_changed_ids point before (ids_of (table_of entries)) s later q
        by_cases q true t =
            ids_found next q ∙ ap (λ o. ids_where (option_map listed o)) (next_held_at q ∙ ap (λ b. cond b (Some new) (held_at entries q)) t) ∙ new_ids_are
            ∙ sym (ap (λ b. if b then new_ids else ids q) t)
        by_cases q false t =
            ids_found next q ∙ ap (λ o. ids_where (option_map listed o)) (next_held_at q ∙ ap (λ b. cond b (Some new) (held_at entries q)) t) ∙ sym (ids_found entries q)
            ∙ sym (ap (λ b. if b then new_ids else ids q) t)

-- as the calls of a forest need it: `old` is what contracts see of it at first ------------------------------------------------------

pub is_ready : (entries : Entries) (cells : CellList) (old : Grown) (point : ℕ) (root : Bool) (s : Name) (h : Held) → grown entries cells ≡ old → IsForest entries cells → held_at entries s ≡ Some h → root ≡ is_root s
    → AreOlder point (ids_in old) → IsReady point root h
is_ready entries cells old point root s h view forest is rt older = record {
  rooted = λ t.
      let x = scenario_by (cell_at cells) h in
      let r = root_is (world_by (cell_at cells) entries) s x forest.whole (scenario_here (cell_at cells) entries s h is) (sym rt ∙ t) in
      ap (λ (z : Scenario). z.own) r.1;
  older = λ t cell id found.
      let there = subst (λ (f : Grown). AreOlder point (ids_in f)) (sym view) older in
      not_itself id.point point (there.base s cell id (ap (λ (ids : ScenarioIds). ids.base cell) (ids_at entries s h is) ∙ found));
}

pub as_before : (entries : Entries) (cells cells' : CellList) (old : Grown) (point : ℕ) → grown entries cells ≡ old → IsForest entries cells → KeepsOlder point cells cells' → AreOlder point (ids_in old)
    → IsForest entries cells' × IsAsBefore old (grown entries cells')
as_before entries cells cells' old point view forest keeps older =
    let there = subst (λ (f : Grown). AreOlder point (ids_in f)) (sym view) older in (
      forest_stays entries cells cells' point forest keeps there,
      subst (λ (f : Grown). IsAsBefore f (grown entries cells')) view (record { world = world_stays entries cells cells' point forest keeps there; table = refl }),
    )

pub after_changes_of : (entries entries' : Entries) (cells cells' : CellList) (old : Grown) (point : ℕ) (root : Bool) (s : Name) (later : OwnChanges) (h new : Held) → grown entries cells ≡ old → IsForest entries cells
    → held_at entries s ≡ Some h → root ≡ is_root s → IsChanged point root later (cell_at cells) (cell_at cells') h new → KeepsOlder point cells cells' → AreOlder point (ids_in old)
    → IsWhole (with_changes old.world s later) → entries' ≡ insert_entry name_cmp entries s new → IsForest entries' cells' × IsAfterChanges point s later old (grown entries' cells')
after_changes_of entries entries' cells cells' old point root s later h new view forest is rt change keeps older whole es =
    let there = subst (λ (f : Grown). AreOlder point (ids_in f)) (sym view) older in
    let whole' = subst (λ (f : Grown). IsWhole (with_changes f.world s later)) (sym view) whole in
    let change' = subst (λ b. IsChanged point b later (cell_at cells) (cell_at cells') h new) rt change in
    let P : Entries → Type 0 = λ e. IsForest e cells' × IsAfterChanges point s later old (grown e cells') in
    subst P (sym es) (
      next_forest entries cells cells' point forest keeps there s later h new is change' whole',
      subst (λ (f : Grown). IsAfterChanges point s later f (grown (insert_entry name_cmp entries s new) cells')) view
          (record { world = next_world entries cells cells' point forest keeps there s later h new is change'; ids = next_ids entries cells cells' point forest keeps there s later h new is change' }),
    )

pub on_err : {T E P : Type 0} (r : Result T E) → P → OnErr r P
on_err (Ok x) p = tt
on_err (Err e) p = p
