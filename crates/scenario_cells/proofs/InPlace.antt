-- LOAD in place.
use Rattle.std.proofs.Common.{◌≡◌, ◌≢◌, ℕ, [], ◌∷◌, refl, sym, ◌∙◌, ap, subst, Bool, true, false}
use Rattle.std.specs.Prelude.{Option, Some, if◌then◌else◌, length}
use Rattle.std.specs.BTreeMap.{insert_entry}
use Rattle.plan_schema.specs.declared.key.Key.{Key}
use Rattle.plan_schema.specs.declared.key.Record.{Record}
use Rattle.plan_schema.specs.declared.change.CellName.{CellName}
use Rattle.plan_schema.specs.Key.{key_cmp}
use Rattle.plan_schema.specs.Contents.{Contents}
use Rattle.plan_schema.specs.Base.{part_count}
use Rattle.scenario_rules.specs.World.{OwnChanges, Scenario, changed, laid_over, contents_of}
use Rattle.record_versions.specs.declared.version.VersionId.{VersionId}
use Rattle.record_versions.specs.Versions.{IdList, CellList, id_at, cell_at}
use Rattle.version_rules.specs.Ids.{after_changes}
use Rattle.version_rules.specs.Meaning.{AreMeant}
use Rattle.scenario_cells.specs.declared.held.Held.{Held}
use Rattle.scenario_cells.specs.declared.held.Loaded.{Loaded}
use Rattle.scenario_cells.specs.Held.{contents_by, scenario_by, changed_by, IsHeld, IsReady, IsChanged}
use Rattle.scenario_cells.specs.Rows.{renewed_ids, store_with, new_id, new_rows}
use Rattle.scenario_cells.specs.Loads.{held_with}
use Rattle.scenario_cells.proofs.Join.{join_is}
use Rattle.scenario_cells.proofs.HeldLaws.{held_contents, contents_ordered, is_changed}

abbrev pub load_begun : Held → Loaded
load_begun h = record { ids = h.ids; own = h.own; parts = h.parts; records = h.records }

module _ (cells : CellList) (point : ℕ) (h : Held) (held : IsHeld (cell_at cells) h) where
  -- the root's base is made of the ids of its contents, too
  base_same : (root : Bool) → IsReady point root h → contents_by (cell_at cells) (if root then h.ids else h.base) ≡ contents_by (cell_at cells) h.base
  base_same true ready =
      join_is (cell_at cells) h.ids (held_contents cells h) held.ids_ordered (contents_ordered cells h) held.contents ∙ ap (laid_over (contents_by (cell_at cells) h.base)) (ready.rooted refl)
  base_same false ready = refl

  pub begun_scenario : (root : Bool) → IsReady point root h → scenario_by (cell_at cells) (held_with root h (load_begun h)) ≡ scenario_by (cell_at cells) h
  begun_scenario root ready = λ i. record { parent = h.parent; owner = h.owner; private = h.private; base = base_same root ready i; own = h.own }

  pub begun_held : (root : Bool) → IsReady point root h → IsHeld (cell_at cells) (held_with root h (load_begun h))
  begun_held true ready =
      let same = begun_scenario true ready in
      let own_same : held_contents cells h ≡ contents_by (cell_at cells) h.base = ap (laid_over (contents_by (cell_at cells) h.base)) (ready.rooted refl) in
      let P : Scenario → Type 0 = λ x. AreMeant (cell_at cells) (contents_of x) (id_at h.ids) in
      let Q : Contents → Type 0 = λ c. AreMeant (cell_at cells) c (id_at h.ids) in
      record {
        base_ordered = held.ids_ordered;
        ids_ordered = held.ids_ordered;
        own_ordered = held.own_ordered;
        base = subst Q (own_same ∙ sym (base_same true ready)) held.contents;
        contents = subst P (sym same) held.contents;
        parts = held.parts ∙ ap (λ x. part_count (contents_of x)) (sym same);
        records = held.records ∙ ap (λ x. length (contents_of x)) (sym same);
      }
  begun_held false ready = held

  pub begun_ready : (root : Bool) → IsReady point root h → IsReady point root (held_with root h (load_begun h))
  begun_ready true ready = record { rooted = ready.rooted; older = λ e. absurd (let no : ⊥ = cc in no) }
  begun_ready false ready = ready

  -- nothing is loaded at first
  pub nothing_loaded : (root : Bool) → IsReady point root h → IsChanged point root [] (cell_at cells) (cell_at cells) (held_with root h (load_begun h)) (held_with root h (load_begun h))
  nothing_loaded root ready = record { held = begun_held root ready; scenario = same root; contents = λ cell. refl; base = λ cell. base_is root cell }
    where
      same : (root : Bool) → scenario_by (cell_at cells) (held_with root h (load_begun h)) ≡ changed_by root (scenario_by (cell_at cells) (held_with root h (load_begun h))) []
      same true = refl
      same false = refl

      base_is : (root : Bool) (cell : CellName) → id_at (if root then h.ids else h.base) cell ≡ (if root then id_at h.ids cell else id_at (if root then h.ids else h.base) cell)
      base_is true cell = refl
      base_is false cell = refl

  -- as it is seen from the scenario as it was
  pub all_loaded : (root : Bool) → IsReady point root h → (cells' : CellList) (later : OwnChanges) (new : Held) → IsChanged point root later (cell_at cells) (cell_at cells') (held_with root h (load_begun h)) new
      → IsChanged point root later (cell_at cells) (cell_at cells') h new
  all_loaded root ready cells' later new change = record {
    held = change.held;
    scenario = change.scenario ∙ ap (λ x. changed_by root x later) (begun_scenario root ready);
    contents = λ cell. change.contents cell ∙ ap (λ x. after_changes point (laid_over (contents_of x) later) later (id_at h.ids) cell) (begun_scenario root ready);
    base = λ cell. change.base cell ∙ base_of root cell;
  }
    where
      base_of : (root : Bool) (cell : CellName) → (if root then id_at new.ids cell else id_at (if root then h.ids else h.base) cell) ≡ (if root then id_at new.ids cell else id_at h.base cell)
      base_of true cell = refl
      base_of false cell = refl

-- one row more
pub row_loaded : (cells cells' : CellList) (point : ℕ) (root : Bool) (h : Held) (l : Loaded) (key : Key) (new : Option Record) (ids : IdList) (own : OwnChanges) (parts records : ℕ)
    → IsHeld (cell_at cells) (held_with root h l) → IsReady point root (held_with root h l)
    → ids ≡ renewed_ids l.ids (new_id point key) (new_rows cells l.ids key new)
    → cells' ≡ store_with cells (new_id point key) (new_rows cells l.ids key new)
    → own ≡ (if root then l.own else insert_entry key_cmp l.own key new)
    → parts ≡ part_count (changed (held_contents cells (held_with root h l)) key new) → records ≡ length (changed (held_contents cells (held_with root h l)) key new)
    → IsChanged point root ((key, new) ∷ []) (cell_at cells) (cell_at cells') (held_with root h l) (held_with root h (record { ids = ids; own = own; parts = parts; records = records }))
row_loaded cells cells' point root h l key new ids own parts records held ready is cs os ps rs =
    is_changed cells cells' point root (held_with root h l) key new ids (if root then ids else h.base) own parts records held ready is cs os (base_is root) ps rs
  where
    base_is : (root : Bool) → (if root then ids else h.base) ≡ (if root then ids else (if root then l.ids else h.base))
    base_is true = refl
    base_is false = refl

pub ready_after : (cells cells' : CellList) (point : ℕ) (root : Bool) (h h' : Held) (later : OwnChanges) → IsReady point root h → IsChanged point root later (cell_at cells) (cell_at cells') h h' → IsReady point root h'
ready_after cells cells' point root h h' later ready before = record { rooted = own_is root ready.rooted before.scenario; older = older_is root ready.older before.base }
  where
    own_is : (t : Bool) → (t ≡ true → h.own ≡ []) → scenario_by (cell_at cells') h' ≡ changed_by t (scenario_by (cell_at cells) h) later → t ≡ true → h'.own ≡ []
    own_is true r s e = ap (λ (z : Scenario). z.own) s ∙ r refl
    own_is false r s e = absurd (let no : ⊥ = cc in no)

    older_is : (t : Bool) → (t ≡ false → (cell : CellName) (id : VersionId) → id_at h.base cell ≡ Some id → id.point ≢ point) → ((cell : CellName) → id_at h'.base cell ≡ (if t then id_at h'.ids cell else id_at h.base cell))
        → t ≡ false → (cell : CellName) (id : VersionId) → id_at h'.base cell ≡ Some id → id.point ≢ point
    older_is true o b e = absurd (let no : ⊥ = cc in no)
    older_is false o b e = λ cell id found. o refl cell id (sym (b cell) ∙ found)
