-- LOAD: rows put one after another.
use Rattle.std.proofs.Common.{◌≡◌, ◌≢◌, ℕ, List, [], ◌∷◌, ◌++◌, refl, sym, ◌∙◌, ap, Bool, true, false, ◌||◌}
use Rattle.std.specs.Prelude.{Option, Some, if◌then◌else◌, fold}
use Rattle.std.specs.BTreeMap.{insert_entry}
use Rattle.plan_schema.specs.declared.key.Key.{Key}
use Rattle.plan_schema.specs.declared.key.Record.{Record}
use Rattle.plan_schema.specs.declared.change.CellName.{CellName}
use Rattle.plan_schema.specs.Key.{key_cmp, cell_of}
use Rattle.plan_schema.specs.Cell.{cell_eq}
use Rattle.plan_schema.specs.Contents.{Contents, is_ordered}
use Rattle.scenario_rules.specs.World.{OwnChanges, Scenario, changed, laid_over, contents_of}
use Rattle.record_versions.specs.declared.version.VersionId.{VersionId}
use Rattle.record_versions.specs.Versions.{CellList, id_at, cell_at}
use Rattle.version_rules.specs.Ids.{id_for, renewed, are_about, after_changes}
use Rattle.version_rules.proofs.CellRows.{rows_apart, ordered_laid}
use Rattle.version_rules.proofs.StepMeans.{laid_joined}
use Rattle.scenario_cells.specs.declared.held.Held.{Held}
use Rattle.scenario_cells.specs.Held.{scenario_by, IsHeld, IsReady, IsChanged, changed_by}
use Rattle.scenario_cells.proofs.Join.{ordered_by}
use Rattle.scenario_cells.proofs.HeldLaws.{held_contents, contents_ordered}
use Rattle.scenario_cells.proofs.LaidLaws.{about_more, laid_more}

fold_more : {A B : Type 0} (f : A → B → A) (a : A) (xs : List B) (y : B) → fold f a (xs ++ y ∷ []) ≡ f (fold f a xs) y
fold_more f a [] y = refl
fold_more f a (x ∷ xs) y = fold_more f (f a x) xs y

either_none : (a : Bool) → (a || false) ≡ a
either_none true = refl
either_none false = refl

either_true : (a : Bool) → (a || true) ≡ true
either_true true = refl
either_true false = refl

module _ (cells cells' cells'' : CellList) (point : ℕ) (root : Bool) (h h' h'' : Held) (later : OwnChanges) (k : Key) (new : Option Record) (held : IsHeld (cell_at cells) h) (ready : IsReady point root h)
    (before : IsChanged point root later (cell_at cells) (cell_at cells') h h') (one : IsChanged point root ((k, new) ∷ []) (cell_at cells') (cell_at cells'') h' h'') where
  abbrev x : Scenario
  x = scenario_by (cell_at cells) h

  abbrev c : Contents
  c = laid_over (contents_of x) later

  abbrev more : OwnChanges
  more = later ++ (k, new) ∷ []

  pub ready_next : IsReady point root h'
  ready_next = record { rooted = own_is root ready.rooted before.scenario; older = older_is root ready.older before.base }
    where
      own_is : (t : Bool) → (t ≡ true → h.own ≡ []) → scenario_by (cell_at cells') h' ≡ changed_by t (scenario_by (cell_at cells) h) later → t ≡ true → h'.own ≡ []
      own_is true r s e = ap (λ (z : Scenario). z.own) s ∙ r refl
      own_is false r s e = absurd (let no : ⊥ = cc in no)

      older_is : (t : Bool) → (t ≡ false → (cell : CellName) (id : VersionId) → id_at h.base cell ≡ Some id → id.point ≢ point) → ((cell : CellName) → id_at h'.base cell ≡ (if t then id_at h'.ids cell else id_at h.base cell))
          → t ≡ false → (cell : CellName) (id : VersionId) → id_at h'.base cell ≡ Some id → id.point ≢ point
      older_is true o b e = absurd (let no : ⊥ = cc in no)
      older_is false o b e = λ cell id found. o refl cell id (sym (b cell) ∙ found)

  changed_more : (t : Bool) → changed_by t (changed_by t x later) ((k, new) ∷ []) ≡ changed_by t x more
  changed_more true = λ i. record { parent = h.parent; owner = h.owner; private = h.private; base = sym (laid_more x.base later k new) i; own = h.own }
  changed_more false =
      λ i. record { parent = h.parent; owner = h.owner; private = h.private; base = x.base; own = sym (fold_more (λ (o : OwnChanges) (change : Key × Option Record). insert_entry key_cmp o change.0 change.1) h.own later (k, new)) i }

  shows : (t : Bool) → (t ≡ true → h.own ≡ []) → contents_of (changed_by t x later) ≡ c
  shows true rooted = ap (λ own. laid_over (laid_over x.base later) own) (rooted refl) ∙ sym (ap (λ own. laid_over (laid_over x.base own) later) (rooted refl))
  shows false rooted = laid_joined x.base h.own later (ordered_by (cell_at cells) h.base) held.own_ordered

  contents_then : held_contents cells' h' ≡ c
  contents_then = ap contents_of before.scenario ∙ shows root ready.rooted

  oc : is_ordered c ≡ true
  oc = ordered_laid (contents_of x) later (contents_ordered cells h)

  -- the ids of one more change, over those of the earlier ones
  ids_more : (q : CellName) (t : Bool) → cell_eq (cell_of k) q ≡ t → (if (t || false) then renewed point (changed c k new) q else after_changes point c later (id_at h.ids) q) ≡ (if (are_about later q || t) then renewed point (changed c k new) q else id_at h.ids q)
  ids_more q true t = sym (ap (λ b. if b then renewed point (changed c k new) q else id_at h.ids q) (either_true (are_about later q)))
  ids_more q false t =
      (λ i. if are_about later q then id_for point q (sym (rows_apart c k new q oc t) i) else id_at h.ids q)
      ∙ sym (ap (λ b. if b then renewed point (changed c k new) q else id_at h.ids q) (either_none (are_about later q)))

  ids_then : (q : CellName) → id_at h''.ids q ≡ after_changes point (laid_over (contents_of x) more) more (id_at h.ids) q
  ids_then q =
      one.contents q
      ∙ (λ i. after_changes point (changed (contents_then i) k new) ((k, new) ∷ []) (λ cell. before.contents cell i) q)
      ∙ ids_more q (cell_eq (cell_of k) q) refl
      ∙ sym (λ i. if about_more later k new q i then renewed point (laid_more (contents_of x) later k new i) q else id_at h.ids q)

  base_then : (t : Bool) → ((cell : CellName) → id_at h'.base cell ≡ (if t then id_at h'.ids cell else id_at h.base cell)) → ((cell : CellName) → id_at h''.base cell ≡ (if t then id_at h''.ids cell else id_at h'.base cell))
      → (cell : CellName) → id_at h''.base cell ≡ (if t then id_at h''.ids cell else id_at h.base cell)
  base_then true a b cell = b cell
  base_then false a b cell = b cell ∙ a cell

  pub changed_then : IsChanged point root more (cell_at cells) (cell_at cells'') h h''
  changed_then = record {
    held = one.held;
    scenario = one.scenario ∙ ap (λ (z : Scenario). changed_by root z ((k, new) ∷ [])) before.scenario ∙ changed_more root;
    contents = ids_then;
    base = base_then root before.base one.base;
  }
