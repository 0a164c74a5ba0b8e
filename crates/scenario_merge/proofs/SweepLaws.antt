-- A forest whose store keeps the cells of all its ids.
use Rattle.std.proofs.Common.{◌≡◌, List, [], ◌∷◌, refl, sym, ◌∙◌, ap, subst, true, false, cond}
use Rattle.std.specs.Prelude.{Some, None}
use Rattle.std.specs.List.{AllByRecursion}
use Rattle.std.specs.FinMap.Entries.{find, find-where_key}
use Rattle.plan_schema.specs.declared.name.Name.{Name}
use Rattle.plan_schema.specs.Key.{name_cmp}
use Rattle.scenario_rules.specs.Whole.{IsWhole}
use Rattle.scenario_rules.proofs.Maps.{lookup_is_find}
use Rattle.scenario_rules.proofs.Keys.{name_total, name_exact}
use Rattle.record_versions.specs.declared.version.VersionId.{VersionId}
use Rattle.record_versions.specs.Versions.{CellList, id_at, id_cmp, cell_at, has_id, only_live}
use Rattle.record_versions.proofs.Orders.{id_exact}
use Rattle.version_rules.specs.Ids.{ScenarioIds, IsLive}
use Rattle.version_rules.specs.Meaning.{Keep}
use Rattle.scenario_cells.specs.declared.held.Held.{Held}
use Rattle.scenario_cells.specs.Held.{scenario_by}
use Rattle.scenario_merge.specs.Grown.{Grown, ids_in, world_by, grown, IsForest, IsAsBefore}
use Rattle.scenario_cells.proofs.Join.{each_found}
use Rattle.scenario_merge.proofs.ForestLaws.{Entries, held_at, ids_at, scenario_stays, held_stays, sorted_seen}

-- a live id keeps its cell
live_stays : (live : List VersionId) (cells : CellList) (id : VersionId) → has_id live id ≡ true → cell_at (only_live live cells) id ≡ cell_at cells id
live_stays live cells id h =
    lookup_is_find id_cmp id (only_live live cells) ∙ find-where_key id_cmp (has_id live) id (λ x e. ap (has_id live) (sym (id_exact id x e))) cells
    ∙ ap (λ b. cond b (find id_cmp id cells) None) h ∙ sym (lookup_is_find id_cmp id cells)

module _ (entries : Entries) (cells cells' : CellList) (forest : IsForest entries cells) (kb : (s : Name) (h : Held) → held_at entries s ≡ Some h → Keep (cell_at cells) (cell_at cells') (id_at h.base))
    (kc : (s : Name) (h : Held) → held_at entries s ≡ Some h → Keep (cell_at cells) (cell_at cells') (id_at h.ids)) where
  same_scenarios : (es : Entries) → AllByRecursion (λ (e : Name × Held). scenario_by (cell_at cells') e.1 ≡ scenario_by (cell_at cells) e.1) es → world_by (cell_at cells') es ≡ world_by (cell_at cells) es
  same_scenarios [] all = refl
  same_scenarios (e ∷ es) all = λ i. (e.0, all.0 i) ∷ same_scenarios es all.1 i

  pub world_kept : world_by (cell_at cells') entries ≡ world_by (cell_at cells) entries
  world_kept =
      same_scenarios entries (each_found name_total name_exact (λ s h. scenario_by (cell_at cells') h ≡ scenario_by (cell_at cells) h) entries
      (sym (sorted_seen (scenario_by (cell_at cells)) name_cmp entries) ∙ forest.whole.ordered)
      (λ s h is. scenario_stays (cell_at cells) (cell_at cells') h (forest.held s h is) (kb s h is)))

  pub forest_kept : IsForest entries cells'
  forest_kept = record {
    whole = subst IsWhole (sym world_kept) forest.whole;
    held = λ s h is. held_stays (cell_at cells) (cell_at cells') h (forest.held s h is) (kb s h is) (kc s h is);
  }

pub swept : (entries : Entries) (cells : CellList) (old : Grown) (live : List VersionId) → grown entries cells ≡ old → IsForest entries cells → ((id : VersionId) → IsLive (ids_in old) id → has_id live id ≡ true)
    → IsForest entries (only_live live cells) × IsAsBefore old (grown entries (only_live live cells))
swept entries cells old live view forest all =
    let all' = subst (λ (f : Grown). (id : VersionId) → IsLive (ids_in f) id → has_id live id ≡ true) (sym view) all in
    let kb : (s : Name) (h : Held) → held_at entries s ≡ Some h → Keep (cell_at cells) (cell_at (only_live live cells)) (id_at h.base) =
    λ s h is cell id found. live_stays live cells id (all' id (record { scenario = s; cell = cell; of_base = true; has = ap (λ (i : ScenarioIds). i.base cell) (ids_at entries s h is) ∙ found })) in
    let kc : (s : Name) (h : Held) → held_at entries s ≡ Some h → Keep (cell_at cells) (cell_at (only_live live cells)) (id_at h.ids) =
    λ s h is cell id found. live_stays live cells id (all' id (record { scenario = s; cell = cell; of_base = false; has = ap (λ (i : ScenarioIds). i.contents cell) (ids_at entries s h is) ∙ found })) in (
      forest_kept entries cells (only_live live cells) forest kb kc,
      subst (λ (f : Grown). IsAsBefore f (grown entries (only_live live cells))) view (record { world = world_kept entries cells (only_live live cells) forest kb kc; table = refl }),
    )
