-- SHARE: a scenario that everyone may use.
use Rattle.std.proofs.Common.{◌≡◌, ℕ, [], refl, sym, ◌∙◌, ap, subst, Bool, true, false}
use Rattle.std.specs.Prelude.{Some, if◌then◌else◌}
use Rattle.std.specs.BTreeMap.{insert_entry}
use Rattle.plan_schema.specs.declared.name.Name.{Name}
use Rattle.plan_schema.specs.declared.change.Change.TheVariants as changes
use Rattle.plan_schema.specs.Key.{name_cmp, name_eq}
use Rattle.scenario_rules.specs.World.{World, Scenario, scenario, with_scenario}
use Rattle.scenario_rules.specs.Steps.{step}
use Rattle.scenario_rules.specs.Whole.{IsWhole}
use Rattle.scenario_rules.proofs.Wholeness.{scenario_is, one_name}
use Rattle.record_versions.specs.Versions.{CellList, cell_at}
use Rattle.record_versions.proofs.Cells.{seen_insert}
use Rattle.version_rules.specs.Ids.{ScenarioIds, WorldIds, with_ids, step_ids}
use Rattle.scenario_cells.specs.declared.held.Held.{Held}
use Rattle.scenario_cells.specs.Held.{scenario_by, listed, cell_ids, IsHeld}
use Rattle.scenario_merge.specs.Grown.{Grown, ids_of, world_by, table_of, grown, IsForest, IsStepped}
use Rattle.scenario_cells.specs.Laid.{shared}
use Rattle.scenario_merge.proofs.ForestLaws.{Entries, held_at, ids_at, scenario_here}
use Rattle.scenario_merge.proofs.CommitLaws.{held_put, ids_put}

-- the ids of a scenario put where they are
same_ids : (ids : WorldIds) (s : Name) (new : ScenarioIds) → ids s ≡ new → with_ids ids s new ≡ ids
same_ids ids s new is = λ i q. by_cases q (name_eq q s) refl i
  where
    by_cases : (q : Name) (t : Bool) → name_eq q s ≡ t → with_ids ids s new q ≡ ids q
    by_cases q true t = ap (λ b. if b then new else ids q) t ∙ sym is ∙ ap ids (sym (one_name q s t))
    by_cases q false t = ap (λ b. if b then new else ids q) t

pub share_done : (entries entries' : Entries) (cells : CellList) (old : Grown) (point : ℕ) (s : Name) (h : Held) → grown entries cells ≡ old → IsForest entries cells → held_at entries s ≡ Some h
    → IsWhole (step old.world [] (changes.Share s)) → entries' ≡ insert_entry name_cmp entries s (shared h) → IsForest entries' cells × IsStepped point (changes.Share s) old (grown entries' cells)
share_done entries entries' cells old point s h view forest at whole es =
    let m = cell_at cells in
    let w : World = world_by m entries in
    let whole' = subst (λ (f : Grown). IsWhole (step f.world [] (changes.Share s))) (sym view) whole in
    let its = forest.held s h at in
    let held : IsHeld m (shared h) = record { base_ordered = its.base_ordered; ids_ordered = its.ids_ordered; own_ordered = its.own_ordered; base = its.base; contents = its.contents; parts = its.parts; records = its.records } in
    let x_is : scenario w s ≡ scenario_by m h = scenario_is w s (scenario_by m h) (scenario_here m entries s h at) in
    let second : Entries = insert_entry name_cmp entries s (shared h) in
    let world_is : world_by m second ≡ step w [] (changes.Share s) = seen_insert (scenario_by m) name_cmp entries s (shared h) ∙ ap (λ (x : Scenario). with_scenario w s (record x { private = false })) (sym x_is) in
    let ids_are : ids_of (table_of second) ≡ step_ids point w (ids_of (table_of entries)) (changes.Share s) =
    ids_put entries s (shared h) ∙ same_ids (ids_of (table_of entries)) s (cell_ids (listed (shared h))) (ids_at entries s h at) in
    let P : Entries → Type 0 = λ e. IsForest e cells × IsStepped point (changes.Share s) old (grown e cells) in
    let done : IsStepped point (changes.Share s) (grown entries cells) (grown second cells) = record { world = world_is; ids = ids_are } in
    subst P (sym es) (
      record { whole = subst IsWhole (sym world_is) whole'; held = held_put m entries s (shared h) forest.held held },
      subst (λ (f : Grown). IsStepped point (changes.Share s) f (grown second cells)) view done,
    )
