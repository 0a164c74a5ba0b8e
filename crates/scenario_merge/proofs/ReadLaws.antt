-- What is read of a forest.
use Rattle.std.proofs.Common.{◌≡◌, refl, sym, ◌∙◌, ap, [], length}
use Rattle.std.specs.Prelude.{Option, Some, None, is_some, unwrap_or}
use Rattle.std.specs.Option.{option_map}
use Rattle.plan_schema.specs.declared.name.Name.{Name}
use Rattle.plan_schema.specs.declared.change.CellName.{CellName}
use Rattle.scenario_rules.specs.World.{root_with, scenario_at, scenario}
use Rattle.record_versions.specs.Versions.{CellList, id_at, cell_at}
use Rattle.version_rules.specs.Ids.{ScenarioIds}
use Rattle.scenario_cells.specs.declared.held.Held.{Held}
use Rattle.scenario_cells.specs.Held.{scenario_by}
use Rattle.scenario_merge.specs.Grown.{Grown, ids_in, grown}
use Rattle.scenario_merge.proofs.ForestLaws.{Entries, held_at, scenario_found, ids_at}

some_mapped : {A B : Type 0} (f : A → B) (o : Option A) → is_some (option_map f o) ≡ is_some o
some_mapped f None = refl
some_mapped f (Some a) = refl

pub is_there : (entries : Entries) (cells : CellList) (old : Grown) (s : Name) (o : Option Held) → grown entries cells ≡ old → o ≡ held_at entries s → is_some o ≡ is_some (scenario_at old.world s)
is_there entries cells old s o view is =
    ap is_some is ∙ sym (some_mapped (scenario_by (cell_at cells)) (held_at entries s)) ∙ ap is_some (sym (scenario_found (cell_at cells) entries s)) ∙ ap (λ (f : Grown). is_some (scenario_at f.world s)) view

pub ids_are : (entries : Entries) (cells : CellList) (old : Grown) (s : Name) (h : Held) → grown entries cells ≡ old → Some h ≡ held_at entries s → (cell : CellName) → id_at h.ids cell ≡ (ids_in old s).contents cell
ids_are entries cells old s h view is cell = sym (ap (λ (i : ScenarioIds). i.contents cell) (ids_at entries s h (sym is))) ∙ ap (λ (f : Grown). (ids_in f s).contents cell) view

pub base_ids_are : (entries : Entries) (cells : CellList) (old : Grown) (s : Name) (h : Held) → grown entries cells ≡ old → Some h ≡ held_at entries s → (cell : CellName) → id_at h.base cell ≡ (ids_in old s).base cell
base_ids_are entries cells old s h view is cell = sym (ap (λ (i : ScenarioIds). i.base cell) (ids_at entries s h (sym is))) ∙ ap (λ (f : Grown). (ids_in f s).base cell) view

pub own_is : (entries : Entries) (cells : CellList) (old : Grown) (s : Name) (h : Held) → grown entries cells ≡ old → Some h ≡ held_at entries s → length h.own ≡ length (scenario old.world s).own
own_is entries cells old s h view is =
    let found = ap (option_map (scenario_by (cell_at cells))) is ∙ sym (scenario_found (cell_at cells) entries s) in
    ap (λ o. length (unwrap_or o (root_with [])).own) found ∙ ap (λ (f : Grown). length (scenario f.world s).own) view

pub no_own : (entries : Entries) (cells : CellList) (old : Grown) (s : Name) → grown entries cells ≡ old → None ≡ held_at entries s → 0 ≡ length (scenario old.world s).own
no_own entries cells old s view is =
    let found = ap (option_map (scenario_by (cell_at cells))) is ∙ sym (scenario_found (cell_at cells) entries s) in
    ap (λ o. length (unwrap_or o (root_with [])).own) found ∙ ap (λ (f : Grown). length (scenario f.world s).own) view
