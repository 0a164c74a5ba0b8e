-- Sets of ids that are collected scenario by scenario.
use Rattle.std.proofs.Common.{◌≡◌, ℕ, zero, suc, ◌+◌, ◌<◌, ◌≤◌, List, [], ◌∷◌, length, refl, sym, ◌∙◌, ap, subst, Bool, true, false, cond, inl, inr, arith}
use Rattle.std.specs.Prelude.{Option, Some, None, IsSome, is_some, unwrap_or}
use Rattle.std.specs.Option.{option_map}
use Rattle.std.specs.List.{slice_get}
use Rattle.std.specs.Ordering.{is_eq}
use Rattle.std.specs.Cmp.{tied_itself}
use Rattle.std.proofs.lemmas.Bool.{cases_lt}
use Rattle.std.proofs.lemmas.Option.{slice_get_within}
use Rattle.plan_schema.specs.declared.name.Name.{Name}
use Rattle.plan_schema.specs.declared.change.CellName.{CellName}
use Rattle.plan_schema.specs.Key.{name_cmp}
use Rattle.scenario_rules.specs.World.{World, Scenario, scenario_at}
use Rattle.scenario_rules.proofs.Keys.{name_total, name_exact}
use Rattle.record_versions.specs.declared.version.VersionId.{VersionId}
use Rattle.record_versions.specs.Versions.{IdList, id_at, has_id, are_ordered_ids}
use Rattle.record_versions.proofs.Same.{is_same}
use Rattle.version_rules.specs.Ids.{ScenarioIds, side_ids, no_ids, IsLive}
use Rattle.scenario_merge.specs.declared.forest.TreeRow.{TreeRow}
use Rattle.scenario_merge.specs.Grown.{Grown, ids_in}
use Rattle.scenario_merge.specs.Tree.{tree_row}
use Rattle.version_reclaim.specs.Live.{IsIdOf, IsLiveIn, AreLive}
use Rattle.version_reclaim.specs.Collected.{IsWithIds, IsWithScenario}
use Rattle.version_reclaim.proofs.SetLaws.{listed_at, at_listed}

-- the ids of a base and of contents, put one after the other
module _ (ids : ScenarioIds) (base contents : IdList) (base_is : (cell : CellName) → id_at base cell ≡ ids.base cell) (contents_are : (cell : CellName) → id_at contents cell ≡ ids.contents cell)
    (old mid new : List VersionId) (first : IsWithIds base old mid) (then : IsWithIds contents mid new) where
  side_put : (of_base : Bool) (cell : CellName) (id : VersionId) → side_ids of_base ids cell ≡ Some id → has_id new id ≡ true
  side_put true cell id h = then.kept id (first.put id (listed_at base cell id (base_is cell ∙ h)))
  side_put false cell id h = then.put id (listed_at contents cell id (contents_are cell ∙ h))

  pub both_put : are_ordered_ids base ≡ true → are_ordered_ids contents ≡ true → IsWithScenario ids old new
  both_put base_ordered contents_ordered = record {
    kept = λ id h. then.kept id (first.kept id h);
    put = λ id of_it. side_put of_it.of_base of_it.cell id of_it.has;
    alone = λ id h. elim (then.alone id h) [
      | inl before ↦ elim (first.alone id before) [
        | inl earlier ↦ inl earlier
        | inr listed ↦ let based = at_listed base id base_ordered listed in inr (record { cell = based.0; of_base = true; has = sym (base_is based.0) ∙ based.1 })
      ]
      | inr listed ↦ let held = at_listed contents id contents_ordered listed in inr (record { cell = held.0; of_base = false; has = sym (contents_are held.0) ∙ held.1 })
    ];
  }

-- the scenario whose row stands at a place
pub row_of : (w : World) (place : ℕ) (row : TreeRow) → Some row ≡ option_map tree_row (slice_get w place) → (x : Scenario) × (slice_get w place ≡ Some (row.name, x))
row_of w place row h = by_cases (slice_get w place) refl h
  where
    by_cases : (o : Option (Name × Scenario)) → slice_get w place ≡ o → Some row ≡ option_map tree_row o → (x : Scenario) × (slice_get w place ≡ Some (row.name, x))
    by_cases None e k = absurd (let no : ⊥ = cc in no)
    by_cases (Some entry) e k = let same = ap (λ (o : Option TreeRow). (unwrap_or o row).name) k in (entry.1, e ∙ (λ i. Some (sym same i, entry.1)))

-- a scenario that stands at a place is there
pub there_at : (w : World) (place : ℕ) (s : Name) (x : Scenario) → slice_get w place ≡ Some (s, x) → IsSome (scenario_at w s)
there_at [] place s x h = absurd (let no : ⊥ = cc in no)
there_at (e ∷ w) zero s x h =
    let first : e.0 ≡ s = ap (λ (o : Option (Name × Scenario)). (unwrap_or o e).0) h in
    subst (λ (k : Name). IsSome (scenario_at (e ∷ w) k)) first (subst IsSome (sym (ap (λ r. cond (is_eq r) (Some e.1) (scenario_at w e.0)) (tied_itself name_total e.0))) refl)
there_at (e ∷ w) (suc place) s x h = by_cases (there_at w place s x h) (is_eq (name_cmp s e.0)) refl
  where
    by_cases : IsSome (scenario_at w s) → (t : Bool) → is_eq (name_cmp s e.0) ≡ t → IsSome (scenario_at (e ∷ w) s)
    by_cases later true t = subst IsSome (sym (ap (λ b. cond b (Some e.1) (scenario_at w s)) t)) refl
    by_cases later false t = subst IsSome (sym (ap (λ b. cond b (Some e.1) (scenario_at w s)) t)) later

-- one that is there stands at a place
pub place_of : (w : World) (s : Name) → IsSome (scenario_at w s) → (place : ℕ) × ((x : Scenario) × (slice_get w place ≡ Some (s, x)))
place_of [] s h = absurd (let no : ⊥ = cc in no)
place_of (e ∷ w) s h = by_cases (place_of w s) (is_eq (name_cmp s e.0)) refl
  where
    by_cases : (IsSome (scenario_at w s) → (place : ℕ) × ((x : Scenario) × (slice_get w place ≡ Some (s, x)))) → (t : Bool) → is_eq (name_cmp s e.0) ≡ t → (place : ℕ) × ((x : Scenario) × (slice_get (e ∷ w) place ≡ Some (s, x)))
    by_cases later true t = let same = name_exact s e.0 (is_same (name_cmp s e.0) t) in (zero, (e.1, λ i. Some (sym same i, e.1)))
    by_cases later false t = let rest = later (subst IsSome (ap (λ b. cond b (Some e.1) (scenario_at w s)) t) h) in (suc rest.0, rest.1)

-- a set has the ids of the scenarios before a place, and only live ones
pub record IsCollected (forest : Grown) (place : ℕ) (set : List VersionId) : Type 0 where
  pub all : (k : ℕ) (s : Name) (x : Scenario) → k < place → slice_get forest.world k ≡ Some (s, x) → (id : VersionId) → IsIdOf (ids_in forest s) id → has_id set id ≡ true
  pub alone : (id : VersionId) → has_id set id ≡ true → IsLiveIn forest id

pub none_collected : (forest : Grown) → IsCollected forest 0 []
none_collected forest = record { all = λ k s x less. absurd (omega arith); alone = λ id h. absurd (let no : ⊥ = cc in no) }

pub one_collected : (forest : Grown) (place : ℕ) (old new : List VersionId) (s : Name) (x : Scenario) → slice_get forest.world place ≡ Some (s, x) → IsCollected forest place old → IsWithScenario (ids_in forest s) old new → IsCollected forest (place + 1) new
one_collected forest place old new s x at before with_it = record { all = all; alone = alone }
  where
    here : (k : ℕ) (r : Name) (y : Scenario) → k ≡ place → slice_get forest.world k ≡ Some (r, y) → s ≡ r
    here k r y same found = ap (λ (o : Option (Name × Scenario)). (unwrap_or o (s, x)).0) (sym at ∙ ap (slice_get forest.world) (sym same) ∙ found)

    all : (k : ℕ) (r : Name) (y : Scenario) → k < place + 1 → slice_get forest.world k ≡ Some (r, y) → (id : VersionId) → IsIdOf (ids_in forest r) id → has_id new id ≡ true
    all k r y less found id of_it = elim (cases_lt k place) [
      | inl earlier ↦ with_it.kept id (before.all k r y earlier found id of_it)
      | inr later ↦ with_it.put id (subst (λ (n : Name). IsIdOf (ids_in forest n) id) (sym (here k r y (omega arith) found)) of_it)
    ]

    alone : (id : VersionId) → has_id new id ≡ true → IsLiveIn forest id
    alone id h = elim (with_it.alone id h) [
      | inl earlier ↦ before.alone id earlier
      | inr of_it ↦ record { scenario = s; there = there_at forest.world place s x at; of_it = of_it }
    ]

pub all_collected : (forest : Grown) (place : ℕ) (set : List VersionId) → length forest.world ≤ place → IsCollected forest place set → AreLive forest set
all_collected forest place set whole collected = record { all = all; alone = collected.alone }
  where
    all : (id : VersionId) → IsLiveIn forest id → has_id set id ≡ true
    all id live =
        let found = place_of forest.world live.scenario live.there in
        let within : found.0 < length forest.world = slice_get_within forest.world found.0 (live.scenario, found.1.0) found.1.1 in
        collected.all found.0 live.scenario found.1.0 (omega arith) found.1.1 id live.of_it

-- a set that has the ids of a list
pub live_as : (forest : Grown) (list set : List VersionId) → ((id : VersionId) → has_id set id ≡ has_id list id) → AreLive forest list → AreLive forest set
live_as forest list set same live = record { all = λ id is_live. same id ∙ live.all id is_live; alone = λ id h. live.alone id (sym (same id) ∙ h) }

-- where a scenario that isn't there has no ids, a live id is one of a scenario that is there
pub live_there : (forest : Grown) → ((s : Name) → scenario_at forest.world s ≡ None → ids_in forest s ≡ no_ids) → (id : VersionId) → IsLive (ids_in forest) id → IsLiveIn forest id
live_there forest gone id live = record { scenario = live.scenario; there = by_cases (scenario_at forest.world live.scenario) refl; of_it = record { cell = live.cell; of_base = live.of_base; has = live.has } }
  where
    no_side : (of_base : Bool) (cell : CellName) → side_ids of_base no_ids cell ≡ None
    no_side true cell = refl
    no_side false cell = refl

    by_cases : (o : Option Scenario) → scenario_at forest.world live.scenario ≡ o → IsSome (scenario_at forest.world live.scenario)
    by_cases None e =
        let none : side_ids live.of_base (ids_in forest live.scenario) live.cell ≡ None = ap (λ (ids : ScenarioIds). side_ids live.of_base ids live.cell) (gone live.scenario e) ∙ no_side live.of_base live.cell in
        let has = live.has in
        absurd (let no : ⊥ = cc in no)
    by_cases (Some x) e = ap is_some e
