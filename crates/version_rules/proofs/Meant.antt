-- Ids keep their meanings, and new ones get theirs: for the ids of one contents.
use Rattle.std.proofs.Common.{◌≡◌, ◌≢◌, ℕ, List, [], ◌∷◌, refl, sym, ◌∙◌, ap, subst, Bool, true, false, not, ◌&&◌}
use Rattle.std.specs.Prelude.{Option, Some, None, unwrap_or, if◌then◌else◌}
use Rattle.plan_schema.specs.declared.change.CellName.{CellName}
use Rattle.plan_schema.specs.Contents.{Contents, is_ordered, cell_rows}
use Rattle.scenario_rules.specs.World.{OwnChanges, Scenario, laid_over, contents_of}
use Rattle.record_versions.specs.declared.version.VersionId.{VersionId}
use Rattle.record_versions.specs.Versions.{id_cmp}
use Rattle.record_versions.proofs.Orders.{id_exact}
use Rattle.record_versions.proofs.Same.{is_same}
use Rattle.version_rules.specs.Ids.{CellIds, ScenarioIds, id_for, renewed, are_about, same_id, after_changes, joined_ids, joins_anew}
use Rattle.version_rules.specs.Meaning.{Meaning, IsMeant, AreMeant, AreScenarioMeant, Keep, Give}
use Rattle.version_rules.proofs.CellRows.{rows_not_about, rows_alike}

pub filled : {A : Type 0} (a : A) (more : List A) → (a ∷ more) ≢ []
filled a more h = let no : ⊥ = cc in no

pub meant_id : (m' : Meaning) (point : ℕ) (cell : CellName) (rows : Contents) → (rows ≢ [] → m' (record { point = point; cell = cell }) ≡ Some rows) → IsMeant m' cell rows (id_for point cell rows)
meant_id m' point cell [] h = refl
meant_id m' point cell (row ∷ rows) h = (h (filled row rows), refl, filled row rows)

pub meant_kept : (m m' : Meaning) (cell : CellName) (rows : Contents) (o : Option VersionId) → ((id : VersionId) → o ≡ Some id → m' id ≡ m id) → IsMeant m cell rows o → IsMeant m' cell rows o
meant_kept m m' cell rows None keep h = h
meant_kept m m' cell rows (Some id) keep h = (keep id refl ∙ h.0, h.1, h.2)

pub all_kept : (m m' : Meaning) (contents : Contents) (ids : CellIds) → Keep m m' ids → AreMeant m contents ids → AreMeant m' contents ids
all_kept m m' contents ids keep h = λ cell. meant_kept m m' cell (cell_rows contents cell) (ids cell) (keep cell) (h cell)

pub scenario_kept : (m m' : Meaning) (x : Scenario) (ids : ScenarioIds) → Keep m m' ids.base → Keep m m' ids.contents → AreScenarioMeant m x ids → AreScenarioMeant m' x ids
scenario_kept m m' x ids kb kc h =
    record { base = all_kept m m' x.base ids.base kb h.base; contents = all_kept m m' (contents_of x) ids.contents kc h.contents }

-- cells with equal ids have equal rows
pub rows_of_same : (m : Meaning) (cell : CellName) (rows others : Contents) (a b : Option VersionId) → IsMeant m cell rows a → IsMeant m cell others b → same_id a b ≡ true → rows ≡ others
rows_of_same m cell rows others None None h k s = h ∙ sym k
rows_of_same m cell rows others None (Some b) h k s = cc
rows_of_same m cell rows others (Some a) None h k s = cc
rows_of_same m cell rows others (Some a) (Some b) h k s =
    let one : a ≡ b = id_exact a b (is_same (id_cmp a b) s) in
    let both : Some rows ≡ Some others = sym h.0 ∙ ap m one ∙ k.0 in
    ap (λ o. unwrap_or o rows) both

-- after changes
pub after_means : (m m' : Meaning) (point : ℕ) (c : Contents) (later : OwnChanges) (ids : CellIds) → is_ordered c ≡ true → AreMeant m c ids → Keep m m' ids
    → Give m' point (laid_over c later) (are_about later) → AreMeant m' (laid_over c later) (after_changes point (laid_over c later) later ids)
after_means m m' point c later ids h meant keep give cell = by_cases (are_about later cell) refl
  where
    by_cases : (t : Bool) → are_about later cell ≡ t → IsMeant m' cell (cell_rows (laid_over c later) cell) (after_changes point (laid_over c later) later ids cell)
    by_cases true t =
        let P : Bool → Type 0 = λ b. IsMeant m' cell (cell_rows (laid_over c later) cell) (if b then renewed point (laid_over c later) cell else ids cell) in
        subst P (sym t) (meant_id m' point cell (cell_rows (laid_over c later) cell) (give cell t))
    by_cases false t =
        let P : Bool → Type 0 = λ b. IsMeant m' cell (cell_rows (laid_over c later) cell) (if b then renewed point (laid_over c later) cell else ids cell) in
        let Q : Contents → Type 0 = λ rows. IsMeant m' cell rows (ids cell) in
        subst P (sym t) (subst Q (sym (rows_not_about c later cell h t)) (all_kept m m' c ids keep meant cell))

-- what is to be shown of a cell, by whether the own changes are about it and whether the parent's id is the base's
abbrev JoinedGoal : Meaning → ℕ → Contents → CellIds → ScenarioIds → CellName → Bool → Bool → Type 0
JoinedGoal m' point laid above child cell t s = IsMeant m' cell (cell_rows laid cell) (if t then (if s then child.contents cell else renewed point laid cell) else above cell)

-- own changes over a parent's contents
pub joined_means : (m m' : Meaning) (point : ℕ) (a b : Contents) (own : OwnChanges) (above : CellIds) (child : ScenarioIds) → is_ordered a ≡ true → is_ordered b ≡ true
    → AreMeant m a above → AreMeant m b child.base → AreMeant m (laid_over b own) child.contents → Keep m m' above → Keep m m' child.contents
    → Give m' point (laid_over a own) (joins_anew own above child) → AreMeant m' (laid_over a own) (joined_ids point (laid_over a own) own above child)
joined_means m m' point a b own above child oa ob ma mb mc ka kc give cell = by_about (are_about own cell) refl
  where
    by_same : are_about own cell ≡ true → (s : Bool) → same_id (above cell) (child.base cell) ≡ s → JoinedGoal m' point (laid_over a own) above child cell true s
    by_same t true s =
        let alike : cell_rows a cell ≡ cell_rows b cell = rows_of_same m cell (cell_rows a cell) (cell_rows b cell) (above cell) (child.base cell) (ma cell) (mb cell) s in
        let Q : Contents → Type 0 = λ rows. IsMeant m' cell rows (child.contents cell) in
        subst Q (rows_alike b a own cell ob oa (sym alike)) (all_kept m m' (laid_over b own) child.contents kc mc cell)
    by_same t false s =
        let anew : joins_anew own above child cell ≡ true = λ i. t i && not (s i) in
        meant_id m' point cell (cell_rows (laid_over a own) cell) (give cell anew)

    by_about : (t : Bool) → are_about own cell ≡ t → JoinedGoal m' point (laid_over a own) above child cell (are_about own cell) (same_id (above cell) (child.base cell))
    by_about true t =
        let P : Bool → Type 0 = λ q. JoinedGoal m' point (laid_over a own) above child cell q (same_id (above cell) (child.base cell)) in
        subst P (sym t) (by_same t (same_id (above cell) (child.base cell)) refl)
    by_about false t =
        let P : Bool → Type 0 = λ q. JoinedGoal m' point (laid_over a own) above child cell q (same_id (above cell) (child.base cell)) in
        let Q : Contents → Type 0 = λ rows. IsMeant m' cell rows (above cell) in
        subst P (sym t) (subst Q (sym (rows_not_about a own cell oa t)) (all_kept m m' a above ka ma cell))
