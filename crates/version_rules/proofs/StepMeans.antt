-- After a change that isn't refused the ids mean the cells that they are ids of, where they did so before.
use Rattle.std.proofs.Common.{◌≡◌, ℕ, [], ◌∷◌, refl, sym, ◌∙◌, ap, subst, Bool, true, false}
use Rattle.std.specs.Prelude.{Option, Some, None, if◌then◌else◌, IsSome}
use Rattle.std.specs.FinMap.{is_sorted}
use Rattle.std.specs.BTreeMap.{insert_entry}
use Rattle.plan_schema.specs.declared.name.Name.{Name}
use Rattle.plan_schema.specs.declared.change.Change.TheVariants as changes
use Rattle.plan_schema.specs.Key.{name_eq, key_cmp}
use Rattle.plan_schema.specs.Contents.{Contents, is_ordered}
use Rattle.scenario_rules.specs.World.{OwnChanges, World, Scenario, root_with, is_root, scenario_at, scenario, with_scenario, parent_of, laid_over, contents_of, contents_in}
use Rattle.scenario_rules.specs.Steps.{joined, with_changes, step}
use Rattle.scenario_rules.specs.Whole.{IsWhole}
use Rattle.scenario_rules.proofs.Maps.{sorted_insert}
use Rattle.scenario_rules.proofs.Keys.{key_total}
use Rattle.scenario_rules.proofs.Wholeness.{one_name, same_scenario, here_after, there_after, scenario_is, root_is}
use Rattle.version_rules.specs.Ids.{CellIds, ScenarioIds, WorldIds, are_about, after_changes, joins_anew, with_ids, with_contents_ids, with_changed_ids, contents_above, ids_above, step_ids}
use Rattle.version_rules.specs.Meaning.{Meaning, AreMeant, AreScenarioMeant, AreWorldMeant, Keep, Give}
use Rattle.version_rules.proofs.CellRows.{laid_insert, ordered_laid}
use Rattle.version_rules.proofs.Meant.{all_kept, scenario_kept, after_means, joined_means}

-- all ids of a world mean the same by both meanings
pub record KeepAll (m m' : Meaning) (ids : WorldIds) : Type 0 where
  pub base : (s : Name) → Keep m m' (ids s).base
  pub contents : (s : Name) → Keep m m' (ids s).contents

pub laid_joined : (c : Contents) (own later : OwnChanges) → is_ordered c ≡ true → is_sorted key_cmp own ≡ true → laid_over c (joined own later) ≡ laid_over (laid_over c own) later
laid_joined c own [] h s = refl
laid_joined c own (change ∷ later) h s =
    let more = sorted_insert key_total change.0 change.1 own s in
    laid_joined c (insert_entry key_cmp own change.0 change.1) later h more ∙ ap (λ under. laid_over under later) (laid_insert c own change.0 change.1 h s more)

-- another scenario under a name
pub with_means : (m m' : Meaning) (w : World) (ids : WorldIds) (s : Name) (y : Scenario) (new : ScenarioIds) → AreWorldMeant m w ids → KeepAll m m' ids → AreScenarioMeant m' y new
    → AreWorldMeant m' (with_scenario w s y) (with_ids ids s new)
with_means m m' w ids s y new meant keep here q x is = by_cases (name_eq q s) refl
  where
    by_cases : (t : Bool) → name_eq q s ≡ t → AreScenarioMeant m' x (if name_eq q s then new else ids q)
    by_cases true t =
        let P : Bool → Type 0 = λ b. AreScenarioMeant m' x (if b then new else ids q) in
        let found : Some y ≡ Some x = sym (here_after w s y) ∙ ap (scenario_at (with_scenario w s y)) (sym (one_name q s t)) ∙ is in
        let Q : Scenario → Type 0 = λ z. AreScenarioMeant m' z new in
        subst P (sym t) (subst Q (same_scenario y x found) here)
    by_cases false t =
        let P : Bool → Type 0 = λ b. AreScenarioMeant m' x (if b then new else ids q) in
        subst P (sym t) (scenario_kept m m' x (ids q) (keep.base q) (keep.contents q) (meant q x (sym (there_after w s y q t) ∙ is)))

pub kept_itself : (m : Meaning) (ids : WorldIds) → KeepAll m m ids
kept_itself m ids = record { base = λ s cell id h. refl; contents = λ s cell id h. refl }

-- a scenario after changes: the root in its base, any other among its own
abbrev pub changed_scenario_of : Name → Scenario → OwnChanges → Scenario
changed_scenario_of s x later = if is_root s then record x { base = laid_over x.base later } else record x { own = joined x.own later }

abbrev pub IsRoot : Name → Scenario → Type 0
IsRoot s x = is_root s ≡ true → (c : Contents) × (x ≡ root_with c)

-- its contents are the old ones with the changes laid over them
pub shows_changes : (s : Name) (x : Scenario) (later : OwnChanges) → IsRoot s x → is_ordered x.base ≡ true → is_sorted key_cmp x.own ≡ true
    → contents_of (changed_scenario_of s x later) ≡ laid_over (contents_of x) later
shows_changes s x later root ordered sorted = by_cases (is_root s) refl
  where
    by_cases : (t : Bool) → is_root s ≡ t → contents_of (changed_scenario_of s x later) ≡ laid_over (contents_of x) later
    by_cases true t =
        let is = root t in
        let P : Scenario → Type 0 = λ z. contents_of (record z { base = laid_over z.base later }) ≡ laid_over (contents_of z) later in
        ap (λ b. contents_of (if b then record x { base = laid_over x.base later } else record x { own = joined x.own later })) t ∙ subst P (sym is.1) refl
    by_cases false t =
        ap (λ b. contents_of (if b then record x { base = laid_over x.base later } else record x { own = joined x.own later })) t ∙ laid_joined x.base x.own later ordered sorted

pub scenario_changes : (m m' : Meaning) (s : Name) (x : Scenario) (later : OwnChanges) (i : ScenarioIds) (new : CellIds) → IsRoot s x → is_ordered x.base ≡ true → is_sorted key_cmp x.own ≡ true
    → AreScenarioMeant m x i → Keep m m' i.base → AreMeant m' (laid_over (contents_of x) later) new
    → AreScenarioMeant m' (changed_scenario_of s x later) (record { base = if is_root s then new else i.base; contents = new })
scenario_changes m m' s x later i new root ordered sorted meant keep means =
    record { base = by_cases (is_root s) refl; contents = subst (λ c. AreMeant m' c new) (sym (shows_changes s x later root ordered sorted)) means }
  where
    by_cases : (t : Bool) → is_root s ≡ t → AreMeant m' (changed_scenario_of s x later).base (if is_root s then new else i.base)
    by_cases true t =
        let P : Bool → Type 0 = λ b. AreMeant m' (if b then record x { base = laid_over x.base later } else record x { own = joined x.own later }).base (if b then new else i.base) in
        let Q : Scenario → Type 0 = λ z. AreMeant m' (laid_over (contents_of z) later) new → AreMeant m' (laid_over z.base later) new in
        subst P (sym t) (subst Q (sym (root t).1) (λ h. h) means)
    by_cases false t =
        let P : Bool → Type 0 = λ b. AreMeant m' (if b then record x { base = laid_over x.base later } else record x { own = joined x.own later }).base (if b then new else i.base) in
        subst P (sym t) (all_kept m m' x.base i.base keep meant.base)

-- the scenario of a name that is there
pub there : (w : World) (s : Name) → IsSome (scenario_at w s) → scenario_at w s ≡ Some (scenario w s)
there w s h = by_cases (scenario_at w s) refl h
  where
    by_cases : (o : Option Scenario) → scenario_at w s ≡ o → IsSome o → scenario_at w s ≡ Some (scenario w s)
    by_cases None e h = cc
    by_cases (Some x) e h = e ∙ ap Some (sym (scenario_is w s x e))

pub contents_after : (w : World) (s : Name) (later : OwnChanges) → IsWhole w → IsSome (scenario_at w s) → contents_in (with_changes w s later) s ≡ laid_over (contents_in w s) later
contents_after w s later whole h =
    let x = scenario w s in
    let at = there w s h in
    let each = whole.each s x at in
    let y = changed_scenario_of s x later in
    ap contents_of (scenario_is (with_scenario w s y) s y (here_after w s y)) ∙ shows_changes s x later (λ t. root_is w s x whole at t) each.base.ordered each.own.ordered

-- PUT, DEL and LOAD
pub changes_mean : (m m' : Meaning) (point : ℕ) (w : World) (ids : WorldIds) (s : Name) (later : OwnChanges) → IsWhole w → IsSome (scenario_at w s) → AreWorldMeant m w ids → KeepAll m m' ids
    → Give m' point (laid_over (contents_in w s) later) (are_about later) → AreWorldMeant m' (with_changes w s later) (with_changed_ids point w ids s later)
changes_mean m m' point w ids s later whole h meant keep give =
    let x = scenario w s in
    let at = there w s h in
    let each = whole.each s x at in
    let mine = meant s x at in
    let means = after_means m m' point (contents_in w s) later (ids s).contents (ordered_laid x.base x.own each.base.ordered) mine.contents (keep.contents s) give in
    let P : Contents → Type 0 = λ c. AreMeant m' (laid_over (contents_in w s) later) (after_changes point c later (ids s).contents) in
    let means' = subst P (sym (contents_after w s later whole h)) means in
    let new = after_changes point (contents_in (with_changes w s later) s) later (ids s).contents in
    with_means m m' w ids s (changed_scenario_of s x later) (record { base = if is_root s then new else (ids s).base; contents = new }) meant keep
    (scenario_changes m m' s x later (ids s) new (λ t. root_is w s x whole at t) each.base.ordered each.own.ordered mine (keep.base s) means')

-- what own changes over the parent's contents mean
above_means : (m m' : Meaning) (point : ℕ) (w : World) (ids : WorldIds) (s : Name) → IsWhole w → IsSome (scenario_at w s) → IsSome (scenario_at w (parent_of (scenario w s))) → AreWorldMeant m w ids
    → KeepAll m m' ids → Give m' point (contents_above w s) (joins_anew (scenario w s).own (ids (parent_of (scenario w s))).contents (ids s)) → AreMeant m' (contents_above w s) (ids_above point w ids s)
above_means m m' point w ids s whole h k meant keep give =
    let x = scenario w s in
    let p = parent_of x in
    let z = scenario w p in
    let each = whole.each s x (there w s h) in
    let other = whole.each p z (there w p k) in
    let mine = meant s x (there w s h) in
    let its = meant p z (there w p k) in
    joined_means m m' point (contents_in w p) x.base x.own (ids p).contents (ids s) (ordered_laid z.base z.own other.base.ordered) each.base.ordered its.contents mine.base mine.contents
    (keep.contents p) (keep.contents s) give

pub update_means : (m m' : Meaning) (point : ℕ) (w : World) (user : Name) (ids : WorldIds) (s : Name) → IsWhole w → IsSome (scenario_at w s) → IsSome (scenario_at w (parent_of (scenario w s))) → AreWorldMeant m w ids
    → KeepAll m m' ids → Give m' point (contents_above w s) (joins_anew (scenario w s).own (ids (parent_of (scenario w s))).contents (ids s))
    → AreWorldMeant m' (step w user (changes.Update s)) (step_ids point w ids (changes.Update s))
update_means m m' point w user ids s whole h k meant keep give =
    let x = scenario w s in
    let p = parent_of x in
    let its = meant p (scenario w p) (there w p k) in
    with_means m m' w ids s (record x { base = contents_in w p }) (record { base = (ids p).contents; contents = ids_above point w ids s }) meant keep
    (record { base = all_kept m m' (contents_in w p) (ids p).contents (keep.contents p) its.contents; contents = above_means m m' point w ids s whole h k meant keep give })

pub commit_means : (m m' : Meaning) (point : ℕ) (w : World) (user : Name) (ids : WorldIds) (s : Name) → IsWhole w → IsSome (scenario_at w s) → IsSome (scenario_at w (parent_of (scenario w s))) → AreWorldMeant m w ids
    → KeepAll m m' ids → Give m' point (contents_above w s) (joins_anew (scenario w s).own (ids (parent_of (scenario w s))).contents (ids s))
    → AreWorldMeant m' (step w user (changes.Commit s)) (step_ids point w ids (changes.Commit s))
commit_means m m' point w user ids s whole h k meant keep give =
    let x = scenario w s in
    let p = parent_of x in
    let z = scenario w p in
    let at = there w p k in
    let each = whole.each p z at in
    let its = meant p z at in
    let new = ids_above point w ids s in
    let means = above_means m m' point w ids s whole h k meant keep give in
    let y = changed_scenario_of p z x.own in
    let given = with_scenario w p y in
    let first = with_means m m' w ids p y (record { base = if is_root p then new else (ids p).base; contents = new }) meant keep
    (scenario_changes m m' p z x.own (ids p) new (λ t. root_is w p z whole at t) each.base.ordered each.own.ordered its (keep.base p) means) in
    let joined_contents = subst (λ c. AreMeant m' c new) (sym (contents_after w p x.own whole k)) means in
    with_means m' m' given (with_contents_ids ids p new) s (record x { base = contents_in given p; own = [] }) (record { base = new; contents = new }) first (kept_itself m' (with_contents_ids ids p new))
    (record { base = joined_contents; contents = joined_contents })

pub branch_means : (m m' : Meaning) (point : ℕ) (w : World) (user : Name) (ids : WorldIds) (s child : Name) → IsSome (scenario_at w s) → AreWorldMeant m w ids → KeepAll m m' ids
    → AreWorldMeant m' (step w user (changes.Branch s child)) (step_ids point w ids (changes.Branch s child))
branch_means m m' point w user ids s child h meant keep =
    let mine = all_kept m m' (contents_in w s) (ids s).contents (keep.contents s) (meant s (scenario w s) (there w s h)).contents in
    with_means m m' w ids child (record { parent = Some s; owner = Some user; private = true; base = contents_in w s; own = [] }) (record { base = (ids s).contents; contents = (ids s).contents }) meant keep
    (record { base = mine; contents = mine })
