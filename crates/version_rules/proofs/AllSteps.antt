-- After each change that isn't refused the ids mean their cells, by a meaning that gives the new ids what the change made.
use Rattle.std.proofs.Common.{◌≡◌, ◌≢◌, ℕ, [], ◌∷◌, refl, sym, ◌∙◌, ap, subst, Bool, true, false}
use Rattle.std.specs.Prelude.{Some, None, unwrap_or, if◌then◌else◌, IsSome}
use Rattle.plan_schema.specs.declared.name.Name.{Name}
use Rattle.plan_schema.specs.declared.change.CellName.{CellName}
use Rattle.plan_schema.specs.declared.change.Change.{Change}
use Rattle.plan_schema.specs.declared.change.Change.TheVariants as changes
use Rattle.plan_schema.specs.Key.{name_eq}
use Rattle.plan_schema.specs.Contents.{Contents, cell_rows}
use Rattle.scenario_rules.specs.World.{OwnChanges, World, Scenario, root_with, is_root, scenario_at, scenario, with_scenario, without_scenario, parent_of, laid_over, contents_of, contents_in}
use Rattle.scenario_rules.specs.Steps.{with_changes, all_put, step}
use Rattle.scenario_rules.specs.Refused.{named, scenario_refusal}
use Rattle.scenario_rules.specs.Whole.{IsWhole}
use Rattle.scenario_rules.proofs.Wholeness.{one_name, scenario_is, here_after, there_after, others_after, gone_after}
use Rattle.scenario_rules.proofs.StepLaws.{named_there, passes, not_root}
use Rattle.version_rules.specs.Ids.{WorldIds, no_ids, are_about, joins_anew, with_changed_ids, contents_above, step_ids}
use Rattle.version_rules.specs.Meaning.{Meaning, AreScenarioMeant, AreWorldMeant, Give, some_rows, renewed_contents}
use Rattle.version_rules.proofs.StepMeans.{kept_itself, there, contents_after, changes_mean, update_means, commit_means, branch_means}

some_is : (rows : Contents) → rows ≢ [] → some_rows rows ≡ Some rows
some_is [] h = absurd (h refl)
some_is (row ∷ rows) h = refl

-- the new ids mean what the change made
abbrev pub GivesNew : Meaning → ℕ → Contents → Type 0
GivesNew m point made = (cell : CellName) → m (record { point = point; cell = cell }) ≡ some_rows (cell_rows made cell)

gives : (m : Meaning) (point : ℕ) (made contents : Contents) (renews : CellName → Bool) → GivesNew m point made → made ≡ contents → Give m point contents renews
gives m point made contents renews new is cell about some = new cell ∙ ap (λ c. some_rows (cell_rows c cell)) is ∙ some_is (cell_rows contents cell) some

is_there : (w : World) (user : Name) (change : Change) → scenario_refusal w user change ≡ None → IsSome (scenario_at w (named change))
is_there w user change h = let x = named_there w user change h in subst IsSome (sym x.1) refl

puts_mean : (m : Meaning) (point : ℕ) (w : World) (ids : WorldIds) (s : Name) (later : OwnChanges) → IsWhole w → IsSome (scenario_at w s) → AreWorldMeant m w ids → GivesNew m point (contents_in (with_changes w s later) s)
    → AreWorldMeant m (with_changes w s later) (with_changed_ids point w ids s later)
puts_mean m point w ids s later whole h meant new =
    changes_mean m m point w ids s later whole h meant (kept_itself m ids)
    (gives m point (contents_in (with_changes w s later) s) (laid_over (contents_in w s) later) (are_about later) new (contents_after w s later whole h))

-- the parent of a scenario that is updated or committed is there, and another
record Above (w : World) (s : Name) : Type 0 where
  there : IsSome (scenario_at w (parent_of (scenario w s)))
  another : name_eq (parent_of (scenario w s)) s ≡ false

above_is : (w : World) (s : Name) → IsWhole w → (x : Scenario) → scenario_at w s ≡ Some x → is_root s ≡ false → Above w s
above_is w s whole x at other =
    let p = whole.parents s x at other in
    let is : p.name ≡ parent_of (scenario w s) = sym (ap parent_of (scenario_is w s x at) ∙ ap (λ o. unwrap_or o []) p.is) in
    record { there = subst (λ n. IsSome (scenario_at w n)) is p.there; another = subst (λ n. name_eq n s ≡ false) is p.another }

pub step_means : (m : Meaning) (point : ℕ) (w : World) (user : Name) (ids : WorldIds) (change : Change) → IsWhole w → scenario_refusal w user change ≡ None → AreWorldMeant m w ids
    → GivesNew m point (renewed_contents w user change) → AreWorldMeant m (step w user change) (step_ids point w ids change)
step_means m point w user ids (changes.Put s key value) whole h meant new = puts_mean m point w ids s ((key, Some value) ∷ []) whole (is_there w user (changes.Put s key value) h) meant new
step_means m point w user ids (changes.Del s key) whole h meant new = puts_mean m point w ids s ((key, None) ∷ []) whole (is_there w user (changes.Del s key) h) meant new
step_means m point w user ids (changes.Load s rows) whole h meant new = puts_mean m point w ids s (all_put rows) whole (is_there w user (changes.Load s rows) h) meant new
step_means m point w user ids (changes.Branch s child) whole h meant new = branch_means m m point w user ids s child (is_there w user (changes.Branch s child) h) meant (kept_itself m ids)
step_means m point w user ids (changes.Share s) whole h meant new = λ q x is. by_cases q x is (name_eq q s) refl
  where
    by_cases : (q : Name) (x : Scenario) → scenario_at (step w user (changes.Share s)) q ≡ Some x → (t : Bool) → name_eq q s ≡ t → AreScenarioMeant m x (ids q)
    by_cases q x is true t =
        let same = one_name q s t in
        let found : Some (record (scenario w s) { private = false }) ≡ Some x = sym (here_after w s (record (scenario w s) { private = false })) ∙ ap (scenario_at (step w user (changes.Share s))) (sym same) ∙ is in
        let one : record (scenario w s) { private = false } ≡ x = ap (λ o. unwrap_or o x) found in
        let mine = meant s (scenario w s) (there w s (is_there w user (changes.Share s) h)) in
        let P : Scenario → Type 0 = λ z. AreScenarioMeant m z (ids q) in
        subst P one (subst (λ n. AreScenarioMeant m (record (scenario w s) { private = false }) (ids n)) (sym same) (record { base = mine.base; contents = mine.contents }))
    by_cases q x is false t = meant q x (sym (there_after w s (record (scenario w s) { private = false }) q t) ∙ is)
step_means m point w user ids (changes.Update s) whole h meant new =
    let x = named_there w user (changes.Update s) h in
    let other : is_root s ≡ false = not_root s (passes w user (changes.Update s) h).1.1.1.1.1.0 in
    let above = above_is w s whole x.0 x.1 other in
    let y : Scenario = record (scenario w s) { base = contents_in w (parent_of (scenario w s)) } in
    let made : contents_in (step w user (changes.Update s)) s ≡ contents_above w s = ap contents_of (scenario_is (with_scenario w s y) s y (here_after w s y)) in
    update_means m m point w user ids s whole (is_there w user (changes.Update s) h) above.there meant (kept_itself m ids)
    (gives m point (contents_in (step w user (changes.Update s)) s) (contents_above w s) (joins_anew (scenario w s).own (ids (parent_of (scenario w s))).contents (ids s)) new made)
step_means m point w user ids (changes.Commit s) whole h meant new =
    let x = named_there w user (changes.Commit s) h in
    let other : is_root s ≡ false = not_root s (passes w user (changes.Commit s) h).1.1.1.1.1.0 in
    let above = above_is w s whole x.0 x.1 other in
    let p = parent_of (scenario w s) in
    let after = with_changes w p (scenario w s).own in
    let y : Scenario = record (scenario w s) { base = contents_in after p; own = [] } in
    let made : contents_in (step w user (changes.Commit s)) p ≡ contents_above w s =
    ap (λ o. contents_of (unwrap_or o (root_with []))) (there_after after s y p above.another) ∙ contents_after w p (scenario w s).own whole above.there in
    commit_means m m point w user ids s whole (is_there w user (changes.Commit s) h) above.there meant (kept_itself m ids)
    (gives m point (contents_in (step w user (changes.Commit s)) p) (contents_above w s) (joins_anew (scenario w s).own (ids p).contents (ids s)) new made)
step_means m point w user ids (changes.Drop s) whole h meant new = λ q x is. by_cases q x is (name_eq q s) refl
  where
    by_cases : (q : Name) (x : Scenario) → scenario_at (without_scenario w s) q ≡ Some x → (t : Bool) → name_eq q s ≡ t → AreScenarioMeant m x (if name_eq q s then no_ids else ids q)
    by_cases q x is true t =
        let gone : None ≡ Some x = sym (gone_after w s whole) ∙ ap (scenario_at (without_scenario w s)) (sym (one_name q s t)) ∙ is in
        absurd (let no : ⊥ = cc in no)
    by_cases q x is false t =
        let P : Bool → Type 0 = λ b. AreScenarioMeant m x (if b then no_ids else ids q) in
        subst P (sym t) (meant q x (sym (others_after w s q t) ∙ is))
