-- What the changes do that the scenarios don't refuse.
use Rattle.std.proofs.Common.{◌≡◌, List, [], ◌∷◌, refl, sym, ◌∙◌, ap, subst, Bool, true, false, cond, ◌&&◌, ℕ, ◌<◌, ◌≤◌, arith, ◌||◌}
use Rattle.std.specs.Prelude.{Option, Some, None, is_some, is_none, unwrap_or, length, nat_le, nat_lt, IsSome}
use Rattle.std.proofs.lemmas.Bool.Decides.{nat_tests}
use Rattle.std.specs.List.{list_any, list_all, AllByRecursion}
use Rattle.std.specs.FinMap.{is_sorted}
use Rattle.plan_schema.specs.declared.name.Name.{Name}
use Rattle.plan_schema.specs.declared.key.Key.{Key}
use Rattle.plan_schema.specs.declared.key.Record.{Record}
use Rattle.plan_schema.specs.declared.change.Change.{Change}
use Rattle.plan_schema.specs.declared.change.Change.TheVariants as changes
use Rattle.plan_schema.specs.declared.refusal.Refusal.{Refusal}
use Rattle.plan_schema.specs.declared.refusal.Refusal.TheVariants as refusals
use Rattle.plan_schema.specs.declared.refusal.Room.TheVariants as rooms
use Rattle.plan_schema.specs.Name.{is_name}
use Rattle.plan_schema.specs.Key.{name_eq, key_cmp}
use Rattle.plan_schema.specs.Contents.{record_at}
use Rattle.plan_schema.specs.Sound.{is_sound_row, are_sound_rows}
use Rattle.plan_schema.specs.Refusals.{first_of, where_so}
use Rattle.plan_schema.specs.Base.{part_count}
use Rattle.scenario_rules.specs.World.{OwnChanges, Scenario, World, root, is_root, root_with, scenario_at, scenario, with_scenario, parent_of, is_child_of, laid_over, contents_of, contents_in}
use Rattle.scenario_rules.specs.Steps.{joined, with_changes, all_put, step}
use Rattle.scenario_rules.specs.Refused.{named, no_scenario, changed_contents, change_rules, scenario_refusal}
use Rattle.scenario_rules.specs.Whole.{AreWithinLimits, is_sound_own, IsWholeScenario, HasParent, IsWhole}
use Rattle.scenario_rules.specs.Laws.{StepLeavesOthers, DropIsGone, DropLeavesOthers, shown, UpdateShowsParent, CommitJoins, CommitKeepsOthers, StepKeepsWhole}
use Rattle.scenario_rules.proofs.Maps.{both_parts, both_so}
use Rattle.scenario_rules.proofs.LaidOver.{shows_laid, ordered_joined, shows_joined, sound_puts}
use Rattle.scenario_rules.proofs.Wholeness.{one_name, flipped, here_after, there_after, gone_after, others_after, put_whole, drop_whole, whole_contents, scenario_is, root_is, one_more, as_many, changes_whole}

-- a name that is none of one or of two
not_first : (a b : Bool) → (a || b) ≡ false → (a ≡ false) × (b ≡ false)
not_first true b h = cc
not_first false b h = (refl, h)

pub step_leaves_others : StepLeavesOthers
step_leaves_others w user (changes.Put s key value) other h = there_after w s _ other (not_first (name_eq other s) false h).0
step_leaves_others w user (changes.Del s key) other h = there_after w s _ other (not_first (name_eq other s) false h).0
step_leaves_others w user (changes.Load s rows) other h = there_after w s _ other (not_first (name_eq other s) false h).0
step_leaves_others w user (changes.Branch s child) other h = there_after w child _ other (not_first (name_eq other child) false h).0
step_leaves_others w user (changes.Share s) other h = there_after w s _ other (not_first (name_eq other s) false h).0
step_leaves_others w user (changes.Update s) other h = there_after w s _ other (not_first (name_eq other s) false h).0
step_leaves_others w user (changes.Commit s) other h =
    let p = parent_of (scenario w s) in
    let two = not_first (name_eq other s) (name_eq other p || false) h in
    there_after (with_changes w p (scenario w s).own) s _ other two.0 ∙ there_after w p _ other (not_first (name_eq other p) false two.1).0
step_leaves_others w user (changes.Drop s) other h = others_after w s other (not_first (name_eq other s) false h).0

pub drop_is_gone : DropIsGone
drop_is_gone w user s whole = gone_after w s whole

pub drop_leaves_others : DropLeavesOthers
drop_leaves_others w user s other h = others_after w s other h

-- where the first refusal of a list is none, each is
none_of : (os : List (Option Refusal)) → first_of os ≡ None → AllByRecursion (λ o. o ≡ None) os
none_of [] h = tt
none_of (None ∷ os) h = (refl, none_of os h)
none_of (Some r ∷ os) h = cc

pub passes : (w : World) (user : Name) (change : Change) → scenario_refusal w user change ≡ None → AllByRecursion (λ o. o ≡ None) (change_rules w user change)
passes w user change h = none_of (change_rules w user change) h

pub not_so : (b : Bool) (r : Refusal) → where_so b r ≡ None → b ≡ false
not_so true r h = cc
not_so false r h = refl

is_there : {A : Type 0} (o : Option A) → is_none o ≡ false → (x : A) × (o ≡ Some x)
is_there None h = cc
is_there (Some x) h = (x, refl)

is_absent : {A : Type 0} (o : Option A) → is_some o ≡ false → o ≡ None
is_absent None h = refl
is_absent (Some x) h = cc

found : {A : Type 0} (o : Option A) → is_some o ≡ true → (x : A) × (o ≡ Some x)
found None h = cc
found (Some x) h = (x, refl)

pub clash : {A : Type 0} → true ≡ false → A
clash h = absurd (no_such h)
  where
    no_such : true ≡ false → ⊥
    no_such h = cc

some_is_none : {A B : Type 0} (x : A) → Some x ≡ None → B
some_is_none x h = absurd (no_such h)
  where
    no_such : Some x ≡ None → ⊥
    no_such h = cc

-- the named scenario is there
pub named_there : (w : World) (user : Name) (change : Change) → scenario_refusal w user change ≡ None → (x : Scenario) × (scenario_at w (named change) ≡ Some x)
named_there w user change h =
    let first : no_scenario w (named change) ≡ None = (passes w user change h).0 in
    is_there (scenario_at w (named change)) (not_so (is_none (scenario_at w (named change))) (refusals.NoScenario (named change)) first)

pub not_root : (s : Name) → where_so (is_root s) (refusals.Root s) ≡ None → is_root s ≡ false
not_root s h = not_so (is_root s) (refusals.Root s) h

-- an update, and a commit, of a scenario x that is there with a parent p
abbrev updated : World → Name → Scenario → Name → World
updated w s x p = with_scenario w s (record x { base = contents_in w p })

abbrev committed : World → Name → Scenario → Name → World
committed w s x p = with_scenario (with_changes w p x.own) s (record x { base = contents_in (with_changes w p x.own) p; own = [] })

parent_is : (w : World) (s : Name) (x : Scenario) → scenario_at w s ≡ Some x → (p : HasParent w s x) → parent_of (scenario w s) ≡ p.name
parent_is w s x e p = ap parent_of (scenario_is w s x e) ∙ ap (λ o. unwrap_or o []) p.is

update_is : (w : World) (user s : Name) (x : Scenario) → scenario_at w s ≡ Some x → (p : HasParent w s x) → step w user (changes.Update s) ≡ updated w s x p.name
update_is w user s x e p = λ i. updated w s (scenario_is w s x e i) (parent_is w s x e p i)

commit_is : (w : World) (user s : Name) (x : Scenario) → scenario_at w s ≡ Some x → (p : HasParent w s x) → step w user (changes.Commit s) ≡ committed w s x p.name
commit_is w user s x e p = λ i. committed w s (scenario_is w s x e i) (parent_is w s x e p i)

-- after a commit the parent holds what it held with the own changes
parent_after : (w : World) (s : Name) (x : Scenario) (p : HasParent w s x) → contents_in (committed w s x p.name) p.name ≡ contents_in (with_changes w p.name x.own) p.name
parent_after w s x p =
    let given = with_changes w p.name x.own in
    ap (λ o. contents_of (unwrap_or o (root_with []))) (there_after given s (record x { base = contents_in given p.name; own = [] }) p.name p.another)

-- a change that isn't refused keeps within the limits
at_most : (n most : ℕ) → nat_lt most n ≡ false → n ≤ most
at_most n most h = grind (arith, nat_tests)

within : (w : World) (user : Name) (change : Change) → scenario_refusal w user change ≡ None → AreWithinLimits (changed_contents w user change)
within w user change h =
    let each = passes w user change h in
    let contents = changed_contents w user change in
    record {
      parts = at_most (part_count contents) 10_000 (not_so (nat_lt 10_000 (part_count contents)) (refusals.Full rooms.Parts) each.1.1.1.1.1.1.1.1.1.1.1.0);
      records = at_most (length contents) 200_000 (not_so (nat_lt 200_000 (length contents)) (refusals.Full rooms.Records) each.1.1.1.1.1.1.1.1.1.1.1.1.0);
    }

-- what a commit finds in a whole world: the scenario, its parent, and the world after the parent took the own changes
record Committing (w : World) (s : Name) : Type 0 where
  x : Scenario
  is : scenario_at w s ≡ Some x
  whole : IsWholeScenario x
  parent : HasParent w s x
  above : Scenario
  above_is : scenario_at w parent.name ≡ Some above
  limits : AreWithinLimits (contents_in (with_changes w parent.name x.own) parent.name)
  given : IsWhole (with_changes w parent.name x.own)

committing : (w : World) (user s : Name) → IsWhole w → scenario_refusal w user (changes.Commit s) ≡ None → Committing w s
committing w user s whole h =
    let x = named_there w user (changes.Commit s) h in
    let other : is_root s ≡ false = not_root s (passes w user (changes.Commit s) h).1.1.1.1.1.0 in
    let parent = whole.parents s x.0 x.1 other in
    let above = found (scenario_at w parent.name) parent.there in
    let it = whole.each s x.0 x.1 in
    let held : changed_contents w user (changes.Commit s) ≡ contents_in (with_changes w parent.name x.0.own) parent.name =
    (λ i. contents_in (commit_is w user s x.0 x.1 parent i) (parent_is w s x.0 x.1 parent i)) ∙ parent_after w s x.0 parent in
    let limits = subst AreWithinLimits held (within w user (changes.Commit s) h) in
    record {
      x = x.0;
      is = x.1;
      whole = it;
      parent = parent;
      above = above.0;
      above_is = above.1;
      limits = limits;
      given = changes_whole w parent.name above.0 x.0.own whole above.1 it.own.sound limits;
    }

-- a sound change that isn't refused keeps the world whole -----------------------------------------------------------------------------

one_sound : (change : Key × Option Record) → is_sound_own change ≡ true → list_all is_sound_own (change ∷ []) ≡ true
one_sound change h = both_so (is_sound_own change) true h refl

three_parts : (a b c : Bool) → (a && b && c) ≡ true → c ≡ true
three_parts true true c h = h
three_parts true false c h = cc
three_parts false b c h = cc

branch_whole : (w : World) (user s child : Name) → IsWhole w → scenario_refusal w user (changes.Branch s child) ≡ None → IsWhole (step w user (changes.Branch s child))
branch_whole w user s child whole h =
    let x = named_there w user (changes.Branch s child) h in
    let free : scenario_at w child ≡ None = is_absent (scenario_at w child) (not_so (is_some (scenario_at w child)) (refusals.Taken child) (passes w user (changes.Branch s child) h).1.1.1.1.0) in
    put_whole w child (record { parent = Some s; owner = Some user; private = true; base = contents_in w s; own = [] }) whole
    (record {
      base = whole_contents w s whole (ap is_some x.1);
      own = record { ordered = refl; sound = refl };
      limits = subst (λ v. AreWithinLimits (contents_of v)) (sym (scenario_is w s x.0 x.1)) (whole.each s x.0 x.1).limits;
    })
    (λ t. some_is_none (root_with whole.rooted.0) (sym whole.rooted.1 ∙ ap (scenario_at w) (sym (one_name child root t)) ∙ free))
    (λ _. record { name = s; is = refl; another = apart x.0 x.1 free (name_eq s child) refl; there = ap is_some x.1 })
    (one_more w child (record { parent = Some s; owner = Some user; private = true; base = contents_in w s; own = [] }) whole
    (below (length w) 256 (not_so (nat_le 256 (length w)) (refusals.Full rooms.Scenarios) (passes w user (changes.Branch s child) h).1.1.1.1.1.1.1.1.0)))
  where
    below : (n most : ℕ) → nat_le most n ≡ false → n < most
    below n most h = grind (arith, nat_tests)

    apart : (x : Scenario) → scenario_at w s ≡ Some x → scenario_at w child ≡ None → (t : Bool) → name_eq s child ≡ t → t ≡ false
    apart x e free true t = some_is_none x (sym e ∙ ap (scenario_at w) (one_name s child t) ∙ free)
    apart x e free false t = refl

share_whole : (w : World) (user s : Name) → IsWhole w → scenario_refusal w user (changes.Share s) ≡ None → IsWhole (step w user (changes.Share s))
share_whole w user s whole h =
    let x = named_there w user (changes.Share s) h in
    let other : is_root s ≡ false = not_root s (passes w user (changes.Share s) h).1.1.1.1.1.0 in
    let it = whole.each s x.0 x.1 in
    let p = whole.parents s x.0 x.1 other in
    subst (λ (v : Scenario). IsWhole (with_scenario w s (record v { private = false }))) (sym (scenario_is w s x.0 x.1))
    (put_whole w s (record x.0 { private = false }) whole (record { base = it.base; own = it.own; limits = it.limits }) (λ t. clash (sym t ∙ other))
    (λ _. record { name = p.name; is = p.is; another = p.another; there = p.there }) (as_many w s x.0 (record x.0 { private = false }) whole x.1))

update_whole : (w : World) (user s : Name) → IsWhole w → scenario_refusal w user (changes.Update s) ≡ None → IsWhole (step w user (changes.Update s))
update_whole w user s whole h =
    let x = named_there w user (changes.Update s) h in
    let other : is_root s ≡ false = not_root s (passes w user (changes.Update s) h).1.1.1.1.1.0 in
    let p = whole.parents s x.0 x.1 other in
    let y : Scenario = record x.0 { base = contents_in w p.name } in
    let held : changed_contents w user (changes.Update s) ≡ contents_of y =
    ap (λ v. contents_in v s) (update_is w user s x.0 x.1 p) ∙ ap contents_of (scenario_is (updated w s x.0 p.name) s y (here_after w s y)) in
    subst IsWhole (sym (update_is w user s x.0 x.1 p))
    (put_whole w s y whole
    (record { base = whole_contents w p.name whole p.there; own = (whole.each s x.0 x.1).own; limits = subst AreWithinLimits held (within w user (changes.Update s) h) })
    (λ t. clash (sym t ∙ other)) (λ _. record { name = p.name; is = p.is; another = p.another; there = p.there }) (as_many w s x.0 y whole x.1))

-- a scenario that took changes is there
taker_there : (w : World) (s : Name) (later : OwnChanges) → IsSome (scenario_at (with_changes w s later) s)
taker_there w s later = ap is_some (here_after w s _)

commit_whole : (w : World) (user s : Name) → IsWhole w → scenario_refusal w user (changes.Commit s) ≡ None → IsWhole (step w user (changes.Commit s))
commit_whole w user s whole h =
    let at = committing w user s whole h in
    let other : is_root s ≡ false = not_root s (passes w user (changes.Commit s) h).1.1.1.1.1.0 in
    let given = with_changes w at.parent.name at.x.own in
    let still : scenario_at given s ≡ Some at.x = there_after w at.parent.name _ s (flipped at.parent.name s at.parent.another) ∙ at.is in
    let p = at.given.parents s at.x still other in
    subst IsWhole (sym (commit_is w user s at.x at.is at.parent))
    (put_whole given s (record at.x { base = contents_in given at.parent.name; own = [] }) at.given
    (record { base = whole_contents given at.parent.name at.given (taker_there w at.parent.name at.x.own); own = record { ordered = refl; sound = refl }; limits = at.limits })
    (λ t. clash (sym t ∙ other)) (λ _. record { name = p.name; is = p.is; another = p.another; there = p.there })
    (as_many given s at.x (record at.x { base = contents_in given at.parent.name; own = [] }) at.given still))

pub step_keeps_whole : StepKeepsWhole
step_keeps_whole w user (changes.Put s key value) whole sound h =
    let x = named_there w user (changes.Put s key value) h in
    changes_whole w s x.0 ((key, Some value) ∷ []) whole x.1 (one_sound (key, Some value) (both_parts (is_name s) (is_sound_row key value) sound).1) (within w user (changes.Put s key value) h)
step_keeps_whole w user (changes.Del s key) whole sound h =
    let x = named_there w user (changes.Del s key) h in
    changes_whole w s x.0 ((key, None) ∷ []) whole x.1 (one_sound (key, None) (both_parts (is_name s) (is_sound_own (key, None)) sound).1) (within w user (changes.Del s key) h)
step_keeps_whole w user (changes.Load s rows) whole sound h =
    let x = named_there w user (changes.Load s rows) h in
    changes_whole w s x.0 (all_put rows) whole x.1 (sound_puts rows (three_parts (nat_le 1 (length rows)) (nat_le (length rows) 1_000) (are_sound_rows rows)
    (both_parts (is_name s) (nat_le 1 (length rows) && nat_le (length rows) 1_000 && are_sound_rows rows) sound).1)) (within w user (changes.Load s rows) h)
step_keeps_whole w user (changes.Branch s child) whole sound h = branch_whole w user s child whole h
step_keeps_whole w user (changes.Share s) whole sound h = share_whole w user s whole h
step_keeps_whole w user (changes.Update s) whole sound h = update_whole w user s whole h
step_keeps_whole w user (changes.Commit s) whole sound h = commit_whole w user s whole h
step_keeps_whole w user (changes.Drop s) whole sound h =
    let each = passes w user (changes.Drop s) h in
    drop_whole w s whole (not_root s each.1.1.1.1.1.0) (not_so (list_any (λ entry. is_child_of entry.1 s) w) (refusals.HasChildren s) each.1.1.1.1.1.1.0)

-- what shows after an update and after a commit -----------------------------------------------------------------------------------------

pub update_shows_parent : UpdateShowsParent
update_shows_parent w user s key whole h =
    let x = named_there w user (changes.Update s) h in
    let other : is_root s ≡ false = not_root s (passes w user (changes.Update s) h).1.1.1.1.1.0 in
    let p = whole.parents s x.0 x.1 other in
    let y : Scenario = record x.0 { base = contents_in w p.name } in
    ap (λ v. record_at (contents_in v s) key) (update_is w user s x.0 x.1 p)
    ∙ ap (λ z. record_at (contents_of z) key) (scenario_is (updated w s x.0 p.name) s y (here_after w s y))
    ∙ shows_laid (contents_in w p.name) x.0.own key (whole_contents w p.name whole p.there).ordered (whole.each s x.0 x.1).own.ordered
    ∙ sym (λ i. shown (scenario_is w s x.0 x.1 i).own key (record_at (contents_in w (parent_is w s x.0 x.1 p i)) key))

-- what shows of a scenario that took changes
changes_show : (w : World) (s : Name) (x : Scenario) (later : OwnChanges) (key : Key) → IsWhole w → scenario_at w s ≡ Some x → is_sorted key_cmp later ≡ true
    → record_at (contents_in (with_changes w s later) s) key ≡ shown later key (record_at (contents_in w s) key)
changes_show w s x later key whole e sorted =
    (λ i. record_at (contents_of (scenario (with_scenario w s (taken_by (is_root s) (scenario_is w s x e i))) s)) key)
    ∙ ap (λ z. record_at (contents_of z) key) (scenario_is (with_scenario w s (taken_by (is_root s) x)) s (taken_by (is_root s) x) (here_after w s (taken_by (is_root s) x)))
    ∙ by_cases (is_root s) refl
    ∙ sym (ap (λ z. shown later key (record_at (contents_of z) key)) (scenario_is w s x e))
  where
    taken_by : Bool → Scenario → Scenario
    taken_by t v = cond t (record v { base = laid_over v.base later }) (record v { own = joined v.own later })

    by_cases : (t : Bool) → is_root s ≡ t → record_at (contents_of (taken_by t x)) key ≡ shown later key (record_at (contents_of x) key)
    by_cases true t =
        let c = root_is w s x whole e t in
        let ordered : is_sorted key_cmp c.0 ≡ true = subst (λ (v : Scenario). is_sorted key_cmp v.base ≡ true) c.1 (whole.each s x e).base.ordered in
        subst (λ (v : Scenario). record_at (contents_of (record v { base = laid_over v.base later })) key ≡ shown later key (record_at (contents_of v) key)) (sym c.1)
        (shows_laid c.0 later key ordered sorted)
    by_cases false t =
        let it = whole.each s x e in
        shows_laid x.base (joined x.own later) key it.base.ordered (ordered_joined x.own later it.own.ordered)
        ∙ shows_joined x.own later key (record_at x.base key) sorted
        ∙ ap (shown later key) (sym (shows_laid x.base x.own key it.base.ordered it.own.ordered))

-- and so does the child
child_after : (w : World) (s : Name) (at : Committing w s) → contents_in (committed w s at.x at.parent.name) s ≡ contents_in (with_changes w at.parent.name at.x.own) at.parent.name
child_after w s at =
    let given = with_changes w at.parent.name at.x.own in
    let y : Scenario = record at.x { base = contents_in given at.parent.name; own = [] } in
    ap contents_of (scenario_is (committed w s at.x at.parent.name) s y (here_after given s y))

pub commit_joins : CommitJoins
commit_joins w user s whole h =
    let at = committing w user s whole h in
    let done = commit_is w user s at.x at.is at.parent in
    ap (λ v. contents_in v s) done ∙ child_after w s at ∙ sym (parent_after w s at.x at.parent) ∙ sym (λ i. contents_in (done i) (parent_is w s at.x at.is at.parent i))

pub commit_keeps_others : CommitKeepsOthers
commit_keeps_others w user s key whole h =
    let at = committing w user s whole h in
    let done = commit_is w user s at.x at.is at.parent in
    (λ i. record_at (contents_in (done i) (parent_is w s at.x at.is at.parent i)) key)
    ∙ ap (λ c. record_at c key) (parent_after w s at.x at.parent)
    ∙ changes_show w at.parent.name at.above at.x.own key whole at.above_is at.whole.own.ordered
    ∙ sym (λ i. shown (scenario_is w s at.x at.is i).own key (record_at (contents_in w (parent_is w s at.x at.is at.parent i)) key))
