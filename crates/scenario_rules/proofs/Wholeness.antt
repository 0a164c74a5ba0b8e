-- A world stays whole where a scenario is put into it or taken out.
use Rattle.std.proofs.Common.{◌≡◌, ◌+◌, ◌<◌, ◌≤◌, [], ◌∷◌, length, refl, sym, ◌∙◌, ap, subst, Bool, true, false, cond, ◌||◌, arith}
use Rattle.std.specs.Prelude.{Option, Some, None, IsSome, is_some, unwrap_or}
use Rattle.std.specs.List.{list_any, list_all}
use Rattle.std.specs.Map.{lookup}
use Rattle.std.specs.BTreeMap.{is_at}
use Rattle.std.specs.Ordering.{is_eq}
use Rattle.std.specs.Cmp.{tied_itself}
use Rattle.plan_schema.specs.declared.name.Name.{Name}
use Rattle.plan_schema.specs.Key.{name_cmp, name_eq}
use Rattle.plan_schema.specs.Contents.{Contents}
use Rattle.scenario_rules.specs.World.{OwnChanges, Scenario, World, root, is_root, root_with, scenario_at, scenario, with_scenario, without_scenario, is_name_of, is_child_of, laid_over, contents_of, contents_in}
use Rattle.scenario_rules.specs.Steps.{joined, with_changes}
use Rattle.scenario_rules.specs.Whole.{AreWholeContents, AreWithinLimits, is_sound_own, IsWholeScenario, HasParent, IsWhole}
use Rattle.scenario_rules.specs.Laws.{WholeContents}
use Rattle.scenario_rules.proofs.Maps.{is_equal, apart_flips, sorted_insert, sorted_remove, length_insert, length_remove, lookup_insert_same, lookup_insert_other, lookup_remove_same, lookup_remove_other}
use Rattle.scenario_rules.proofs.Keys.{name_total, name_exact}
use Rattle.scenario_rules.proofs.LaidOver.{whole_laid, whole_joined}

pub one_name : (a b : Name) → name_eq a b ≡ true → a ≡ b
one_name a b h = name_exact a b (is_equal (name_cmp a b) h)

pub name_itself : (n : Name) → name_eq n n ≡ true
name_itself n = ap is_eq (tied_itself name_total n)

pub flipped : (a b : Name) → name_eq a b ≡ false → name_eq b a ≡ false
flipped a b h = apart_flips name_total name_exact a b h

pub same_scenario : (x y : Scenario) → Some x ≡ Some y → x ≡ y
same_scenario x y e = cc

pub here_after : (w : World) (s : Name) (y : Scenario) → scenario_at (with_scenario w s y) s ≡ Some y
here_after w s y = lookup_insert_same name_total s y w

pub there_after : (w : World) (s : Name) (y : Scenario) (q : Name) → name_eq q s ≡ false → scenario_at (with_scenario w s y) q ≡ scenario_at w q
there_after w s y q h = lookup_insert_other name_total q s y w h

pub others_after : (w : World) (s q : Name) → name_eq q s ≡ false → scenario_at (without_scenario w s) q ≡ scenario_at w q
others_after w s q h = lookup_remove_other name_total name_exact q s w h

pub gone_after : (w : World) (s : Name) → IsWhole w → scenario_at (without_scenario w s) s ≡ None
gone_after w s whole = lookup_remove_same name_total name_exact s w whole.ordered

-- a parent that is there stays there
parent_stays : (w : World) (s : Name) (y : Scenario) (q : Name) (x : Scenario) → HasParent w q x → HasParent (with_scenario w s y) q x
parent_stays w s y q x p = record { name = p.name; is = p.is; another = p.another; there = by_cases (name_eq p.name s) refl }
  where
    by_cases : (t : Bool) → name_eq p.name s ≡ t → IsSome (scenario_at (with_scenario w s y) p.name)
    by_cases true t = subst (λ n. IsSome (scenario_at (with_scenario w s y) n)) (sym (one_name p.name s t)) (subst IsSome (sym (here_after w s y)) refl)
    by_cases false t = subst IsSome (sym (there_after w s y p.name t)) p.there

-- a whole scenario is put in: as the root, or with a parent
pub put_whole : (w : World) (s : Name) (y : Scenario) → IsWhole w → IsWholeScenario y → (is_root s ≡ true → (c : Contents) × (y ≡ root_with c)) → (is_root s ≡ false → HasParent w s y)
    → length (with_scenario w s y) ≤ 256 → IsWhole (with_scenario w s y)
put_whole w s y whole it rooted parent few = record {
  ordered = sorted_insert name_total s y w whole.ordered;
  few = few;
  rooted = root_after (is_root s) refl;
  each = λ q x e. each_after q x e (name_eq q s) refl;
  parents = λ q x e other. parents_after q x e other (name_eq q s) refl;
}
  where
    root_after : (t : Bool) → is_root s ≡ t → (c : Contents) × (scenario_at (with_scenario w s y) root ≡ Some (root_with c))
    root_after true t =
        let c = rooted t in
        (c.0, subst (λ n. scenario_at (with_scenario w s y) n ≡ Some (root_with c.0)) (one_name s root t) (here_after w s y ∙ ap Some c.1))
    root_after false t = (whole.rooted.0, there_after w s y root (flipped s root t) ∙ whole.rooted.1)

    is_it : (q : Name) (x : Scenario) → scenario_at (with_scenario w s y) q ≡ Some x → name_eq q s ≡ true → y ≡ x
    is_it q x e t = same_scenario y x (sym (here_after w s y) ∙ ap (scenario_at (with_scenario w s y)) (sym (one_name q s t)) ∙ e)

    each_after : (q : Name) (x : Scenario) → scenario_at (with_scenario w s y) q ≡ Some x → (t : Bool) → name_eq q s ≡ t → IsWholeScenario x
    each_after q x e true t = subst IsWholeScenario (is_it q x e t) it
    each_after q x e false t = whole.each q x (sym (there_after w s y q t) ∙ e)

    parents_after : (q : Name) (x : Scenario) → scenario_at (with_scenario w s y) q ≡ Some x → is_root q ≡ false → (t : Bool) → name_eq q s ≡ t → HasParent (with_scenario w s y) q x
    parents_after q x e other true t =
        let same : s ≡ q = sym (one_name q s t) in
        let has : HasParent w q y = subst (λ n. HasParent w n y) same (parent (ap is_root same ∙ other)) in
        parent_stays w s y q x (subst (λ z. HasParent w q z) (is_it q x e t) has)
    parents_after q x e other false t = parent_stays w s y q x (whole.parents q x (sym (there_after w s y q t) ∙ e) other)

-- a scenario that is found is one of the world's
found_any : (test : Scenario → Bool) (at : Name → Bool) (w : World) (x : Scenario) → lookup at w ≡ Some x → test x ≡ true → list_any (λ entry. test entry.1) w ≡ true
found_any test at [] x e h = cc
found_any test at (entry ∷ w) x e h = by_cases (found_any test at w x) (at entry.0) e
  where
    so : (a b : Bool) → b ≡ true → (a || b) ≡ true
    so true b k = refl
    so false b k = k

    by_cases : (lookup at w ≡ Some x → test x ≡ true → list_any (λ other. test other.1) w ≡ true) → (t : Bool) → cond t (Some entry.1) (lookup at w) ≡ Some x → list_any (λ other. test other.1) (entry ∷ w) ≡ true
    by_cases again true e = ap (λ b. b || list_any (λ other. test other.1) w) (ap test (same_scenario entry.1 x e) ∙ h)
    by_cases again false e = so (test entry.1) (list_any (λ other. test other.1) w) (again e h)

-- a scenario that isn't the root and has no children is taken out
pub drop_whole : (w : World) (s : Name) → IsWhole w → is_root s ≡ false → list_any (λ entry. is_child_of entry.1 s) w ≡ false → IsWhole (without_scenario w s)
drop_whole w s whole other childless = record {
  ordered = sorted_remove name_cmp (is_at (name_cmp s)) w whole.ordered;
  few = (let fewer = length_remove name_cmp (is_at (name_cmp s)) w in let most = whole.few in omega arith);
  rooted = (whole.rooted.0, others_after w s root (flipped s root other) ∙ whole.rooted.1);
  each = λ q x e. each_after q x e (name_eq q s) refl;
  parents = λ q x e not_root. parents_after q x e not_root (name_eq q s) refl;
}
  where
    gone : (q : Name) (x : Scenario) → scenario_at (without_scenario w s) q ≡ Some x → name_eq q s ≡ true → ⊥
    gone q x e t =
        let none : scenario_at (without_scenario w s) q ≡ None = ap (scenario_at (without_scenario w s)) (one_name q s t) ∙ gone_after w s whole in
        let wrong : None ≡ Some x = sym none ∙ e in cc

    each_after : (q : Name) (x : Scenario) → scenario_at (without_scenario w s) q ≡ Some x → (t : Bool) → name_eq q s ≡ t → IsWholeScenario x
    each_after q x e true t = absurd (gone q x e t)
    each_after q x e false t = whole.each q x (sym (others_after w s q t) ∙ e)

    parent_is_there : (q : Name) (x : Scenario) → scenario_at w q ≡ Some x → (p : HasParent w q x) → (t : Bool) → name_eq p.name s ≡ t → IsSome (scenario_at (without_scenario w s) p.name)
    parent_is_there q x e p false t = subst IsSome (sym (others_after w s p.name t)) p.there
    parent_is_there q x e p true t =
        let child : is_child_of x s ≡ true = ap (λ o. is_name_of o s) p.is ∙ t in
        let found : list_any (λ entry. is_child_of entry.1 s) w ≡ true = found_any (λ z. is_child_of z s) (is_at (name_cmp q)) w x e child in
        let wrong : true ≡ false = sym found ∙ childless in absurd (no_such wrong)
      where
        no_such : true ≡ false → ⊥
        no_such h = cc

    parents_after : (q : Name) (x : Scenario) → scenario_at (without_scenario w s) q ≡ Some x → is_root q ≡ false → (t : Bool) → name_eq q s ≡ t → HasParent (without_scenario w s) q x
    parents_after q x e not_root true t = absurd (gone q x e t)
    parents_after q x e not_root false t =
        let before : scenario_at w q ≡ Some x = sym (others_after w s q t) ∙ e in
        let p = whole.parents q x before not_root in
        record { name = p.name; is = p.is; another = p.another; there = parent_is_there q x before p (name_eq p.name s) refl }

-- the contents of a scenario are whole
pub whole_contents : WholeContents
whole_contents w s whole there = by_cases (scenario_at w s) refl there
  where
    by_cases : (o : Option Scenario) → scenario_at w s ≡ o → IsSome o → AreWholeContents (contents_of (unwrap_or o (root_with [])))
    by_cases None e some = cc
    by_cases (Some x) e some = let it = whole.each s x e in whole_laid x.base x.own it.base it.own.sound

-- one scenario more, or in the place of one
pub one_more : (w : World) (s : Name) (y : Scenario) → IsWhole w → length w < 256 → length (with_scenario w s y) ≤ 256
one_more w s y whole room = by_cases (is_some (scenario_at w s)) (length_insert name_total s y w whole.ordered)
  where
    by_cases : (t : Bool) → length (with_scenario w s y) ≡ cond t (length w) (length w + 1) → length (with_scenario w s y) ≤ 256
    by_cases true e = omega arith
    by_cases false e = omega arith

pub as_many : (w : World) (s : Name) (x y : Scenario) → IsWhole w → scenario_at w s ≡ Some x → length (with_scenario w s y) ≤ 256
as_many w s x y whole e =
    let same : length (with_scenario w s y) ≡ length w = length_insert name_total s y w whole.ordered ∙ ap (λ o. cond (is_some o) (length w) (length w + 1)) e in
    let most = whole.few in omega arith

-- the scenario of a name that is there
pub scenario_is : (w : World) (s : Name) (x : Scenario) → scenario_at w s ≡ Some x → scenario w s ≡ x
scenario_is w s x e = ap (λ o. unwrap_or o (root_with [])) e

-- the root is root_with its base
pub root_is : (w : World) (s : Name) (x : Scenario) → IsWhole w → scenario_at w s ≡ Some x → is_root s ≡ true → (c : Contents) × (x ≡ root_with c)
root_is w s x whole e t =
    (whole.rooted.0, same_scenario x (root_with whole.rooted.0) (sym e ∙ ap (scenario_at w) (one_name s root t) ∙ whole.rooted.1))

-- a scenario takes sound changes
pub changes_whole : (w : World) (s : Name) (x : Scenario) (later : OwnChanges) → IsWhole w → scenario_at w s ≡ Some x → list_all is_sound_own later ≡ true → AreWithinLimits (contents_in (with_changes w s later) s) → IsWhole (with_changes w s later)
changes_whole w s x later whole e sound limits =
    subst (λ v. IsWhole (with_scenario w s (taken_by (is_root s) v))) (sym (scenario_is w s x e)) (by_cases (is_root s) refl)
  where
    taken_by : Bool → Scenario → Scenario
    taken_by t v = cond t (record v { base = laid_over v.base later }) (record v { own = joined v.own later })

    limits_are : AreWithinLimits (contents_of (taken_by (is_root s) x))
    limits_are =
        subst AreWithinLimits
        ((λ i. contents_of (scenario (with_scenario w s (taken_by (is_root s) (scenario_is w s x e i))) s))
        ∙ ap contents_of (scenario_is (with_scenario w s (taken_by (is_root s) x)) s (taken_by (is_root s) x) (here_after w s (taken_by (is_root s) x)))) limits

    by_cases : (t : Bool) → is_root s ≡ t → IsWhole (with_scenario w s (taken_by t x))
    by_cases true t =
        let it = whole.each s x e in
        let c = root_is w s x whole e t in
        put_whole w s (record x { base = laid_over x.base later }) whole (record { base = whole_laid x.base later it.base sound; own = it.own; limits = subst (λ b. AreWithinLimits (contents_of (taken_by b x))) t limits_are })
        (λ _. (laid_over c.0 later, ap (λ (v : Scenario). record v { base = laid_over v.base later }) c.1)) (λ no. absurd (no_such (sym t ∙ no))) (as_many w s x (record x { base = laid_over x.base later }) whole e)
      where
        no_such : true ≡ false → ⊥
        no_such h = cc
    by_cases false t =
        let it = whole.each s x e in
        let p = whole.parents s x e t in
        put_whole w s (record x { own = joined x.own later }) whole (record { base = it.base; own = whole_joined x.own later it.own sound; limits = subst (λ b. AreWithinLimits (contents_of (taken_by b x))) t limits_are })
        (λ yes'. absurd (no_such (sym yes' ∙ t))) (λ _. record { name = p.name; is = p.is; another = p.another; there = p.there }) (as_many w s x (record x { own = joined x.own later }) whole e)
      where
        no_such : true ≡ false → ⊥
        no_such h = cc
