-- The first refusal, line after line.
use Rattle.std.proofs.Common.{◌≡◌, List, [], ◌∷◌, refl, sym, ◌∙◌, ap, subst, Bool, true, false, length}
use Rattle.std.specs.Prelude.{Option, Some, None, is_none, IsSome, unwrap_or}
use Rattle.plan_schema.specs.declared.name.Name.{Name}
use Rattle.plan_schema.specs.declared.change.Change.{Change}
use Rattle.plan_schema.specs.declared.change.Change.TheVariants as changes
use Rattle.plan_schema.specs.declared.refusal.Refusal.{Refusal}
use Rattle.plan_schema.specs.declared.refusal.Refusal.TheVariants as refusals
use Rattle.plan_schema.specs.Key.{name_eq}
use Rattle.plan_schema.specs.Contents.{Contents}
use Rattle.plan_schema.specs.Refusals.{first_of}
use Rattle.plan_schema.specs.Base.{part_count}
use Rattle.scenario_rules.specs.World.{World, Scenario, is_root, root_with, scenario_at, scenario, with_scenario, parent_of, contents_of, contents_in, laid_over}
use Rattle.scenario_rules.specs.Steps.{with_changes}
use Rattle.scenario_rules.specs.Refused.{denied_above, denied_unowned, taken, at_root, has_children, too_deep, full_scenarios, conflict, named, no_scenario, denied, access_refusal, scenario_refusal, changed_contents}
use Rattle.scenario_rules.specs.Whole.{AreWithinLimits, IsWhole}
use Rattle.scenario_rules.proofs.StepLaws.{not_so, not_root}
use Rattle.scenario_rules.proofs.Wholeness.{scenario_is, here_after, there_after, gone_after, one_name}
use Rattle.version_rules.proofs.StepMeans.{there, contents_after}
use Rattle.scenario_cells.specs.Room.{refused_contents}
use Rattle.scenario_rules.specs.Refused.{later_rules, later_refusal}
use Rattle.scenario_cells.proofs.RoomLaws.{within}

pub passes : (a : Option Refusal) (rest : List (Option Refusal)) → a ≡ None → first_of (a ∷ rest) ≡ first_of rest
passes a rest e = ap (λ o. first_of (o ∷ rest)) e

pub stops : (a : Option Refusal) (rest : List (Option Refusal)) (r : Refusal) → a ≡ Some r → first_of (a ∷ rest) ≡ Some r
stops a rest r e = ap (λ o. first_of (o ∷ rest)) e

pub last : (a : Option Refusal) (rest : List (Option Refusal)) → first_of rest ≡ None → first_of (a ∷ rest) ≡ a
last None rest e = e
last (Some r) rest e = refl

two_pass : (a b : Option Refusal) (rest : List (Option Refusal)) → first_of (a ∷ b ∷ []) ≡ None → first_of (a ∷ b ∷ rest) ≡ first_of rest
two_pass None None rest e = refl
two_pass None (Some r) rest e = cc
two_pass (Some r) b rest e = cc

two_stop : (a b : Option Refusal) (rest : List (Option Refusal)) (r : Refusal) → first_of (a ∷ b ∷ []) ≡ Some r → first_of (a ∷ b ∷ rest) ≡ Some r
two_stop None None rest r e = cc
two_stop None (Some q) rest r e = e
two_stop (Some q) b rest r e = e

pub access_passes : (w : World) (user : Name) (change : Change) → access_refusal w user (named change) ≡ None → scenario_refusal w user change ≡ later_refusal w user change
access_passes w user change e = two_pass (no_scenario w (named change)) (denied w user (named change)) (later_rules w user change) e

pub access_stops : (w : World) (user : Name) (change : Change) (r : Refusal) → access_refusal w user (named change) ≡ Some r → scenario_refusal w user change ≡ Some r
access_stops w user change r e = two_stop (no_scenario w (named change)) (denied w user (named change)) (later_rules w user change) r e

-- then the named scenario is there
pub accessed : (w : World) (user s : Name) → access_refusal w user s ≡ None → IsSome (scenario_at w s)
accessed w user s e = some (scenario_at w s) (not_so (is_none (scenario_at w s)) (refusals.NoScenario s) (first (no_scenario w s) (denied w user s) e))
  where
    first : (a b : Option Refusal) → first_of (a ∷ b ∷ []) ≡ None → a ≡ None
    first None b e = refl
    first (Some r) b e = cc

    some : (o : Option Scenario) → is_none o ≡ false → IsSome o
    some None h = cc
    some (Some x) h = refl

-- room for what a change leaves in the scenario that it changes -----------------------------------------------------------------------

fit : (c : Contents) → AreWithinLimits c → refused_contents c ≡ None
fit c limits = within (part_count c) (length c) limits.parts limits.records

contents_here : (w : World) (s : Name) (y : Scenario) → contents_in (with_scenario w s y) s ≡ contents_of y
contents_here w s y = ap contents_of (scenario_is (with_scenario w s y) s y (here_after w s y))

module _ (w : World) (user s : Name) (whole : IsWhole w) (h : IsSome (scenario_at w s)) where
  abbrev x : Scenario
  x = scenario w s

  mine : AreWithinLimits (contents_in w s)
  mine = (whole.each s x (there w s h)).limits

  pub share_fits : refused_contents (changed_contents w user (changes.Share s)) ≡ None
  share_fits = ap refused_contents (contents_here w s (record x { private = false })) ∙ fit (contents_in w s) mine

  pub branch_fits : (child : Name) → refused_contents (changed_contents w user (changes.Branch s child)) ≡ None
  branch_fits child = ap refused_contents (by_cases (name_eq s child) refl) ∙ fit (contents_in w s) mine
    where
      y : Scenario
      y = record { parent = Some s; owner = Some user; private = true; base = contents_in w s; own = [] }

      by_cases : (t : Bool) → name_eq s child ≡ t → contents_in (with_scenario w child (record { parent = Some s; owner = Some user; private = true; base = contents_in w s; own = [] })) s ≡ contents_in w s
      by_cases true t =
          ap (contents_in (with_scenario w child (record { parent = Some s; owner = Some user; private = true; base = contents_in w s; own = [] }))) (one_name s child t)
          ∙ contents_here w child (record { parent = Some s; owner = Some user; private = true; base = contents_in w s; own = [] })
      by_cases false t = ap (λ o. contents_of (unwrap_or o (root_with []))) (there_after w child (record { parent = Some s; owner = Some user; private = true; base = contents_in w s; own = [] }) s t)

  pub update_leaves : changed_contents w user (changes.Update s) ≡ laid_over (contents_in w (parent_of x)) x.own
  update_leaves = contents_here w s (record x { base = contents_in w (parent_of x) })

  pub commit_leaves : is_root s ≡ false → changed_contents w user (changes.Commit s) ≡ laid_over (contents_in w (parent_of x)) x.own
  commit_leaves other =
      let p = whole.parents s x (there w s h) other in
      let name : parent_of x ≡ p.name = ap (λ o. unwrap_or o []) p.is in
      let apart : name_eq (parent_of x) s ≡ false = ap (λ n. name_eq n s) name ∙ p.another in
      let is_there : IsSome (scenario_at w (parent_of x)) = subst (λ n. IsSome (scenario_at w n)) (sym name) p.there in
      let given = with_changes w (parent_of x) x.own in
      ap (λ o. contents_of (unwrap_or o (root_with []))) (there_after given s (record x { base = contents_in given (parent_of x); own = [] }) (parent_of x) apart)
      ∙ contents_after w (parent_of x) x.own whole is_there

pub drop_fits : (w : World) (user s : Name) → IsWhole w → refused_contents (changed_contents w user (changes.Drop s)) ≡ None
drop_fits w user s whole = ap (λ o. refused_contents (contents_of (unwrap_or o (root_with [])))) (gone_after w s whole)

-- what is left of the lines, by the kind of change ---------------------------------------------------------------------------------------

abbrev tail : List (Option Refusal) → List (Option Refusal)
tail [] = []
tail (o ∷ os) = os

abbrev tail2 : List (Option Refusal) → List (Option Refusal)
tail2 os = tail (tail os)

abbrev tail4 : List (Option Refusal) → List (Option Refusal)
tail4 os = tail2 (tail2 os)

pub share_later : (w : World) (user s : Name) → IsWhole w → IsSome (scenario_at w s) → denied_unowned w user s ≡ None → later_refusal w user (changes.Share s) ≡ at_root (changes.Share s)
share_later w user s whole h owner =
    let lines = later_rules w user (changes.Share s) in
    passes (denied_unowned w user s) (tail2 lines) owner ∙ last (at_root (changes.Share s)) (tail4 lines) (share_fits w user s whole h)

pub drop_later : (w : World) (user s : Name) → IsWhole w → denied_unowned w user s ≡ None → at_root (changes.Drop s) ≡ None → later_refusal w user (changes.Drop s) ≡ has_children w (changes.Drop s)
drop_later w user s whole owner other =
    let lines = later_rules w user (changes.Drop s) in
    passes (denied_unowned w user s) (tail2 lines) owner ∙ passes (at_root (changes.Drop s)) (tail4 lines) other
    ∙ last (has_children w (changes.Drop s)) (tail (tail4 lines)) (drop_fits w user s whole)

pub branch_later : (w : World) (user s child : Name) → IsWhole w → IsSome (scenario_at w s) → taken w (changes.Branch s child) ≡ None → too_deep w (changes.Branch s child) ≡ None
    → later_refusal w user (changes.Branch s child) ≡ full_scenarios w (changes.Branch s child)
branch_later w user s child whole h free shallow =
    let change = changes.Branch s child in
    let lines = later_rules w user change in
    passes (taken w change) (tail (tail2 lines)) free ∙ passes (too_deep w change) (tail2 (tail4 lines)) shallow ∙ last (full_scenarios w change) (tail (tail2 (tail4 lines))) (branch_fits w user s whole h child)

pub update_later : (w : World) (user s : Name) → IsWhole w → IsSome (scenario_at w s) → denied_above w user s ≡ None → at_root (changes.Update s) ≡ None
    → later_refusal w user (changes.Update s) ≡ refused_contents (laid_over (contents_in w (parent_of (scenario w s))) (scenario w s).own)
update_later w user s whole h above other =
    let lines = later_rules w user (changes.Update s) in
    passes (denied_above w user s) (tail lines) above ∙ passes (at_root (changes.Update s)) (tail4 lines) other ∙ ap refused_contents (update_leaves w user s whole h)

pub commit_later : (w : World) (user s : Name) → IsWhole w → IsSome (scenario_at w s) → denied_above w user s ≡ None → at_root (changes.Commit s) ≡ None → conflict w (changes.Commit s) ≡ None
    → later_refusal w user (changes.Commit s) ≡ refused_contents (laid_over (contents_in w (parent_of (scenario w s))) (scenario w s).own)
commit_later w user s whole h above other same =
    let lines = later_rules w user (changes.Commit s) in
    passes (denied_above w user s) (tail lines) above ∙ passes (at_root (changes.Commit s)) (tail4 lines) other ∙ passes (conflict w (changes.Commit s)) (tail (tail4 (tail4 lines))) same
    ∙ ap refused_contents (commit_leaves w user s whole h (not_root s other))
