-- The least name of sets with the same members.
use Rattle.std.proofs.Common.{◌≡◌, List, refl, sym, ◌∙◌, ap, subst, Bool, true, false}
use Rattle.std.specs.Prelude.{Option, Some, None}
use Rattle.std.specs.Ordering.{is_lt, is_eq, ordering_reverse}
use Rattle.std.specs.declared.cmp.Ordering.{Ordering}
use Rattle.std.specs.declared.cmp.Ordering.TheVariants.{Less, Equal, Greater}
use Rattle.std.specs.Cmp.Lexicographic.{nat_list_cmp_total}
use Rattle.plan_schema.specs.declared.name.Name.{Name}
use Rattle.plan_schema.specs.Key.{name_cmp}
use Rattle.planning_rules.specs.Refused.{least_name}
use Rattle.planning_rules.specs.Laws.{IsLeastPassing, IsLeastOf}
use Rattle.planning_rules.proofs.Membership.{IsIn, contained_in}
use Rattle.planning_rules.proofs.LevelLaws.{one_name}
use Rattle.planning_rules.proofs.LeastNames.{least_name_is_least, least_found, found_passes}

not_less : (o : Ordering) → is_lt o ≡ false → is_lt (ordering_reverse o) ≡ false → is_eq o ≡ true
not_less Less h k = let never : true ≡ false = h in cc
not_less Equal h k = refl
not_less Greater h k = let never : true ≡ false = k in cc

module _ (test : Name → Bool) (ns ms : List Name) (there : (n : Name) → IsIn n ns → IsIn n ms) (back : (n : Name) → IsIn n ms → IsIn n ns) where
  some_same : (w : Name) → least_name test ns ≡ Some w → least_name test ms ≡ Some w
  some_same w is =
      let found = found_passes test ns w is in
      let other = least_found test ms w (there w found.0) found.1 in
      let v = other.0 in
      let mine = found_passes test ms v other.1 in
      let first : IsLeastPassing test ns w = let P : Option Name → Type 0 = λ o. IsLeastOf test ns o in subst P is (least_name_is_least test ns) in
      let second : IsLeastPassing test ms v = let P : Option Name → Type 0 = λ o. IsLeastOf test ms o in subst P other.1 (least_name_is_least test ms) in
      let a : is_lt (name_cmp v w) ≡ false = first.first v (contained_in ns v (back v mine.0)) mine.1 in
      let b : is_lt (name_cmp w v) ≡ false = second.first w (contained_in ms w (there w found.0)) found.1 in
      let same : v ≡ w = one_name v w (not_less (name_cmp v w) a (ap is_lt (sym (nat_list_cmp_total.antisymm w v)) ∙ b)) in
      other.1 ∙ ap Some same

pub least_same : (test : Name → Bool) (ns ms : List Name) → ((n : Name) → IsIn n ns → IsIn n ms) → ((n : Name) → IsIn n ms → IsIn n ns) → least_name test ns ≡ least_name test ms
least_same test ns ms there back = by_cases (least_name test ns) refl (least_name test ms) refl
  where
    by_cases : (o : Option Name) → least_name test ns ≡ o → (p : Option Name) → least_name test ms ≡ p → least_name test ns ≡ least_name test ms
    by_cases (Some w) e p f = e ∙ sym (some_same test ns ms there back w e)
    by_cases None e None f = e ∙ sym f
    by_cases None e (Some v) f = some_same test ms ns back there v f ∙ sym f
