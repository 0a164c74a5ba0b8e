-- The level of one part, or why the question for it is refused.
use Rattle.std.proofs.Common.{◌≡◌, ℕ, inl, inr, List, [], ◌∷◌, map, refl, sym, ◌∙◌, ap, Bool, true, false, not, cond}
use Rattle.std.specs.Prelude.{Option, Some, None, filter_map}
use Rattle.std.specs.List.{AllByRecursion}
use Rattle.std.specs.Map.{lookup}
use Rattle.plan_schema.specs.declared.name.Name.{Name}
use Rattle.plan_schema.specs.declared.refusal.Refusal.TheVariants as refusals
use Rattle.plan_schema.specs.Key.{name_eq}
use Rattle.plan_schema.specs.Refusals.{first_of, where_so, about}
use Rattle.plan_schema.specs.Contents.{Contents}
use Rattle.planning_rules.specs.Bills.{level}
use Rattle.planning_rules.specs.Refused.{least_name, is_part, is_cyclic, in_reach, level_refusal}
use Rattle.planning_rules.proofs.Membership.{IsIn, in_contained, contained_in}
use Rattle.planning_rules.proofs.LevelLaws.{one_name, same_name}
use Rattle.low_level_codes.specs.declared.fault.LevelFault.{LevelFault}
use Rattle.low_level_codes.specs.declared.fault.LevelFault.TheVariants as faults
use Rattle.low_level_codes.specs.Faults.{WhereCyclic}
use Rattle.low_level_codes.specs.Levels.{as_records, IsClosure, AreLevels}
use Rattle.plan_jobs.proofs.Gathering.{asked_reached}
use Rattle.walk_names.specs.Bills.{bill_pair}
use Rattle.walk_names.specs.Names.{IsLevelTrouble, fault_trouble}
use Rattle.walk_names.proofs.Same.{level_same}
use Rattle.walk_names.proofs.Refusing.{cyclic_least, has_level, none_cyclic}

-- a name among pairs of names and their levels has its level there
found_level : (c : Contents) (n : Name) (ls : List (Name × ℕ)) → AllByRecursion (λ pair. level c pair.0 ≡ Some pair.1) ls → IsIn n (map (λ (pair : Name × ℕ). pair.0) ls) → lookup (name_eq n) ls ≡ level c n
found_level c n [] h i = absurd i
found_level c n (pair ∷ ls) h i = by_cases (name_eq n pair.0) refl (λ later. found_level c n ls h.1 later) i
  where
    by_cases : (b : Bool) → name_eq n pair.0 ≡ b → (IsIn n (map (λ (other : Name × ℕ). other.0) ls) → lookup (name_eq n) ls ≡ level c n) → IsIn n (map (λ (other : Name × ℕ). other.0) (pair ∷ ls)) → cond b (Some pair.1) (lookup (name_eq n) ls) ≡ level c n
    by_cases true e again there = sym h.0 ∙ ap (level c) (sym (one_name n pair.0 e))
    by_cases false e again (inr there) = again there
    by_cases false e again (inl same) =
        let never : true ≡ false = sym (same_name n) ∙ ap (name_eq n) (sym same) ∙ e in cc

module _ (c : Contents) (n : Name) where
  pub not_part : is_part c n ≡ false → level_refusal c n ≡ Some (refusals.NoPart n)
  not_part e = λ i. first_of (where_so (not (e i)) (refusals.NoPart n) ∷ about (least_name (is_cyclic c) (in_reach c (n ∷ []))) refusals.Cyclic ∷ [])

  refused_by : (o : Option Name) → is_part c n ≡ true → least_name (is_cyclic c) (in_reach c (n ∷ [])) ≡ o → level_refusal c n ≡ first_of (about o refusals.Cyclic ∷ [])
  refused_by o part e = λ i. first_of (where_so (not (part i)) (refusals.NoPart n) ∷ about (e i) refusals.Cyclic ∷ [])

  module _ (closed : List Name) (is : IsClosure (filter_map bill_pair c) (n ∷ []) closed) (part : is_part c n ≡ true) where
    pub cyclic_refused : (point : ℕ) (fault : LevelFault) → WhereCyclic (filter_map bill_pair c) closed fault → IsLevelTrouble c n point (fault_trouble point fault)
    cyclic_refused point (faults.Cyclic m) h = (refl, refused_by (Some m) part (cyclic_least c (n ∷ []) closed is m h))
    cyclic_refused point faults.Memory h = tt

    module _ (levels : List (Name × ℕ)) (l : AreLevels (filter_map bill_pair c) closed levels) where
      pub none_refused : level_refusal c n ≡ None
      none_refused = refused_by None part (none_cyclic c (n ∷ []) closed is levels l)

      pub there : (k : ℕ) × (level c n ≡ Some k)
      there = has_level c (n ∷ []) closed is levels l n (asked_reached c (n ∷ []) n (inl refl))

      pub looked_up : lookup (name_eq n) levels ≡ level c n
      looked_up =
          found_level (as_records (filter_map bill_pair c)) n levels l.each
          (in_contained (map (λ (pair : Name × ℕ). pair.0) levels) n ((l.members n).0 ((is.members n).1 (inl (contained_in (n ∷ []) n (inl refl))))))
          ∙ level_same c n
