-- The first refusal from names that are closed upward.
use Rattle.std.proofs.Common.{◌≡◌, ℕ, inl, inr, List, [], ◌∷◌, map, refl, sym, ◌∙◌, ap, Bool, true, not, ◌&&◌, ◌||◌, ◌==◌}
use Rattle.std.proofs.lemmas.Bool.{and_parts}
use Rattle.std.specs.Prelude.{Option, Some, None, is_some, unwrap_or, nat_lt, filter_map}
use Rattle.std.specs.List.{list_all, AllByRecursion}
use Rattle.std.specs.Ordering.{is_lt}
use Rattle.plan_schema.specs.declared.name.Name.{Name}
use Rattle.plan_schema.specs.declared.key.Key.TheVariants as keys
use Rattle.plan_schema.specs.declared.refusal.Refusal.TheVariants as refusals
use Rattle.plan_schema.specs.Key.{name_cmp}
use Rattle.plan_schema.specs.Refusals.{first_of, about}
use Rattle.plan_schema.specs.Contents.{Contents, record_at}
use Rattle.planning_rules.specs.Bills.{is_ancestor, level}
use Rattle.planning_rules.specs.Refused.{least_name, is_part, lacks_calendar, is_cyclic, in_reach}
use Rattle.planning_rules.proofs.Membership.{IsIn, in_contained, contained_in, any_in, which}
use Rattle.planning_rules.proofs.LevelLaws.{cyclic_has_no_level}
use Rattle.planning_rules.proofs.LeastNames.{found_passes}
use Rattle.low_level_codes.specs.declared.fault.LevelFault.{LevelFault}
use Rattle.low_level_codes.specs.declared.fault.LevelFault.TheVariants as faults
use Rattle.low_level_codes.specs.Faults.{WhereCyclic}
use Rattle.low_level_codes.specs.Levels.{as_records, IsClosure, AreLevels, before}
use Rattle.low_level_codes.specs.Levels.{are_by_level as are_leveled}
use Rattle.plan_jobs.proofs.Gathering.{asked_reached, ancestor_reached, reached_which}
use Rattle.walk_names.specs.Bills.{bill_pair}
use Rattle.walk_names.specs.Names.{first_four, goes_before, are_by_level, AreWalkNames, IsTrouble, fault_trouble}
use Rattle.walk_names.proofs.Same.{ancestor_same, level_same}
use Rattle.walk_names.proofs.Least.{least_same}

module _ (c : Contents) (asked : List Name) where
  abbrev pub no_part : Name → Bool
  no_part n = not (is_part c n)

  abbrev pub no_calendar : Name → Bool
  no_calendar n = lacks_calendar c (record_at c (keys.Part n))

  pub first_refused : (name : Name) → least_name no_part asked ≡ Some name → first_four c asked ≡ Some (refusals.NoPart name)
  first_refused name e = λ i.
      first_of (about (e i) refusals.NoPart ∷ about (least_name no_part (in_reach c asked)) refusals.MissingPart ∷ about (least_name no_calendar (in_reach c asked)) refusals.MissingCalendar
      ∷ about (least_name (is_cyclic c) (in_reach c asked)) refusals.Cyclic ∷ [])

  pub second_refused : (name : Name) → least_name no_part asked ≡ None → least_name no_part (in_reach c asked) ≡ Some name → first_four c asked ≡ Some (refusals.MissingPart name)
  second_refused name a e = λ i.
      first_of (about (a i) refusals.NoPart ∷ about (e i) refusals.MissingPart ∷ about (least_name no_calendar (in_reach c asked)) refusals.MissingCalendar
      ∷ about (least_name (is_cyclic c) (in_reach c asked)) refusals.Cyclic ∷ [])

  pub third_refused : (name : Name) → least_name no_part asked ≡ None → least_name no_part (in_reach c asked) ≡ None → least_name no_calendar (in_reach c asked) ≡ Some name
      → first_four c asked ≡ Some (refusals.MissingCalendar name)
  third_refused name a b e = λ i.
      first_of (about (a i) refusals.NoPart ∷ about (b i) refusals.MissingPart ∷ about (e i) refusals.MissingCalendar ∷ about (least_name (is_cyclic c) (in_reach c asked)) refusals.Cyclic ∷ [])

  fourth : (o : Option Name) → least_name no_part asked ≡ None → least_name no_part (in_reach c asked) ≡ None → least_name no_calendar (in_reach c asked) ≡ None → least_name (is_cyclic c) (in_reach c asked) ≡ o
      → first_four c asked ≡ first_of (about o refusals.Cyclic ∷ [])
  fourth o a b d e = λ i. first_of (about (a i) refusals.NoPart ∷ about (b i) refusals.MissingPart ∷ about (d i) refusals.MissingCalendar ∷ about (e i) refusals.Cyclic ∷ [])

  module _ (closed : List Name) (is : IsClosure (filter_map bill_pair c) asked closed) where
    closed_in : (n : Name) → IsIn n closed → IsIn n (in_reach c asked)
    closed_in n i = elim ((is.members n).0 (contained_in closed n i)) [
      | inl h ↦ asked_reached c asked n (in_contained asked n h)
      | inr h ↦ let w = which (λ m. is_ancestor (as_records (filter_map bill_pair c)) m n) asked h in ancestor_reached c asked w.0 n w.1 (sym (ancestor_same c w.0 n) ∙ w.2)
    ]

    in_closed : (n : Name) → IsIn n (in_reach c asked) → IsIn n closed
    in_closed n i = in_contained closed n ((is.members n).1 (elim (reached_which c asked n i) [
      | inl h ↦ inl (contained_in asked n h)
      | inr w ↦ inr (any_in (λ m. is_ancestor (as_records (filter_map bill_pair c)) m n) w.0 asked w.1 (ancestor_same c w.0 n ∙ w.2))
    ]))

    -- the least of them is the least in reach
    pub reach_least : (test : Name → Bool) → least_name test closed ≡ least_name test (in_reach c asked)
    reach_least test = least_same test closed (in_reach c asked) closed_in in_closed

    -- and the one that has no levels is the least in reach that is its own ancestor
    pub cyclic_least : (n : Name) → WhereCyclic (filter_map bill_pair c) closed (faults.Cyclic n) → least_name (is_cyclic c) (in_reach c asked) ≡ Some n
    cyclic_least n h = sym (reach_least (is_cyclic c)) ∙ sym (λ i. least_name (λ m. ancestor_same c m m i) closed) ∙ h

    pub fault_refused : (point : ℕ) (fault : LevelFault) → least_name no_part asked ≡ None → least_name no_part (in_reach c asked) ≡ None → least_name no_calendar (in_reach c asked) ≡ None
        → WhereCyclic (filter_map bill_pair c) closed fault → IsTrouble c asked point (fault_trouble point fault)
    fault_refused point (faults.Cyclic n) a b d h =
        (refl, fourth (Some n) a b d (cyclic_least n h))
    fault_refused point faults.Memory a b d h = tt

    module _ (levels : List (Name × ℕ)) (l : AreLevels (filter_map bill_pair c) closed levels) where
      pair_of : (n : Name) (ls : List (Name × ℕ)) → AllByRecursion (λ pair. level (as_records (filter_map bill_pair c)) pair.0 ≡ Some pair.1) ls → IsIn n (map (λ (pair : Name × ℕ). pair.0) ls) → (k : ℕ) × (level c n ≡ Some k)
      pair_of n [] h i = absurd i
      pair_of n (pair ∷ ls) h (inl e) = (pair.1, sym (level_same c n) ∙ ap (level (as_records (filter_map bill_pair c))) (sym e) ∙ h.0)
      pair_of n (pair ∷ ls) h (inr i) = pair_of n ls h.1 i

      pub has_level : (n : Name) → IsIn n (in_reach c asked) → (k : ℕ) × (level c n ≡ Some k)
      has_level n i = pair_of n levels l.each (in_contained (map (λ (pair : Name × ℕ). pair.0) levels) n ((l.members n).0 (contained_in closed n (in_closed n i))))

      pub none_cyclic : least_name (is_cyclic c) (in_reach c asked) ≡ None
      none_cyclic = by_cases (least_name (is_cyclic c) (in_reach c asked)) refl
        where
          by_cases : (o : Option Name) → least_name (is_cyclic c) (in_reach c asked) ≡ o → o ≡ None
          by_cases None e = refl
          by_cases (Some w) e =
              let found = found_passes (is_cyclic c) (in_reach c asked) w e in
              let k = has_level w found.0 in
              let never : Some k.0 ≡ None = sym k.1 ∙ cyclic_has_no_level c w w found.1 found.1 in cc

      goes_as : (a b : Name × ℕ) → level c a.0 ≡ Some a.1 → level c b.0 ≡ Some b.1 → goes_before c a.0 b.0 ≡ before a b
      goes_as a b ea eb = λ i. nat_lt (unwrap_or (ea i) 0) (unwrap_or (eb i) 0) || ((unwrap_or (ea i) 0 == unwrap_or (eb i) 0) && is_lt (name_cmp a.0 b.0))

      level_is : (pair : Name × ℕ) → level (as_records (filter_map bill_pair c)) pair.0 ≡ Some pair.1 → level c pair.0 ≡ Some pair.1
      level_is pair h = sym (level_same c pair.0) ∙ h

      both_true : (a b : Bool) → a ≡ true → b ≡ true → (a && b) ≡ true
      both_true a b h k = λ i. h i && k i

      first_goes : (a : Name × ℕ) (ls : List (Name × ℕ)) → level c a.0 ≡ Some a.1 → AllByRecursion (λ pair. level (as_records (filter_map bill_pair c)) pair.0 ≡ Some pair.1) ls → list_all (before a) ls ≡ true
          → list_all (goes_before c a.0) (map (λ (pair : Name × ℕ). pair.0) ls) ≡ true
      first_goes a [] ea h o = refl
      first_goes a (b ∷ ls) ea h o =
          let two = and_parts (before a b) (list_all (before a) ls) o in
          both_true (goes_before c a.0 b.0) (list_all (goes_before c a.0) (map (λ (pair : Name × ℕ). pair.0) ls)) (goes_as a b ea (level_is b h.0) ∙ two.0) (first_goes a ls ea h.1 two.1)

      all_go : (ls : List (Name × ℕ)) → AllByRecursion (λ pair. level (as_records (filter_map bill_pair c)) pair.0 ≡ Some pair.1) ls → are_leveled ls ≡ true → are_by_level c (map (λ (pair : Name × ℕ). pair.0) ls) ≡ true
      all_go [] h o = refl
      all_go (a ∷ ls) h o =
          let two = and_parts (list_all (before a) ls) (are_leveled ls) o in
          both_true (list_all (goes_before c a.0) (map (λ (pair : Name × ℕ). pair.0) ls)) (are_by_level c (map (λ (pair : Name × ℕ). pair.0) ls)) (first_goes a ls (level_is a h.0) h.1 two.0) (all_go ls h.1 two.1)

      each_leveled : (ls : List (Name × ℕ)) → AllByRecursion (λ pair. level (as_records (filter_map bill_pair c)) pair.0 ≡ Some pair.1) ls → AllByRecursion (λ n. is_some (level c n) ≡ true) (map (λ (pair : Name × ℕ). pair.0) ls)
      each_leveled [] h = tt
      each_leveled (a ∷ ls) h = (ap is_some (level_is a h.0), each_leveled ls h.1)

      pub walk_names : least_name no_part asked ≡ None → least_name no_part (in_reach c asked) ≡ None → least_name no_calendar (in_reach c asked) ≡ None
          → AreWalkNames c asked (map (λ (pair : Name × ℕ). pair.0) levels)
      walk_names a b d = record {
        allowed = fourth None a b d none_cyclic;
        members = λ n. (
          (λ there. contained_in (in_reach c asked) n (closed_in n (in_contained closed n ((l.members n).1 there)))),
          (λ there. (l.members n).0 (contained_in closed n (in_closed n (in_contained (in_reach c asked) n there)))),
        );
        ordered = all_go levels l.each l.ordered;
        leveled = each_leveled levels l.each;
      }
