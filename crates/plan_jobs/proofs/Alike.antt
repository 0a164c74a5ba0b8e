-- Contents with the same cells of some names and of all their ancestors tell the same of their plans.
use Rattle.std.proofs.Common.{◌≡◌, ℕ, zero, suc, inl, inr, List, [], ◌∷◌, map, refl, sym, ◌∙◌, ap, subst, Bool, true, false, not, ◌&&◌, ◌||◌}
use Rattle.std.proofs.lemmas.Bool.{and_parts}
use Rattle.std.specs.Prelude.{Option, Some, None, is_some}
use Rattle.std.specs.List.{list_any, list_all}
use Rattle.std.specs.Ordering.{is_eq, is_lt, ordering_reverse}
use Rattle.std.specs.declared.cmp.Ordering.{Ordering}
use Rattle.std.specs.declared.cmp.Ordering.TheVariants.{Less, Equal, Greater}
use Rattle.std.specs.Cmp.Lexicographic.{nat_list_cmp_total}
use Rattle.plan_schema.specs.declared.name.Name.{Name}
use Rattle.plan_schema.specs.declared.key.Key.TheVariants as keys
use Rattle.plan_schema.specs.declared.key.Record.{Record}
use Rattle.plan_schema.specs.declared.key.Record.TheVariants as rows
use Rattle.plan_schema.specs.declared.refusal.Refusal.TheVariants as refusals
use Rattle.plan_schema.specs.declared.change.CellName.TheVariants as names
use Rattle.plan_schema.specs.Key.{name_eq, name_cmp}
use Rattle.plan_schema.specs.Contents.{Contents, record_at, cell_rows}
use Rattle.plan_schema.specs.Refusals.{first_of, where_so, about}
use Rattle.planning_rules.specs.Bills.{parents, is_above, is_ancestor, longest_chain}
use Rattle.planning_rules.specs.Plan.{plan, has_calendar}
use Rattle.planning_rules.specs.Refused.{least_name, is_part, in_reach, lacks_calendar, is_cyclic, is_large, plan_refusal, level_refusal}
use Rattle.planning_rules.specs.Laws.{IsLeastOf}
use Rattle.planning_rules.proofs.Membership.{IsIn, any_in, which, either, in_contained, contained_in}
use Rattle.planning_rules.proofs.AncestorLaws.{chains_are_short}
use Rattle.planning_rules.proofs.LevelLaws.{one_name}
use Rattle.planning_rules.proofs.LeastNames.{least_name_is_least}
use Rattle.walk_rules.specs.Steps.{Agree, calendar_of}
use Rattle.walk_rules.proofs.Local.{bills_same, record_same}
use Rattle.walk_rules.proofs.PlanLocal.{plan_is_local}
use Rattle.plan_jobs.specs.Laws.{is_among, PlanAlike}
use Rattle.plan_jobs.proofs.Gathering.{same_bools, asked_reached, ancestor_reached, reached_which, is_in, in_is}

-- lists with the same names --------------------------------------------------------------------------------------------------------

abbrev pub SameNames : List Name → List Name → Type 0
SameNames ms ns = (n : Name) → is_among ms n ≡ is_among ns n

pub moved : (ms ns : List Name) → SameNames ms ns → (n : Name) → IsIn n ms → IsIn n ns
moved ms ns same n i = is_in ns n (sym (same n) ∙ in_is ms n i)

pub any_moved : (f g : Name → Bool) (ms ns : List Name) → SameNames ms ns → ((n : Name) → IsIn n ms → f n ≡ g n) → list_any f ms ≡ list_any g ns
any_moved f g ms ns same alike = same_bools (list_any f ms) (list_any g ns)
    (λ h. let w = which f ms h in any_in g w.0 ns (moved ms ns same w.0 w.1) (sym (alike w.0 w.1) ∙ w.2))
    (λ h. let w = which g ns h in let i = moved ns ms (λ n. sym (same n)) w.0 w.1 in any_in f w.0 ms i (alike w.0 i ∙ w.2))

neither_less : (o : Ordering) → is_lt o ≡ false → is_lt (ordering_reverse o) ≡ false → o ≡ Equal
neither_less Less h k = cc
neither_less Equal h k = refl
neither_less Greater h k = cc

module _ (f g : Name → Bool) (ms ns : List Name) (same : SameNames ms ns) (alike : (n : Name) → IsIn n ms → f n ≡ g n) where
  least_of_both : (o p : Option Name) → IsLeastOf f ms o → IsLeastOf g ns p → o ≡ p
  least_of_both None None h k = refl
  least_of_both None (Some w) h k =
      let i = moved ns ms (λ n. sym (same n)) w (in_contained ns w k.among) in
      let right : f w ≡ true = alike w i ∙ k.passes in
      let wrong : f w ≡ false = h w (contained_in ms w i) in
      cc
  least_of_both (Some v) None h k =
      let i = in_contained ms v h.among in
      let right : g v ≡ true = sym (alike v i) ∙ h.passes in
      let wrong : g v ≡ false = k v (contained_in ns v (moved ms ns same v i)) in
      cc
  least_of_both (Some v) (Some w) h k =
      let i = in_contained ms v h.among in
      let j = moved ns ms (λ n. sym (same n)) w (in_contained ns w k.among) in
      let later : is_lt (name_cmp v w) ≡ false = k.first v (contained_in ns v (moved ms ns same v i)) (sym (alike v i) ∙ h.passes) in
      let earlier : is_lt (name_cmp w v) ≡ false = h.first w (contained_in ms w j) (alike w j ∙ k.passes) in
      let equal : name_cmp v w ≡ Equal = neither_less (name_cmp v w) later (ap is_lt (sym (nat_list_cmp_total.antisymm w v)) ∙ earlier) in
      ap Some (one_name v w (ap is_eq equal))

  pub least_same : least_name f ms ≡ least_name g ns
  least_same = least_of_both (least_name f ms) (least_name g ns) (least_name_is_least f ms) (least_name_is_least g ns)

pub all_in_list : (f : Name → Bool) (ns : List Name) → ((n : Name) → IsIn n ns → f n ≡ true) → list_all f ns ≡ true
all_in_list f [] h = refl
all_in_list f (n ∷ ns) h = λ i. h n (inl refl) i && all_in_list f ns (λ m j. h m (inr j)) i

in_all_list : (f : Name → Bool) (ns : List Name) → list_all f ns ≡ true → (n : Name) → IsIn n ns → f n ≡ true
in_all_list f [] h n i = absurd i
in_all_list f (m ∷ ms) h n (inl same) = ap f (sym same) ∙ (and_parts (f m) (list_all f ms) h).0
in_all_list f (m ∷ ms) h n (inr i) = in_all_list f ms (and_parts (f m) (list_all f ms) h).1 n i

-- two contents ---------------------------------------------------------------------------------------------------------------------

module _ (c d : Contents) (among : Name → Bool) (h : (n : Name) → among n ≡ true → Agree c d n × (list_all among (parents c n) ≡ true)) where
  parents_same : (n : Name) → among n ≡ true → parents c n ≡ parents d n
  parents_same n e = ap (map (λ bill. bill.parent)) (bills_same c d n (h n e).0.part_cell)

  parent_among : (n p : Name) → among n ≡ true → IsIn p (parents c n) → among p ≡ true
  parent_among n p e i = in_all_list among (parents c n) (h n e).1 p i

  any_same : (f g : Name → Bool) (ps : List Name) → ((p : Name) → IsIn p ps → f p ≡ g p) → list_any f ps ≡ list_any g ps
  any_same f g [] same = refl
  any_same f g (p ∷ ps) same = λ i. same p (inl refl) i || any_same f g ps (λ q j. same q (inr j)) i

  above_same : (k : ℕ) (n a : Name) → among n ≡ true → is_above k c n a ≡ is_above k d n a
  above_same zero n a e = refl
  above_same (suc k) n a e =
      any_same (λ p. name_eq p a || is_above k c p a) (λ p. name_eq p a || is_above k d p a) (parents c n)
      (λ p i. ap (λ b. name_eq p a || b) (above_same k p a (parent_among n p e i)))
      ∙ ap (list_any (λ p. name_eq p a || is_above k d p a)) (parents_same n e)

  ancestor_same : (n a : Name) → among n ≡ true → is_ancestor c n a ≡ is_ancestor d n a
  ancestor_same n a e = same_bools (is_ancestor c n a) (is_ancestor d n a)
      (λ up. chains_are_short d n a (longest_chain c) (sym (above_same (longest_chain c) n a e) ∙ up))
      (λ up. chains_are_short c n a (longest_chain d) (above_same (longest_chain d) n a e ∙ up))

  above_among : (k : ℕ) (n a : Name) → among n ≡ true → is_above k c n a ≡ true → among a ≡ true
  above_among zero n a e up = cc
  above_among (suc k) n a e up =
      let w = which (λ p. name_eq p a || is_above k c p a) (parents c n) up in
      let p_among = parent_among n w.0 e w.1 in
      elim (either (name_eq w.0 a) (is_above k c w.0 a) w.2) [
        | inl same ↦ subst (λ x. among x ≡ true) (one_name w.0 a same) p_among
        | inr more ↦ above_among k w.0 a p_among more
      ]

  calendar_same : (o : Option Name) → ((k : Name) → o ≡ Some k → cell_rows c (names.Cal k) ≡ cell_rows d (names.Cal k)) → has_calendar c o ≡ has_calendar d o
  calendar_same None cal = refl
  calendar_same (Some k) cal = ap is_some (record_same c d (keys.Cal k) (cal k refl))

  lacks_same : (r : Option Record) (n : Name) → among n ≡ true → ((k : Name) → calendar_of r ≡ Some k → cell_rows c (names.Cal k) ≡ cell_rows d (names.Cal k)) → lacks_calendar c r ≡ lacks_calendar d r
  lacks_same (Some (rows.Part lead lot safety calendar)) n e cal = ap not (calendar_same calendar cal)
  lacks_same _ n e cal = refl

  module _ (asked others : List Name) (asks : SameNames others asked) (all : (n : Name) → IsIn n asked → among n ≡ true) where
    reached_among : (n : Name) → IsIn n (in_reach c asked) → among n ≡ true
    reached_among n i = elim (reached_which c asked n i) [ inl j ↦ all n j | inr w ↦ above_among (longest_chain c) w.0 n (all w.0 w.1) w.2 ]

    reach_same : SameNames (in_reach d others) (in_reach c asked)
    reach_same n = same_bools (is_among (in_reach d others) n) (is_among (in_reach c asked) n)
        (λ e. in_is (in_reach c asked) n (elim (reached_which d others n (is_in (in_reach d others) n e)) [
          | inl i ↦ asked_reached c asked n (moved others asked asks n i)
          | inr w ↦ let i = moved others asked asks w.0 w.1 in ancestor_reached c asked w.0 n i (ancestor_same w.0 n (all w.0 i) ∙ w.2)
        ]))
        (λ e. in_is (in_reach d others) n (elim (reached_which c asked n (is_in (in_reach c asked) n e)) [
          | inl i ↦ asked_reached d others n (moved asked others (λ m. sym (asks m)) n i)
          | inr w ↦ ancestor_reached d others w.0 n (moved asked others (λ m. sym (asks m)) w.0 w.1) (sym (ancestor_same w.0 n (all w.0 w.1)) ∙ w.2)
        ]))

    part_alike : (n : Name) → among n ≡ true → is_part d n ≡ is_part c n
    part_alike n e = ap is_some (sym (record_same c d (keys.Part n) (h n e).0.part_cell))

    lacks_alike : (n : Name) → among n ≡ true → lacks_calendar d (record_at d (keys.Part n)) ≡ lacks_calendar c (record_at c (keys.Part n))
    lacks_alike n e = sym (lacks_same (record_at c (keys.Part n)) n e (h n e).0.calendar_cell ∙ ap (lacks_calendar d) (record_same c d (keys.Part n) (h n e).0.part_cell))

    among_there : (n : Name) → IsIn n (in_reach d others) → among n ≡ true
    among_there n i = reached_among n (moved (in_reach d others) (in_reach c asked) reach_same n i)

    cyclic_same : least_name (is_cyclic d) (in_reach d others) ≡ least_name (is_cyclic c) (in_reach c asked)
    cyclic_same = least_same (is_cyclic d) (is_cyclic c) (in_reach d others) (in_reach c asked) reach_same (λ n i. sym (ancestor_same n n (among_there n i)))

    pub refused_alike : plan_refusal d others ≡ plan_refusal c asked
    refused_alike =
        let no_part = least_same (λ n. not (is_part d n)) (λ n. not (is_part c n)) others asked asks (λ n i. ap not (part_alike n (all n (moved others asked asks n i)))) in
        let no_other = least_same (λ n. not (is_part d n)) (λ n. not (is_part c n)) (in_reach d others) (in_reach c asked) reach_same (λ n i. ap not (part_alike n (among_there n i))) in
        let no_calendar = least_same (λ n. lacks_calendar d (record_at d (keys.Part n))) (λ n. lacks_calendar c (record_at c (keys.Part n))) (in_reach d others) (in_reach c asked) reach_same
        (λ n i. lacks_alike n (among_there n i)) in
        let large = least_same (λ n. is_large (plan d n)) (λ n. is_large (plan c n)) (in_reach d others) (in_reach c asked) reach_same
        (λ n i. ap is_large (sym (plan_is_local c d among h n (among_there n i)).0)) in
        λ i. first_of (about (no_part i) refusals.NoPart ∷ about (no_other i) refusals.MissingPart ∷ about (no_calendar i) refusals.MissingCalendar ∷ about (cyclic_same i) refusals.Cyclic
        ∷ about (large i) refusals.TooLarge ∷ [])

  level_alike : (n : Name) → among n ≡ true → level_refusal d n ≡ level_refusal c n
  level_alike n e =
      let asks : SameNames (n ∷ []) (n ∷ []) = λ m. refl in
      let all : (m : Name) → IsIn m (n ∷ []) → among m ≡ true = λ m i. in_all_list among (n ∷ []) (λ j. e j && true) m i in
      let cycle = cyclic_same (n ∷ []) (n ∷ []) asks all in
      λ i. first_of (where_so (not (ap is_some (sym (record_same c d (keys.Part n) (h n e).0.part_cell)) i)) (refusals.NoPart n) ∷ about (cycle i) refusals.Cyclic ∷ [])

  -- so they tell the same
  pub plan_alike : (asked others : List Name) → SameNames others asked → ((n : Name) → IsIn n asked → among n ≡ true) → PlanAlike c asked d others
  plan_alike asked others asks all =
      let there : (n : Name) → is_among (in_reach c asked) n ≡ true → among n ≡ true = λ n e. reached_among asked others asks all n (is_in (in_reach c asked) n e) in
      record {
        asks = asks;
        reach = reach_same asked others asks all;
        parts = λ n e. part_alike asked others asks all n (there n e);
        plans = λ n e. sym (plan_is_local c d among h n (there n e)).0;
        levels = λ n e. sym (plan_is_local c d among h n (there n e)).1;
        plan_refusals = refused_alike asked others asks all;
        level_refusals = λ n e. level_alike n (all n (is_in asked n e));
      }
