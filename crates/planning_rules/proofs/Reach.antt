-- A name in reach is its own ancestor exactly where some asked name has no level.
use Rattle.std.proofs.Common.{◌≡◌, ℕ, zero, suc, inl, inr, List, [], ◌∷◌, refl, sym, ◌∙◌, ap, subst, Bool, true, false, not, ◌||◌, ◌&&◌}
use Rattle.std.specs.Prelude.{Option, Some, None, is_some, is_none, filter}
use Rattle.std.specs.List.{list_any, list_all}
use Rattle.plan_schema.specs.declared.name.Name.{Name}
use Rattle.plan_schema.specs.declared.key.Key.TheVariants as keys
use Rattle.plan_schema.specs.declared.refusal.Refusal.{Refusal}
use Rattle.plan_schema.specs.declared.refusal.Refusal.TheVariants as refusals
use Rattle.plan_schema.specs.Key.{name_eq}
use Rattle.plan_schema.specs.Contents.{Contents, record_at}
use Rattle.plan_schema.specs.Refusals.{first_of, where_so, about}
use Rattle.planning_rules.specs.Bills.{parents, all_parents, is_above, is_ancestor, longest_chain, level}
use Rattle.planning_rules.specs.Plan.{plan}
use Rattle.planning_rules.specs.Refused.{least_name, in_reach, is_cyclic, is_part, lacks_calendar, is_large, plan_refusal}
use Rattle.planning_rules.specs.Laws.{CyclicIsNoLevel, LevelIsRefused, says_cyclic, PlanIsCyclic}
use Rattle.planning_rules.proofs.Membership.{IsIn, any_in, which, either, in_first, in_second, in_one, in_kept, kept_in}
use Rattle.planning_rules.proofs.Parents.{in_all}
use Rattle.planning_rules.proofs.LevelLaws.{no_level_is_cyclic, cyclic_has_no_level, one_name}
use Rattle.planning_rules.proofs.LeastNames.{least_found, found_passes}

-- an ancestor is among all parents
ancestor_in : (c : Contents) (a : Name) (steps : ℕ) (n : Name) → is_above steps c n a ≡ true → IsIn a (all_parents c)
ancestor_in c a zero n h = cc
ancestor_in c a (suc steps) n h =
    let w = which (λ p. name_eq p a || is_above steps c p a) (parents c n) h in
    elim (either (name_eq w.0 a) (is_above steps c w.0 a) w.2) [
      | inl same ↦ subst (λ p. IsIn p (all_parents c)) (one_name w.0 a same) (in_all c n w.0 w.1)
      | inr more ↦ ancestor_in c a steps w.0 more
    ]

none_tells : {A : Type 0} (o : Option A) → is_none o ≡ true → o ≡ None
none_tells None h = refl
none_tells (Some x) h = cc

some_tells : {A : Type 0} (o : Option A) → is_some o ≡ true → (x : A) × (o ≡ Some x)
some_tells None h = cc
some_tells (Some x) h = (x, refl)

same_bools : (a b : Bool) → (a ≡ true → b ≡ true) → (b ≡ true → a ≡ true) → a ≡ b
same_bools true b h k = sym (h refl)
same_bools false true h k = k refl
same_bools false false h k = refl

abbrev cycle_found : Contents → List Name → Bool
cycle_found c asked = is_some (least_name (is_cyclic c) (in_reach c asked))

abbrev lacks_level : Contents → List Name → Bool
lacks_level c asked = list_any (λ n. is_none (level c n)) asked

no_level_there : (c : Contents) (asked : List Name) → cycle_found c asked ≡ true → lacks_level c asked ≡ true
no_level_there c asked h =
    let least = some_tells (least_name (is_cyclic c) (in_reach c asked)) h in
    let y = least.0 in
    let found = found_passes (is_cyclic c) (in_reach c asked) y least.1 in
    elim (in_one y asked (filter (λ a. list_any (λ n. is_ancestor c n a) asked) (all_parents c)) found.0) [
      | inl i ↦ any_in (λ n. is_none (level c n)) y asked i (ap is_none (cyclic_has_no_level c y y found.1 found.1))
      | inr i ↦
          let kept = kept_in (λ a. list_any (λ n. is_ancestor c n a) asked) y (all_parents c) i in
          let below = which (λ n. is_ancestor c n y) asked kept.1 in
          any_in (λ n. is_none (level c n)) below.0 asked below.1 (ap is_none (cyclic_has_no_level c below.0 y below.2 found.1))
    ]

cycle_there : (c : Contents) (asked : List Name) → lacks_level c asked ≡ true → cycle_found c asked ≡ true
cycle_there c asked h =
    let bare = which (λ n. is_none (level c n)) asked h in
    let cycle = no_level_is_cyclic c bare.0 (none_tells (level c bare.0) bare.2) in
    let y = cycle.0 in
    let reached = in_kept (λ a. list_any (λ n. is_ancestor c n a) asked) y (all_parents c) (ancestor_in c y (longest_chain c) bare.0 cycle.1)
    (any_in (λ n. is_ancestor c n y) bare.0 asked bare.1 cycle.1) in
    let least = least_found (is_cyclic c) (in_reach c asked) y (in_second y asked (filter (λ a. list_any (λ n. is_ancestor c n a) asked) (all_parents c)) reached) cycle.2 in
    ap is_some least.1

pub cyclic_is_no_level : CyclicIsNoLevel
cyclic_is_no_level c asked = same_bools (cycle_found c asked) (lacks_level c asked) (no_level_there c asked) (cycle_there c asked)

-- a level is refused in the one case or in the other
first_of_two : (b : Bool) (refusal : Refusal) (o : Option Name) → is_some (first_of (where_so (not b) refusal ∷ about o refusals.Cyclic ∷ [])) ≡ (not b || is_some o)
first_of_two false refusal o = refl
first_of_two true refusal None = refl
first_of_two true refusal (Some n) = refl

or_none : (b : Bool) → (b || false) ≡ b
or_none true = refl
or_none false = refl

pub level_is_refused : LevelIsRefused
level_is_refused c n =
    first_of_two (is_part c n) (refusals.NoPart n) (least_name (is_cyclic c) (in_reach c (n ∷ [])))
    ∙ ap (λ b. not (is_part c n) || b) (cyclic_is_no_level c (n ∷ []) ∙ or_none (is_none (level c n)))

-- a plan is refused `cyclic` where no refusal before it applies, and the one after it doesn't matter
none_passes : (test : Name → Bool) (names : List Name) → ((n : Name) → IsIn n names → test n ≡ false) → least_name test names ≡ None
none_passes test names fails = by_cases (least_name test names) refl
  where
    by_cases : (o : Option Name) → least_name test names ≡ o → o ≡ None
    by_cases None e = refl
    by_cases (Some w) e =
        let found = found_passes test names w e in
        let wrong : test w ≡ false = fails w found.0 in
        let right : test w ≡ true = found.1 in cc

all_pass : (g : Name → Bool) (names : List Name) → list_all g names ≡ true → (n : Name) → IsIn n names → g n ≡ true
all_pass g [] h n i = absurd i
all_pass g (m ∷ ms) h n i = by_cases (all_pass g ms) (g m) refl h i
  where
    by_cases : (list_all g ms ≡ true → (k : Name) → IsIn k ms → g k ≡ true) → (b : Bool) → g m ≡ b → (b && list_all g ms) ≡ true → IsIn n (m ∷ ms) → g n ≡ true
    by_cases again true e h (inl same) = ap g (sym same) ∙ e
    by_cases again true e h (inr i) = again h n i
    by_cases again false e h i = cc

whole_part : (part lacks : Bool) → (part && not lacks) ≡ true → (not part ≡ false) × (lacks ≡ false)
whole_part true true h = cc
whole_part true false h = (refl, refl)
whole_part false lacks h = cc

told : (o : Option Name) (large : Option Refusal) → says_cyclic large ≡ false → says_cyclic (first_of (about o refusals.Cyclic ∷ large ∷ [])) ≡ is_some o
told (Some n) large h = refl
told None None h = refl
told None (Some refusal) h = h

large_says : (o : Option Name) → says_cyclic (about o refusals.TooLarge) ≡ false
large_says None = refl
large_says (Some n) = refl

pub plan_is_cyclic : PlanIsCyclic
plan_is_cyclic c asked whole =
    let each = λ (n : Name) (i : IsIn n (in_reach c asked)).
    whole_part (is_part c n) (lacks_calendar c (record_at c (keys.Part n))) (all_pass (λ m. is_part c m && not (lacks_calendar c (record_at c (keys.Part m)))) (in_reach c asked) whole n i) in
    let asked_parts : least_name (λ n. not (is_part c n)) asked ≡ None = none_passes (λ n. not (is_part c n)) asked (λ n i. (each n (in_first n asked _ i)).0) in
    let parts : least_name (λ n. not (is_part c n)) (in_reach c asked) ≡ None = none_passes (λ n. not (is_part c n)) (in_reach c asked) (λ n i. (each n i).0) in
    let calendars : least_name (λ n. lacks_calendar c (record_at c (keys.Part n))) (in_reach c asked) ≡ None =
    none_passes (λ n. lacks_calendar c (record_at c (keys.Part n))) (in_reach c asked) (λ n i. (each n i).1) in
    let rest : Option Refusal = about (least_name (λ n. is_large (plan c n)) (in_reach c asked)) refusals.TooLarge in
    let first : plan_refusal c asked ≡ first_of (about (least_name (is_cyclic c) (in_reach c asked)) refusals.Cyclic ∷ rest ∷ []) =
    λ i. first_of (about (asked_parts i) refusals.NoPart ∷ about (parts i) refusals.MissingPart ∷ about (calendars i) refusals.MissingCalendar
    ∷ about (least_name (is_cyclic c) (in_reach c asked)) refusals.Cyclic ∷ rest ∷ []) in
    ap says_cyclic first ∙ told (least_name (is_cyclic c) (in_reach c asked)) rest (large_says (least_name (λ n. is_large (plan c n)) (in_reach c asked))) ∙ cyclic_is_no_level c asked
