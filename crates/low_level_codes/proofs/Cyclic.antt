-- The least name that is its own ancestor.
use Rattle.std.proofs.Common.{◌≡◌, ℕ, zero, suc, ◌+◌, ◌<◌, inl, inr, List, [], ◌∷◌, length, refl, sym, ◌∙◌, ap, subst, arith, Bool, true, false, cond, ◌||◌, ◌&&◌}
use Rattle.std.proofs.lemmas.Bool.{cases_lt}
use Rattle.std.proofs.lemmas.Bool.Decides.{nat_tests}
use Rattle.std.specs.Prelude.{Option, Some, None, slice_get, nat_lt, Contains, filter, fold}
use Rattle.std.specs.List.{list_all, AllByRecursion}
use Rattle.std.specs.Ordering.{is_lt, ordering_reverse}
use Rattle.std.specs.declared.cmp.Ordering.{Ordering}
use Rattle.std.specs.declared.cmp.Ordering.TheVariants.{Less, Equal, Greater}
use Rattle.std.specs.Cmp.Lexicographic.{nat_list_cmp_total}
use Rattle.plan_schema.specs.declared.name.Name.{Name}
use Rattle.plan_schema.specs.Key.{name_eq, name_cmp}
use Rattle.plan_schema.specs.Contents.{Contents}
use Rattle.planning_rules.specs.Bills.{parents, is_above, longest_chain, level}
use Rattle.planning_rules.specs.Refused.{earlier, least_name, is_cyclic}
use Rattle.planning_rules.proofs.Membership.{IsIn, in_contained, all_at, which, either}
use Rattle.planning_rules.proofs.LevelLaws.{no_level_is_cyclic, cyclic_has_no_level, one_name}
use Rattle.low_level_codes.specs.Levels.{as_records, are_ascending, AreClosed}
use Rattle.low_level_codes.specs.Graphs.{at, level_at, IsAt, AreWithin, AreTurned, IsUpward, HasSteps}
use Rattle.low_level_codes.specs.Numbers.{StandAt, IsGraph, LacksLevel}
use Rattle.low_level_codes.specs.Owns.{IsNotOwn, NoneOwn, FirstOwn}
use Rattle.low_level_codes.proofs.Places.{never, all_of, within_at}
use Rattle.low_level_codes.proofs.Above.{below_each}
use Rattle.low_level_codes.proofs.Ancestors.{own_only, own_has, own_in}
use Rattle.low_level_codes.proofs.Numbered.{inside}
use Rattle.low_level_codes.proofs.Steps.{level_is}
use Rattle.low_level_codes.proofs.Leveled.{stand_index, in_at, lacking}

pub none_more : (ups : List (List ℕ)) (levels heights : List (Option ℕ)) (places : List ℕ) (count q : ℕ) → slice_get places count ≡ Some q → NoneOwn ups levels heights places count → IsNotOwn ups levels heights q → NoneOwn ups levels heights places (count + 1)
none_more ups levels heights places count q is before here = record {
  none = λ i r less there. elim (cases_lt i count) [
    | inl low ↦ before.none i r low there
    | inr high ↦
        let same : i ≡ count = omega arith in
        let one : Some q ≡ Some r = sym is ∙ ap (slice_get places) (sym same) ∙ there in
        let place : q ≡ r = cc in
        subst (IsNotOwn ups levels heights) place here
  ];
}

-- of ascending names the first that passes is the least
one_way : (o : Ordering) → is_lt o ≡ true → is_lt (ordering_reverse o) ≡ false
one_way Less h = refl
one_way Equal h = never h
one_way Greater h = never h

not_earlier : (m n : Name) → is_lt (name_cmp m n) ≡ true → is_lt (name_cmp n m) ≡ false
not_earlier m n h = ap is_lt (nat_list_cmp_total.antisymm n m) ∙ one_way (name_cmp m n) h

two : (a b : Bool) → (a && b) ≡ true → (a ≡ true) × (b ≡ true)
two true b h = (refl, h)
two false b h = never h

stays : (test : Name → Bool) (m : Name) (ns : List Name) → list_all (λ n. is_lt (name_cmp m n)) ns ≡ true → fold earlier (Some m) (filter test ns) ≡ Some m
stays test m [] h = refl
stays test m (n ∷ ns) h = by_cases (stays test m ns (two (is_lt (name_cmp m n)) (list_all (λ n. is_lt (name_cmp m n)) ns) h).1) (test n)
  where
    not_less : is_lt (name_cmp n m) ≡ false
    not_less = not_earlier m n (two (is_lt (name_cmp m n)) (list_all (λ n. is_lt (name_cmp m n)) ns) h).0

    by_cases : fold earlier (Some m) (filter test ns) ≡ Some m → (b : Bool) → fold earlier (Some m) (cond b (n ∷ filter test ns) (filter test ns)) ≡ Some m
    by_cases rest true = ap (λ b. fold earlier (cond b (Some n) (Some m)) (filter test ns)) not_less ∙ rest
    by_cases rest false = rest

least_first : (test : Name → Bool) (names : List Name) (i : ℕ) (n : Name) → are_ascending names ≡ true → slice_get names i ≡ Some n → test n ≡ true
    → ((k : ℕ) (m : Name) → k < i → slice_get names k ≡ Some m → test m ≡ false) → least_name test names ≡ Some n
least_first test [] i n asc is h before = absurd (let no : ⊥ = cc in no)
least_first test (m ∷ ms) zero n asc is h before =
    let same : m ≡ n = cc in
    let passes : test m ≡ true = ap test same ∙ h in
    ap (λ b. fold earlier None (cond b (m ∷ filter test ms) (filter test ms))) passes ∙ stays test m ms (two (list_all (λ n. is_lt (name_cmp m n)) ms) (are_ascending ms) asc).0 ∙ is
least_first test (m ∷ ms) (suc i) n asc is h before =
    ap (λ b. fold earlier None (cond b (m ∷ filter test ms) (filter test ms))) (before 0 m (omega arith) refl)
    ∙ least_first test ms i n (two (list_all (λ n. is_lt (name_cmp m n)) ms) (are_ascending ms) asc).1 is h (λ k p less there. before (suc k) p (omega arith) there)

-- closed names hold all their ancestors
closed_above : (c : Contents) (names : List Name) → AllByRecursion (λ n. AllByRecursion (Contains names) (parents c n)) names → (k : ℕ) (n y : Name) → is_above k c n y ≡ true → IsIn n names → IsIn y names
closed_above c names closed zero n y h i = never h
closed_above c names closed (suc k) n y h i =
    let w = which (λ p. name_eq p y || is_above k c p y) (parents c n) h in
    let here : IsIn w.0 names = in_contained names w.0 (all_at (Contains names) w.0 (parents c n) w.1 (all_at (λ n. AllByRecursion (Contains names) (parents c n)) n names i closed)) in
    elim (either (name_eq w.0 y) (is_above k c w.0 y) w.2) [
      | inl same ↦ subst (λ p. IsIn p names) (one_name w.0 y same) here
      | inr more ↦ closed_above c names closed k w.0 y more here
    ]

-- levels from below rise upward, so what has one isn't above itself
unfoldable rising : (h : ℕ) → Option ℕ → Bool
rising h None = true
rising h (Some m) = nat_lt h m

module _ (ups downs : List (List ℕ)) (turned : AreTurned ups downs) (within : AreWithin (length downs) ups) (heights : List (Option ℕ)) (s : HasSteps downs heights) where
  rises : (i q h : ℕ) → q < length downs → IsAt q (at ups i) → (o : Option ℕ) → level_at heights q ≡ o → (level_at heights i ≡ Some h) → rising h o ≡ true
  unfolding rising
  rises i q h less up None e is = refl
  rises i q h less up (Some m) e is =
      let low = below_each (level_at heights) (at downs q) i m (turned q i up) (sym (s.each q less) ∙ e) in
      let one : Some h ≡ Some low.0 = sym is ∙ low.1 in
      let same : h ≡ low.0 = cc in
      let lower = low.2 in
      let smaller : h < m = omega arith in
      grind (arith, nat_tests)

  rises_on : (i q h : ℕ) → q < length downs → IsAt q (at ups i) → (o p : Option ℕ) → level_at heights i ≡ o → level_at heights q ≡ p → rising h o ≡ true → rising h p ≡ true
  unfolding rising
  rises_on i q h less up o None is e r = refl
  rises_on i q h less up o (Some m) is e r =
      let low = below_each (level_at heights) (at downs q) i m (turned q i up) (sym (s.each q less) ∙ e) in
      let there : rising h (Some low.0) ≡ true = ap (rising h) (sym (sym is ∙ low.1)) ∙ r in
      let lower = low.2 in
      between h low.0 m there lower
    where
      between : (h k m : ℕ) → nat_lt h k ≡ true → k < m → nat_lt h m ≡ true
      between h k m a b = grind (arith, nat_tests)

  -- so the higher places are closed upward
  higher : (q h : ℕ) → level_at heights q ≡ Some h → IsUpward ups (at ups q) (λ x. rising h (level_at heights x))
  higher q h is = record {
    begins = λ x i. rises q x h (inner q x i) i (level_at heights x) refl is;
    closed = λ i x r u. rises_on i x h (inner i x u) u (level_at heights i) (level_at heights x) refl refl r;
  }
    where
      inner : (i x : ℕ) → IsAt x (at ups i) → x < length downs
      inner i x u = all_of (λ q. q < length downs) (at ups i) x (within_at (length downs) ups i within) u

not_itself : (h : ℕ) → rising h (Some h) ≡ true → ⊥
unfolding rising
not_itself h e = let no : nat_lt h h ≡ false = grind (arith, nat_tests) in never (sym no ∙ e)

module _ (bills : List (Name × Name)) (ns : List Name) (ups downs : List (List ℕ)) (g : IsGraph bills ns ups downs) (levels : List (Option ℕ)) (s : HasSteps ups levels)
    (heights : List (Option ℕ)) (t : HasSteps downs heights)
    (places : List ℕ) (names : List Name) (stand : StandAt ns places names) where
  not_own : (q : ℕ) (n : Name) → slice_get ns q ≡ Some n → IsNotOwn ups levels heights q → is_cyclic (as_records bills) n ≡ false
  not_own q n is (inl w) = by_cases (is_cyclic (as_records bills) n) refl
    where
      by_cases : (b : Bool) → is_cyclic (as_records bills) n ≡ b → is_cyclic (as_records bills) n ≡ false
      by_cases false e = e
      by_cases true e =
          let none : level (as_records bills) n ≡ None = cyclic_has_no_level (as_records bills) n n e e in
          let wrong : None ≡ Some w.0 = sym none ∙ sym (level_is bills ns ups downs g levels s q n is) ∙ w.1 in
          cc
  not_own q n is (inr (inl w)) = by_cases (is_cyclic (as_records bills) n) refl
    where
      by_cases : (b : Bool) → is_cyclic (as_records bills) n ≡ b → is_cyclic (as_records bills) n ≡ false
      by_cases false e = e
      by_cases true e =
          let within : AreWithin (length downs) ups = subst (λ n. AreWithin n ups) (sym g.below) g.within in
          let up = higher ups downs g.turned within heights t q w.0 w.1 in
          let self = own_in bills ns ups downs g q n is (λ x. rising w.0 (level_at heights x)) up e in
          absurd (not_itself w.0 (sym (ap (rising w.0) w.1) ∙ self))
  not_own q n is (inr (inr w)) = by_cases (is_cyclic (as_records bills) n) refl
    where
      by_cases : (b : Bool) → is_cyclic (as_records bills) n ≡ b → is_cyclic (as_records bills) n ≡ false
      by_cases false e = e
      by_cases true e = never (sym w.2 ∙ own_has bills ns ups downs g q n is w.0 w.1 e)

  none_before : (count : ℕ) → NoneOwn ups levels heights places count → (k : ℕ) (m : Name) → k < count → slice_get names k ≡ Some m → is_cyclic (as_records bills) m ≡ false
  none_before count none k m less is = let p = stand_index ns places names stand k m is in not_own p.0 m p.2 (none.none k p.0 less p.1)

  -- the first place above itself has the least name
  pub first_is_least : are_ascending names ≡ true → (n : Name) → FirstOwn ups levels heights places names n → least_name (is_cyclic (as_records bills)) names ≡ Some n
  first_is_least asc n f =
      let p = stand_index ns places names stand f.index n f.named in
      let one : Some p.0 ≡ Some f.place = sym p.1 ∙ f.there in
      let same : p.0 ≡ f.place = cc in
      let own = f.own in
      let here : slice_get ns f.place ≡ Some n = ap (slice_get ns) (sym same) ∙ p.2 in
      least_first (is_cyclic (as_records bills)) names f.index n asc f.named (own_only bills ns ups downs g f.place n here own.0 own.1 own.2) (none_before f.index f.before)

  -- where a place lacks a level, one is above itself
  pub some_own : AreClosed bills names → LacksLevel levels places → NoneOwn ups levels heights places (length names) → ⊥
  some_own closed lacks none =
      let w = lacking bills ns ups downs g levels s places names stand lacks in
      let y = no_level_is_cyclic (as_records bills) w.0 w.2 in
      let there = in_at names y.0 (closed_above (as_records bills) names closed (longest_chain (as_records bills)) w.0 y.0 y.1 w.1) in
      never (sym (none_before (length names) none there.0 y.0 (inside names there.0 y.0 there.1) there.1) ∙ y.2)
