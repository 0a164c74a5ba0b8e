-- Levels of which each is one step from those above are the levels of the names.
use Rattle.std.proofs.Common.{◌≡◌, ℕ, zero, suc, ◌<◌, ◌≤◌, List, [], ◌∷◌, map, max, refl, sym, ◌∙◌, ap, subst, arith}
use Rattle.std.specs.Prelude.{Option, Some, None, slice_get}
use Rattle.plan_schema.specs.declared.name.Name.{Name}
use Rattle.planning_rules.specs.Bills.{parents, above_all, level, level_within, longest_chain}
use Rattle.planning_rules.proofs.LevelLaws.{level_is_step}
use Rattle.low_level_codes.specs.Levels.{as_records}
use Rattle.low_level_codes.specs.Graphs.{at, level_at, HasSteps}
use Rattle.low_level_codes.specs.Numbers.{StandAt, IsGraph}
use Rattle.low_level_codes.proofs.Above.{highest, rest_none, above_some, above_none}
use Rattle.low_level_codes.proofs.Numbered.{inside}

-- where all places have levels and these are those of the names, so is what is above them
same_above : (ns : List Name) (f : ℕ → Option ℕ) (h : Name → Option ℕ) (most : ℕ) → ((q m : ℕ) (p : Name) → slice_get ns q ≡ Some p → f q ≡ Some m → m < most → h p ≡ Some m)
    → (qs : List ℕ) (ps : List Name) → StandAt ns qs ps → (l : ℕ) → l ≤ most → above_all (map f qs) ≡ Some l → above_all (map h ps) ≡ Some l
same_above ns f h most each [] [] stand l low e = e
same_above ns f h most each [] (p ∷ ps) stand l low e = absurd stand
same_above ns f h most each (q ∷ qs) [] stand l low e = absurd stand
same_above ns f h most each (q ∷ qs) (p ∷ ps) stand l low e = by_cases (same_above ns f h most each qs ps stand.1) (f q) refl e
  where
    by_cases : ((r : ℕ) → r ≤ most → above_all (map f qs) ≡ Some r → above_all (map h ps) ≡ Some r) → (o : Option ℕ) → f q ≡ o → above_all (o ∷ map f qs) ≡ Some l → above_all (h p ∷ map h ps) ≡ Some l
    by_cases again None is e = cc
    by_cases again (Some m) is e =
        let top = highest m l (above_all (map f qs)) e in
        let greatest : max (suc m) top.0 ≡ l = top.2 in
        ap (λ o. above_all (o ∷ map h ps)) (each q m p stand.0 is (omega arith)) ∙ above_some m top.0 (above_all (map h ps)) (again top.0 (omega arith) top.1) ∙ ap Some top.2

-- and where one of them has none, and its name none, nor has what is above
none_above : (ns : List Name) (f : ℕ → Option ℕ) (h : Name → Option ℕ) → ((q : ℕ) (p : Name) → slice_get ns q ≡ Some p → f q ≡ None → h p ≡ None)
    → (qs : List ℕ) (ps : List Name) → StandAt ns qs ps → above_all (map f qs) ≡ None → above_all (map h ps) ≡ None
none_above ns f h each [] [] stand e = cc
none_above ns f h each [] (p ∷ ps) stand e = absurd stand
none_above ns f h each (q ∷ qs) [] stand e = absurd stand
none_above ns f h each (q ∷ qs) (p ∷ ps) stand e = by_cases (none_above ns f h each qs ps stand.1) (f q) refl e
  where
    rest : (o : Option ℕ) → above_all (map h ps) ≡ None → above_all (o ∷ map h ps) ≡ None
    rest None none = refl
    rest (Some m) none = above_none m (above_all (map h ps)) none

    by_cases : (above_all (map f qs) ≡ None → above_all (map h ps) ≡ None) → (o : Option ℕ) → f q ≡ o → above_all (o ∷ map f qs) ≡ None → above_all (h p ∷ map h ps) ≡ None
    by_cases again None is e = ap (λ o. above_all (o ∷ map h ps)) (each q p stand.0 is)
    by_cases again (Some m) is e = rest (h p) (again (rest_none m (above_all (map f qs)) e))

module _ (bills : List (Name × Name)) (ns : List Name) (ups downs : List (List ℕ)) (g : IsGraph bills ns ups downs) (levels : List (Option ℕ)) (s : HasSteps ups levels) where
  step : (i : ℕ) (n : Name) → slice_get ns i ≡ Some n → level_at levels i ≡ above_all (map (level_at levels) (at ups i))
  step i n is = s.each i (subst (λ k. i < k) (sym g.whole) (inside ns i n is))

  some_level : (k i l : ℕ) (n : Name) → l < k → slice_get ns i ≡ Some n → level_at levels i ≡ Some l → level (as_records bills) n ≡ Some l
  some_level zero i l n less is e = absurd (omega arith)
  some_level (suc k) i l n less is e =
      level_is_step (as_records bills) n
      ∙ same_above ns (level_at levels) (level (as_records bills)) l (λ q m p there has low. some_level k q m p (omega arith) there has)
      (at ups i) (parents (as_records bills) n) (g.stand i n is) l (omega arith) (sym (step i n is) ∙ e)

  none_level : (k i : ℕ) (n : Name) → slice_get ns i ≡ Some n → level_at levels i ≡ None → level_within k (as_records bills) n ≡ None
  none_level zero i n is e = refl
  none_level (suc k) i n is e =
      none_above ns (level_at levels) (level_within k (as_records bills)) (λ q p there none. none_level k q p there none)
      (at ups i) (parents (as_records bills) n) (g.stand i n is) (sym (step i n is) ∙ e)

  -- the level at a place is that of the name there
  pub level_is : (i : ℕ) (n : Name) → slice_get ns i ≡ Some n → level_at levels i ≡ level (as_records bills) n
  level_is i n is = by_cases (level_at levels i) refl
    where
      by_cases : (o : Option ℕ) → level_at levels i ≡ o → level_at levels i ≡ level (as_records bills) n
      by_cases (Some l) e = e ∙ sym (some_level (suc l) i l n (omega arith) is e)
      by_cases None e = e ∙ sym (none_level (longest_chain (as_records bills)) i n is e)
