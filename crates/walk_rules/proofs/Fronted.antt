-- A right memo stays right when a pair goes to the front, and gives right values.
use Rattle.std.proofs.Common.{◌≡◌, List, [], ◌∷◌, refl, ap, subst, Bool, true, false, cond}
use Rattle.std.specs.Prelude.{Option, Some, None}
use Rattle.std.specs.List.{AllByRecursion}
use Rattle.std.specs.Map.{lookup, lookup_entry, remove_entry}
use Rattle.std.specs.Option.{option_map_or}
use Rattle.shared_memo.specs.Pairs.{in_front}

module _ {K V : Type 0} (P : K × V → Type 0) (test : K → Bool) where
  pub rest_right : (ps : List (K × V)) → AllByRecursion P ps → AllByRecursion P (remove_entry test ps)
  rest_right [] h = tt
  rest_right (p ∷ ps) h = by_cases (test p.0) (rest_right ps h.1)
    where
      by_cases : (b : Bool) → AllByRecursion P (remove_entry test ps) → AllByRecursion P (cond b ps (p ∷ remove_entry test ps))
      by_cases true again = h.1
      by_cases false again = (h.0, again)

  found_right : (ps : List (K × V)) (e : K × V) → AllByRecursion P ps → lookup_entry test ps ≡ Some e → P e
  found_right [] e h is = absurd (let never : ⊥ = cc in never)
  found_right (p ∷ ps) e h is = by_cases (test p.0) (found_right ps e h.1) is
    where
      by_cases : (b : Bool) → (lookup_entry test ps ≡ Some e → P e) → cond b (Some p) (lookup_entry test ps) ≡ Some e → P e
      by_cases true again o = let same : p ≡ e = cc in subst P same h.0
      by_cases false again o = again o

  pub right_in_front : (ps : List (K × V)) → AllByRecursion P ps → AllByRecursion P (in_front test ps)
  right_in_front ps h = by_cases (lookup_entry test ps) (λ e is. found_right ps e h is)
    where
      by_cases : (o : Option (K × V)) → ((e : K × V) → o ≡ Some e → P e) → AllByRecursion P (option_map_or (λ p. p ∷ remove_entry test ps) o ps)
      by_cases None f = h
      by_cases (Some e) f = (f e refl, rest_right ps h)

module _ {K V : Type 0} (test : K → Bool) where
  no_entry : (qs : List (K × V)) → lookup test qs ≡ None → lookup_entry test qs ≡ None
  no_entry [] h = refl
  no_entry (q ∷ qs) h = by_cases (test q.0) (no_entry qs) h
    where
      by_cases : (b : Bool) → (lookup test qs ≡ None → lookup_entry test qs ≡ None) → cond b (Some q.1) (lookup test qs) ≡ None → cond b (Some q) (lookup_entry test qs) ≡ None
      by_cases true again o = cc
      by_cases false again o = again o

  -- a look-up that finds nothing leaves all pairs where they are
  pub in_front_none : (ps : List (K × V)) → lookup test ps ≡ None → in_front test ps ≡ ps
  in_front_none ps h = ap (λ (o : Option (K × V)). option_map_or (λ p. p ∷ remove_entry test ps) o ps) (no_entry ps h)
