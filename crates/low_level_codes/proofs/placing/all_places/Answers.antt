use Rattle.std.proofs.Common.{◌≡◌, ◌<◌, ℕ, ◌+◌, inl, inr, List, [], ◌∷◌, ◌++◌, sym, subst, arith}
use Rattle.std.specs.List.{AllByRecursion}
use Rattle.std.proofs.lemmas.Bool.{cases_lt}
use Rattle.low_level_codes.specs.Graphs.{IsAt}
use Rattle.low_level_codes.proofs.Places.{in_first, in_second, all_joined}
use Rattle.low_level_codes.proofs.placing.all_places.Goals as goal

one_more : (xs : List ℕ) (i : ℕ) → ((q : ℕ) → q < i → IsAt q xs) → (q : ℕ) → q < i + 1 → IsAt q (xs ++ i ∷ [])
one_more xs i h q l = elim (cases_lt q i) [
  | inl less ↦ in_first q xs (i ∷ []) (h q less)
  | inr more ↦ in_second q xs (i ∷ []) (inl (let same : i ≡ q = omega arith in same))
]

pub loop-place-preserved : goal.loop-place-preserved
loop-place-preserved c =
    let joined : c.push.new.self.items ≡ c.loop-place.places.items ++ c.loop-place.place ∷ [] = c.in_ok-push.ensures.items in
    record {
      all = subst (λ xs. (q : ℕ) → q < c.loop-place.place + 1 → IsAt q xs) (sym joined) (one_more c.loop-place.places.items c.loop-place.place c.loop-place.invariant.all);
      inside = subst (AllByRecursion (λ q. q < c.args.count)) (sym joined) (all_joined (λ q. q < c.args.count) c.loop-place.places.items (c.loop-place.place ∷ []) c.loop-place.invariant.inside (c.loop-place-test.true, tt));
    }
