-- The pegs of a day sum to its gross requirements.
use Rattle.std.proofs.Common.{◌≡◌, ℕ, ◌+◌, List, [], ◌∷◌, map, refl, sym, ◌∙◌, arith, Bool, true, false, cond}
use Rattle.std.proofs.lemmas.Bool.Decides.{nat_tests}
use Rattle.std.proofs.lemmas.List.Sums.{sum_by-append, sum_by-cons}
use Rattle.std.specs.Prelude.{nat_lt, sum_by}
use Rattle.plan_schema.specs.declared.name.Name.{Name}
use Rattle.planning_rules.specs.Plan.{total, demands_on, asked_by_parents}
use Rattle.planning_rules.specs.Pegs.{Peg, FromDemand, FromParent, peg_qty, above_zero}
use Rattle.planning_rules.specs.Laws.{PegsAreGross}

none_lost : (q : ℕ) → nat_lt 0 q ≡ false → q ≡ 0
none_lost q h = grind (arith, nat_tests)

-- what is above 0 sums to all
above_zero_sums : (peg : Name → ℕ → Peg) → ((n : Name) (q : ℕ) → peg_qty (peg n q) ≡ q) → (pairs : List (Name × ℕ)) → sum_by peg_qty (map (λ pair. peg pair.0 pair.1) (above_zero pairs)) ≡ total pairs
above_zero_sums peg is [] = refl
above_zero_sums peg is (pair ∷ pairs) = by_cases (above_zero_sums peg is pairs) (nat_lt 0 pair.1) refl ∙ sym (sum_by-cons (λ (p : Name × ℕ). p.1) pair pairs)
  where
    by_cases : sum_by peg_qty (map (λ p. peg p.0 p.1) (above_zero pairs)) ≡ total pairs → (b : Bool) → nat_lt 0 pair.1 ≡ b
        → sum_by peg_qty (map (λ p. peg p.0 p.1) (cond b (pair ∷ above_zero pairs) (above_zero pairs))) ≡ pair.1 + total pairs
    by_cases rest true e = sum_by-cons peg_qty (peg pair.0 pair.1) (map (λ p. peg p.0 p.1) (above_zero pairs)) ∙ λ i. is pair.0 pair.1 i + rest i
    by_cases rest false e = let nothing : pair.1 ≡ 0 = none_lost pair.1 e in rest ∙ omega arith

pub pegs_are_gross : PegsAreGross
pegs_are_gross plans c n t =
    sum_by-append peg_qty (map (λ pair. FromDemand pair.0 pair.1) (above_zero (demands_on c n t))) (map (λ pair. FromParent pair.0 pair.1) (above_zero (asked_by_parents plans c n t)))
    ∙ λ i. above_zero_sums FromDemand (λ _ _. refl) (demands_on c n t) i + above_zero_sums FromParent (λ _ _. refl) (asked_by_parents plans c n t) i
