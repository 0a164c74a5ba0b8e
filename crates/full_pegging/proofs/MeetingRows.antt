-- Two rows of units that meet, as rows that don't.
use Rattle.std.proofs.Common.{◌≡◌, ◌⊎◌, ℕ, ◌+◌, ◌-◌, ◌*◌, ◌<◌, ◌≤◌, min, inl, inr, ◌∙◌, ap, arith}
use Rattle.std.proofs.lemmas.Bool.{cases_lt}
use Rattle.std.proofs.Math.Nat.{add-mul}
use Rattle.std.specs.Prelude.{sum_by}
use Rattle.std.specs.List.{range_with_len}
use Rattle.full_pegging.proofs.Spreading.{split_weight}

-- what is left behind is of one row alone
behind : (measure : ℕ → ℕ) (at T U rest n sh many times : ℕ) → sh ≡ min rest n → many ≡ (rest - sh) + (n - sh) → (sh < rest → times ≡ T) → (rest ≤ sh → times ≡ U)
    → times * sum_by measure (range_with_len at many) ≡ T * sum_by measure (range_with_len at (rest - sh)) + U * sum_by measure (range_with_len at (n - sh))
behind measure at T U rest n sh many times is all longer other = by_cases (cases_lt sh rest)
  where
    by_cases : (sh < rest) ⊎ (rest ≤ sh) → times * sum_by measure (range_with_len at many) ≡ T * sum_by measure (range_with_len at (rest - sh)) + U * sum_by measure (range_with_len at (n - sh))
    by_cases (inl more) =
        let none : n - sh ≡ 0 = omega arith in
        let same : many ≡ rest - sh = omega arith in
        let nothing : U * sum_by measure (range_with_len at (n - sh)) ≡ 0 = ap (λ k. U * sum_by measure (range_with_len at k)) none ∙ omega arith in
        let here : times * sum_by measure (range_with_len at many) ≡ T * sum_by measure (range_with_len at (rest - sh)) = λ i. longer more i * sum_by measure (range_with_len at (same i)) in
        omega (arith, nothing, here)
    by_cases (inr less) =
        let none : rest - sh ≡ 0 = omega arith in
        let same : many ≡ n - sh = omega arith in
        let nothing : T * sum_by measure (range_with_len at (rest - sh)) ≡ 0 = ap (λ k. T * sum_by measure (range_with_len at k)) none ∙ omega arith in
        let here : times * sum_by measure (range_with_len at many) ≡ U * sum_by measure (range_with_len at (n - sh)) = λ i. other less i * sum_by measure (range_with_len at (same i)) in
        omega (arith, nothing, here)

pub overlaid : (measure : ℕ → ℕ) (a m T b n U lead sh many times : ℕ) → lead ≡ b - a → a ≤ b → b < a + m → sh ≡ min (m - lead) n → many ≡ ((m - lead) - sh) + (n - sh)
    → (sh < m - lead → times ≡ T) → (m - lead ≤ sh → times ≡ U)
    → T * sum_by measure (range_with_len a lead) + ((T + U) * sum_by measure (range_with_len b sh) + times * sum_by measure (range_with_len (b + sh) many))
    ≡ T * sum_by measure (range_with_len a m) + U * sum_by measure (range_with_len b n)
overlaid measure a m T b n U lead sh many times led order meet is all longer other =
    let low : lead ≤ m = omega arith in
    let place : a + lead ≡ b = omega arith in
    let one = split_weight measure a m T lead low in
    let moved : T * sum_by measure (range_with_len (a + lead) (m - lead)) ≡ T * sum_by measure (range_with_len b (m - lead)) = ap (λ p. T * sum_by measure (range_with_len p (m - lead))) place in
    let short : sh ≤ m - lead = omega arith in
    let two = split_weight measure b (m - lead) T sh short in
    let short_too : sh ≤ n = omega arith in
    let three = split_weight measure b n U sh short_too in
    let both = add-mul T U (sum_by measure (range_with_len b sh)) in
    let last = behind measure (b + sh) T U (m - lead) n sh many times is all longer other in
    omega (arith, one, moved, two, three, both, last)
