-- Rows of units, joined and cut at the ends of stretches.
use Rattle.std.proofs.Common.{◌≡◌, ℕ, zero, suc, ◌+◌, ◌-◌, ◌*◌, ◌<◌, ◌≤◌, List, [], ◌∷◌, length, get_or, take, refl, sym, ◌∙◌, ap, arith, true, false, cond}
use Rattle.std.proofs.lemmas.Bool.Decides.{nat_tests}
use Rattle.std.proofs.lemmas.List.{take_all}
use Rattle.std.proofs.lemmas.List.Sums.{sum_by-cons}
use Rattle.std.proofs.Math.Nat.{mul-add, add-mul}
use Rattle.std.specs.Prelude.{sum, sum_by, nat_lt}
use Rattle.std.specs.List.{range_with_len}
use Rattle.full_pegging.specs.Rows.{stretch_of, place_of, by_stretch}
use Rattle.full_pegging.specs.Weights.{weight}
use Rattle.full_pegging.specs.declared.units.Units.{Units}
use Rattle.full_pegging.proofs.Spreading.{sums_split}

-- sums over numbers in a row that are alike
pub sums_alike : (f g : ℕ → ℕ) (n a b : ℕ) → ((k : ℕ) → k < n → f (a + k) ≡ g (b + k)) → sum_by f (range_with_len a n) ≡ sum_by g (range_with_len b n)
sums_alike f g zero a b same = refl
sums_alike f g (suc n) a b same =
    let here : f a ≡ g b = ap f (let z : a ≡ a + 0 = omega arith in z) ∙ same 0 (omega arith) ∙ ap g (let z : b + 0 ≡ b = omega arith in z) in
    let rest = sums_alike f g n (a + 1) (b + 1)
    (λ k l. ap f (let z : (a + 1) + k ≡ a + suc k = omega arith in z) ∙ same (suc k) (omega arith) ∙ ap g (let z : b + suc k ≡ (b + 1) + k = omega arith in z)) in
    sum_by-cons f a (range_with_len (a + 1) n) ∙ (λ i. here i + rest i) ∙ sym (sum_by-cons g b (range_with_len (b + 1) n))

-- a row that goes on where another ends
pub goes_on : (measure : ℕ → ℕ) (a m b n all t u : ℕ) → a + m ≡ b → all ≡ m + n → t ≡ u
    → t * sum_by measure (range_with_len a all) ≡ t * sum_by measure (range_with_len a m) + u * sum_by measure (range_with_len b n)
goes_on measure a m b n all t u place whole same =
    ap (λ k. t * sum_by measure (range_with_len a k)) whole
    ∙ ap (λ s. t * s) (sums_split measure n m a)
    ∙ mul-add t (sum_by measure (range_with_len a m)) (sum_by measure (range_with_len (a + m) n))
    ∙ λ i. t * sum_by measure (range_with_len a m) + same i * sum_by measure (range_with_len (place i) n)

-- two rows of the same units
pub twice : (measure : ℕ → ℕ) (a m b n both t u : ℕ) → a ≡ b → m ≡ n → both ≡ t + u
    → both * sum_by measure (range_with_len a m) ≡ t * sum_by measure (range_with_len a m) + u * sum_by measure (range_with_len b n)
twice measure a m b n both t u place many counted =
    ap (λ k. k * sum_by measure (range_with_len a m)) counted
    ∙ add-mul t u (sum_by measure (range_with_len a m))
    ∙ λ i. t * sum_by measure (range_with_len a m) + u * sum_by measure (range_with_len (place i) (many i))

-- a row that is counted from a number on
pub counted_from : (measure : ℕ → ℕ) (number first many times : ℕ) → number ≤ first
    → times * sum_by measure (range_with_len (first - number) many) ≡ times * sum_by (λ unit. measure (unit - number)) (range_with_len first many)
counted_from measure number first many times low =
    ap (λ s. times * s) (sums_alike measure (λ unit. measure (unit - number)) many (first - number) first
    (λ k l. ap measure (let z : (first - number) + k ≡ (first + k) - number = omega arith in z)))

-- a number in a stretch, and one behind them all
pub stands_in : (stretches : List ℕ) (k number : ℕ) → k < length stretches → sum (take k stretches) ≤ number → number < sum (take k stretches) + get_or stretches k 0
    → (stretch_of stretches number ≡ k) × (place_of stretches number ≡ number - sum (take k stretches))
stands_in [] k number low from to = absurd (omega arith)
stands_in (many ∷ stretches) zero number low from to =
    let here : nat_lt number many ≡ true = grind (arith, nat_tests) in
    let same : number ≡ number - 0 = omega arith in
    (ap (λ b. cond b 0 (suc (stretch_of stretches (number - many)))) here, ap (λ b. cond b number (place_of stretches (number - many))) here ∙ same)
stands_in (many ∷ stretches) (suc k) number low from to =
    let more = sum_by-cons (λ (x : ℕ). x) many (take k stretches) in
    let there : nat_lt number many ≡ false = let beyond : many ≤ number = omega (arith, more, from) in grind (arith, nat_tests) in
    let rest = stands_in stretches k (number - many) (omega arith) (omega (arith, more, from)) (omega (arith, more, from, to)) in
    let same : (number - many) - sum (take k stretches) ≡ number - sum (take (suc k) (many ∷ stretches)) = omega (arith, more) in
    (ap (λ b. cond b 0 (suc (stretch_of stretches (number - many)))) there ∙ ap suc rest.0, ap (λ b. cond b number (place_of stretches (number - many))) there ∙ rest.1 ∙ same)

pub stands_behind : (stretches : List ℕ) (number : ℕ) → sum stretches ≤ number → (stretch_of stretches number ≡ length stretches) × (place_of stretches number ≡ number - sum stretches)
stands_behind [] number from = (refl, let same : number ≡ number - 0 = omega arith in same)
stands_behind (many ∷ stretches) number from =
    let more = sum_by-cons (λ (x : ℕ). x) many stretches in
    let there : nat_lt number many ≡ false = let beyond : many ≤ number = omega (arith, more, from) in grind (arith, nat_tests) in
    let rest = stands_behind stretches (number - many) (omega (arith, more, from)) in
    let same : (number - many) - sum stretches ≡ number - sum (many ∷ stretches) = omega (arith, more) in
    (ap (λ b. cond b 0 (suc (stretch_of stretches (number - many)))) there ∙ ap suc rest.0, ap (λ b. cond b number (place_of stretches (number - many))) there ∙ rest.1 ∙ same)

-- what units in one stretch weigh
pub in_stretch : (measure : ℕ → ℕ → ℕ) (stretches : List ℕ) (k number first many times : ℕ) → k < length stretches → number ≡ sum (take k stretches) → number ≤ first
    → ((j : ℕ) → j < many → first + j < number + get_or stretches k 0)
    → times * sum_by (by_stretch measure stretches) (range_with_len first many) ≡ times * sum_by (λ unit. measure k (unit - number)) (range_with_len first many)
in_stretch measure stretches k number first many times low starts from to =
    ap (λ s. times * s) (sums_alike (by_stretch measure stretches) (λ unit. measure k (unit - number)) many first first
    (λ j l.
    let before = to j l in
    let there = stands_in stretches k (first + j) low (omega (arith, starts)) (omega (arith, starts, before)) in
    (λ i. measure (there.0 i) (there.1 i)) ∙ ap (λ s. measure k ((first + j) - s)) (sym starts)))

pub behind_stretches : (measure : ℕ → ℕ → ℕ) (stretches : List ℕ) (number first many times : ℕ) → number ≡ sum stretches → number ≤ first
    → times * sum_by (by_stretch measure stretches) (range_with_len first many) ≡ times * sum_by (λ unit. measure (length stretches) (unit - number)) (range_with_len first many)
behind_stretches measure stretches number first many times starts from =
    ap (λ s. times * s) (sums_alike (by_stretch measure stretches) (λ unit. measure (length stretches) (unit - number)) many first first
    (λ j l.
    let there = stands_behind stretches (first + j) (omega (arith, starts)) in
    (λ i. measure (there.0 i) (there.1 i)) ∙ ap (λ s. measure (length stretches) ((first + j) - s)) (sym starts)))

-- no units weigh nothing
pub none_left : (measure : ℕ → ℕ) (units : Units) → units.many ≡ 0 → weight measure units ≡ 0
none_left measure units none = ap (λ many. units.times * sum_by measure (range_with_len units.first many)) none ∙ omega arith

-- all are taken
pub whole_taken : (stretches : List ℕ) (k number : ℕ) → length stretches ≤ k → number ≡ sum (take k stretches) → number ≡ sum stretches
whole_taken stretches k number all starts = starts ∙ ap sum (take_all k stretches all)
