-- An order depends only on the days that its lot rule looks at.
use Rattle.std.proofs.Common.{◌≡◌, ℕ, suc, zero, ◌+◌, ◌-◌, ◌<◌, ◌≤◌, inl, inr, List, ◌∷◌, length, take, map, min, get_or, refl, sym, ◌∙◌, ap, subst, arith}
use Rattle.std.specs.Prelude.{ℤ}
use Rattle.std.specs.List.{sum, range_with_len, AllByRecursion}
use Rattle.std.proofs.lemmas.Bool.{cases_lt}
use Rattle.std.proofs.lemmas.List.{take-take, length-take-le}
use Rattle.plan_schema.specs.declared.key.Lot.{Lot}
use Rattle.plan_schema.specs.declared.key.Lot.TheVariants as lot
use Rattle.lot_sizing.proofs.LotLaws.{IsSoundLot}
use Rattle.planning_rules.specs.Amounts.{IsLeast, IsAmount}
use Rattle.planning_rules.specs.Netting.{Input, IsOrder, short_on, later, days}
use Rattle.netting.specs.Windows.{looked}
use Rattle.planning_rules.specs.Shortages.{shortage, IsAmountFor}
use Rattle.netting.specs.Shortages.{shortages}
use Rattle.netting.proofs.NetLaws.{first_order, first_short}
use Rattle.netting.specs.DayByDay.{begun}

pub looked_some : (rule : Lot) (left : ℕ) → IsSoundLot rule → 1 ≤ left → 1 ≤ looked rule left
looked_some lot.Exact left h some = omega arith
looked_some (lot.Fixed q) left h some = omega arith
looked_some (lot.Least least step) left h some = omega arith
looked_some (lot.Best setup hold) left h some = some
looked_some (lot.Period p) left h some = let one : 1 ≤ p = h.0 in omega arith

pub looked_left : (rule : Lot) (left : ℕ) → 1 ≤ left → looked rule left ≤ left
looked_left lot.Exact left some = some
looked_left (lot.Fixed q) left some = some
looked_left (lot.Least least step) left some = some
looked_left (lot.Period p) left some = omega arith
looked_left (lot.Best setup hold) left some = omega arith

-- the first numbers of a longer list
first_of_range : (f : ℕ → ℕ) (q a n : ℕ) → q ≤ n → take q (map f (range_with_len a n)) ≡ map f (range_with_len a q)
first_of_range f zero a n h = refl
first_of_range f (suc q) a zero h = absurd (omega arith)
first_of_range f (suc q) a (suc n) h = ap (λ xs. f a ∷ xs) (first_of_range f q (a + 1) n (omega arith))

-- lists of numbers that agree
map_same : (f g : ℕ → ℕ) (a n : ℕ) → ((k : ℕ) → k < a + n → f k ≡ g k) → map f (range_with_len a n) ≡ map g (range_with_len a n)
map_same f g a zero h = refl
map_same f g a (suc n) h = λ i. h a (omega arith) i ∷ map_same f g (a + 1) n (λ k l. h k (omega arith)) i

-- the first p shortages are among those of the first p days
first_same : (f : ℕ → ℕ) (p n : ℕ) → 1 ≤ p → 1 ≤ n → take p (f 0 ∷ map f (range_with_len 1 (min n p - 1))) ≡ take p (f 0 ∷ map f (range_with_len 1 (n - 1)))
first_same f zero n one some = absurd (omega arith)
first_same f (suc q) n one some =
    elim (cases_lt n (suc q)) [
      | inl fewer ↦ let e : min n (suc q) ≡ n = omega arith in ap (λ k. take (suc q) (f 0 ∷ map f (range_with_len 1 (k - 1)))) e
      | inr more ↦
          ap (λ xs. f 0 ∷ xs) (first_of_range f q 1 (min n (suc q) - 1) (omega arith) ∙ sym (first_of_range f q 1 (n - 1) (omega arith)))
    ]

-- the amount by the days looked at is the amount by all days
amount_looked : (rule : Lot) (f : ℕ → ℕ) (n a : ℕ) → IsSoundLot rule → 1 ≤ n → IsAmount rule (f 0) (map f (range_with_len 1 (looked rule n - 1))) a → IsAmount rule (f 0) (map f (range_with_len 1 (n - 1))) a
amount_looked lot.Exact f n a h some m = m
amount_looked (lot.Fixed q) f n a h some m = m
amount_looked (lot.Least least step) f n a h some m = m
amount_looked (lot.Best setup hold) f n a h some m = m
amount_looked (lot.Period p) f n a h some m = subst (λ xs. IsLeast (λ b. AllByRecursion (λ s. s ≤ b) xs) a) (first_same f p n h.0 some) m

-- what a day falls short depends on the days up to it
short_looked : (rule : Lot) (balance safety w k : ℕ) (gross sched : List ℕ) → k < w
    → short_on (begun rule balance safety (take w gross) (take w sched)) 0 k ≡ short_on (begun rule balance safety gross sched) 0 k
short_looked rule balance safety w k gross sched h =
    ap (λ xs. (safety + sum xs) - ((balance + sum (take (suc k) (take w sched))) + 0)) (take-take (suc k) w gross (omega arith))
    ∙ ap (λ xs. (safety + sum (take (suc k) gross)) - ((balance + sum xs) + 0)) (take-take (suc k) w sched (omega arith))

-- the order by the days looked at is the order by all days
pub order_looked : (rule : Lot) (balance safety a w : ℕ) (gross sched : List ℕ) → IsSoundLot rule → 1 ≤ length gross → w ≡ looked rule (length gross)
    → IsOrder (begun rule balance safety (take w gross) (take w sched)) 0 0 a → IsOrder (begun rule balance safety gross sched) 0 0 a
order_looked rule balance safety a w gross sched h some is o =
    let x : Input = begun rule balance safety gross sched in
    let y : Input = begun rule balance safety (take w gross) (take w sched) in
    let one : 1 ≤ w = omega (arith, is, looked_some rule (length gross) h some) in
    let within : w ≤ length gross = omega (arith, is, looked_left rule (length gross) some) in
    let count : days y ≡ w = length-take-le w gross within in
    let here : short_on y 0 0 ≡ short_on x 0 0 = short_looked rule balance safety w 0 gross sched one in
    let after : later y 0 0 ≡ map (short_on x 0) (range_with_len 1 (looked rule (length gross) - 1)) =
    map_same (short_on y 0) (short_on x 0) 1 (days y - 1) (λ k l. short_looked rule balance safety w k gross sched (omega (arith, count, one)))
    ∙ ap (λ n. map (short_on x 0) (range_with_len 1 (n - 1))) (count ∙ is) in
    record {
      kept = λ none. o.kept (here ∙ none);
      short = λ more. amount_looked rule (short_on x 0) (length gross) a h some
          (subst (λ n. IsAmount rule n (map (short_on x 0) (range_with_len 1 (looked rule (length gross) - 1))) a) here
          (subst (λ xs. IsAmount rule (short_on y 0 0) xs a) after (o.short (subst (λ n. 0 < n) (sym here) more))));
    }

-- the amount for the shortages of the days looked at is the order
pub window_order : (rule : Lot) (balance safety a w : ℕ) (gross sched : List ℕ) (short : List ℤ) → IsSoundLot rule → 1 ≤ length gross → length sched ≡ length gross → w ≡ looked rule (length gross)
    → length short ≡ w → map shortage short ≡ shortages balance safety (take w gross) (take w sched) → balance + get_or sched 0 0 < safety + get_or gross 0 0 → IsAmountFor rule short a
    → IsOrder (begun rule balance safety gross sched) 0 0 a
window_order rule balance safety a w gross sched short h some same is room told less amount =
    let one : 1 ≤ w = omega (arith, is, looked_some rule (length gross) h some) in
    let within : w ≤ length gross = omega (arith, is, looked_left rule (length gross) some) in
    let some_w : 1 ≤ length (take w gross) = omega (arith, one, length-take-le w gross within) in
    let some_short : 1 ≤ length short = omega (arith, one, room) in
    let also : 1 ≤ length sched = omega (arith, some, same) in
    let falls : 0 < short_on (begun rule balance safety (take w gross) (take w sched)) 0 0 =
    subst (λ n. 0 < n) (sym (short_looked rule balance safety w 0 gross sched one)) (first_short rule balance safety gross sched some also less) in
    order_looked rule balance safety a w gross sched h some is (first_order rule balance safety a (take w gross) (take w sched) short some_w some_short told falls amount)
