-- The planned orders of an input: there is one list of them.
use Rattle.std.proofs.Common.{◌≡◌, ℕ, zero, suc, ◌+◌, ◌-◌, ◌*◌, ◌/◌, ◌%◌, ◌<◌, ◌≤◌, inl, inr, List, [], ◌∷◌, ◌++◌, length, take, get_or, max, refl, sym, ◌∙◌, ap, subst, arith, add-one, below_more, eq-zero-or-pos, le_refl, mul-le-mul_left, ◌==◌, false}
use Rattle.std.proofs.lemmas.Bool.{cases_lt}
use Rattle.std.proofs.lemmas.Bool.Decides.{nat_tests}
use Rattle.std.proofs.lemmas.List.Sums.{sum_by_push}
use Rattle.std.proofs.lemmas.List.{take_more, take_more_same, take-append-le, take_all, length-append, get_or_append_left}
use Rattle.std.proofs.Math.Seq.{take-append_seam, get_or-append_seam}
use Rattle.std.specs.List.{sum, AllByRecursion}
use Rattle.plan_schema.specs.declared.key.Lot.{Lot}
use Rattle.plan_schema.specs.declared.key.Lot.TheVariants as lot
use Rattle.planning_rules.specs.Amounts.{IsLeast, IsAmount, IsMultiple, amount, rounded_up, greatest}
use Rattle.planning_rules.specs.Netting.{Input, IsOrder, NettedTo, Netted, days, short_on, later, order_on, planned_to, planned_of, HasStep}
use Rattle.planning_rules.specs.Laws.{OneNetting}
use Rattle.planning_rules.proofs.BestLotLaws.{first_is_least}

-- the least is one
pub least_unique : {P : ℕ → Type 0} (a b : ℕ) → IsLeast P a → IsLeast P b → a ≡ b
least_unique a b p q = let le : a ≤ b = p.1 b q.0 in let ge : b ≤ a = q.1 a p.0 in omega arith

pub order_unique : (x : Input) (made t a b : ℕ) → IsOrder x made t a → IsOrder x made t b → a ≡ b
order_unique x made t a b p q =
    elim (eq-zero-or-pos (short_on x made t)) [ inl e ↦ p.kept e ∙ sym (q.kept e) | inr l ↦ least_unique a b (p.short l) (q.short l) ]

-- lists of orders agree on the days that both have
pub prefix_same : (x : Input) (s t : ℕ) (p q : List ℕ) → NettedTo x s p → NettedTo x t q → (u : ℕ) → u ≤ s → u ≤ t → take u p ≡ take u q
prefix_same x s t p q n m zero hs ht = refl
prefix_same x s t p q n m (suc u) hs ht =
    let same : take u p ≡ take u q = prefix_same x s t p q n m u (omega arith) (omega arith) in
    let us : u < s = omega arith in
    let ut : u < t = omega arith in
    let up : u < length p = omega (arith, n.whole) in
    let uq : u < length q = omega (arith, m.whole) in
    let at_q : IsOrder x (sum (take u p)) u (get_or q u 0) = rw same (m.each u ut) in
    let one : get_or p u 0 ≡ get_or q u 0 = order_unique x (sum (take u p)) u _ _ (n.each u us) at_q in
    rw (← add-one u) (take_more_same p q u 0 up uq same one)

pub netted_unique : (x : Input) (p q : List ℕ) → Netted x p → Netted x q → p ≡ q
netted_unique x p q n m =
    sym (take_all (days x) p (omega (arith, n.whole))) ∙ prefix_same x (days x) (days x) p q n m (days x) (le_refl _) (le_refl _) ∙ take_all (days x) q (omega (arith, m.whole))

-- one more order
pub netted_push : (x : Input) (t : ℕ) (p : List ℕ) (a : ℕ) → NettedTo x t p → IsOrder x (sum p) t a → NettedTo x (t + 1) (p ++ a ∷ [])
netted_push x t p a n o = record {
  whole = length-append p (a ∷ []) ∙ omega (arith, n.whole);
  each = below_more (λ u. IsOrder x (sum (take u (p ++ a ∷ []))) u (get_or (p ++ a ∷ []) u 0)) t
      (λ u h. let short : u < length p = omega (arith, n.whole) in
      let le : u ≤ length p = omega arith in
      rw (take-append-le u p (a ∷ []) le, get_or_append_left p (a ∷ []) 0 u short) (n.each u h))
      (subst (λ k. IsOrder x (sum (take k (p ++ a ∷ []))) k (get_or (p ++ a ∷ []) k 0)) n.whole
      (rw (take-append_seam p (a ∷ []), get_or-append_seam p a [] 0) (subst (λ k. IsOrder x (sum p) k a) (sym n.whole) o)));
}

-- rounding up -----------------------------------------------------------------

pub rounded_is_enough : (q s : ℕ) → 1 ≤ q → s ≤ rounded_up q s
rounded_is_enough q s h =
    let pos : 0 < q = omega arith in
    let rest : (s + (q - 1)) % q < q = omega arith in
    let whole : q * ((s + (q - 1)) / q) + (s + (q - 1)) % q ≡ s + (q - 1) = omega arith in
    omega arith

pub rounded_is_least : (q s n : ℕ) → 1 ≤ q → s ≤ n * q → rounded_up q s ≤ n * q
rounded_is_least q s n h e =
    let whole : q * ((s + (q - 1)) / q) + (s + (q - 1)) % q ≡ s + (q - 1) = omega arith in
    elim (cases_lt n ((s + (q - 1)) / q)) [
      | inl more ↦ let times : q * (n + 1) ≤ q * ((s + (q - 1)) / q) = mul-le-mul_left q (omega arith) in absurd (omega arith)
      | inr fewer ↦ let times : q * ((s + (q - 1)) / q) ≤ q * n = mul-le-mul_left q fewer in omega arith
    ]

multiple_least : (q s : ℕ) → 1 ≤ q → IsLeast (λ a. (s ≤ a) × IsMultiple q a) (rounded_up q s)
multiple_least q s h = ((rounded_is_enough q s h, ((s + (q - 1)) / q, refl)), λ b e. rw e.1.1 (rounded_is_least q s e.1.0 h (rw (← e.1.1) e.0)))

greatest_is_enough : (ss : List ℕ) → AllByRecursion (λ s. s ≤ greatest ss) ss
greatest_is_enough ss = all_below ss (greatest ss) (le_refl _)
  where
    all_below : (xs : List ℕ) (b : ℕ) → greatest xs ≤ b → AllByRecursion (λ s. s ≤ b) xs
    all_below [] b h = tt
    all_below (x ∷ xs) b h = (omega arith, all_below xs b (omega arith))

greatest_is_least : (ss : List ℕ) (b : ℕ) → AllByRecursion (λ s. s ≤ b) ss → greatest ss ≤ b
greatest_is_least [] b h = omega arith
greatest_is_least (s ∷ ss) b h = let here : s ≤ b = h.0 in let rest : greatest ss ≤ b = greatest_is_least ss b h.1 in omega arith

-- the computed amount is the rule's
pub amount_is : (rule : Lot) (short : ℕ) (after : List ℕ) → HasStep rule → IsAmount rule short after (amount rule short after)
amount_is lot.Exact short after h = (le_refl _, λ b e. e)
amount_is (lot.Fixed q) short after h = multiple_least q short h
amount_is (lot.Least least more) short after h = multiple_least more (max short least) h
amount_is (lot.Best setup hold) short after h = first_is_least setup hold short after
amount_is (lot.Period p) short after h = (greatest_is_enough (take p (short ∷ after)), greatest_is_least (take p (short ∷ after)))

order_is : (x : Input) (made t : ℕ) → HasStep x.lot → IsOrder x made t (order_on x made t)
order_is x made t h =
    elim (eq-zero-or-pos (short_on x made t)) [
      | inl e ↦ record { kept = λ _. rw e refl; short = λ more. absurd (omega arith) }
      | inr more ↦ record {
        kept = λ e. absurd (omega arith);
        short = λ _. rw (not_zero (short_on x made t) more) (amount_is x.lot (short_on x made t) (later x made t) h);
      }
    ]
  where
    not_zero : (n : ℕ) → 0 < n → (n == 0) ≡ false
    not_zero n l = grind (arith, nat_tests)

pub planned_to_is : (x : Input) → HasStep x.lot → (t : ℕ) → NettedTo x t (planned_to x t)
planned_to_is x h zero = record { whole = refl; each = λ u lt. absurd (omega arith) }
planned_to_is x h (suc t) = subst (λ k. NettedTo x k (planned_to x t ++ order_on x (sum (planned_to x t)) t ∷ [])) (add-one t) (netted_push x t (planned_to x t) (order_on x (sum (planned_to x t)) t) (planned_to_is x h t) (order_is x (sum (planned_to x t)) t h))

pub one_netting_is : OneNetting
one_netting_is x h = (planned_to_is x h (days x), λ p n. netted_unique x p (planned_of x) n (planned_to_is x h (days x)))

-- a day's shortage ------------------------------------------------------------

pub sum_more : (xs : List ℕ) (t : ℕ) → t < length xs → sum (take (t + 1) xs) ≡ sum (take t xs) + get_or xs t 0
sum_more xs t h = ap sum (take_more xs t 0 h) ∙ sum_by_push (λ v. v) (take t xs) (get_or xs t 0)

pub sum_more_suc : (xs : List ℕ) (t : ℕ) → t < length xs → sum (take (suc t) xs) ≡ sum (take t xs) + get_or xs t 0
sum_more_suc xs t h = ap (λ k. sum (take k xs)) (sym (add-one t)) ∙ sum_more xs t h

short_plain : (safety stock made balance g s g_all s_all g_more s_more : ℕ) → g_more ≡ g_all + g → s_more ≡ s_all + s → balance + g_all ≡ (stock + s_all) + made
    → (safety + g_more) - ((stock + s_more) + made) ≡ (safety + g) - (balance + s)
short_plain safety stock made balance g s g_all s_all g_more s_more eg es e = omega arith

-- what a day is short of, by the balance before it
pub short_is : (x : Input) (made t balance : ℕ) → t < length x.gross → t < length x.sched → balance + sum (take t x.gross) ≡ (x.stock + sum (take t x.sched)) + made
    → short_on x made t ≡ (x.safety + get_or x.gross t 0) - (balance + get_or x.sched t 0)
short_is x made t balance hg hs e =
    short_plain x.safety x.stock made balance (get_or x.gross t 0) (get_or x.sched t 0) (sum (take t x.gross)) (sum (take t x.sched)) _ _ (sum_more_suc x.gross t hg) (sum_more_suc x.sched t hs) e
