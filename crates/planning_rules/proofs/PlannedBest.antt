-- The planned orders of a part with least-cost lots are one best list.
use Rattle.std.proofs.Common.{◌≡◌, ℕ, zero, suc, ◌+◌, ◌-◌, ◌*◌, ◌<◌, ◌≤◌, max, length, drop, get_or, le_refl, List, [], ◌∷◌, ◌++◌, map, take, refl, sym, ◌∙◌, ap, subst, arith, add-one, append_assoc, append-nil, ◌==◌}
use Rattle.std.specs.Prelude.{if◌then◌else◌}
use Rattle.std.specs.List.{sum, range_with_len}
use Rattle.std.proofs.lemmas.List.Sums.{sum_by_push}
use Rattle.plan_schema.specs.declared.key.Lot.TheVariants as lot
use Rattle.planning_rules.specs.Amounts.{amount, IsAmount}
use Rattle.planning_rules.specs.BestLots.{needs, best, first_order, IsCovered, IsCoveredAfter, cost, cost_after}
use Rattle.planning_rules.specs.Netting.{Input, asked, there, short_on, later, days, order_on, planned_to, planned_of, shortages_of, KeepsSafety, above_from, NettedTo, IsOrder, HasStep}
use Rattle.planning_rules.specs.Laws.{AboveIsCost, AmountIsFirst}
use Rattle.std.proofs.Math.Seq.{drop-cons}
use Rattle.std.proofs.lemmas.List.{drop_all, take_all}
use Rattle.planning_rules.proofs.BestLotLaws.{best_is_least, first_is_least}
use Rattle.planning_rules.proofs.NettedLaws.{sum_more_suc, one_netting_is, prefix_same, least_unique}
use Rattle.planning_rules.proofs.Again.{left, anew, anew_is_best}

left_plain : (a b made : ℕ) → (a - (b + 0)) - made ≡ a - (b + made)
left_plain a b made = omega arith

-- what is short with orders made is what is left of what is short without
short_left : (x : Input) (made k : ℕ) → short_on x 0 k - made ≡ short_on x made k
short_left x made k = left_plain (asked x k) (x.stock + sum (take (suc k) x.sched)) made

map_left : (x : Input) (made a n : ℕ) → left made (map (short_on x 0) (range_with_len a n)) ≡ map (short_on x made) (range_with_len a n)
map_left x made a zero = refl
map_left x made a (suc n) = λ i. short_left x made a i ∷ map_left x made (a + 1) n i

-- the order of a day
order_again : (x : Input) (setup hold made t n : ℕ) → x.lot ≡ lot.Best setup hold → days x - suc t ≡ n
    → (if short_on x 0 t - made == 0 then 0 else first_order (best setup hold (needs (left made (short_on x 0 t ∷ map (short_on x 0) (range_with_len (t + 1) n)))))) ≡ order_on x made t
order_again x setup hold made t n rule count =
    let all : left made (short_on x 0 t ∷ map (short_on x 0) (range_with_len (t + 1) n)) ≡ short_on x made t ∷ later x made t =
    λ i. short_left x made t i ∷ (map_left x made (t + 1) n ∙ ap (λ a. map (short_on x made) (range_with_len a n)) (add-one t) ∙ ap (λ m. map (short_on x made) (range_with_len (suc t) m)) (sym count)) i in
    ap (λ shorts. if short_on x 0 t - made == 0 then 0 else first_order (best setup hold (needs shorts))) all
    ∙ ap (λ s. if s == 0 then 0 else first_order (best setup hold (needs (short_on x made t ∷ later x made t)))) (short_left x made t)
    ∙ ap (λ rule. if short_on x made t == 0 then 0 else amount rule (short_on x made t) (later x made t)) (sym rule)

planned_again : (x : Input) (setup hold : ℕ) → x.lot ≡ lot.Best setup hold → (n t : ℕ) → t + n ≡ days x
    → planned_to x t ++ anew setup hold (sum (planned_to x t)) (map (short_on x 0) (range_with_len t n)) ≡ planned_of x
planned_again x setup hold rule zero t e = append-nil (planned_to x t) ∙ ap (planned_to x) (let whole : t ≡ days x = omega arith in whole)
planned_again x setup hold rule (suc n) t e =
    let made = sum (planned_to x t) in
    let q = order_on x (sum (planned_to x t)) t in
    let order = order_again x setup hold (sum (planned_to x t)) t n rule (omega arith) in
    let more : sum (planned_to x t ++ order_on x (sum (planned_to x t)) t ∷ []) ≡ sum (planned_to x t) + order_on x (sum (planned_to x t)) t = sum_by_push (λ v. v) (planned_to x t) (order_on x (sum (planned_to x t)) t) in
    ap (λ o. planned_to x t ++ (o ∷ anew setup hold (sum (planned_to x t) + o) (map (short_on x 0) (range_with_len (t + 1) n)))) order
    ∙ sym (append_assoc (planned_to x t) (order_on x (sum (planned_to x t)) t ∷ []) (anew setup hold (sum (planned_to x t) + order_on x (sum (planned_to x t)) t) (map (short_on x 0) (range_with_len (t + 1) n))))
    ∙ ap (λ m. (planned_to x t ++ order_on x (sum (planned_to x t)) t ∷ []) ++ anew setup hold m (map (short_on x 0) (range_with_len (t + 1) n))) (sym more)
    ∙ ap (λ a. (planned_to x t ++ order_on x (sum (planned_to x t)) t ∷ []) ++ anew setup hold (sum (planned_to x t ++ order_on x (sum (planned_to x t)) t ∷ [])) (map (short_on x 0) (range_with_len a n))) (add-one t)
    ∙ planned_again x setup hold rule n (suc t) (omega arith)

pub planned_is_best : (x : Input) (setup hold : ℕ) → x.lot ≡ lot.Best setup hold → planned_of x ≡ best setup hold (needs (shortages_of x))
planned_is_best x setup hold rule =
    sym (planned_again x setup hold rule (days x) 0 (let all : 0 + days x ≡ days x = omega arith in all)) ∙ anew_is_best setup hold 0 (shortages_of x)

-- orders that keep each balance at safety or above are enough
covered_from : (x : Input) (orders : List ℕ) → length orders ≡ days x → ((t : ℕ) → t < days x → short_on x (sum (take (suc t) orders)) t ≡ 0) → (n t : ℕ) → t + n ≡ days x
    → IsCoveredAfter (sum (take t orders)) (map (short_on x 0) (range_with_len t n)) (drop t orders)
covered_from x orders long kept zero t e = let none : drop t orders ≡ [] = drop_all t orders (omega arith) in rw none tt
covered_from x orders long kept (suc n) t e =
    let here : t < length orders = omega arith in
    let more = sum_more_suc orders t here in
    let left = short_left x (sum (take (suc t) orders)) t in
    let none = kept t (omega arith) in
    let next = covered_from x orders long kept n (suc t) (omega arith) in
    let at_next : map (short_on x 0) (range_with_len (suc t) n) ≡ map (short_on x 0) (range_with_len (t + 1) n) = ap (λ a. map (short_on x 0) (range_with_len a n)) (sym (add-one t)) in
    subst (λ qs. IsCoveredAfter (sum (take t orders)) (map (short_on x 0) (range_with_len t (suc n))) qs) (sym (drop-cons orders t 0 here)) (
      omega arith,
      subst (λ shorts. IsCoveredAfter (sum (take t orders) + get_or orders t 0) shorts (drop (suc t) orders)) at_next
          (subst (λ made. IsCoveredAfter made (map (short_on x 0) (range_with_len (suc t) n)) (drop (suc t) orders)) more next),
    )

pub safety_covers : (x : Input) (orders : List ℕ) → KeepsSafety x orders → IsCovered (shortages_of x) orders
safety_covers x orders h = covered_from x orders h.0 h.1 (days x) 0 (let all : 0 + days x ≡ days x = omega arith in all)

pub planned_costs_least : (x : Input) (setup hold : ℕ) → x.lot ≡ lot.Best setup hold → (orders : List ℕ) → KeepsSafety x orders
    → cost setup hold (shortages_of x) (planned_of x) ≤ cost setup hold (shortages_of x) orders
planned_costs_least x setup hold rule orders h =
    subst (λ planned. cost setup hold (shortages_of x) planned ≤ cost setup hold (shortages_of x) orders) (sym (planned_is_best x setup hold rule)) (best_is_least setup hold (shortages_of x) orders (safety_covers x orders h))

-- by how much holding on the balance above safety exceeds holding on what is ordered ahead
apart_from : ℕ → Input → ℕ → ℕ → ℕ → ℕ
apart_from hold x most t zero = 0
apart_from hold x most t (suc n) = hold * ((max most (short_on x 0 t) + there x 0 t) - asked x t) + apart_from hold x (max most (short_on x 0 t)) (t + 1) n

apart_none : (hold : ℕ) (x : Input) (most t : ℕ) → apart_from hold x most t zero ≡ 0
unfolding apart_from
apart_none hold x most t = refl

apart_more : (hold : ℕ) (x : Input) (most t n : ℕ) → apart_from hold x most t (suc n) ≡ hold * ((max most (short_on x 0 t) + there x 0 t) - asked x t) + apart_from hold x (max most (short_on x 0 t)) (t + 1) n
unfolding apart_from
apart_more hold x most t n = refl

above_plain : (hold made most a b : ℕ) → a - (b + 0) ≤ made → most ≤ made → hold * ((b + made) - a) ≡ hold * (made - max most (a - (b + 0))) + hold * ((max most (a - (b + 0)) + (b + 0)) - a)
above_plain hold made most a b h le =
    let parts : (b + made) - a ≡ (made - max most (a - (b + 0))) + ((max most (a - (b + 0)) + (b + 0)) - a) = omega arith in
    ap (λ k. hold * k) parts ∙ times hold (made - max most (a - (b + 0))) ((max most (a - (b + 0)) + (b + 0)) - a)
  where
    times : (h a b : ℕ) → h * (a + b) ≡ h * a + h * b
    times h a b = omega arith

above_is : (setup hold : ℕ) (x : Input) (n made most t : ℕ) (orders : List ℕ) → most ≤ made → IsCoveredAfter made (map (short_on x 0) (range_with_len t n)) orders
    → above_from setup hold x made t orders ≡ cost_after setup hold made most (map (short_on x 0) (range_with_len t n)) orders + apart_from hold x most t n
above_is setup hold x zero made most t [] le h = omega (arith, apart_none hold x most t)
above_is setup hold x zero made most t (q ∷ orders) le h = absurd h
above_is setup hold x (suc n) made most t [] le h = absurd h
above_is setup hold x (suc n) made most t (q ∷ orders) le h =
    let enough : short_on x 0 t ≤ made + q = h.0 in
    let rest = above_is setup hold x n (made + q) (max most (short_on x 0 t)) (t + 1) orders (omega arith) h.1 in
    let next = ap (λ k. above_from setup hold x (made + q) k orders) (add-one t) in
    let here = above_plain hold (made + q) most (asked x t) (x.stock + sum (take (suc t) x.sched)) enough (omega arith) in
    let more = apart_more hold x most t n in
    omega arith

pub above_is_cost : AboveIsCost
above_is_cost x setup hold = (apart_from hold x 0 0 (days x), λ orders h. above_is setup hold x (days x) 0 0 0 orders (le_refl 0) (safety_covers x orders h))

-- after the orders of the first t days, the best list's order is that of day t
pub best_order : (x : Input) (setup hold t : ℕ) (p : List ℕ) → x.lot ≡ lot.Best setup hold → t < days x → NettedTo x t p → IsOrder x (sum p) t (get_or (best setup hold (needs (shortages_of x))) t 0)
best_order x setup hold t p rule h n =
    let steps : HasStep x.lot = subst HasStep (sym rule) tt in
    let netted = (one_netting_is x steps).0 in
    let same : take t p ≡ take t (planned_of x) = prefix_same x t (days x) p (planned_of x) n netted t (le_refl t) (omega arith) in
    let whole : take t p ≡ p = take_all t p (omega (arith, n.whole)) in
    let so_far : take t (planned_of x) ≡ p = sym same ∙ whole in
    subst (λ orders. IsOrder x (sum p) t (get_or orders t 0)) (planned_is_best x setup hold rule) (subst (λ q. IsOrder x (sum q) t (get_or (planned_of x) t 0)) so_far (netted.each t h))

pub amount_is_first : AmountIsFirst
amount_is_first setup hold s a short = (
  λ h. least_unique a (first_order (best setup hold (needs (s ∷ short)))) h (first_is_least setup hold s short),
  λ e. subst (IsAmount (lot.Best setup hold) s short) (sym e) (first_is_least setup hold s short),
)
