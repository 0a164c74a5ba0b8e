-- Netting from a balance: shortages, shifted inputs, and lists by day.
use Rattle.std.proofs.Common.{◌≡◌, ℕ, suc, zero, ◌+◌, ◌-◌, ◌<◌, ◌≤◌, inl, inr, List, [], ◌∷◌, ◌++◌, length, take, drop, get_or, map, max, refl, sym, ◌∙◌, ap, subst, arith, add-one, ltb, below_more, eq-zero-or-pos, le_refl, Bool, true, false, ◌||◌}
use Rattle.std.specs.Prelude.{ℤ, pos, All}
use Rattle.std.specs.List.{sum, range_with_len}
use Rattle.std.proofs.lemmas.List.{get_or-map, length-map, length-drop}
use Rattle.std.proofs.lemmas.List.FromFn.{fill_by_all}
use Rattle.std.proofs.lemmas.List.Sums.{sum_by-append}
use Rattle.std.proofs.Math.Seq.{take-add}
use Rattle.plan_schema.specs.declared.key.Lot.{Lot}
use Rattle.std.proofs.lemmas.List.Folds.{list_any_at, list_any_none}
use Rattle.std.proofs.lemmas.Bool.{lt-ltb, le-ltb}
use Rattle.std.proofs.lemmas.List.{take_all, take-append-le, get_or_append_left, length-append}
use Rattle.std.proofs.Math.Seq.{get_or-append_seam}
use Rattle.plan_schema.specs.declared.key.Lot.TheVariants as lot
use Rattle.lot_sizing.proofs.LotLaws.{IsSoundLot}
use Rattle.planning_rules.specs.Netting.{Netted, balance_on, balances, exceeds, limit, there, releases, is_too_large}
use Rattle.planning_rules.proofs.NettedLaws.{short_is, prefix_same, order_unique, netted_unique}
use Rattle.netting.specs.DayByDay.{IsPlannedTo, AreBest, begun}
use Rattle.planning_rules.proofs.PlannedBest.{best_order}
use Rattle.planning_rules.specs.Amounts.{IsAmount}
use Rattle.planning_rules.proofs.BestLotLaws.{first_enough}
use Rattle.planning_rules.specs.Netting.{Input, IsOrder, NettedTo, short_on, later, days}
use Rattle.planning_rules.specs.Shortages.{shortage, IsAmountFor}
use Rattle.netting.specs.Shortages.{shortages}
use Rattle.lot_optimal.proofs.Filled.{rest_is}

to_suc : (s b k : ℕ) (gross sched : List ℕ) → (s + sum (take (k + 1) gross)) - (b + sum (take (k + 1) sched)) ≡ (s + sum (take (suc k) gross)) - ((b + sum (take (suc k) sched)) + 0)
to_suc s b k gross sched =
    ap (λ n. (s + sum (take n gross)) - (b + sum (take n sched))) (add-one k) ∙ ap (λ n. (s + sum (take (suc k) gross)) - n) (let e : b + sum (take (suc k) sched) ≡ (b + sum (take (suc k) sched)) + 0 = omega arith in e)

-- shortages told day by day are the list of them
pub shortages_all : (short : List ℤ) (b s : ℕ) (gross sched : List ℕ) → length short ≡ length gross
    → ((k : ℕ) → k < length gross → shortage (get_or short k (pos 0)) ≡ (s + sum (take (k + 1) gross)) - (b + sum (take (k + 1) sched)))
    → map shortage short ≡ shortages b s gross sched
shortages_all short b s gross sched same each =
    fill_by_all (λ k. (s + sum (take (suc k) gross)) - ((b + sum (take (suc k) sched)) + 0)) (map shortage short) (length gross) 0 (length-map short shortage ∙ same)
    (λ k h. get_or-map shortage short k (pos 0) 0 (let l : k < length short = omega (arith, same) in l) ∙ each k h ∙ to_suc s b k gross sched)

-- the first order of such an input, by the amount for its shortages
pub first_order : (rule : Lot) (balance safety a : ℕ) (gross sched : List ℕ) (short : List ℤ) → 1 ≤ length gross → 1 ≤ length short → map shortage short ≡ shortages balance safety gross sched
    → 0 < short_on (begun rule balance safety gross sched) 0 0 → IsAmountFor rule short a → IsOrder (begun rule balance safety gross sched) 0 0 a
first_order rule balance safety a [] sched short some one same more h = absurd (omega arith)
first_order rule balance safety a (g ∷ gs) sched [] some one same more h = absurd (omega arith)
first_order rule balance safety a (g ∷ gs) sched (s ∷ ss) some one same more h =
    let x : Input = begun rule balance safety (g ∷ gs) sched in
    let head : shortage s ≡ short_on x 0 0 = ap (λ xs. get_or xs 0 0) same in
    let tail : map shortage ss ≡ map (short_on x 0) (range_with_len 1 (length gs)) = ap (drop 1) same in
    let count : length gs ≡ days x - 1 = omega arith in
    record {
      kept = λ none. absurd (omega arith);
      short = λ _. subst (λ n. IsAmount rule (short_on x 0 0) (map (short_on x 0) (range_with_len 1 n)) a) count
          (subst (λ n. IsAmount rule n (map (short_on x 0) (range_with_len 1 (length gs))) a) head (subst (λ xs. IsAmount rule (shortage s) xs a) tail h));
    }

pub first_short : (rule : Lot) (balance safety : ℕ) (gross sched : List ℕ) → 1 ≤ length gross → 1 ≤ length sched → balance + get_or sched 0 0 < safety + get_or gross 0 0
    → 0 < short_on (begun rule balance safety gross sched) 0 0
first_short rule balance safety [] sched one also h = absurd (omega arith)
first_short rule balance safety (g ∷ gs) [] one also h = absurd (omega arith)
first_short rule balance safety (g ∷ gs) (s ∷ ss) one also h = let less : balance + s < safety + g = h in let short : 0 < (safety + (0 + g)) - ((balance + (0 + s)) + 0) = omega arith in short

-- a day that keeps safety has no order
pub no_order : (x : Input) (made t : ℕ) → short_on x made t ≡ 0 → IsOrder x made t 0
no_order x made t e = record { kept = λ _. refl; short = λ more. absurd (omega arith) }

-- what is short on the k-th day of the input begun at day t
sum_shift : (xs : List ℕ) (t n : ℕ) → sum (take (t + n) xs) ≡ sum (take t xs) + sum (take n (drop t xs))
sum_shift xs t n = ap sum (take-add t n xs) ∙ sum_by-append (λ v. v) (take t xs) (take n (drop t xs))

shift_plain : (safety stock made balance g s gt st gk sk : ℕ) → balance + gt ≡ (stock + st) + made → g ≡ gt + gk → s ≡ st + sk
    → (safety + gk) - ((balance + sk) + 0) ≡ (safety + g) - ((stock + s) + made)
shift_plain safety stock made balance g s gt st gk sk e eg es = omega arith

pub shifted_short : (x : Input) (made t balance k : ℕ) → balance + sum (take t x.gross) ≡ (x.stock + sum (take t x.sched)) + made
    → short_on (begun x.lot balance x.safety (drop t x.gross) (drop t x.sched)) 0 k ≡ short_on x made (t + k)
shifted_short x made t balance k e =
    let at : t + suc k ≡ suc (t + k) = omega arith in
    shift_plain x.safety x.stock made balance _ _ (sum (take t x.gross)) (sum (take t x.sched)) (sum (take (suc k) (drop t x.gross))) (sum (take (suc k) (drop t x.sched))) e
    (ap (λ n. sum (take n x.gross)) (sym at) ∙ sum_shift x.gross t (suc k)) (ap (λ n. sum (take n x.sched)) (sym at) ∙ sum_shift x.sched t (suc k))

-- maps over ranges that differ by a shift
map_shift : (f g : ℕ → ℕ) (t : ℕ) → ((k : ℕ) → f k ≡ g (t + k)) → (a n : ℕ) → map f (range_with_len a n) ≡ map g (range_with_len (t + a) n)
map_shift f g t h a zero = refl
map_shift f g t h a (suc n) =
    let next : t + (a + 1) ≡ (t + a) + 1 = omega arith in
    λ i. h a i ∷ (map_shift f g t h (a + 1) n ∙ ap (λ b. map g (range_with_len b n)) next) i

-- the first order of the input begun at a day is that day's order
pub shifted_order : (x : Input) (made t balance a : ℕ) → balance + sum (take t x.gross) ≡ (x.stock + sum (take t x.sched)) + made
    → IsOrder (begun x.lot balance x.safety (drop t x.gross) (drop t x.sched)) 0 0 a → IsOrder x made t a
shifted_order x made t balance a e o =
    let y : Input = begun x.lot balance x.safety (drop t x.gross) (drop t x.sched) in
    let zero_on : t + 0 ≡ t = omega arith in
    let here : short_on y 0 0 ≡ short_on x made t = shifted_short x made t balance 0 e ∙ ap (short_on x made) zero_on in
    let one_on : t + 1 ≡ suc t = add-one t in
    let count : days y - 1 ≡ days x - suc t = omega (arith, length-drop t x.gross) in
    let after : later y 0 0 ≡ later x made t =
    map_shift (short_on y 0) (short_on x made) t (λ k. shifted_short x made t balance k e) 1 (days y - 1)
    ∙ ap (λ b. map (short_on x made) (range_with_len b (days y - 1))) one_on ∙ ap (λ n. map (short_on x made) (range_with_len (suc t) n)) count in
    record {
      kept = λ none. o.kept (here ∙ none);
      short = λ more. subst (λ n. IsAmount x.lot n (later x made t) a) here (subst (λ xs. IsAmount x.lot (short_on y 0 0) xs a) after (o.short (subst (λ n. 0 < n) (sym here) more)));
    }

-- an amount is at least what the day is short of
amount_covers : (rule : Lot) (short a : ℕ) (after : List ℕ) → IsSoundLot rule → IsAmount rule short after a → short ≤ a
amount_covers lot.Exact short a after h m = m.0
amount_covers (lot.Fixed q) short a after h m = m.0.0
amount_covers (lot.Least least more) short a after h m = let le : max short least ≤ a = m.0.0 in omega arith
amount_covers (lot.Period zero) short a after h m = let no : 1 ≤ 0 = h.0 in absurd (omega arith)
amount_covers (lot.Period (suc p)) short a after h m = m.0.0
amount_covers (lot.Best setup hold) short a after h m = first_enough setup hold short a after m

pub order_covers : (x : Input) (made t a : ℕ) → IsSoundLot x.lot → IsOrder x made t a → short_on x made t ≤ a
order_covers x made t a h o =
    elim (eq-zero-or-pos (short_on x made t)) [ inl e ↦ omega arith | inr more ↦ amount_covers x.lot (short_on x made t) a (later x made t) h (o.short more) ]

pub day_covers : (x : Input) (t balance a : ℕ) (p : List ℕ) → IsSoundLot x.lot → IsPlannedTo x t p balance → t < length x.gross → t < length x.sched → IsOrder x (sum p) t a
    → x.safety + get_or x.gross t 0 ≤ (balance + get_or x.sched t 0) + a
day_covers x t balance a p h g hg hs o = omega (arith, order_covers x (sum p) t a h o, short_is x (sum p) t balance hg hs g.balanced)

-- the balances of the first t days
pub record Balanced (x : Input) (t : ℕ) (p bs : List ℕ) : Type 0 where
  pub whole : length bs ≡ t
  pub each : (k : ℕ) → k < t → get_or bs k 0 ≡ balance_on x p k

balance_kept : (x : Input) (p : List ℕ) (a k : ℕ) → k < length p → balance_on x (p ++ a ∷ []) k ≡ balance_on x p k
balance_kept x p a k h =
    let le : suc k ≤ length p = omega arith in
    ap (λ q. there x (sum q) k - sum (take (suc k) x.gross)) (take-append-le (suc k) p (a ∷ []) le)

balance_plain : (stock b g s made : ℕ) → b + g ≡ (stock + s) + made → ((stock + s) + made) - g ≡ b
balance_plain stock b g s made e = omega arith

balance_here : (x : Input) (t : ℕ) (p : List ℕ) (b : ℕ) → IsPlannedTo x (t + 1) p b → balance_on x p t ≡ b
balance_here x t p b g =
    let all : take (suc t) p ≡ p = take_all (suc t) p (omega (arith, g.orders.whole)) in
    ap (λ q. there x (sum q) t - sum (take (suc t) x.gross)) all
    ∙ balance_plain x.stock b (sum (take (suc t) x.gross)) (sum (take (suc t) x.sched)) (sum p)
    (subst (λ n. b + sum (take n x.gross) ≡ (x.stock + sum (take n x.sched)) + sum p) (add-one t) g.balanced)

pub balanced_push : (x : Input) (t : ℕ) (p bs : List ℕ) (a b : ℕ) → length p ≡ t → Balanced x t p bs → IsPlannedTo x (t + 1) (p ++ a ∷ []) b → Balanced x (t + 1) (p ++ a ∷ []) (bs ++ b ∷ [])
balanced_push x t p bs a b len kept g = record {
  whole = length-append bs (b ∷ []) ∙ (let e : length bs + 1 ≡ t + 1 = omega (arith, kept.whole) in e);
  each = below_more (λ k. get_or (bs ++ b ∷ []) k 0 ≡ balance_on x (p ++ a ∷ []) k) t
      (λ k h. get_or_append_left bs (b ∷ []) 0 k (omega (arith, kept.whole)) ∙ kept.each k h ∙ sym (balance_kept x p a k (omega (arith, len))))
      (ap (λ n. get_or (bs ++ b ∷ []) n 0) (sym kept.whole) ∙ get_or-append_seam bs b [] 0 ∙ sym (balance_here x t (p ++ a ∷ []) b g));
}

pub balanced_all : (x : Input) (p bs : List ℕ) → Balanced x (days x) p bs → bs ≡ balances x p
balanced_all x p bs kept = fill_by_all (balance_on x p) bs (days x) 0 kept.whole kept.each

-- an order above the limit makes each netted list too large
pub large_here : (x : Input) (t : ℕ) (p : List ℕ) (a : ℕ) → NettedTo x t p → t < days x → IsOrder x (sum p) t a → limit < a → (q : List ℕ) → Netted x q → exceeds q ≡ true
large_here x t p a g ht o large q n =
    let same : take t p ≡ take t q = prefix_same x t (days x) p q g n t (le_refl _) (omega arith) in
    let whole : take t p ≡ p = take_all t p (omega (arith, g.whole)) in
    let so_far : p ≡ take t q = sym whole ∙ same in
    let mine : IsOrder x (sum (take t q)) t a = subst (λ r. IsOrder x (sum r) t a) so_far o in
    let is : get_or q t 0 ≡ a = order_unique x (sum (take t q)) t _ _ (n.each t ht) mine in
    let within : t < length q = omega (arith, n.whole) in
    list_any_at (λ v. ltb limit v) q t 0 within (lt-ltb limit (get_or q t 0) (subst (λ v. limit < v) (sym is) large))

pub order_told : (x : Input) (t balance a : ℕ) (gross sched : List ℕ) → gross ≡ x.gross → sched ≡ x.sched
    → IsOrder (begun x.lot balance x.safety (take (length gross - t) (drop t gross)) (take (length sched - t) (drop t sched))) 0 0 a
    → IsOrder (begun x.lot balance x.safety (drop t x.gross) (drop t x.sched)) 0 0 a
order_told x t balance a gross sched eg es o =
    subst (λ gs. IsOrder (begun x.lot balance x.safety gs (drop t x.sched)) 0 0 a) (rest_is gross t ∙ ap (drop t) eg)
    (subst (λ ss. IsOrder (begun x.lot balance x.safety (take (length gross - t) (drop t gross)) ss) 0 0 a) (rest_is sched t ∙ ap (drop t) es) o)

pub none_exceeds : (xs : List ℕ) → All (λ n. n ≤ limit) xs → exceeds xs ≡ false
none_exceeds xs h = list_any_none (λ v. ltb limit v) xs (λ k d l. le-ltb limit (get_or xs k d) (h k d l))

or_last : (a b : Bool) → (a || (b || true)) ≡ true
or_last true b = refl
or_last false true = refl
or_last false false = refl

-- a release above the limit makes each netted list too large
pub large_release : (x : Input) (planned release : List ℕ) → Netted x planned → release ≡ releases x.calendar x.lead planned → exceeds release ≡ true → (p : List ℕ) → Netted x p → is_too_large x p ≡ true
large_release x planned release n e large p m =
    let same : p ≡ planned = netted_unique x p planned m n in
    let too : exceeds (releases x.calendar x.lead p) ≡ true = ap (λ q. exceeds (releases x.calendar x.lead q)) same ∙ ap exceeds (sym e) ∙ large in
    ap (λ b. exceeds x.gross || (exceeds p || b)) too ∙ or_last (exceeds x.gross) (exceeds p)

-- where no number exceeds the limit, the step is not too large
pub not_large : (x : Input) (planned release : List ℕ) → All (λ n. n ≤ limit) x.gross → All (λ n. n ≤ limit) planned → release ≡ releases x.calendar x.lead planned → exceeds release ≡ false → is_too_large x planned ≡ false
not_large x planned release hg hp e h =
    ap (λ a. a || (exceeds planned || exceeds (releases x.calendar x.lead planned))) (none_exceeds x.gross hg)
    ∙ ap (λ b. b || exceeds (releases x.calendar x.lead planned)) (none_exceeds planned hp) ∙ ap exceeds (sym e) ∙ h

-- the order of a day is that of the best list
pub listed_order : (x : Input) (setup hold t : ℕ) (p orders : List ℕ) → x.lot ≡ lot.Best setup hold → AreBest x orders → t < days x → NettedTo x t p → IsOrder x (sum p) t (get_or orders t 0)
listed_order x setup hold t p orders rule list h n =
    subst (λ os. IsOrder x (sum p) t (get_or os t 0)) (sym (list setup hold rule)) (best_order x setup hold t p rule h n)

-- the orders so far are seen through a slice
pub order_here : (x : Input) (t a : ℕ) (p seen : List ℕ) → seen ≡ p → length p ≡ t → IsOrder x (sum seen) (length seen) a → IsOrder x (sum p) t a
order_here x t a p seen e len o = subst (λ k. IsOrder x (sum p) k a) len (subst (λ q. IsOrder x (sum q) (length q) a) e o)

pub next_balance : (safety balance a t : ℕ) (gross sched gs ss : List ℕ) → gross ≡ gs → sched ≡ ss → safety + get_or gs t 0 ≤ (balance + get_or ss t 0) + a
    → ((balance + get_or sched t 0) + a - get_or gross t 0) + get_or gs t 0 ≡ (balance + get_or ss t 0) + a
next_balance safety balance a t gross sched gs ss eg es h =
    let g : get_or gross t 0 ≡ get_or gs t 0 = ap (λ zs. get_or zs t 0) eg in
    let s : get_or sched t 0 ≡ get_or ss t 0 = ap (λ zs. get_or zs t 0) es in
    omega arith
