-- Where the units of a name end is where those of its days end, and each day has as many as are planned on it.
use Rattle.std.proofs.Common.{◌≡◌, ℕ, zero, suc, ◌+◌, ◌/◌, List, [], ◌∷◌, ◌++◌, map, length, refl, sym, ◌∙◌, ap, Bool, true, false, cond}
use Rattle.std.proofs.lemmas.List.Concat.{length-flat_map}
use Rattle.std.proofs.lemmas.List.FromFn.{length-map-range_with_len}
use Rattle.std.proofs.lemmas.List.Sums.{sum_by-cons}
use Rattle.std.proofs.lemmas.Grind.{flat_map-append}
use Rattle.std.specs.Prelude.{◌*◌, Option, Some, None, is_some, nat_lt, sum, sum_by, take, slice_index, if◌then◌else◌}
use Rattle.std.specs.List.{AllByRecursion, range_with_len, list_all, flat_map}
use Rattle.plan_schema.specs.declared.name.Name.{Name}
use Rattle.plan_schema.specs.declared.key.Key.TheVariants as keys
use Rattle.plan_schema.specs.Contents.{Contents, record_at}
use Rattle.planning_rules.specs.Bills.{ParentBill, bills_of, parents, longest_chain, is_effective}
use Rattle.planning_rules.specs.Days.{start_of, days_of}
use Rattle.planning_rules.specs.Netting.{Lists}
use Rattle.planning_rules.specs.Plan.{Known, Planned, plan, plan_within, released, has_outcome, asked_by, demands_on, input_of, known_from, gross_of, stock_in}
use Rattle.planning_rules.specs.Pegs.{Peg, FromDemand, FromParent, above_zero, pegs_from}
use Rattle.planning_rules.specs.Trace.{End, AtDemand, end_at, per_in, peg_ends, demand_ends, ends_on, day_ends, ends_within, ends_of}
use Rattle.planning_rules.proofs.PlanLaws.{both_true, outcome_some, cond_some}
use Rattle.full_pegging.specs.Laws.{SharesSumToPlanned, EachUnitEndsOnce, AllAreShared}
use Rattle.full_pegging.proofs.Stands.{day_stands, units_stand}
use Rattle.full_pegging.proofs.Sums.{shares_sum}

pub flat_same : {A B : Type 0} (f g : A → List B) → ((a : A) → f a ≡ g a) → (xs : List A) → flat_map f xs ≡ flat_map g xs
flat_same f g h [] = refl
flat_same f g h (x ∷ xs) = λ i. h x i ++ flat_same f g h xs i

flat_none : {A B : Type 0} (xs : List A) → flat_map {X = A} {A = B} (λ x. []) xs ≡ []
flat_none [] = refl
flat_none (x ∷ xs) = flat_none xs

-- two ways to tell where the units of names end, and two to tell their plans, agree on the parents of some bills
abbrev pub TellAlike : (Name → List End) → (Name → List End) → (Name → Option Known) → (Name → Option Known) → List ParentBill → Type 0
TellAlike f g plans others bills = AllByRecursion (λ bill. (f bill.parent ≡ g bill.parent) × (plans bill.parent ≡ others bill.parent)) bills

-- the ends of a peg depend on what is told of its parent
module _ (f g : Name → List End) (plans others : Name → Option Known) (c : Contents) (n : Name) where
  abbrev asked : (Name → Option Known) → ℕ → List ParentBill → List Peg
  asked known t bills = map (λ (pair : Name × ℕ). FromParent pair.0 pair.1) (above_zero (map (asked_by known (start_of c) t) bills))

  parent_pegs : (t : ℕ) (bills : List ParentBill) → TellAlike f g plans others bills → flat_map (peg_ends f plans c n t) (asked plans t bills) ≡ flat_map (peg_ends g others c n t) (asked others t bills)
  parent_pegs t [] h = refl
  parent_pegs t (bill ∷ bills) h =
      let rest = parent_pegs t bills h.1 in
      first f plans (nat_lt 0 (qty_of (plans bill.parent))) ∙ (λ i. one (h.0.0 i) (h.0.1 i) (rest i)) ∙ sym (first g others (nat_lt 0 (qty_of (others bill.parent))))
    where
      qty_of : Option Known → ℕ
      qty_of known = if is_effective bill.span (start_of c + t) then bill.per * slice_index (released known) t else 0

      units_of : List End → Option Known → List End
      units_of ends known = map (λ unit. end_at bill.parent ends (sum (take t (released known)) + unit / per_in (record_at c (keys.Bill bill.parent n)))) (range_with_len 0 (qty_of known))

      one : List End → Option Known → List End → List End
      one ends known rest = cond (nat_lt 0 (qty_of known)) (units_of ends known ++ rest) rest

      first : (e : Name → List End) (known : Name → Option Known) (b : Bool)
          → flat_map (peg_ends e known c n t) (map (λ (pair : Name × ℕ). FromParent pair.0 pair.1) (cond b (asked_by known (start_of c) t bill ∷ above_zero (map (asked_by known (start_of c) t) bills)) (above_zero (map (asked_by known (start_of c) t) bills))))
          ≡ cond b (units_of (e bill.parent) (known bill.parent) ++ flat_map (peg_ends e known c n t) (asked known t bills)) (flat_map (peg_ends e known c n t) (asked known t bills))
      first e known true = refl
      first e known false = refl

  demand_pegs : (t : ℕ) (pairs : List (Name × ℕ))
      → flat_map (peg_ends f plans c n t) (map (λ (pair : Name × ℕ). FromDemand pair.0 pair.1) pairs) ≡ flat_map (peg_ends g others c n t) (map (λ (pair : Name × ℕ). FromDemand pair.0 pair.1) pairs)
  demand_pegs t [] = refl
  demand_pegs t (pair ∷ pairs) = ap (λ rest. map (λ (unit : ℕ). AtDemand n pair.0) (range_with_len 0 pair.1) ++ rest) (demand_pegs t pairs)

  pub demand_local : TellAlike f g plans others (bills_of c n) → demand_ends f plans c n ≡ demand_ends g others c n
  demand_local h = flat_same (λ t. flat_map (peg_ends f plans c n t) (pegs_from plans c n t)) (λ t. flat_map (peg_ends g others c n t) (pegs_from others c n t)) day (range_with_len 0 (days_of c))
    where
      day : (t : ℕ) → flat_map (peg_ends f plans c n t) (pegs_from plans c n t) ≡ flat_map (peg_ends g others c n t) (pegs_from others c n t)
      day t =
          let demands = map (λ (pair : Name × ℕ). FromDemand pair.0 pair.1) (above_zero (demands_on c n t)) in
          flat_map-append (peg_ends f plans c n t) demands (asked plans t (bills_of c n))
          ∙ (λ i. demand_pegs t (above_zero (demands_on c n t)) i ++ parent_pegs t (bills_of c n) h i)
          ∙ sym (flat_map-append (peg_ends g others c n t) demands (asked others t (bills_of c n)))

-- so do those of a day
units_local : (f g : Name → List End) (c : Contents) (n : Name) → TellAlike f g (plan c) (plan c) (bills_of c n)
    → flat_map (day_ends f (plan c) c n) (range_with_len 0 (days_of c)) ≡ flat_map (day_ends g (plan c) c n) (range_with_len 0 (days_of c))
units_local f g c n h =
    flat_same (day_ends f (plan c) c n) (day_ends g (plan c) c n) (λ t. ap (λ demand. ends_on n (stock_in (record_at c (keys.Stock n))) (plan c n) demand t) (demand_local f g (plan c) (plan c) c n h)) (range_with_len 0 (days_of c))

-- what is known of the parents in so many names is so in one more
parents_same : (f : Name → Option Known) (e g : Name → List End) (bills : List ParentBill) → list_all (λ p. has_outcome (f p)) (map (λ bill. bill.parent) bills) ≡ true
    → ((p : Name) → is_some (f p) ≡ true → g p ≡ e p) → (plans : Name → Option Known) → TellAlike g e plans plans bills
parents_same f e g [] h same plans = tt
parents_same f e g (bill ∷ bills) h same plans =
    let two = both_true (has_outcome (f bill.parent)) (list_all (λ p. has_outcome (f p)) (map (λ other. other.parent) bills)) h in
    ((same bill.parent (outcome_some (f bill.parent) two.0), refl), parents_same f e g bills two.1 same plans)

units_stay : (c : Contents) (k : ℕ) (n : Name) → is_some (plan_within k c n) ≡ true → ends_within (suc k) c n ≡ ends_within k c n
units_stay c zero n h = absurd (let never : ⊥ = cc in never)
units_stay c (suc k) n h =
    let known = cond_some (list_all (λ p. has_outcome (plan_within k c p)) (parents c n)) (known_from (input_of c n (gross_of (plan_within k c) c n) (record_at c (keys.Part n)))) h in
    units_local (ends_within (suc k) c) (ends_within k c) c n (parents_same (plan_within k c) (ends_within k c) (ends_within (suc k) c) (bills_of c n) known (units_stay c k) (plan c))

-- a name without a plan has no units
pub no_units : (ends : Name → List End) (c : Contents) (n : Name) → plan c n ≡ None → flat_map (day_ends ends (plan c) c n) (range_with_len 0 (days_of c)) ≡ []
no_units ends c n none =
    flat_same (day_ends ends (plan c) c n) (λ t. []) (λ t. ap (λ o. ends_on n (stock_in (record_at c (keys.Stock n))) o (demand_ends ends (plan c) c n) t) none) (range_with_len 0 (days_of c))
    ∙ flat_none (range_with_len 0 (days_of c))

pub each_unit_ends_once : EachUnitEndsOnce
each_unit_ends_once c n = by_plan (plan c n) refl
  where
    by_plan : (o : Option Known) → plan c n ≡ o → ends_of c n ≡ flat_map (day_ends (ends_of c) (plan c) c n) (range_with_len 0 (days_of c))
    by_plan None e = no_units (ends_within (suc (length c)) c) c n e ∙ sym (no_units (ends_of c) c n e)
    by_plan (Some known) e = sym (units_stay c (longest_chain c) n (ap is_some e))

-- how many units a day has
pub day_has : (ends : Name → List End) (c : Contents) (n : Name) (x : Lists) (t : ℕ) → plan c n ≡ Some (Planned x) → length (day_ends ends (plan c) c n t) ≡ slice_index x.planned t
day_has ends c n x t e =
    ap (λ o. length (ends_on n (stock_in (record_at c (keys.Stock n))) o (demand_ends ends (plan c) c n) t)) e
    ∙ length-map-range_with_len (λ unit. end_at n (demand_ends ends (plan c) c n) ((stock_in (record_at c (keys.Stock n)) + sum (take (suc t) x.sched)) + (sum (take t x.planned) + unit))) 0 (slice_index x.planned t)

pub shares_sum_to_planned : SharesSumToPlanned
shares_sum_to_planned c n t x ordered e =
    shares_sum c ordered (day_ends (ends_of c) (plan c) c n t) (day_stands c (ends_of c) (units_stand c (longest_chain c)) n t) ∙ day_has (ends_of c) c n x t e

sums_same : (f g : ℕ → ℕ) → ((t : ℕ) → f t ≡ g t) → (ts : List ℕ) → sum_by f ts ≡ sum_by g ts
sums_same f g h [] = refl
sums_same f g h (t ∷ ts) = sum_by-cons f t ts ∙ (λ i. h t i + sums_same f g h ts i) ∙ sym (sum_by-cons g t ts)

pub all_are_shared : AllAreShared
all_are_shared c n x ordered e =
    shares_sum c ordered (ends_of c n) (units_stand c (longest_chain c) n)
    ∙ ap length (each_unit_ends_once c n)
    ∙ length-flat_map (day_ends (ends_of c) (plan c) c n) (range_with_len 0 (days_of c))
    ∙ sums_same (λ t. length (day_ends (ends_of c) (plan c) c n t)) (slice_index x.planned) (λ t. day_has (ends_of c) c n x t e) (range_with_len 0 (days_of c))
