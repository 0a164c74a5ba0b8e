-- Where the planned units of a part end, by the days that they are received on, and by what its demand is for.
use Rattle.std.proofs.Common.{◌≡◌, ◌⊎◌, ℕ, zero, suc, ◌+◌, ◌-◌, ◌*◌, ◌/◌, ◌<◌, ◌≤◌, inl, inr, List, [], ◌∷◌, ◌++◌, map, length, get_or, take, refl, sym, ◌∙◌, ap, arith, Bool, true, false, cond}
use Rattle.std.proofs.lemmas.Bool.Decides.{nat_tests}
use Rattle.std.proofs.lemmas.List.{get_or-append-add, get_or_append_left}
use Rattle.std.proofs.lemmas.List.FromFn.{get_or-map-range_with_len, length-map-range_with_len, fill_by_all}
use Rattle.std.proofs.lemmas.Grind.{flat_map-append}
use Rattle.std.specs.Prelude.{Some, nat_lt, sum, sum_by, slice_get}
use Rattle.std.specs.List.{range_with_len, flat_map}
use Rattle.plan_schema.specs.declared.name.Name.{Name}
use Rattle.plan_schema.specs.declared.key.Key.TheVariants as keys
use Rattle.plan_schema.specs.Contents.{Contents, record_at}
use Rattle.planning_rules.specs.Days.{days_of}
use Rattle.planning_rules.specs.Netting.{Lists}
use Rattle.planning_rules.specs.Plan.{Planned, plan, released, stock_in}
use Rattle.planning_rules.specs.Pegs.{Peg, FromDemand, FromParent, peg_qty, pegs_from}
use Rattle.planning_rules.specs.Trace.{End, AtDemand, Surplus, end_at, per_in, peg_ends, demand_ends, ends_on, day_ends, ends_of}
use Rattle.full_pegging.specs.declared.target.Target.{Target}
use Rattle.full_pegging.specs.declared.target.Target.TheVariants as targets
use Rattle.full_pegging.specs.Rows.{stretch_of, place_of, by_stretch}
use Rattle.full_pegging.specs.Following.{supply_weight, target_weight}
use Rattle.full_pegging.specs.Ends.{unit_end, ends_by, pegs_on, pegs_of, IsTarget, AreTargets}
use Rattle.full_pegging.proofs.ByDays.{each_unit_ends_once, day_has}
use Rattle.full_pegging.proofs.InARow.{day_is_in_a_row}
use Rattle.full_pegging.proofs.Pegged.{peg_length}
use Rattle.full_pegging.proofs.Stretches.{sums_alike, stands_in}

-- what stands in one of several lists
flat_read : {X A : Type 0} (f : X → List A) (xs : List X) (u : ℕ) (d : A)
    → get_or (flat_map f xs) u d ≡ get_or (get_or (map f xs) (stretch_of (map (λ x. length (f x)) xs) u) []) (place_of (map (λ x. length (f x)) xs) u) d
flat_read f [] u d = refl
flat_read f (x ∷ xs) u d = by_cases (flat_read f xs (u - length (f x)) d) (nat_lt u (length (f x))) refl
  where
    by_cases : get_or (flat_map f xs) (u - length (f x)) d
        ≡ get_or (get_or (map f xs) (stretch_of (map (λ y. length (f y)) xs) (u - length (f x))) []) (place_of (map (λ y. length (f y)) xs) (u - length (f x))) d
        → (b : Bool) → nat_lt u (length (f x)) ≡ b
        → get_or (f x ++ flat_map f xs) u d
        ≡ get_or (get_or (f x ∷ map f xs) (cond b 0 (suc (stretch_of (map (λ y. length (f y)) xs) (u - length (f x))))) []) (cond b u (place_of (map (λ y. length (f y)) xs) (u - length (f x)))) d
    by_cases rest true e = let low : u < length (f x) = grind (arith, nat_tests) in get_or_append_left (f x) (flat_map f xs) d u low
    by_cases rest false e =
        let high : length (f x) ≤ u = grind (arith, nat_tests) in
        let same : u ≡ length (f x) + (u - length (f x)) = omega (arith, high) in
        ap (λ k. get_or (f x ++ flat_map f xs) k d) same ∙ get_or-append-add (f x) (flat_map f xs) (u - length (f x)) d ∙ rest

-- a number stands in a stretch, or behind them all
stretch_found : (stretches : List ℕ) (u : ℕ) → ((stretch_of stretches u < length stretches) × (place_of stretches u < get_or stretches (stretch_of stretches u) 0)) ⊎ (length stretches ≤ stretch_of stretches u)
stretch_found [] u = inr (omega arith)
stretch_found (many ∷ stretches) u = by_cases (nat_lt u many) refl (stretch_found stretches (u - many))
  where
    by_cases : (b : Bool) → nat_lt u many ≡ b
        → ((stretch_of stretches (u - many) < length stretches) × (place_of stretches (u - many) < get_or stretches (stretch_of stretches (u - many)) 0)) ⊎ (length stretches ≤ stretch_of stretches (u - many))
        → ((cond b 0 (suc (stretch_of stretches (u - many))) < suc (length stretches)) × (cond b u (place_of stretches (u - many)) < get_or (many ∷ stretches) (cond b 0 (suc (stretch_of stretches (u - many)))) 0))
        ⊎ (suc (length stretches) ≤ cond b 0 (suc (stretch_of stretches (u - many))))
    by_cases true e rest = let low : u < many = grind (arith, nat_tests) in inl (omega arith, low)
    by_cases false e (inl two) = let short = two.0 in inl (omega (arith, short), two.1)
    by_cases false e (inr beyond) = inr (omega (arith, beyond))

read_past : {A : Type 0} (xs : List A) (k : ℕ) (d : A) → length xs ≤ k → get_or xs k d ≡ d
read_past [] k d past = refl
read_past (x ∷ xs) zero d past = absurd (omega arith)
read_past (x ∷ xs) (suc k) d past = let less : length xs ≤ k = omega arith in read_past xs k d less

-- by days --------------------------------------------------------------------------------------------------------------------

module _ (c : Contents) (n : Name) (x : Lists) (known : plan c n ≡ Some (Planned x)) (whole : length x.planned ≡ days_of c) where
  quantities_are : x.planned ≡ map (λ t. length (day_ends (ends_of c) (plan c) c n t)) (range_with_len 0 (days_of c))
  quantities_are = fill_by_all (λ t. length (day_ends (ends_of c) (plan c) c n t)) x.planned (days_of c) 0 whole (λ t low. sym (day_has (ends_of c) c n x t known))

  read_units : (u : ℕ) → unit_end c n u
      ≡ get_or (get_or (map (day_ends (ends_of c) (plan c) c n) (range_with_len 0 (days_of c))) (stretch_of x.planned u) []) (place_of x.planned u) (Surplus n)
  read_units u =
      ap (λ ends. get_or ends u (Surplus n)) (each_unit_ends_once c n)
      ∙ flat_read (day_ends (ends_of c) (plan c) c n) (range_with_len 0 (days_of c)) u (Surplus n)
      ∙ ap (λ ls. get_or (get_or (map (day_ends (ends_of c) (plan c) c n) (range_with_len 0 (days_of c))) (stretch_of ls u) []) (place_of ls u) (Surplus n)) (sym quantities_are)

  day_read : (t unit : ℕ) → unit < get_or x.planned t 0
      → get_or (day_ends (ends_of c) (plan c) c n t) unit (Surplus n)
      ≡ end_at n (demand_ends (ends_of c) (plan c) c n) (((stock_in (record_at c (keys.Stock n)) + sum (take (suc t) x.sched)) + sum (take t x.planned)) + unit)
  day_read t unit low =
      let stock = stock_in (record_at c (keys.Stock n)) in
      let there = stock + sum (take (suc t) x.sched) in
      let made = sum (take t x.planned) in
      let all = demand_ends (ends_of c) (plan c) c n in
      let place : there + (made + unit) ≡ (there + made) + unit = omega arith in
      ap (λ o. get_or (ends_on n stock o all t) unit (Surplus n)) known
      ∙ get_or-map-range_with_len (λ unit. end_at n all (there + (made + unit))) 0 (get_or x.planned t 0) unit unit (Surplus n) low (omega arith)
      ∙ ap (end_at n all) place

  -- where a planned unit ends, where so many places come before the units of each day
  pub by_days : (befores : List ℕ) → length befores ≡ days_of c
      → ((t : ℕ) → t < days_of c → get_or befores t 0 ≡ (stock_in (record_at c (keys.Stock n)) + sum (take (suc t) x.sched)) + sum (take t x.planned))
      → (measure : End → ℕ) (u : ℕ)
      → by_stretch (supply_weight measure (λ place. measure (end_at n (demand_ends (ends_of c) (plan c) c n) place)) n befores) x.planned u ≡ measure (unit_end c n u)
  by_days befores many are measure u = by_cases (stretch_found x.planned u)
    where
      by_cases : ((stretch_of x.planned u < length x.planned) × (place_of x.planned u < get_or x.planned (stretch_of x.planned u) 0)) ⊎ (length x.planned ≤ stretch_of x.planned u)
          → by_stretch (supply_weight measure (λ place. measure (end_at n (demand_ends (ends_of c) (plan c) c n) place)) n befores) x.planned u ≡ measure (unit_end c n u)
      by_cases (inl two) =
          let k = stretch_of x.planned u in
          let unit = place_of x.planned u in
          let all = demand_ends (ends_of c) (plan c) c n in
          let short = two.0 in
          let low : k < days_of c = omega (arith, short, whole) in
          let there : nat_lt k (length befores) ≡ true = let inside : k < length befores = omega (arith, low, many) in grind (arith, nat_tests) in
          let day = get_or-map-range_with_len (day_ends (ends_of c) (plan c) c n) 0 (days_of c) k k [] low (omega arith) in
          ap (λ b. cond b (measure (end_at n all (get_or befores k 0 + unit))) (measure (Surplus n))) there
          ∙ ap (λ before. measure (end_at n all (before + unit))) (are k low)
          ∙ ap measure (sym (read_units u ∙ ap (λ ends. get_or ends unit (Surplus n)) day ∙ day_read k unit two.1))
      by_cases (inr beyond) =
          let k = stretch_of x.planned u in
          let unit = place_of x.planned u in
          let all = demand_ends (ends_of c) (plan c) c n in
          let there : nat_lt k (length befores) ≡ false = let outside : length befores ≤ k = omega (arith, beyond, whole, many) in grind (arith, nat_tests) in
          let long = length-map-range_with_len (day_ends (ends_of c) (plan c) c n) 0 (days_of c) in
          let past = read_past (map (day_ends (ends_of c) (plan c) c n) (range_with_len 0 (days_of c))) k [] (omega (arith, long, beyond, whole)) in
          ap (λ b. cond b (measure (end_at n all (get_or befores k 0 + unit))) (measure (Surplus n))) there
          ∙ ap measure (sym (read_units u ∙ ap (λ ends. get_or ends unit (Surplus n)) past))

-- by what the demand is for ----------------------------------------------------------------------------------------------------

pub name_there : (names : List Name) (place : ℕ) (p : Name) → slice_get names place ≡ Some p → get_or names place [] ≡ p
name_there [] place p is = absurd (let never : ⊥ = cc in never)
name_there (m ∷ names) zero p is = let same : m ≡ p = cc in same
name_there (m ∷ names) (suc place) p is = name_there names place p is

module _ (c : Contents) (names : List Name) (n : Name) where
  one_target : (measure : End → ℕ) (peg : ℕ × Peg) (target : Target) (unit : ℕ) → IsTarget c names n peg target → unit < peg_qty peg.1
      → target_weight measure (ends_by measure c names) n (Some target) unit ≡ measure (get_or (peg_ends (ends_of c) (plan c) c n peg.0 peg.1) unit (Surplus n))
  one_target measure (t, FromDemand order qty) (targets.Demand name) unit is low =
      ap (λ o. measure (AtDemand n o)) is ∙ ap measure (sym (get_or-map-range_with_len (λ (u : ℕ). AtDemand n order) 0 qty unit unit (Surplus n) low (omega arith)))
  one_target measure (t, FromParent parent qty) (targets.Parent place per before) unit is low =
      (λ i. measure (unit_end c (name_there names place parent is.0 i) (is.2 i + unit / is.1 i)))
      ∙ ap measure (sym (get_or-map-range_with_len (λ u. end_at parent (ends_of c parent) (sum (take t (released (plan c parent))) + u / per_in (record_at c (keys.Bill parent n)))) 0 qty unit unit (Surplus n) low (omega arith)))
  one_target measure (t, FromDemand order qty) (targets.Parent place per before) unit is low = absurd is
  one_target measure (t, FromParent parent qty) (targets.Demand name) unit is low = absurd is

  by_targets : (measure : End → ℕ) (pegs : List (ℕ × Peg)) (tgs : List Target) (quantities : List ℕ) (place : ℕ) → AreTargets c names n pegs tgs quantities
      → by_stretch (λ k unit. target_weight measure (ends_by measure c names) n (slice_get tgs k) unit) quantities place
      ≡ measure (get_or (flat_map (λ peg. peg_ends (ends_of c) (plan c) c n peg.0 peg.1) pegs) place (Surplus n))
  by_targets measure [] [] [] place are = refl
  by_targets measure (peg ∷ pegs) (target ∷ tgs) (qty ∷ quantities) place are = by_cases (by_targets measure pegs tgs quantities (place - qty) are.2) (nat_lt place qty) refl
    where
      by_cases : by_stretch (λ k unit. target_weight measure (ends_by measure c names) n (slice_get tgs k) unit) quantities (place - qty)
          ≡ measure (get_or (flat_map (λ p. peg_ends (ends_of c) (plan c) c n p.0 p.1) pegs) (place - qty) (Surplus n))
          → (b : Bool) → nat_lt place qty ≡ b
          → target_weight measure (ends_by measure c names) n (slice_get (target ∷ tgs) (cond b 0 (suc (stretch_of quantities (place - qty))))) (cond b place (place_of quantities (place - qty)))
          ≡ measure (get_or (peg_ends (ends_of c) (plan c) c n peg.0 peg.1 ++ flat_map (λ p. peg_ends (ends_of c) (plan c) c n p.0 p.1) pegs) place (Surplus n))
      by_cases more true e =
          let low : place < qty = grind (arith, nat_tests) in
          let is = are.1 in
          let long = peg_length (ends_of c) (plan c) c n peg.0 peg.1 in
          one_target measure peg target place are.0 (omega (arith, low, is))
          ∙ ap measure (sym (get_or_append_left (peg_ends (ends_of c) (plan c) c n peg.0 peg.1) (flat_map (λ p. peg_ends (ends_of c) (plan c) c n p.0 p.1) pegs) (Surplus n) place (omega (arith, low, is, long))))
      by_cases more false e =
          let high : qty ≤ place = grind (arith, nat_tests) in
          let is = are.1 in
          let first = peg_ends (ends_of c) (plan c) c n peg.0 peg.1 in
          let rest = flat_map (λ (p : ℕ × Peg). peg_ends (ends_of c) (plan c) c n p.0 p.1) pegs in
          let long = peg_length (ends_of c) (plan c) c n peg.0 peg.1 in
          let same : place ≡ length first + (place - qty) = omega (arith, high, is, long) in
          more
          ∙ ap measure (sym (ap (λ k. get_or (first ++ rest) k (Surplus n)) same ∙ get_or-append-add first rest (place - qty) (Surplus n)))
  by_targets measure [] [] (q ∷ qs) place are = absurd are
  by_targets measure [] (t ∷ ts) qs place are = absurd are
  by_targets measure (p ∷ ps) [] qs place are = absurd are
  by_targets measure (p ∷ ps) (t ∷ ts) [] place are = absurd are

-- lists of lists, flattened at once
flat_nested : {X Y A : Type 0} (f : Y → List A) (g : X → List Y) (xs : List X) → flat_map f (flat_map g xs) ≡ flat_map (λ x. flat_map f (g x)) xs
flat_nested f g [] = refl
flat_nested f g (x ∷ xs) = flat_map-append f (g x) (flat_map g xs) ∙ ap (λ rest. flat_map f (g x) ++ rest) (flat_nested f g xs)

flat_mapped : {X Y A : Type 0} (f : Y → List A) (g : X → Y) (xs : List X) → flat_map f (map g xs) ≡ flat_map (λ x. f (g x)) xs
flat_mapped f g [] = refl
flat_mapped f g (x ∷ xs) = ap (λ rest. f (g x) ++ rest) (flat_mapped f g xs)

-- a unit of the demand ends where what it is for ends
pub by_pegs : (c : Contents) (names : List Name) (n : Name) (measure : End → ℕ) (tgs : List Target) (quantities : List ℕ) (place : ℕ) → AreTargets c names n (pegs_of c n (days_of c)) tgs quantities
    → by_stretch (λ k unit. target_weight measure (ends_by measure c names) n (slice_get tgs k) unit) quantities place
    ≡ measure (end_at n (demand_ends (ends_of c) (plan c) c n) place)
by_pegs c names n measure tgs quantities place are =
    let f = λ (peg : ℕ × Peg). peg_ends (ends_of c) (plan c) c n peg.0 peg.1 in
    by_targets c names n measure (pegs_of c n (days_of c)) tgs quantities place are
    ∙ ap (λ ends. measure (get_or ends place (Surplus n)))
    (flat_nested f (pegs_on c n) (range_with_len 0 (days_of c))
    ∙ (λ i. flat_map (λ t. flat_mapped f (λ peg. (t, peg)) (pegs_from (plan c) c n t) i) (range_with_len 0 (days_of c))))

-- the planned units of a day stand in a row, by their numbers
module _ (c : Contents) (n : Name) (x : Lists) (known : plan c n ≡ Some (Planned x)) (whole : length x.planned ≡ days_of c) where
  unit_read : (t unit : ℕ) → t < days_of c → unit < get_or x.planned t 0
      → unit_end c n (sum (take t x.planned) + unit) ≡ end_at n (demand_ends (ends_of c) (plan c) c n) (((stock_in (record_at c (keys.Stock n)) + sum (take (suc t) x.sched)) + sum (take t x.planned)) + unit)
  unit_read t unit low short =
      let u = sum (take t x.planned) + unit in
      let there = stands_in x.planned t u (omega (arith, low, whole)) (omega arith) (omega (arith, short)) in
      let place : u - sum (take t x.planned) ≡ unit = omega arith in
      read_units c n x known whole u
      ∙ (λ i. get_or (get_or (map (day_ends (ends_of c) (plan c) c n) (range_with_len 0 (days_of c))) (there.0 i) []) ((there.1 ∙ place) i) (Surplus n))
      ∙ ap (λ ends. get_or ends unit (Surplus n)) (get_or-map-range_with_len (day_ends (ends_of c) (plan c) c n) 0 (days_of c) t t [] low (omega arith))
      ∙ day_read c n x known whole t unit short

  pub day_start : (measure : End → ℕ) (t : ℕ) → t < days_of c
      → 1 * sum_by (λ unit. measure (unit_end c n unit)) (range_with_len (sum (take t x.planned)) (get_or x.planned t 0)) ≡ sum_by measure (day_ends (ends_of c) (plan c) c n t)
  day_start measure t low =
      let place = (stock_in (record_at c (keys.Stock n)) + sum (take (suc t) x.sched)) + sum (take t x.planned) in
      ap (λ s. 1 * s) (sums_alike (λ unit. measure (unit_end c n unit)) (λ unit. measure (end_at n (demand_ends (ends_of c) (plan c) c n) unit)) (get_or x.planned t 0) (sum (take t x.planned)) place
      (λ unit short. ap measure (unit_read t unit low short)))
      ∙ sym (day_is_in_a_row measure (ends_of c) (plan c) c n t x known)
