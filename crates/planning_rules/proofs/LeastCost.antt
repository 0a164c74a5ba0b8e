-- Every list of orders that is enough costs at least the least cost.
use Rattle.std.proofs.Common.{◌≡◌, ℕ, zero, suc, ◌+◌, ◌-◌, ◌*◌, ◌<◌, ◌≤◌, inl, inr, List, [], ◌∷◌, max, refl, sym, ◌∙◌, subst, arith, le_refl, true, false}
use Rattle.std.specs.Prelude.{nat_le, if◌then◌else◌}
use Rattle.std.proofs.lemmas.Bool.{cases_lt}
use Rattle.std.proofs.lemmas.Bool.Decides.{nat_tests}
use Rattle.planning_rules.specs.BestLots.{needs_after, needs, IsCoveredAfter, IsCovered, setup_of, cost_after, cost, least_after, least_cost}

-- one who ordered longer ago pays no less
pub least_more : (setup hold since : ℕ) (wants : List ℕ) → least_after setup hold since wants ≤ least_after setup hold (suc since) wants
least_more setup hold since [] = le_refl _
least_more setup hold since (zero ∷ wants) = least_more setup hold (suc since) wants
least_more setup hold since (suc n ∷ wants) = let more = least_more setup hold (suc since) wants in omega arith

pub least_first : (setup hold since : ℕ) (wants : List ℕ) → least_after setup hold 1 wants ≤ least_after setup hold (suc since) wants
least_first setup hold zero wants = le_refl _
least_first setup hold (suc since) wants =
    let so_far = least_first setup hold since wants in let more = least_more setup hold (suc since) wants in omega arith

-- a floor under the cost of orders that are still to come, where so much lies ahead and the first need is so many days off: what lies
-- ahead waits for the needs that it covers, and the first need that it does not cover is ordered anew
pub floor : ℕ → ℕ → ℕ → ℕ → List ℕ → ℕ
floor setup hold off ahead [] = 0
floor setup hold off ahead (n ∷ wants) =
    if nat_le n ahead then hold * (n * off) + floor setup hold (suc off) (ahead - n) wants else least_cost setup hold (n ∷ wants)

pub floor_covered : (setup hold off ahead n : ℕ) (wants : List ℕ) → n ≤ ahead → floor setup hold off ahead (n ∷ wants) ≡ hold * (n * off) + floor setup hold (suc off) (ahead - n) wants
unfolding floor
floor_covered setup hold off ahead n wants h = let t : nat_le n ahead ≡ true = grind (arith, nat_tests) in rw t refl

pub floor_short : (setup hold off ahead n : ℕ) (wants : List ℕ) → ahead < n → floor setup hold off ahead (n ∷ wants) ≡ least_cost setup hold (n ∷ wants)
unfolding floor
floor_short setup hold off ahead n wants h = let t : nat_le n ahead ≡ false = grind (arith, nat_tests) in rw t refl

floor_end : (setup hold off ahead : ℕ) → floor setup hold off ahead [] ≡ 0
unfolding floor
floor_end setup hold off ahead = refl

-- a day later the floor is no higher than with the holding of a day
floor_later : (setup hold off ahead : ℕ) (wants : List ℕ) → floor setup hold (suc off) ahead wants ≤ hold * ahead + floor setup hold off ahead wants
floor_later setup hold off ahead [] = rw floor_end (omega arith)
floor_later setup hold off ahead (n ∷ wants) =
    elim (cases_lt ahead n) [
      | inl short ↦ let here = floor_short setup hold off ahead n wants short in let next = floor_short setup hold (suc off) ahead n wants short in omega arith
      | inr covered ↦
          let here = floor_covered setup hold off ahead n wants covered in
          let next = floor_covered setup hold (suc off) ahead n wants covered in
          let rest = floor_later setup hold (suc off) (ahead - n) wants in
          let parts : hold * (ahead - n) + hold * n ≡ hold * ahead = sym (mul_parts hold ahead n covered) in
          omega arith
    ]
  where
    mul_parts : (hold a n : ℕ) → n ≤ a → hold * a ≡ hold * (a - n) + hold * n
    mul_parts hold a n h = let whole : a ≡ (a - n) + n = omega arith in subst (λ k. hold * k ≡ hold * (a - n) + hold * n) (sym whole) (omega arith)

-- the least cost after an order is below the floor
least_below : (setup hold off ahead : ℕ) (wants : List ℕ) → least_after setup hold off wants ≤ floor setup hold off ahead wants
least_below setup hold off ahead [] = omega arith
least_below setup hold off ahead (zero ∷ wants) =
    let le : 0 ≤ ahead = omega arith in
    let here = floor_covered setup hold off ahead 0 wants le in
    let rest = least_below setup hold (suc off) (ahead - 0) wants in
    omega arith
least_below setup hold off ahead (suc n ∷ wants) =
    elim (cases_lt ahead (suc n)) [
      | inl short ↦ let here = floor_short setup hold off ahead (suc n) wants short in omega arith
      | inr covered ↦
          let here = floor_covered setup hold off ahead (suc n) wants covered in
          let rest = least_below setup hold (suc off) (ahead - suc n) wants in
          omega arith
    ]

-- more ahead lowers the floor by one setup at most
floor_more : (setup hold off ahead more : ℕ) (wants : List ℕ) → ahead ≤ more → floor setup hold off ahead wants ≤ setup + floor setup hold off more wants
floor_more setup hold off ahead more [] h = rw floor_end (omega arith)
floor_more setup hold off ahead more (n ∷ wants) h =
    elim (cases_lt ahead n) [
      | inl short ↦
          let here = floor_short setup hold off ahead n wants short in
          elim (cases_lt more n) [
            | inl still ↦ let next = floor_short setup hold off more n wants still in omega arith
            | inr covered ↦ rw here (rw (floor_covered setup hold off more n wants covered) (one_setup setup hold off (more - n) n wants (omega arith)))
          ]
      | inr covered ↦
          let also : n ≤ more = omega arith in
          let here = floor_covered setup hold off ahead n wants covered in
          let next = floor_covered setup hold off more n wants also in
          let rest = floor_more setup hold (suc off) (ahead - n) (more - n) wants (omega arith) in
          omega arith
    ]
  where
    one_setup : (setup hold off left n : ℕ) (wants : List ℕ) → 0 < n → least_cost setup hold (n ∷ wants) ≤ setup + (hold * (n * off) + floor setup hold (suc off) left wants)
    one_setup setup hold off left zero wants h = absurd (omega arith)
    one_setup setup hold off left (suc n) wants h =
        let first = least_first setup hold off wants in let rest = least_below setup hold (suc off) left wants in omega arith

-- one day: what is ordered on it, and what then lies ahead
day_step : (setup hold ahead q left n : ℕ) (wants : List ℕ) → left + n ≡ ahead + q
    → floor setup hold 0 ahead (n ∷ wants) ≤ (setup_of setup q + hold * left) + floor setup hold 0 left wants
day_step setup hold ahead zero left n wants e =
    let covered : n ≤ ahead = omega arith in
    let is : ahead - n ≡ left = omega arith in
    let here = floor_covered setup hold 0 ahead n wants covered in
    let later = floor_later setup hold 0 left wants in
    rw here (rw is (omega arith))
day_step setup hold ahead (suc q) left n wants e =
    let later = floor_later setup hold 0 left wants in
    elim (cases_lt ahead n) [
      | inl short ↦ rw (floor_short setup hold 0 ahead n wants short) (ordered setup hold left n wants later (omega arith))
      | inr covered ↦
          let here = floor_covered setup hold 0 ahead n wants covered in
          let more = floor_more setup hold 1 (ahead - n) left wants (omega arith) in
          omega arith
    ]
  where
    ordered : (setup hold left n : ℕ) (wants : List ℕ) → floor setup hold 1 left wants ≤ hold * left + floor setup hold 0 left wants → 0 < n
        → least_cost setup hold (n ∷ wants) ≤ (setup + hold * left) + floor setup hold 0 left wants
    ordered setup hold left zero wants later h = absurd (omega arith)
    ordered setup hold left (suc n) wants later h = let rest = least_below setup hold 1 left wants in omega arith

-- every list that is enough costs at least the floor
floor_is_low : (setup hold made most : ℕ) (short orders : List ℕ) → most ≤ made → IsCoveredAfter made short orders
    → floor setup hold 0 (made - most) (needs_after most short) ≤ cost_after setup hold made most short orders
floor_is_low setup hold made most [] [] le h = rw floor_end (omega arith)
floor_is_low setup hold made most (s ∷ short) (q ∷ orders) le h =
    let enough : s ≤ made + q = h.0 in
    let day = day_step setup hold (made - most) q ((made + q) - max most s) (s - most) (needs_after (max most s) short) (omega arith) in
    let rest = floor_is_low setup hold (made + q) (max most s) short orders (omega arith) h.1 in
    omega arith
floor_is_low setup hold made most [] (q ∷ orders) le h = absurd h
floor_is_low setup hold made most (s ∷ short) [] le h = absurd h

-- with nothing ahead the floor is the least cost
floor_is_least : (setup hold off : ℕ) (wants : List ℕ) → floor setup hold off 0 wants ≡ least_cost setup hold wants
floor_is_least setup hold off [] = floor_end setup hold off 0
floor_is_least setup hold off (zero ∷ wants) =
    let none : 0 ≤ 0 = le_refl 0 in
    floor_covered setup hold off 0 0 wants none ∙ (let rest = floor_is_least setup hold (suc off) wants in omega arith)
floor_is_least setup hold off (suc n ∷ wants) = floor_short setup hold off 0 (suc n) wants (omega arith)

pub enough_costs : (setup hold : ℕ) (short orders : List ℕ) → IsCovered short orders → least_cost setup hold (needs short) ≤ cost setup hold short orders
enough_costs setup hold short orders h =
    let low = floor_is_low setup hold 0 0 short orders (le_refl 0) h in
    let is = floor_is_least setup hold 0 (needs short) in
    omega arith
