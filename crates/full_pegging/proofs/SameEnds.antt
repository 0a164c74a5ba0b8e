-- Where two contents have the same rows of names and of their ancestors, and the same plans of them, these names' units end alike, at
-- those names.
use Rattle.std.proofs.Common.{◌≡◌, ℕ, zero, suc, ◌+◌, ◌/◌, List, [], ◌∷◌, ◌++◌, map, refl, sym, ◌∙◌, ap, Bool, true}
use Rattle.std.proofs.lemmas.Bool.{and_parts}
use Rattle.std.specs.Prelude.{Option, Some, None, is_some, nat_lt, sum, take}
use Rattle.std.specs.List.{AllByRecursion, range_with_len, list_all, flat_map}
use Rattle.plan_schema.specs.declared.name.Name.{Name}
use Rattle.plan_schema.specs.declared.change.CellName.TheVariants as names
use Rattle.plan_schema.specs.declared.key.Key.TheVariants as keys
use Rattle.plan_schema.specs.Contents.{Contents, record_at, cell_rows}
use Rattle.planning_rules.specs.Bills.{ParentBill, bills_of, parents, longest_chain}
use Rattle.planning_rules.specs.Days.{start_of, days_of}
use Rattle.planning_rules.specs.Plan.{Known, plan, plan_within, released, has_outcome, asked_by, demands_on, counted, input_of, known_from, gross_of, stock_in}
use Rattle.planning_rules.specs.Pegs.{Peg, FromDemand, FromParent, above_zero, pegs_from}
use Rattle.planning_rules.specs.Trace.{End, AtDemand, Surplus, end_at, per_in, peg_ends, demand_ends, ends_on, day_ends, ends_of}
use Rattle.planning_rules.proofs.PlanLaws.{both_true, outcome_some, cond_some}
use Rattle.walk_rules.proofs.Local.{record_same, bills_same, demands_same, start_same, days_same}
use Rattle.full_pegging.proofs.ByDays.{TellAlike, flat_same, demand_local, no_units, each_unit_ends_once}
use Rattle.full_pegging.proofs.EachEnd.{Leads, pegs_lead, day_all, units_all}
use Rattle.full_pegging.proofs.Everywhere.{all_always}

-- an end is at one of some names
abbrev pub IsAtSome : (Name → Bool) → End → Type 0
IsAtSome among (AtDemand part order) = among part ≡ true
IsAtSome among (Surplus part) = among part ≡ true

-- two contents with the same rows of a name, and the same horizon
module _ (c d : Contents) (plan_cell : cell_rows c names.Plan ≡ cell_rows d names.Plan) (n : Name) (rows : cell_rows c (names.Part n) ≡ cell_rows d (names.Part n)) where
  peg_same : (f : Name → List End) (plans : Name → Option Known) (t : ℕ) (peg : Peg) → peg_ends f plans c n t peg ≡ peg_ends f plans d n t peg
  peg_same f plans t (FromDemand order qty) = refl
  peg_same f plans t (FromParent p qty) =
      λ i. map (λ unit. end_at p (f p) (sum (take t (released (plans p))) + unit / per_in (record_same c d (keys.Bill p n) rows i))) (range_with_len 0 qty)

  pegs_same : (plans : Name → Option Known) (t : ℕ) → pegs_from plans c n t ≡ pegs_from plans d n t
  pegs_same plans t =
      λ i. map (λ (pair : Name × ℕ). FromDemand pair.0 pair.1) (above_zero (counted (start_same c d plan_cell i) t (demands_same c d n rows i)))
      ++ map (λ (pair : Name × ℕ). FromParent pair.0 pair.1) (above_zero (map (asked_by plans (start_same c d plan_cell i) t) (bills_same c d n rows i)))

  demand_same : (f : Name → List End) (plans : Name → Option Known) → demand_ends f plans c n ≡ demand_ends f plans d n
  demand_same f plans =
      flat_same (λ t. flat_map (peg_ends f plans c n t) (pegs_from plans c n t)) (λ t. flat_map (peg_ends f plans d n t) (pegs_from plans d n t))
      (λ t. flat_same (peg_ends f plans c n t) (peg_ends f plans d n t) (peg_same f plans t) (pegs_from plans c n t) ∙ ap (flat_map (peg_ends f plans d n t)) (pegs_same plans t))
      (range_with_len 0 (days_of c))
      ∙ ap (λ days. flat_map (λ t. flat_map (peg_ends f plans d n t) (pegs_from plans d n t)) (range_with_len 0 days)) (days_same c d plan_cell)

  stock_same : stock_in (record_at c (keys.Stock n)) ≡ stock_in (record_at d (keys.Stock n))
  stock_same = ap stock_in (record_same c d (keys.Stock n) rows)

module _ (c d : Contents) (among : Name → Bool) (plan_cell : cell_rows c names.Plan ≡ cell_rows d names.Plan)
    (rows : (n : Name) → among n ≡ true → cell_rows c (names.Part n) ≡ cell_rows d (names.Part n))
    (plans : (n : Name) → among n ≡ true → plan c n ≡ plan d n)
    (up : (n : Name) → among n ≡ true → list_all among (parents c n) ≡ true) where
  -- where the units of the parents end alike, so do those of a day
  day_alike : (n : Name) → among n ≡ true → TellAlike (ends_of c) (ends_of d) (plan c) (plan d) (bills_of c n) → (t : ℕ) → day_ends (ends_of c) (plan c) c n t ≡ day_ends (ends_of d) (plan d) d n t
  day_alike n e h t =
      let demand = demand_local (ends_of c) (ends_of d) (plan c) (plan d) c n h ∙ demand_same c d plan_cell n (rows n e) (ends_of d) (plan d) in
      λ i. ends_on n (stock_same c d plan_cell n (rows n e) i) (plans n e i) (demand i) t

  -- the parents of bills are among the names, and have plans in so many names
  parents_alike : (known : Name → Option Known) → ((p : Name) → among p ≡ true → is_some (known p) ≡ true → ends_of c p ≡ ends_of d p) → (bills : List ParentBill)
      → list_all among (map (λ bill. bill.parent) bills) ≡ true → list_all (λ p. has_outcome (known p)) (map (λ bill. bill.parent) bills) ≡ true → TellAlike (ends_of c) (ends_of d) (plan c) (plan d) bills
  parents_alike known same [] above there = tt
  parents_alike known same (bill ∷ bills) above there =
      let here = and_parts (among bill.parent) (list_all among (map (λ other. other.parent) bills)) above in
      let has = both_true (has_outcome (known bill.parent)) (list_all (λ p. has_outcome (known p)) (map (λ other. other.parent) bills)) there in
      ((same bill.parent here.0 (outcome_some (known bill.parent) has.0), plans bill.parent here.0), parents_alike known same bills here.1 has.1)

  -- a name with a plan in so many names
  planned_alike : (k : ℕ) (n : Name) → among n ≡ true → is_some (plan_within k c n) ≡ true → ends_of c n ≡ ends_of d n
  planned_alike zero n e h = absurd (let never : ⊥ = cc in never)
  planned_alike (suc k) n e h =
      let known = cond_some (list_all (λ p. has_outcome (plan_within k c p)) (parents c n)) (known_from (input_of c n (gross_of (plan_within k c) c n) (record_at c (keys.Part n)))) h in
      let alike = parents_alike (plan_within k c) (planned_alike k) (bills_of c n) (up n e) known in
      each_unit_ends_once c n
      ∙ flat_same (day_ends (ends_of c) (plan c) c n) (day_ends (ends_of d) (plan d) d n) (day_alike n e alike) (range_with_len 0 (days_of c))
      ∙ ap (λ days. flat_map (day_ends (ends_of d) (plan d) d n) (range_with_len 0 days)) (days_same c d plan_cell)
      ∙ sym (each_unit_ends_once d n)

  ends_alike : (n : Name) → among n ≡ true → ends_of c n ≡ ends_of d n
  ends_alike n e = by_plan (plan c n) refl
    where
      by_plan : (o : Option Known) → plan c n ≡ o → ends_of c n ≡ ends_of d n
      by_plan None none =
          each_unit_ends_once c n ∙ no_units (ends_of c) c n none ∙ sym (no_units (ends_of d) d n (sym (plans n e) ∙ none)) ∙ sym (each_unit_ends_once d n)
      by_plan (Some known) is = planned_alike (longest_chain c) n e (ap is_some is)

  all_alike : (bills : List ParentBill) → list_all among (map (λ bill. bill.parent) bills) ≡ true → TellAlike (ends_of c) (ends_of d) (plan c) (plan d) bills
  all_alike [] above = tt
  all_alike (bill ∷ bills) above =
      let here = and_parts (among bill.parent) (list_all among (map (λ other. other.parent) bills)) above in
      ((ends_alike bill.parent here.0, plans bill.parent here.0), all_alike bills here.1)

  -- the units of a day end alike in both
  pub days_alike : (n : Name) → among n ≡ true → (t : ℕ) → day_ends (ends_of c) (plan c) c n t ≡ day_ends (ends_of d) (plan d) d n t
  days_alike n e = day_alike n e (all_alike (bills_of c n) (up n e))

  asked_above : (start t : ℕ) (bills : List ParentBill) → list_all among (map (λ bill. bill.parent) bills) ≡ true
      → AllByRecursion (λ (pair : Name × ℕ). nat_lt 0 pair.1 ≡ true → (among pair.0 ≡ true) × (among pair.0 ≡ true)) (map (asked_by (plan c) start t) bills)
  asked_above start t [] above = tt
  asked_above start t (bill ∷ bills) above =
      let here = and_parts (among bill.parent) (list_all among (map (λ other. other.parent) bills)) above in
      ((λ some. (here.0, here.0)), asked_above start t bills here.1)

  -- and at names among these
  pub days_within : (n : Name) → among n ≡ true → (t : ℕ) → AllByRecursion (IsAtSome among) (day_ends (ends_of c) (plan c) c n t)
  days_within n e t =
      day_all c (λ m. among m ≡ true) (IsAtSome among) pegs (λ m is some. is) (ends_of c) (units_all c (λ m. among m ≡ true) (IsAtSome among) pegs (λ m is some. is) (longest_chain c)) n e t
    where
      pegs : (m : Name) → among m ≡ true → (u : ℕ) → AllByRecursion (Leads (λ k. among k ≡ true) (IsAtSome among) m) (pegs_from (plan c) c m u)
      pegs m is u = pegs_lead (λ k. among k ≡ true) (IsAtSome among) c m u (all_always (λ (pair : Name × ℕ). among m ≡ true) (λ pair. is) (demands_on c m u)) (asked_above (start_of c) u (bills_of c m) (up m is))
