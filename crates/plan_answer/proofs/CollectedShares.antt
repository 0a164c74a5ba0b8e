-- What planned units are for is told from collected cells as from all contents: they end at parts in reach, whose rows were collected.
use Rattle.std.proofs.Common.{◌≡◌, ℕ, List, [], ◌∷◌, ◌++◌, refl, sym, ◌∙◌, ap, subst, Bool, true, false, cond, ◌+◌, arith}
use Rattle.std.proofs.lemmas.Bool.{and_parts}
use Rattle.std.proofs.lemmas.List.Sums.{sum_by-cons}
use Rattle.std.specs.Prelude.{Option, Some, None, nat_lt, count_by}
use Rattle.std.specs.List.{AllByRecursion, cons_option, filter_map, list_all}
use Rattle.plan_schema.specs.declared.name.Name.{Name}
use Rattle.plan_schema.specs.declared.key.Key.{Key}
use Rattle.plan_schema.specs.declared.key.Key.TheVariants as keys
use Rattle.plan_schema.specs.declared.key.Record.{Record}
use Rattle.plan_schema.specs.declared.change.CellName.TheVariants as names
use Rattle.plan_schema.specs.Key.{name_cmp, name_eq, cell_of}
use Rattle.plan_schema.specs.Contents.{Contents, is_ordered, cell_rows}
use Rattle.planning_rules.specs.Bills.{parents}
use Rattle.planning_rules.specs.Plan.{plan}
use Rattle.planning_rules.specs.Trace.{End, AtDemand, Surplus, same_end, demand_end, surplus_end, shares, day_ends, ends_of, trace}
use Rattle.planning_rules.proofs.LevelLaws.{one_name}
use Rattle.walk_rules.specs.Cells.{Cells, records, are_own_cells}
use Rattle.plan_jobs.specs.Jobs.{are_ascending}
use Rattle.full_pegging.specs.Shares.{shares_by}
use Rattle.full_pegging.proofs.Sharing.{shares_more}
use Rattle.full_pegging.proofs.SameEnds.{IsAtSome, days_alike, days_within}
use Rattle.plan_answer.proofs.KeptRows.{RiseByCell, kept_rows, kept_same}
use Rattle.plan_answer.proofs.CollectedParts.{less_then}

-- how many of some units end where, where any do
abbrev counted : List End → List End → List (End × ℕ)
counted units ends = shares_by (λ end. count_by (same_end end) units) ends

-- some units end at an end, if it is one
abbrev has_units : List End → Option End → Bool
has_units units None = false
has_units units (Some end) = nat_lt 0 (count_by (same_end end) units)

-- rows at which no units end tell nothing of them
module _ (units : List End) (end_of : (Key × Record) → Option End) (kept : Key → Bool) (tells : (row : Key × Record) → kept row.0 ≡ has_units units (end_of row)) where
  kept_counted : (c : Contents) → counted units (filter_map end_of (kept_rows kept c)) ≡ counted units (filter_map end_of c)
  kept_counted [] = refl
  kept_counted (row ∷ c) = by_end (kept_counted c) (end_of row) refl (kept row.0) (tells row)
    where
      by_end : counted units (filter_map end_of (kept_rows kept c)) ≡ counted units (filter_map end_of c) → (o : Option End) → end_of row ≡ o → (b : Bool) → b ≡ has_units units o
          → counted units (filter_map end_of (cond b (row ∷ kept_rows kept c) (kept_rows kept c))) ≡ counted units (cons_option o (filter_map end_of c))
      by_end rest None e true h = absurd (let never : ⊥ = cc in never)
      by_end rest None e false h = rest
      by_end rest (Some end) e true h =
          ap (λ o. counted units (cons_option o (filter_map end_of (kept_rows kept c)))) e
          ∙ ap (λ shares. cond (nat_lt 0 (count_by (same_end end) units)) ((end, count_by (same_end end) units) ∷ shares) shares) rest
      by_end rest (Some end) e false h = rest ∙ ap (λ b. cond b ((end, count_by (same_end end) units) ∷ counted units (filter_map end_of c)) (counted units (filter_map end_of c))) h

-- the keys of ends --------------------------------------------------------------------------------------------------------------------

demand_at : List End → Key → Bool
demand_at units (keys.Demand part order) = nat_lt 0 (count_by (same_end (AtDemand part order)) units)
demand_at units key = false

surplus_at : List End → Key → Bool
surplus_at units (keys.Part part) = nat_lt 0 (count_by (same_end (Surplus part)) units)
surplus_at units key = false

module _ (units : List End) where
  demand_tells : (row : Key × Record) → demand_at units row.0 ≡ has_units units (demand_end row)
  unfolding demand_at
  demand_tells (keys.Demand part order, value) = refl
  demand_tells (_, value) = refl

  surplus_tells : (row : Key × Record) → surplus_at units row.0 ≡ has_units units (surplus_end row)
  unfolding surplus_at
  surplus_tells (keys.Part part, value) = refl
  surplus_tells (_, value) = refl

  demands_rise : RiseByCell (demand_at units)
  unfolding demand_at
  demands_rise (keys.Demand part order) (keys.Demand other name) is also less = less_then (name_cmp part other) _ less
  demands_rise (keys.Demand part order) _ is also less = absurd (let never : ⊥ = cc in never)
  demands_rise _ other is also less = absurd (let never : ⊥ = cc in never)

  surplus_rises : RiseByCell (surplus_at units)
  unfolding surplus_at
  surplus_rises (keys.Part part) (keys.Part other) is also less = less_then (name_cmp part other) _ less
  surplus_rises (keys.Part part) _ is also less = absurd (let never : ⊥ = cc in never)
  surplus_rises _ other is also less = absurd (let never : ⊥ = cc in never)

-- ends at some parts ------------------------------------------------------------------------------------------------------------------

end_within : (among : Name → Bool) (end other : End) → same_end end other ≡ true → IsAtSome among other → IsAtSome among end
end_within among (AtDemand part order) (AtDemand other name) same h =
    let two = and_parts (name_eq part other) (name_eq order name) same in
    subst (λ (n : Name). among n ≡ true) (sym (one_name part other two.0)) h
end_within among (Surplus part) (Surplus other) same h = subst (λ (n : Name). among n ≡ true) (sym (one_name part other same)) h
end_within among (AtDemand part order) (Surplus other) same h = absurd (let never : ⊥ = cc in never)
end_within among (Surplus part) (AtDemand other name) same h = absurd (let never : ⊥ = cc in never)

-- where units end, one of them does
unit_there : (among : Name → Bool) (end : End) (units : List End) → AllByRecursion (IsAtSome among) units → nat_lt 0 (count_by (same_end end) units) ≡ true → IsAtSome among end
unit_there among end [] all some = absurd (let never : ⊥ = cc in never)
unit_there among end (unit ∷ units) all some = by_same (unit_there among end units all.1) (same_end end unit) refl
    (ap (nat_lt 0) (sym (sum_by-cons (λ u. cond (same_end end u) 1 0) unit units)) ∙ some)
  where
    by_same : (nat_lt 0 (count_by (same_end end) units) ≡ true → IsAtSome among end) → (b : Bool) → same_end end unit ≡ b → nat_lt 0 (cond b 1 0 + count_by (same_end end) units) ≡ true → IsAtSome among end
    by_same rest true same h = end_within among end unit same all.0
    by_same rest false same h = rest (ap (nat_lt 0) (let none : count_by (same_end end) units ≡ 0 + count_by (same_end end) units = omega arith in none) ∙ h)

-- shares ------------------------------------------------------------------------------------------------------------------------------

module _ (c : Contents) (cells : Cells) (ordered : is_ordered c ≡ true) (ascending : are_ascending cells ≡ true) (own : are_own_cells cells ≡ true) (among : Name → Bool)
    (rows : (n : Name) → among n ≡ true → cell_rows (records cells) (names.Part n) ≡ cell_rows c (names.Part n)) where
  module _ (units : List End) (within : AllByRecursion (IsAtSome among) units) where
    same_demands : (key : Key) → demand_at units key ≡ true → cell_rows (records cells) (cell_of key) ≡ cell_rows c (cell_of key)
    unfolding demand_at
    same_demands (keys.Demand part order) is = rows part (unit_there among (AtDemand part order) units within is)
    same_demands _ is = absurd (let never : ⊥ = cc in never)

    same_parts : (key : Key) → surplus_at units key ≡ true → cell_rows (records cells) (cell_of key) ≡ cell_rows c (cell_of key)
    unfolding surplus_at
    same_parts (keys.Part part) is = rows part (unit_there among (Surplus part) units within is)
    same_parts _ is = absurd (let never : ⊥ = cc in never)

    shares_same : shares (records cells) units ≡ shares c units
    shares_same =
        shares_more (λ end. count_by (same_end end) units) (filter_map demand_end (records cells)) (filter_map surplus_end (records cells))
        ∙ (λ i. demands i ++ surplus i)
        ∙ sym (shares_more (λ end. count_by (same_end end) units) (filter_map demand_end c) (filter_map surplus_end c))
      where
        demands : counted units (filter_map demand_end (records cells)) ≡ counted units (filter_map demand_end c)
        demands =
            sym (kept_counted units demand_end (demand_at units) (demand_tells units) (records cells))
            ∙ ap (λ some. counted units (filter_map demand_end some)) (kept_same c cells ordered ascending own (demand_at units) (demands_rise units) same_demands)
            ∙ kept_counted units demand_end (demand_at units) (demand_tells units) c

        surplus : counted units (filter_map surplus_end (records cells)) ≡ counted units (filter_map surplus_end c)
        surplus =
            sym (kept_counted units surplus_end (surplus_at units) (surplus_tells units) (records cells))
            ∙ ap (λ some. counted units (filter_map surplus_end some)) (kept_same c cells ordered ascending own (surplus_at units) (surplus_rises units) same_parts)
            ∙ kept_counted units surplus_end (surplus_at units) (surplus_tells units) c

  module _ (horizon : cell_rows (records cells) names.Plan ≡ cell_rows c names.Plan) (plans : (n : Name) → among n ≡ true → plan (records cells) n ≡ plan c n)
      (up : (n : Name) → among n ≡ true → list_all among (parents c n) ≡ true) where
    pub trace_same : (n : Name) → among n ≡ true → (t : ℕ) → trace (records cells) n t ≡ trace c n t
    trace_same n is t =
        let d = records cells in
        ap (shares d) (sym (days_alike c d among (sym horizon) (λ m e. sym (rows m e)) (λ m e. sym (plans m e)) up n is t))
        ∙ shares_same (day_ends (ends_of c) (plan c) c n t) (days_within c d among (sym horizon) (λ m e. sym (rows m e)) (λ m e. sym (plans m e)) up n is t)
