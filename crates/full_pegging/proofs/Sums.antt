-- The shares of some units sum to their number: each unit ends at one row.
use Rattle.std.proofs.Common.{◌≡◌, ℕ, ◌+◌, ◌⊎◌, inl, inr, List, [], ◌∷◌, ◌++◌, map, length, refl, sym, ◌∙◌, ap, subst, arith, Bool, true, false, cond, ◌&&◌}
use Rattle.std.proofs.lemmas.Bool.Decides.{nat_tests}
use Rattle.std.proofs.lemmas.List.Sums.{sum_by-cons, sum_by-append}
use Rattle.std.specs.Prelude.{Option, Some, None, nat_lt, sum_by, count_by, filter}
use Rattle.std.specs.List.{cons_option, filter_map}
use Rattle.std.specs.Ordering.{is_lt}
use Rattle.std.specs.Cmp.{tied_itself, nat_cmp_total}
use Rattle.std.specs.Cmp.Lexicographic.{nat_list_cmp_total, lists_total}
use Rattle.std.specs.FinMap.Entries.{below_all}
use Rattle.plan_schema.specs.declared.name.Name.{Name}
use Rattle.plan_schema.specs.declared.key.Key.{Key}
use Rattle.plan_schema.specs.declared.key.Key.TheVariants as keys
use Rattle.plan_schema.specs.declared.key.Record.{Record}
use Rattle.plan_schema.specs.Key.{name_eq, key_cmp, table, fields}
use Rattle.plan_schema.specs.Contents.{Contents, is_ordered}
use Rattle.planning_rules.proofs.LevelLaws.{same_name}
use Rattle.planning_rules.proofs.PlanLaws.{both_true}
use Rattle.planning_rules.specs.Trace.{End, AtDemand, Surplus, same_end, demand_end, surplus_end, shares}
use Rattle.full_pegging.specs.Laws.{total_share}
use Rattle.planning_rules.proofs.LevelLaws.{one_name}
use Rattle.full_pegging.proofs.Stands.{HasKey, Stands, AllStand}

-- 1 for what passes a test
abbrev one_if : Bool → ℕ
one_if b = cond b 1 0

-- 1 where an end is there and it is the one asked for
abbrev hit : End → Option End → ℕ
hit unit None = 0
hit unit (Some end) = one_if (same_end end unit)

-- no key precedes itself
key_tied : (k : Key) → is_lt (key_cmp k k) ≡ false
key_tied k = rw (tied_itself nat_cmp_total (table k), tied_itself (lists_total nat_list_cmp_total) (fields k)) refl

-- one row alone has a key ----------------------------------------------------------------------------------------------------

module _ (k : Key) (f : (Key × Record) → ℕ) (one : (row : Key × Record) → row.0 ≡ k → f row ≡ 1) (others : (row : Key × Record) → (f row ≡ 0) ⊎ (row.0 ≡ k)) where
  none_behind : (rows : Contents) → below_all key_cmp k rows ≡ true → sum_by f rows ≡ 0
  none_behind [] h = refl
  none_behind (row ∷ rows) h =
      let two = both_true (is_lt (key_cmp k row.0)) (below_all key_cmp k rows) h in
      let rest = none_behind rows two.1 in
      elim (others row) [
        | inl none ↦ sum_by-cons f row rows ∙ omega (arith, none, rest)
        | inr same ↦ let wrong : false ≡ true = sym (key_tied k) ∙ ap (λ q. is_lt (key_cmp k q)) (sym same) ∙ two.0 in absurd (let never : ⊥ = cc in never)
      ]

  not_behind : (key : Key) (rows : Contents) → below_all key_cmp key rows ≡ true → HasKey rows key → ⊥
  not_behind key [] h i = i
  not_behind key (row ∷ rows) h (inl e) =
      let two = both_true (is_lt (key_cmp key row.0)) (below_all key_cmp key rows) h in
      let wrong : false ≡ true = sym (key_tied key) ∙ ap (λ q. is_lt (key_cmp key q)) (sym e) ∙ two.0 in
      cc
  not_behind key (row ∷ rows) h (inr i) = not_behind key rows (both_true (is_lt (key_cmp key row.0)) (below_all key_cmp key rows) h).1 i

  one_alone : (c : Contents) → is_ordered c ≡ true → HasKey c k → sum_by f c ≡ 1
  one_alone [] h i = absurd i
  one_alone (row ∷ rows) h (inl e) =
      let two = both_true (below_all key_cmp row.0 rows) (is_ordered rows) h in
      let here = one row e in
      let rest = none_behind rows (ap (λ q. below_all key_cmp q rows) (sym e) ∙ two.0) in
      sum_by-cons f row rows ∙ omega (arith, here, rest)
  one_alone (row ∷ rows) h (inr i) =
      let two = both_true (below_all key_cmp row.0 rows) (is_ordered rows) h in
      let rest = one_alone rows two.1 i in
      elim (others row) [
        | inl none ↦ sum_by-cons f row rows ∙ omega (arith, none, rest)
        | inr same ↦ absurd (not_behind row.0 rows two.0 (subst (HasKey rows) (sym same) i))
      ]

-- the rows that are an end ---------------------------------------------------------------------------------------------------

demand_one : (part order : Name) (row : Key × Record) → row.0 ≡ keys.Demand part order → hit (AtDemand part order) (demand_end row) ≡ 1
demand_one part order row e =
    ap (λ (k : Key). hit (AtDemand part order) (demand_end (k, row.1))) e
    ∙ ap one_if (λ i. same_name part i && same_name order i)

demand_others : (part order : Name) (row : Key × Record) → (hit (AtDemand part order) (demand_end row) ≡ 0) ⊎ (row.0 ≡ keys.Demand part order)
demand_others part order (keys.Demand other name, value) = by_cases (name_eq other part) (name_eq name order) refl refl
  where
    by_cases : (a b : Bool) → name_eq other part ≡ a → name_eq name order ≡ b → (one_if (a && b) ≡ 0) ⊎ (keys.Demand other name ≡ keys.Demand part order)
    by_cases true true e d = inr (λ i. keys.Demand (one_name other part e i) (one_name name order d i))
    by_cases true false e d = inl refl
    by_cases false b e d = inl refl
demand_others part order _ = inl refl

surplus_one : (part : Name) (row : Key × Record) → row.0 ≡ keys.Part part → hit (Surplus part) (surplus_end row) ≡ 1
surplus_one part row e = ap (λ (k : Key). hit (Surplus part) (surplus_end (k, row.1))) e ∙ ap one_if (same_name part)

surplus_others : (part : Name) (row : Key × Record) → (hit (Surplus part) (surplus_end row) ≡ 0) ⊎ (row.0 ≡ keys.Part part)
surplus_others part (keys.Part other, value) = by_cases (name_eq other part) refl
  where
    by_cases : (a : Bool) → name_eq other part ≡ a → (one_if a ≡ 0) ⊎ (keys.Part other ≡ keys.Part part)
    by_cases true e = inr (ap keys.Part (one_name other part e))
    by_cases false e = inl refl
surplus_others part _ = inl refl

no_demand : (part : Name) (c : Contents) → sum_by (λ row. hit (Surplus part) (demand_end row)) c ≡ 0
no_demand part [] = refl
no_demand part (row ∷ rows) = sum_by-cons (λ row. hit (Surplus part) (demand_end row)) row rows ∙ (let rest = no_demand part rows in let here = by_row row in omega (arith, rest, here))
  where
    by_row : (row : Key × Record) → hit (Surplus part) (demand_end row) ≡ 0
    by_row (keys.Demand other name, value) = refl
    by_row _ = refl

no_surplus : (part order : Name) (c : Contents) → sum_by (λ row. hit (AtDemand part order) (surplus_end row)) c ≡ 0
no_surplus part order [] = refl
no_surplus part order (row ∷ rows) = sum_by-cons (λ row. hit (AtDemand part order) (surplus_end row)) row rows ∙ (let rest = no_surplus part order rows in let here = by_row row in omega (arith, rest, here))
  where
    by_row : (row : Key × Record) → hit (AtDemand part order) (surplus_end row) ≡ 0
    by_row (keys.Part other, value) = refl
    by_row _ = refl

-- the ends of some rows that are the one asked for
hits : (g : (Key × Record) → Option End) (unit : End) (c : Contents) → count_by (λ end. same_end end unit) (filter_map g c) ≡ sum_by (λ row. hit unit (g row)) c
hits g unit [] = refl
hits g unit (row ∷ rows) = by_cases (hits g unit rows) (g row) ∙ sym (sum_by-cons (λ row. hit unit (g row)) row rows)
  where
    by_cases : count_by (λ end. same_end end unit) (filter_map g rows) ≡ sum_by (λ row. hit unit (g row)) rows → (o : Option End)
        → count_by (λ end. same_end end unit) (cons_option o (filter_map g rows)) ≡ hit unit o + sum_by (λ row. hit unit (g row)) rows
    by_cases rest None = rest ∙ omega arith
    by_cases rest (Some end) = sum_by-cons (λ end. one_if (same_end end unit)) end (filter_map g rows) ∙ ap (λ n. one_if (same_end end unit) + n) rest

abbrev all_ends : Contents → List End
all_ends c = filter_map demand_end c ++ filter_map surplus_end c

-- a unit that ends at a row ends at one of all ends
one_end : (c : Contents) → is_ordered c ≡ true → (unit : End) → Stands c unit → count_by (λ end. same_end end unit) (all_ends c) ≡ 1
one_end c ordered unit stands =
    sum_by-append (λ end. one_if (same_end end unit)) (filter_map demand_end c) (filter_map surplus_end c)
    ∙ (λ i. hits demand_end unit c i + hits surplus_end unit c i) ∙ by_unit unit stands
  where
    by_unit : (unit : End) → Stands c unit → sum_by (λ row. hit unit (demand_end row)) c + sum_by (λ row. hit unit (surplus_end row)) c ≡ 1
    by_unit (AtDemand part order) stands =
        let here = one_alone (keys.Demand part order) (λ row. hit (AtDemand part order) (demand_end row)) (demand_one part order) (demand_others part order) c ordered stands in
        let none = no_surplus part order c in
        omega (arith, here, none)
    by_unit (Surplus part) stands =
        let here = one_alone (keys.Part part) (λ row. hit (Surplus part) (surplus_end row)) (surplus_one part) (surplus_others part) c ordered stands in
        let none = no_demand part c in
        omega (arith, here, none)

-- so the counts sum to the number of units ------------------------------------------------------------------------------------

sums_of_none : (ends : List End) → sum_by (λ end. count_by (same_end end) []) ends ≡ 0
sums_of_none [] = refl
sums_of_none (end ∷ ends) = let rest = sums_of_none ends in sum_by-cons (λ end. count_by (same_end end) []) end ends ∙ omega (arith, rest)

-- the counts of one more unit
one_more : (unit : End) (units ends : List End) → sum_by (λ end. count_by (same_end end) (unit ∷ units)) ends ≡ count_by (λ end. same_end end unit) ends + sum_by (λ end. count_by (same_end end) units) ends
one_more unit units [] = refl
one_more unit units (end ∷ ends) =
    let all = sum_by-cons (λ end. count_by (same_end end) (unit ∷ units)) end ends in
    let here = sum_by-cons (λ u. one_if (same_end end u)) unit units in
    let first = sum_by-cons (λ end. one_if (same_end end unit)) end ends in
    let rest = sum_by-cons (λ end. count_by (same_end end) units) end ends in
    let again = one_more unit units ends in
    omega (arith, all, here, first, rest, again)

counts_are_all : (c : Contents) → is_ordered c ≡ true → (units : List End) → AllStand c units → sum_by (λ end. count_by (same_end end) units) (all_ends c) ≡ length units
counts_are_all c ordered [] h = sums_of_none (all_ends c)
counts_are_all c ordered (unit ∷ units) h =
    let more = one_more unit units (all_ends c) in
    let one = one_end c ordered unit h.0 in
    let rest = counts_are_all c ordered units h.1 in
    omega (arith, more, one, rest)

none_lost : (q : ℕ) → nat_lt 0 q ≡ false → q ≡ 0
none_lost q h = grind (arith, nat_tests)

-- what is above 0 sums to all
kept_sums : (parts : List (End × ℕ)) → total_share (filter (λ share. nat_lt 0 share.1) parts) ≡ total_share parts
kept_sums [] = refl
kept_sums (share ∷ parts) = by_cases (kept_sums parts) (nat_lt 0 share.1) refl ∙ sym (sum_by-cons (λ (s : End × ℕ). s.1) share parts)
  where
    by_cases : total_share (filter (λ share. nat_lt 0 share.1) parts) ≡ total_share parts → (b : Bool) → nat_lt 0 share.1 ≡ b
        → total_share (cond b (share ∷ filter (λ share. nat_lt 0 share.1) parts) (filter (λ share. nat_lt 0 share.1) parts)) ≡ share.1 + total_share parts
    by_cases rest true e = sum_by-cons (λ (s : End × ℕ). s.1) share (filter (λ share. nat_lt 0 share.1) parts) ∙ ap (λ n. share.1 + n) rest
    by_cases rest false e = let nothing : share.1 ≡ 0 = none_lost share.1 e in rest ∙ omega arith

counts_mapped : (units ends : List End) → total_share (map (λ end. (end, count_by (same_end end) units)) ends) ≡ sum_by (λ end. count_by (same_end end) units) ends
counts_mapped units [] = refl
counts_mapped units (end ∷ ends) =
    sum_by-cons (λ (s : End × ℕ). s.1) (end, count_by (same_end end) units) (map (λ end. (end, count_by (same_end end) units)) ends)
    ∙ ap (λ n. count_by (same_end end) units + n) (counts_mapped units ends)
    ∙ sym (sum_by-cons (λ end. count_by (same_end end) units) end ends)

pub shares_sum : (c : Contents) → is_ordered c ≡ true → (units : List End) → AllStand c units → total_share (shares c units) ≡ length units
shares_sum c ordered units h =
    kept_sums (map (λ end. (end, count_by (same_end end) units)) (all_ends c)) ∙ counts_mapped units (all_ends c) ∙ counts_are_all c ordered units h
