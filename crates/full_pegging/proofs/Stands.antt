-- Units end where a row stands: at a demand of the contents, or as surplus of one of its parts.
use Rattle.std.proofs.Common.{◌≡◌, ℕ, suc, ◌+◌, ◌*◌, ◌⊎◌, inl, inr, List, [], ◌∷◌, length, refl, sym, subst, arith, Bool, true, false, cond}
use Rattle.std.proofs.lemmas.Bool.Decides.{nat_tests}
use Rattle.std.specs.Prelude.{Option, Some, None, is_some, nat_lt, slice_index}
use Rattle.std.specs.List.{AllByRecursion, list_all}
use Rattle.std.specs.Ordering.{is_eq}
use Rattle.std.specs.declared.cmp.Ordering.{Ordering}
use Rattle.std.specs.declared.cmp.Ordering.TheVariants.{Less, Equal, Greater}
use Rattle.plan_schema.specs.declared.name.Name.{Name}
use Rattle.plan_schema.specs.declared.key.Key.{Key}
use Rattle.plan_schema.specs.declared.key.Key.TheVariants as keys
use Rattle.plan_schema.specs.declared.key.Record.{Record}
use Rattle.plan_schema.specs.declared.key.Record.TheVariants as records
use Rattle.plan_schema.specs.Key.{name_eq, key_cmp}
use Rattle.plan_schema.specs.Contents.{Contents, record_at}
use Rattle.plan_schema.proofs.Orders.{exact_keys}
use Rattle.planning_rules.specs.Bills.{bills_of, parents, is_effective}
use Rattle.planning_rules.specs.Days.{start_of, counts_on}
use Rattle.planning_rules.specs.Plan.{Order, Known, plan, plan_within, released, has_outcome, asked_by, asked_by_parents, demand_in, demands_of, demands_on, input_of, known_from, gross_of}
use Rattle.planning_rules.specs.Pegs.{pegs_from}
use Rattle.planning_rules.specs.Trace.{End, AtDemand, Surplus, day_ends, ends_within}
use Rattle.planning_rules.proofs.LevelLaws.{one_name}
use Rattle.full_pegging.proofs.EachEnd.{Leads, pegs_lead, day_all, units_all}
use Rattle.full_pegging.proofs.Everywhere.{all_images, all_given, all_weaker}

-- a key has a row
abbrev pub HasKey : Contents → Key → Type 0
HasKey [] key = ⊥
HasKey (row ∷ rows) key = (row.0 ≡ key) ⊎ HasKey rows key

-- an end is that of a row
abbrev pub Stands : Contents → End → Type 0
Stands c (AtDemand part order) = HasKey c (keys.Demand part order)
Stands c (Surplus part) = HasKey c (keys.Part part)

each_has : (c : Contents) → AllByRecursion (λ (row : Key × Record). HasKey c row.0) c
each_has [] = tt
each_has (row ∷ rows) = (inl refl, all_weaker (λ (r : Key × Record). HasKey rows r.0) (λ (r : Key × Record). HasKey (row ∷ rows) r.0) (λ r h. inr h) rows (each_has rows))

has_record : (c : Contents) (key : Key) → is_some (record_at c key) ≡ true → HasKey c key
has_record [] key h = absurd (let never : ⊥ = cc in never)
has_record (row ∷ rows) key h = by_order (has_record rows key) (key_cmp key row.0) refl h
  where
    by_order : (is_some (record_at rows key) ≡ true → HasKey rows key) → (o : Ordering) → key_cmp key row.0 ≡ o → is_some (cond (is_eq o) (Some row.1) (record_at rows key)) ≡ true → HasKey (row ∷ rows) key
    by_order later Less e h = inr (later h)
    by_order later Equal e h = inl (sym (exact_keys key row.0 e))
    by_order later Greater e h = inr (later h)

-- a name with a plan is a part ---------------------------------------------------------------------------------------------

cond_is : {A : Type 0} (b : Bool) (o : Option A) → is_some (cond b o None) ≡ true → is_some o ≡ true
cond_is true o h = h
cond_is false o h = absurd (let never : ⊥ = cc in never)

has_part : (c : Contents) (n : Name) (gross : List ℕ) (r : Option Record) → is_some (known_from (input_of c n gross r)) ≡ true → is_some r ≡ true
has_part c n gross None h = h
has_part c n gross (Some r) h = refl

pub planned_is_part : (c : Contents) (n : Name) → is_some (plan c n) ≡ true → HasKey c (keys.Part n)
planned_is_part c n h =
    let f = plan_within (suc (length c)) c in
    let gross = gross_of f c n in
    has_record c (keys.Part n) (has_part c n gross (record_at c (keys.Part n))
    (cond_is (list_all (λ p. has_outcome (f p)) (parents c n)) (known_from (input_of c n gross (record_at c (keys.Part n)))) h))

-- each peg is of a row -----------------------------------------------------------------------------------------------------

demand_has : (c : Contents) (n : Name) (row : Key × Record) (order : Order) → HasKey c row.0 → demand_in n row ≡ Some order → HasKey c (keys.Demand n order.name)
demand_has c n (keys.Demand part name, records.Demand day qty) order has e = by_cases (name_eq part n) refl e
  where
    made : Order
    made = record { name = name; date = day; qty = qty }

    by_cases : (b : Bool) → name_eq part n ≡ b → cond b (Some made) None ≡ Some order → HasKey c (keys.Demand n order.name)
    by_cases true same is =
        let one : made ≡ order = cc in
        subst (λ (o : Order). HasKey c (keys.Demand n o.name)) one (subst (λ (p : Name). HasKey c (keys.Demand p name)) (one_name part n same) has)
    by_cases false same is = absurd (let never : ⊥ = cc in never)
demand_has c n _ order has e = absurd (let never : ⊥ = cc in never)

counted_has : (c : Contents) (n : Name) (start t : ℕ) (order : Order) (pair : Name × ℕ) → HasKey c (keys.Demand n order.name)
    → cond (counts_on start order.date t) (Some (order.name, order.qty)) None ≡ Some pair → HasKey c (keys.Demand n pair.0)
counted_has c n start t order pair has e = by_cases (counts_on start order.date t) e
  where
    by_cases : (b : Bool) → cond b (Some (order.name, order.qty)) None ≡ Some pair → HasKey c (keys.Demand n pair.0)
    by_cases true is = let same : (order.name, order.qty) ≡ pair = cc in subst (λ (p : Name × ℕ). HasKey c (keys.Demand n p.0)) same has
    by_cases false is = absurd (let never : ⊥ = cc in never)

demands_have : (c : Contents) (n : Name) (t : ℕ) → AllByRecursion (λ (pair : Name × ℕ). HasKey c (keys.Demand n pair.0)) (demands_on c n t)
demands_have c n t =
    all_given (λ (o : Order). cond (counts_on (start_of c) o.date t) (Some (o.name, o.qty)) None) (λ o. HasKey c (keys.Demand n o.name)) (λ pair. HasKey c (keys.Demand n pair.0))
    (counted_has c n (start_of c) t) (demands_of c n)
    (all_given (demand_in n) (λ row. HasKey c row.0) (λ o. HasKey c (keys.Demand n o.name)) (demand_has c n) c (each_has c))

-- all names are followed
abbrev IsAny : Name → Type 0
IsAny n = Unit {0}

-- what asks for something has a plan
asks_planned : (o : Option Known) (b : Bool) (per t : ℕ) → nat_lt 0 (cond b (per * slice_index (released o) t) 0) ≡ true → is_some o ≡ true
asks_planned (Some k) b per t h = refl
asks_planned None true per t h = let none : slice_index (released None) t ≡ 0 = refl in absurd (grind (arith, nat_tests))
asks_planned None false per t h = absurd (let never : ⊥ = cc in never)

parents_have : (c : Contents) (n : Name) (t : ℕ) → AllByRecursion (λ (pair : Name × ℕ). nat_lt 0 pair.1 ≡ true → IsAny pair.0 × HasKey c (keys.Part pair.0)) (asked_by_parents (plan c) c n t)
parents_have c n t =
    all_images (asked_by (plan c) (start_of c) t) (λ pair. nat_lt 0 pair.1 ≡ true → IsAny pair.0 × HasKey c (keys.Part pair.0))
    (λ bill asks. (tt, planned_is_part c bill.parent (asks_planned (plan c bill.parent) (is_effective bill.span (start_of c + t)) bill.per t asks))) (bills_of c n)

pegs_stand : (c : Contents) (n : Name) (t : ℕ) → AllByRecursion (Leads IsAny (Stands c) n) (pegs_from (plan c) c n t)
pegs_stand c n t = pegs_lead IsAny (Stands c) c n t (demands_have c n t) (parents_have c n t)

-- each unit ends at a row --------------------------------------------------------------------------------------------------

abbrev pub AllStand : Contents → List End → Type 0
AllStand c ends = AllByRecursion (Stands c) ends

pub day_stands : (c : Contents) (ends : Name → List End) → ((n : Name) → AllStand c (ends n)) → (n : Name) (t : ℕ) → AllStand c (day_ends ends (plan c) c n t)
day_stands c ends all n t = day_all c IsAny (Stands c) (λ n any. pegs_stand c n) (λ n any. planned_is_part c n) ends (λ n any. all n) n tt t

pub units_stand : (c : Contents) (names : ℕ) (n : Name) → AllStand c (ends_within names c n)
units_stand c names n = units_all c IsAny (Stands c) (λ n any. pegs_stand c n) (λ n any. planned_is_part c n) names n tt
