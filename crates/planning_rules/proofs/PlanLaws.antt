-- The plan of a name is one step from the plans of its parents, so it can be found walking up from the asked names.
use Rattle.std.proofs.Common.{◌≡◌, ℕ, suc, zero, ◌+◌, ◌*◌, ◌≤◌, List, [], ◌∷◌, length, map, refl, sym, ◌∙◌, ap, Bool, true, false, cond, ◌&&◌}
use Rattle.std.specs.Prelude.{Option, Some, None, is_some, slice_index}
use Rattle.std.specs.List.{list_all, AllByRecursion, range_with_len}
use Rattle.plan_schema.specs.declared.name.Name.{Name}
use Rattle.plan_schema.specs.declared.key.Key.TheVariants as keys
use Rattle.plan_schema.specs.Contents.{Contents, record_at}
use Rattle.planning_rules.specs.Bills.{ParentBill, bills_of, parents, is_effective, longest_chain}
use Rattle.planning_rules.specs.Days.{start_of, days_of}
use Rattle.planning_rules.specs.Plan.{Known, has_outcome, released, asked_by, gross_on, gross_of, total, demands_on, input_of, known_from, plan_step, plan_within, plan}
use Rattle.planning_rules.specs.Laws.{PlanIsStep, WalkIsPlan}
use Rattle.planning_rules.proofs.Parents.{each_parent}
use Rattle.planning_rules.proofs.Settling.{IsSettledAt, settled_in_time, enough}

-- equal functions give equal lists
pub map_same : {A B : Type 0} (f g : A → B) → ((a : A) → f a ≡ g a) → (xs : List A) → map f xs ≡ map g xs
map_same f g h [] = refl
map_same f g h (x ∷ xs) = λ i. h x i ∷ map_same f g h xs i

-- plans that agree on the parents of a name ask the same of it
asked_same : (f g : Name → Option Known) (start t : ℕ) (bills : List ParentBill) → AllByRecursion (λ bill. f bill.parent ≡ g bill.parent) bills
    → map (asked_by f start t) bills ≡ map (asked_by g start t) bills
asked_same f g start t [] h = refl
asked_same f g start t (bill ∷ bills) h =
    let one : asked_by f start t bill ≡ asked_by g start t bill = λ i. (bill.parent, cond (is_effective bill.span (start + t)) (bill.per * slice_index (released (h.0 i)) t) 0) in
    λ i. one i ∷ asked_same f g start t bills h.1 i

outcomes_same : (f g : Name → Option Known) (bills : List ParentBill) → AllByRecursion (λ bill. f bill.parent ≡ g bill.parent) bills
    → list_all (λ p. has_outcome (f p)) (map (λ bill. bill.parent) bills) ≡ list_all (λ p. has_outcome (g p)) (map (λ bill. bill.parent) bills)
outcomes_same f g [] h = refl
outcomes_same f g (bill ∷ bills) h = λ i. has_outcome (h.0 i) && outcomes_same f g bills h.1 i

-- one step depends on the plans of the parents alone
pub step_local : (f g : Name → Option Known) (c : Contents) (n : Name) → AllByRecursion (λ bill. f bill.parent ≡ g bill.parent) (bills_of c n) → plan_step f c n ≡ plan_step g c n
step_local f g c n h =
    let gross : gross_of f c n ≡ gross_of g c n =
    map_same (gross_on f c n) (gross_on g c n) (λ t. ap (λ pairs. total (demands_on c n t) + total pairs) (asked_same f g (start_of c) t (bills_of c n) h)) (range_with_len 0 (days_of c)) in
    λ i. cond (outcomes_same f g (bills_of c n) h i) (known_from (input_of c n (gross i) (record_at c (keys.Part n)))) None

-- a plan that is there stays
pub cond_some : {A : Type 0} (b : Bool) (o : Option A) → is_some (cond b o None) ≡ true → b ≡ true
cond_some true o h = refl
cond_some false o h = h

pub both_true : (a b : Bool) → (a && b) ≡ true → (a ≡ true) × (b ≡ true)
both_true true b h = (refl, h)
both_true false b h = cc

pub outcome_some : (o : Option Known) → has_outcome o ≡ true → is_some o ≡ true
outcome_some None h = h
outcome_some (Some k) h = refl

parents_known : (f g : Name → Option Known) (bills : List ParentBill) → list_all (λ p. has_outcome (f p)) (map (λ bill. bill.parent) bills) ≡ true
    → ((p : Name) → is_some (f p) ≡ true → g p ≡ f p) → AllByRecursion (λ bill. g bill.parent ≡ f bill.parent) bills
parents_known f g [] h same = tt
parents_known f g (bill ∷ bills) h same =
    let two = both_true (has_outcome (f bill.parent)) (list_all (λ p. has_outcome (f p)) (map (λ other. other.parent) bills)) h in
    (same bill.parent (outcome_some (f bill.parent) two.0), parents_known f g bills two.1 same)

stays : (c : Contents) (k : ℕ) (n : Name) → is_some (plan_within k c n) ≡ true → plan_within (suc k) c n ≡ plan_within k c n
stays c zero n h = cc
stays c (suc k) n h =
    let known = cond_some (list_all (λ p. has_outcome (plan_within k c p)) (parents c n)) (known_from (input_of c n (gross_of (plan_within k c) c n) (record_at c (keys.Part n)))) h in
    step_local (plan_within (suc k) c) (plan_within k c) c n (parents_known (plan_within k c) (plan_within (suc k) c) (bills_of c n) known (stays c k))

next_same : (c : Contents) (k : ℕ) → IsSettledAt (λ j. plan_within j c) c k → (n : Name) → plan_within (suc k) c n ≡ plan_within (suc (suc k)) c n
next_same c k s n = step_local (plan_within k c) (plan_within (suc k) c) c n (each_parent (λ p. plan_within k c p ≡ plan_within (suc k) c p) n c s)

-- each plan is one step from those of the parents
pub plan_is_step : PlanIsStep
plan_is_step c n = next_same c (suc (length c)) (settled_in_time (λ j. plan_within j c) c (stays c) (next_same c) (λ n. refl)) n

-- a walk that knows the plans of the parents finds that of the name
pub walk_is_plan : WalkIsPlan
walk_is_plan c known n h = step_local known (plan c) c n h ∙ sym (plan_is_step c n)

-- longer chains lead to no more plans
pub plan_enough : (c : Contents) (k : ℕ) → longest_chain c ≤ k → (n : Name) → plan_within k c n ≡ plan c n
plan_enough c k l n = enough (λ j. plan_within j c) c (stays c) (next_same c) (λ n. refl) k l n
