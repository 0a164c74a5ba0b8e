-- What holds of the lists of a part that is planned.
use Rattle.std.proofs.Common.{◌≡◌, ℕ, ◌≤◌, arith, List, [], ◌∷◌, length, sym, ◌∙◌, ap, subst, refl, Bool, true, false, cond, ◌||◌}
use Rattle.std.proofs.lemmas.Bool.Decides.{nat_tests}
use Rattle.std.proofs.lemmas.List.FromFn.{length-map-range_with_len}
use Rattle.std.specs.Prelude.{Option, Some, None, nat_lt}
use Rattle.std.specs.List.{AllByRecursion, list_all, list_any}
use Rattle.plan_schema.specs.declared.name.Name.{Name}
use Rattle.plan_schema.specs.declared.key.Key.TheVariants as keys
use Rattle.plan_schema.specs.declared.key.Record.{Record}
use Rattle.plan_schema.specs.declared.key.Record.TheVariants as rows
use Rattle.plan_schema.specs.Contents.{Contents, record_at}
use Rattle.planning_rules.specs.Bills.{parents}
use Rattle.planning_rules.specs.Days.{days_of}
use Rattle.planning_rules.specs.Netting.{Input, Lists, limit, exceeds, releases, planned_of, outcome_from, is_too_large}
use Rattle.planning_rules.specs.Plan.{Planned, Large, plan, has_outcome, gross_of, sched_of, has_calendar, input_of, known_from}
use Rattle.planning_rules.proofs.PlanLaws.{plan_is_step}
use Rattle.walk_rules.proofs.PutRight.{plan_release}

-- what is scheduled is what the records say, as many days are planned as are released, and no planned number is too large
pub record AreLists (sched : List ℕ) (x : Lists) : Type 0 where
  pub scheduled : x.sched ≡ sched
  pub long : length x.release ≡ length x.planned
  pub small : AllByRecursion (λ qty. qty ≤ limit) x.planned

either_false : (a b : Bool) → (a || b) ≡ false → (a ≡ false) × (b ≡ false)
either_false true b h = cc
either_false false b h = (refl, h)

all_small : (xs : List ℕ) → exceeds xs ≡ false → AllByRecursion (λ qty. qty ≤ limit) xs
all_small [] h = tt
all_small (x ∷ xs) h = let two = either_false (nat_lt limit x) (list_any (λ n. nat_lt limit n) xs) h in (small x two.0, all_small xs two.1)
  where
    small : (x : ℕ) → nat_lt limit x ≡ false → x ≤ limit
    small x e = grind (arith, nat_tests)

of_outcome : (x : Input) (o : Lists) → known_from (Some x) ≡ Some (Planned o) → AreLists x.sched o
of_outcome x o h = by_size (is_too_large x (planned_of x)) refl h
  where
    by_size : (b : Bool) → is_too_large x (planned_of x) ≡ b → Some (cond b Large (Planned (outcome_from x (planned_of x)))) ≡ Some (Planned o) → AreLists x.sched o
    by_size true e k = let never : ⊥ = cc in absurd never
    by_size false e k =
        let same : outcome_from x (planned_of x) ≡ o = cc in
        let one = either_false (exceeds x.gross) (exceeds (planned_of x) || exceeds (releases x.calendar x.lead (planned_of x))) e in
        let two = either_false (exceeds (planned_of x)) (exceeds (releases x.calendar x.lead (planned_of x))) one.1 in
        let mine : AreLists x.sched (outcome_from x (planned_of x)) = record { scheduled = refl; long = length-map-range_with_len _ 0 (length (planned_of x)); small = all_small (planned_of x) two.0 } in
        subst (AreLists x.sched) same mine

of_input : (c : Contents) (n : Name) (gross : List ℕ) (r : Option Record) (o : Lists) → known_from (input_of c n gross r) ≡ Some (Planned o) → AreLists (sched_of c n) o
of_input c n gross (Some (rows.Part lead lot safety calendar)) o h = by_calendar (has_calendar c calendar) _ (λ x e. ap (λ (y : Input). y.sched) e) h
  where
    by_calendar : (b : Bool) (x : Input) → ((y : Input) → y ≡ x → y.sched ≡ sched_of c n) → known_from (cond b (Some x) None) ≡ Some (Planned o) → AreLists (sched_of c n) o
    by_calendar true x same k = subst (λ sched. AreLists sched o) (same x refl) (of_outcome x o k)
    by_calendar false x same k = let never : ⊥ = cc in absurd never
of_input c n gross _ o h = let never : ⊥ = cc in absurd never

pub plan_lists : (c : Contents) (n : Name) (o : Lists) → plan c n ≡ Some (Planned o) → AreLists (sched_of c n) o
plan_lists c n o h = by_parents (list_all (λ p. has_outcome (plan c p)) (parents c n)) (sym (plan_is_step c n) ∙ h)
  where
    by_parents : (b : Bool) → cond b (known_from (input_of c n (gross_of (plan c) c n) (record_at c (keys.Part n)))) None ≡ Some (Planned o) → AreLists (sched_of c n) o
    by_parents true k = of_input c n (gross_of (plan c) c n) (record_at c (keys.Part n)) o k
    by_parents false k = let never : ⊥ = cc in absurd never

-- each day of the horizon has a planned number
pub planned_long : (c : Contents) (n : Name) (o : Lists) → plan c n ≡ Some (Planned o) → length o.planned ≡ days_of c
planned_long c n o h = sym (plan_lists c n o h).long ∙ (plan_release c n o h).0
