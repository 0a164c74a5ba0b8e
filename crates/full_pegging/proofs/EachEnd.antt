-- What holds of each end of a name's units, where it holds of the ends at its demands, of its surplus, and of the ends of its parents' units.
use Rattle.std.proofs.Common.{◌≡◌, ℕ, zero, suc, ◌+◌, ◌/◌, List, refl, true}
use Rattle.std.specs.Prelude.{Option, Some, None, is_some, nat_lt, slice_index, sum, take}
use Rattle.std.specs.List.{AllByRecursion, range_with_len, flat_map}
use Rattle.plan_schema.specs.declared.name.Name.{Name}
use Rattle.plan_schema.specs.declared.key.Key.TheVariants as keys
use Rattle.plan_schema.specs.Contents.{Contents, record_at}
use Rattle.planning_rules.specs.Days.{days_of}
use Rattle.planning_rules.specs.Plan.{Known, Planned, Large, plan, released, stock_in, demands_on, asked_by_parents}
use Rattle.planning_rules.specs.Pegs.{Peg, FromDemand, FromParent, above_zero, pegs_from}
use Rattle.planning_rules.specs.Trace.{End, AtDemand, Surplus, end_at, per_in, peg_ends, demand_ends, ends_on, day_ends, ends_within}
use Rattle.full_pegging.proofs.Everywhere.{all_append, all_mapped, all_images, all_flat, all_flat_always, all_kept, all_read}

-- a peg's units end where Q holds, if those of its parent do, which is followed then
abbrev pub Leads : (Name → Type 0) → (End → Type 0) → Name → Peg → Type 0
Leads W Q n (FromDemand order qty) = Q (AtDemand n order)
Leads W Q n (FromParent p qty) = W p × Q (Surplus p)

-- so do the pegs of a day, where each demand does, and each parent that asks for something
pub pegs_lead : (W : Name → Type 0) (Q : End → Type 0) (c : Contents) (n : Name) (t : ℕ)
    → AllByRecursion (λ (pair : Name × ℕ). Q (AtDemand n pair.0)) (demands_on c n t)
    → AllByRecursion (λ (pair : Name × ℕ). nat_lt 0 pair.1 ≡ true → W pair.0 × Q (Surplus pair.0)) (asked_by_parents (plan c) c n t)
    → AllByRecursion (Leads W Q n) (pegs_from (plan c) c n t)
pegs_lead W Q c n t demands parents =
    all_append (Leads W Q n) _ _
    (all_mapped (λ (pair : Name × ℕ). FromDemand pair.0 pair.1) (λ pair. Q (AtDemand n pair.0)) (Leads W Q n) (λ pair h. h) (above_zero (demands_on c n t))
    (all_kept (λ (pair : Name × ℕ). nat_lt 0 pair.1) (λ pair. Q (AtDemand n pair.0)) (λ pair. Q (AtDemand n pair.0)) (λ pair h some. h) (demands_on c n t) demands))
    (all_mapped (λ (pair : Name × ℕ). FromParent pair.0 pair.1) (λ pair. W pair.0 × Q (Surplus pair.0)) (Leads W Q n) (λ pair h. h) (above_zero (asked_by_parents (plan c) c n t))
    (all_kept (λ (pair : Name × ℕ). nat_lt 0 pair.1) (λ pair. nat_lt 0 pair.1 ≡ true → W pair.0 × Q (Surplus pair.0)) (λ pair. W pair.0 × Q (Surplus pair.0)) (λ pair h some. h some)
    (asked_by_parents (plan c) c n t) parents))

module _ (c : Contents) (W : Name → Type 0) (Q : End → Type 0) (pegs : (n : Name) → W n → (t : ℕ) → AllByRecursion (Leads W Q n) (pegs_from (plan c) c n t))
    (own : (n : Name) → W n → is_some (plan c n) ≡ true → Q (Surplus n)) where
  module _ (ends : Name → List End) (all : (n : Name) → W n → AllByRecursion Q (ends n)) where
    peg_all : (n : Name) (t : ℕ) (peg : Peg) → Leads W Q n peg → AllByRecursion Q (peg_ends ends (plan c) c n t peg)
    peg_all n t (FromDemand order qty) h = all_images (λ (unit : ℕ). AtDemand n order) Q (λ unit. h) (range_with_len 0 qty)
    peg_all n t (FromParent p qty) h =
        all_images (λ unit. end_at p (ends p) (sum (take t (released (plan c p))) + unit / per_in (record_at c (keys.Bill p n)))) Q
        (λ unit. all_read Q (ends p) (sum (take t (released (plan c p))) + unit / per_in (record_at c (keys.Bill p n))) (Surplus p) (all p h.0) h.1) (range_with_len 0 qty)

    demand_all : (n : Name) → W n → AllByRecursion Q (demand_ends ends (plan c) c n)
    demand_all n w =
        all_flat_always (λ t. flat_map (peg_ends ends (plan c) c n t) (pegs_from (plan c) c n t)) Q
        (λ t. all_flat (peg_ends ends (plan c) c n t) (Leads W Q n) Q (peg_all n t) (pegs_from (plan c) c n t) (pegs n w t)) (range_with_len 0 (days_of c))

    pub day_all : (n : Name) → W n → (t : ℕ) → AllByRecursion Q (day_ends ends (plan c) c n t)
    day_all n w t = by_plan (plan c n) (own n w)
      where
        by_plan : (o : Option Known) → (is_some o ≡ true → Q (Surplus n)) → AllByRecursion Q (ends_on n (stock_in (record_at c (keys.Stock n))) o (demand_ends ends (plan c) c n) t)
        by_plan None past = tt
        by_plan (Some Large) past = tt
        by_plan (Some (Planned x)) past =
            all_images (λ unit. end_at n (demand_ends ends (plan c) c n) ((stock_in (record_at c (keys.Stock n)) + sum (take (suc t) x.sched)) + (sum (take t x.planned) + unit))) Q
            (λ unit. all_read Q (demand_ends ends (plan c) c n) ((stock_in (record_at c (keys.Stock n)) + sum (take (suc t) x.sched)) + (sum (take t x.planned) + unit)) (Surplus n) (demand_all n w) (past refl))
            (range_with_len 0 (slice_index x.planned t))

  pub units_all : (names : ℕ) (n : Name) → W n → AllByRecursion Q (ends_within names c n)
  units_all zero n w = tt
  units_all (suc names) n w = all_flat_always (day_ends (ends_within names c) (plan c) c n) Q (day_all (ends_within names c) (units_all names) n w) (range_with_len 0 (days_of c))
