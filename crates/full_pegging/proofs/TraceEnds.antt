-- The trace of a part and a day, from where its units have come to their ends.
use Rattle.std.proofs.Common.{◌≡◌, zero, suc, ◌*◌, ◌<◌, ◌≤◌, ℕ, inl, [], ◌∷◌, List, map, length, take, get_or, refl, sym, ◌∙◌, ap, true, Bool, false, cond, arith}
use Rattle.std.proofs.lemmas.List.Sums.{sum_by-cons}
use Rattle.std.specs.Prelude.{Some, filter, nat_lt, sum, sum_by, count_by, slice_get}
use Rattle.std.specs.List.{AllByRecursion, range_with_len}
use Rattle.plan_schema.specs.declared.name.Name.{Name}
use Rattle.planning_rules.specs.Days.{days_of}
use Rattle.planning_rules.specs.Netting.{Lists, limit}
use Rattle.planning_rules.specs.Plan.{Planned, plan, has_outcome}
use Rattle.planning_rules.specs.Refused.{in_reach}
use Rattle.planning_rules.specs.Trace.{End, same_end, day_ends, ends_of}
use Rattle.planning_rules.proofs.Membership.{contained_in, in_contained}
use Rattle.walk_rules.specs.Cells.{records}
use Rattle.walk_rules.specs.Walks.{Parts, names_of, known_at}
use Rattle.plan_jobs.proofs.Gathering.{asked_reached}
use Rattle.plan_walk.specs.View.{View}
use Rattle.plan_walk.proofs.Ordered.{in_at}
use Rattle.full_pegging.specs.declared.share.Share.{Share}
use Rattle.full_pegging.specs.Ends.{unit_end, ends_by}
use Rattle.full_pegging.specs.Following.{landed_weight}
use Rattle.full_pegging.specs.Shares.{landed_at, shares_by}
use Rattle.full_pegging.specs.Walking.{IsTraced}
use Rattle.full_pegging.proofs.Aiming.{small_sum}
use Rattle.full_pegging.proofs.ByDays.{day_has}
use Rattle.full_pegging.proofs.Landing.{day_start, name_there}
use Rattle.full_pegging.proofs.PlanFacts.{planned_long, plan_lists}
use Rattle.full_pegging.proofs.Sharing.{landed_counts}

sums_few : (measure : End → ℕ) (ends : List End) → ((end : End) → measure end ≤ 1) → sum_by measure ends ≤ length ends
sums_few measure [] one = omega arith
sums_few measure (end ∷ ends) one =
    let all = sum_by-cons measure end ends in
    let here = one end in
    let rest = sums_few measure ends one in
    omega (arith, all, here, rest)

each_small : (xs : List ℕ) → AllByRecursion (λ qty. qty ≤ limit) xs → (t : ℕ) → get_or xs t 0 ≤ limit
each_small [] h t = omega arith
each_small (x ∷ xs) h zero = h.0
each_small (x ∷ xs) h (suc t) = each_small xs h.1 t

module _ (w : View) (n : Name) (traced : IsTraced w (n ∷ [])) where
  pub part_there : (q : ℕ) × (slice_get (names_of w.parts) q ≡ Some n)
  part_there =
      let c = records w.job.cells in
      in_at (names_of w.parts) n (in_contained (names_of w.parts) n ((traced.names.members n).1 (contained_in (in_reach c (n ∷ [])) n (asked_reached c (n ∷ []) n (inl refl)))))

  pub outcome_asked : has_outcome (known_at w.parts n) ≡ true
  outcome_asked = let c = records w.job.cells in traced.planned.outcomes n (contained_in (in_reach c (n ∷ [])) n (asked_reached c (n ∷ []) n (inl refl)))

  module _ (o : Lists) (known : known_at w.parts n ≡ Some (Planned o)) where
    plan_is : plan (records w.job.cells) n ≡ Some (Planned o)
    plan_is = let c = records w.job.cells in sym (traced.planned.right n (contained_in (in_reach c (n ∷ [])) n (asked_reached c (n ∷ []) n (inl refl)))) ∙ known

    pub whole_plan : length o.planned ≡ days_of (records w.job.cells)
    whole_plan =
        let c = records w.job.cells in
        planned_long c n o (sym (traced.planned.right n (contained_in (in_reach c (n ∷ [])) n (asked_reached c (n ∷ []) n (inl refl)))) ∙ known)

    pub first_few : (t : ℕ) → days_of (records w.job.cells) ≤ 400 → sum (take t o.planned) ≤ 400 * limit
    first_few t few =
        let c = records w.job.cells in
        let is : plan c n ≡ Some (Planned o) = sym (traced.planned.right n (contained_in (in_reach c (n ∷ [])) n (asked_reached c (n ∷ []) n (inl refl)))) ∙ known in
        small_sum o.planned (days_of c) (planned_long c n o is) few (plan_lists c n o is).small t

    -- where the units of the day end
    pub lands : (measure : End → ℕ) (place t : ℕ) → slice_get (names_of w.parts) place ≡ Some n → t < days_of (records w.job.cells)
        → 1 * sum_by (ends_by measure (records w.job.cells) (names_of w.parts) place) (range_with_len (sum (take t o.planned)) (get_or o.planned t 0))
        ≡ sum_by measure (day_ends (ends_of (records w.job.cells)) (plan (records w.job.cells)) (records w.job.cells) n t)
    lands measure place t at low =
        let c = records w.job.cells in
        let is : plan c n ≡ Some (Planned o) = sym (traced.planned.right n (contained_in (in_reach c (n ∷ [])) n (asked_reached c (n ∷ []) n (inl refl)))) ∙ known in
        ap (λ name. 1 * sum_by (λ unit. measure (unit_end c name unit)) (range_with_len (sum (take t o.planned)) (get_or o.planned t 0))) (name_there (names_of w.parts) place n at)
        ∙ day_start c n o is (planned_long c n o is) measure t low

    -- no more units end at one end than are planned
    pub lands_few : (measure : End → ℕ) (t : ℕ) → t < days_of (records w.job.cells) → ((end : End) → measure end ≤ 1)
        → sum_by measure (day_ends (ends_of (records w.job.cells)) (plan (records w.job.cells)) (records w.job.cells) n t) ≤ limit
    lands_few measure t low one =
        let c = records w.job.cells in
        let is : plan c n ≡ Some (Planned o) = sym (traced.planned.right n (contained_in (in_reach c (n ∷ [])) n (asked_reached c (n ∷ []) n (inl refl)))) ∙ known in
        let ends = day_ends (ends_of c) (plan c) c n t in
        let most = sums_few measure ends one in
        let many = day_has (ends_of c) c n o t is in
        let small = each_small o.planned (plan_lists c n o is).small t in
        omega (arith, most, many, small)

-- the shares of what has landed are those of the units
pub all_shares : (landed : List Share) (units ends : List End) → ((measure : End → ℕ) → landed_weight measure landed ≡ sum_by measure units)
    → shares_by (landed_at landed) ends ≡ filter (λ share. nat_lt 0 share.1) (map (λ end. (end, count_by (same_end end) units)) ends)
all_shares landed units ends are = λ i. filter (λ share. nat_lt 0 share.1) (map (λ end. (end, (landed_counts landed end ∙ are (λ unit. cond (same_end end unit) 1 0)) i)) ends)

at_most_one : (b : Bool) → cond b 1 0 ≤ 1
at_most_one true = omega arith
at_most_one false = omega arith

pub hits_once : (end unit : End) → cond (same_end end unit) 1 0 ≤ 1
hits_once end unit = at_most_one (same_end end unit)

parts_named : (parts : Parts) → length (names_of parts) ≡ length parts
parts_named [] = refl
parts_named (part ∷ parts) = ap suc (parts_named parts)

pub long_names : (w : View) → length (names_of w.parts) ≡ length w.parts
long_names w = parts_named w.parts
