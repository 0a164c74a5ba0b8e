-- The step of a part of a walk that is traced: what it needs, and what it keeps.
use Rattle.std.proofs.Common.{◌≡◌, ℕ, zero, suc, ◌+◌, ◌*◌, ◌<◌, ◌≤◌, List, [], ◌∷◌, map, length, get_or, take, sym, ◌∙◌, ap, subst, arith}
use Rattle.std.proofs.lemmas.List.Sums.{sum_by-le, sum_by-take-le, sum_by_more_le}
use Rattle.std.proofs.lemmas.List.Elements.{All-from_recursion}
use Rattle.std.proofs.lemmas.List.FromFn.{length-map-range_with_len, get_or-map-range_with_len}
use Rattle.std.specs.Prelude.{Some, None, sum, slice_get, Contains, All, ◌^◌}
use Rattle.std.specs.List.{AllByRecursion, range_with_len}
use Rattle.plan_schema.specs.declared.name.Name.{Name}
use Rattle.plan_schema.specs.declared.key.Key.TheVariants as keys
use Rattle.plan_schema.specs.Contents.{Contents, record_at}
use Rattle.plan_schema.proofs.Orders.{sound_at}
use Rattle.planning_rules.specs.Bills.{parents}
use Rattle.planning_rules.specs.Days.{start_of, days_of}
use Rattle.planning_rules.specs.Netting.{Lists, limit}
use Rattle.planning_rules.specs.Plan.{Planned, plan, released, sched_on, stock_in}
use Rattle.planning_rules.specs.Trace.{End}
use Rattle.planning_rules.proofs.Membership.{IsIn, contained_in, in_contained, all_at}
use Rattle.walk_rules.specs.Cells.{records}
use Rattle.walk_rules.specs.Walks.{names_of, known_at}
use Rattle.walk_rules.proofs.PutRight.{IsRelease}
use Rattle.explosion.specs.Sums.{sched_by}
use Rattle.explosion.proofs.Own.{sched_own}
use Rattle.plan_walk.specs.View.{View}
use Rattle.plan_walk.proofs.Ordered.{distinct, parents_before}
use Rattle.part_pegs.proofs.OwnPegs.{plan_gross}
use Rattle.full_pegging.specs.declared.units.Units.{Units}
use Rattle.full_pegging.specs.declared.target.Target.{Target}
use Rattle.full_pegging.specs.Rows.{rows_weight, by_stretch}
use Rattle.full_pegging.specs.Following.{supply_weight, target_weight, CanFollow}
use Rattle.full_pegging.specs.Ends.{unit_end, ends_by, pegs_of, AreTargets}
use Rattle.full_pegging.specs.Walking.{CanTrace}
use Rattle.full_pegging.proofs.Aiming.{known_there, released_there, parent_there, small_sum}
use Rattle.full_pegging.proofs.Following.{Own}
use Rattle.full_pegging.proofs.Landing.{by_days, by_pegs, name_there}
use Rattle.full_pegging.proofs.PlanFacts.{plan_lists, planned_long}
use Rattle.full_pegging.proofs.Walked.{CanHand, stands_there, before, bill_takes, quantities_few, follows, all_pass}

small_all : (xs : List ℕ) (days : ℕ) → length xs ≡ days → days ≤ 400 → AllByRecursion (λ qty. qty ≤ limit) xs → sum xs ≤ 400 * limit
small_all xs days long few small =
    let all = sum_by-le (λ (x : ℕ). x) limit xs (All-from_recursion (λ qty. qty ≤ limit) xs small) in
    omega (arith, all, long, few)

pub there_at : (w : View) (n : Name) (place : ℕ) → slice_get (names_of w.parts) place ≡ Some n → Contains (names_of w.parts) n
there_at w n place at = contained_in (names_of w.parts) n (stands_there (names_of w.parts) place n at)

module _ (w : View) (traced : CanTrace w) (n : Name) (place : ℕ) (at : slice_get (names_of w.parts) place ≡ Some n) (rows : Contents) (own : Own w n rows)
    (o : Lists) (known : known_at w.parts n ≡ Some (Planned o)) (few : days_of (records w.job.cells) ≤ 400) where
  pub plan_is : plan (records w.job.cells) n ≡ Some (Planned o)
  plan_is = sym (known_there w traced n (there_at w n place at)) ∙ known

  pub days_long : length o.planned ≡ days_of (records w.job.cells)
  days_long = planned_long (records w.job.cells) n o (sym (known_there w traced n (there_at w n place at)) ∙ known)

  pub sched_is : sched_by rows (start_of (records w.job.cells)) (days_of (records w.job.cells)) ≡ o.sched
  sched_is =
      let c = records w.job.cells in
      ap (λ rs. sched_by rs (start_of c) (days_of c)) (sym own.rows_are) ∙ sched_own c n ∙ sym (plan_lists c n o (sym (known_there w traced n (there_at w n place at)) ∙ known)).scheduled

  pub sched_long : length o.sched ≡ days_of (records w.job.cells)
  sched_long =
      let c = records w.job.cells in
      ap length (plan_lists c n o (sym (known_there w traced n (there_at w n place at)) ∙ known)).scheduled ∙ length-map-range_with_len (sched_on c n) 0 (days_of c)

  pub planned_few : sum o.planned ≤ 400 * limit
  planned_few =
      let c = records w.job.cells in
      let is : plan c n ≡ Some (Planned o) = sym (known_there w traced n (there_at w n place at)) ∙ known in
      small_all o.planned (days_of c) (planned_long c n o is) few (plan_lists c n o is).small

  hand : (p : Name) → IsIn p (parents (records w.job.cells) n) → CanHand (records w.job.cells) (names_of w.parts) n place p
  hand p i =
      let c = records w.job.cells in
      let names = names_of w.parts in
      let there = there_at w n place at in
      let here = parent_there w traced n p there i in
      let release : IsRelease (days_of c) (released (plan c p)) = subst (λ k. IsRelease (days_of c) (released k)) (known_there w traced p here) (released_there w traced p here) in
      record {
        place = λ q is. before names place q p (distinct c names traced.1.names.ordered)
            (in_contained (take place names) p (all_at (Contains (take place names)) p (parents c n) i (parents_before c traced.0 names traced.1.names place n at))) is;
        per = bill_takes c n p i (λ r is. sound_at rows (keys.Bill p n) r own.sound (own.bill_rows p ∙ is));
        releases = λ t. small_sum (released (plan c p)) (days_of c) release.0 few release.1 t;
      }

  module _ (ts : List Target) (quantities : List ℕ) (are : AreTargets (records w.job.cells) (names_of w.parts) n (pegs_of (records w.job.cells) n (days_of (records w.job.cells))) ts quantities) where
    pub asked_few : sum quantities ≤ 400 * limit
    asked_few =
        let c = records w.job.cells in
        let is : plan c n ≡ Some (Planned o) = sym (known_there w traced n (there_at w n place at)) ∙ known in
        quantities_few c (names_of w.parts) n ts quantities are few (plan_gross c n o is)

    pub all_follow : (k : ℕ) → k < length quantities → CanFollow place (slice_get ts k) (get_or quantities k 0)
    all_follow =
        let c = records w.job.cells in
        let is : plan c n ≡ Some (Planned o) = sym (known_there w traced n (there_at w n place at)) ∙ known in
        follows c (names_of w.parts) n place (pegs_of c n (days_of c)) ts quantities are (all_pass c (names_of w.parts) n place hand (plan_gross c n o is))

    -- the step weighs what the units weigh
    pub step_weighs : (stock : ℕ) (befores : List ℕ) → stock ≡ stock_in (record_at (records w.job.cells) (keys.Stock n))
        → befores ≡ map (λ t. (stock + sum (take (suc t) o.sched)) + sum (take t o.planned)) (range_with_len 0 (length o.planned))
        → (measure : End → ℕ) (units : List Units)
        → rows_weight (by_stretch (supply_weight measure (by_stretch (λ k. target_weight measure (ends_by measure (records w.job.cells) (names_of w.parts)) n (slice_get ts k)) quantities) n befores) o.planned) units
        ≡ rows_weight (ends_by measure (records w.job.cells) (names_of w.parts) place) units
    step_weighs stock befores stocked are_befores measure units =
        let c = records w.job.cells in
        let names = names_of w.parts in
        let is : plan c n ≡ Some (Planned o) = sym (known_there w traced n (there_at w n place at)) ∙ known in
        let long = planned_long c n o is in
        let many : length befores ≡ days_of c = ap length are_befores ∙ length-map-range_with_len (λ t. (stock + sum (take (suc t) o.sched)) + sum (take t o.planned)) 0 (length o.planned) ∙ long in
        let each : (t : ℕ) → t < days_of c → get_or befores t 0 ≡ (stock_in (record_at c (keys.Stock n)) + sum (take (suc t) o.sched)) + sum (take t o.planned) = λ t low.
        ap (λ list. get_or list t 0) are_befores
        ∙ get_or-map-range_with_len (λ t. (stock + sum (take (suc t) o.sched)) + sum (take t o.planned)) 0 (length o.planned) t t 0 (omega (arith, low, long)) (omega arith)
        ∙ ap (λ s. (s + sum (take (suc t) o.sched)) + sum (take t o.planned)) stocked in
        (λ i. rows_weight (by_stretch (supply_weight measure (λ unit. by_pegs c names n measure ts quantities unit are i) n befores) o.planned) units)
        ∙ (λ i. rows_weight (λ unit. by_days c n o is long befores many each measure unit i) units)
        ∙ ap (λ name. rows_weight (λ unit. measure (unit_end c name unit)) units) (sym (name_there names place n at))

-- before the units of a day there is room for its own
pub befores_room : (stock : ℕ) (sched planned befores : List ℕ) → befores ≡ map (λ t. (stock + sum (take (suc t) sched)) + sum (take t planned)) (range_with_len 0 (length planned))
    → stock + (sum sched + sum planned) < 2 ^ 64 → (k : ℕ) → k < length planned → get_or befores k 0 + get_or planned k 0 < 2 ^ 64
befores_room stock sched planned befores are fits k low =
    let is = ap (λ list. get_or list k 0) are ∙ get_or-map-range_with_len (λ t. (stock + sum (take (suc t) sched)) + sum (take t planned)) 0 (length planned) k k 0 low (omega arith) in
    let there = sum_by-take-le (λ (x : ℕ). x) sched (suc k) in
    let made = sum_by_more_le (λ (x : ℕ). x) planned k 0 low in
    omega (arith, is, there, made, fits)

pub few_sched : (xs : List ℕ) (days : ℕ) → length xs ≡ days → days ≤ 400 → All (λ qty. qty ≤ 200_000_000_000_000) xs → sum xs ≤ 400 * 200_000_000_000_000
few_sched xs days long few small =
    let all = sum_by-le (λ (x : ℕ). x) 200_000_000_000_000 xs small in
    omega (arith, all, long, few)

pub place_low : (ns : List Name) (place : ℕ) (n : Name) → slice_get ns place ≡ Some n → place < length ns
place_low [] place n at = absurd (let never : ⊥ = cc in never)
place_low (m ∷ ns) zero n at = omega arith
place_low (m ∷ ns) (suc place) n at = let less = place_low ns place n at in omega (arith, less)

pub not_none : (ns : List Name) (place : ℕ) → place < length ns → slice_get ns place ≡ None → ⊥
not_none [] place low none = omega (arith, low)
not_none (m ∷ ns) zero low none = let never : ⊥ = cc in never
not_none (m ∷ ns) (suc place) low none = let less : place < length ns = omega (arith, low) in not_none ns place less none
