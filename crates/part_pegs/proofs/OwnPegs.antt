-- What holds of a part whose plan is known with those in reach: of its cell, of what its parents release, and of its pegs.
use Rattle.std.proofs.Common.{◌≡◌, ℕ, zero, suc, ◌+◌, ◌<◌, ◌≤◌, inl, inr, List, [], ◌∷◌, length, map, get_or, refl, sym, ◌∙◌, ap, subst, arith, Bool, true, false, cond, ◌&&◌, ◌||◌}
use Rattle.std.proofs.lemmas.Bool.Decides.{nat_tests}
use Rattle.std.specs.Prelude.{Option, Some, None, nat_lt}
use Rattle.std.specs.Option.{option_map}
use Rattle.std.specs.List.{AllByRecursion, list_all, list_any, range_with_len}
use Rattle.plan_schema.specs.declared.name.Name.{Name}
use Rattle.plan_schema.specs.declared.change.CellName.TheVariants as names
use Rattle.plan_schema.specs.declared.key.Key.TheVariants as keys
use Rattle.plan_schema.specs.declared.key.Record.{Record}
use Rattle.plan_schema.specs.declared.key.Record.TheVariants as rows_of
use Rattle.plan_schema.specs.Contents.{Contents, record_at, cell_rows}
use Rattle.planning_rules.specs.Bills.{ParentBill, parents, bills_of}
use Rattle.planning_rules.specs.Days.{start_of, days_of}
use Rattle.planning_rules.specs.Netting.{Input, Lists, limit, exceeds, releases, planned_of, outcome_from, is_too_large}
use Rattle.planning_rules.specs.Pegs.{pegs}
use Rattle.planning_rules.specs.Plan.{Known, Planned, Large, has_outcome, released, demands_of, gross_of, has_calendar, input_of, known_from, plan}
use Rattle.planning_rules.specs.Refused.{in_reach}
use Rattle.planning_rules.proofs.Membership.{IsIn, contained_in, in_contained}
use Rattle.planning_rules.proofs.PlanLaws.{plan_is_step}
use Rattle.record_versions.specs.declared.version.VersionId.{VersionId}
use Rattle.walk_rules.specs.Cells.{Cells, records, held}
use Rattle.walk_rules.specs.Steps.{gross_from}
use Rattle.walk_rules.proofs.Local.{gross_lists}
use Rattle.walk_rules.proofs.PutRight.{IsRelease, plan_release}
use Rattle.explosion.specs.Sums.{AreReleases, asked_of, bills_in, demands_in}
use Rattle.explosion.proofs.Own.{bills_own, demands_own}
use Rattle.pegging.specs.Pegs.{pegs_by}
use Rattle.pegging.proofs.Local.{pegs_own}
use Rattle.plan_jobs.specs.declared.job.Wanted.{Wanted}
use Rattle.plan_jobs.specs.Jobs.{IsJob}
use Rattle.plan_jobs.proofs.Gathering.{asked_reached, parent_reached}
use Rattle.walk_names.proofs.JobCells.{HeldCell, held_cell, no_record}
use Rattle.part_pegs.specs.Held.{rows_held}
use Rattle.part_pegs.specs.Planned.{ArePlanned, IsPlannedPart}
use Rattle.part_pegs.specs.ParentLists.{parent_lists, parents_are_planned}

-- lists -----------------------------------------------------------------------------------------------------------------------

small_at : (xs : List ℕ) → AllByRecursion (λ qty. qty ≤ limit) xs → (t : ℕ) → get_or xs t 0 ≤ limit
small_at [] h t = omega arith
small_at (x ∷ xs) h zero = h.0
small_at (x ∷ xs) h (suc t) = small_at xs h.1 t

are_releases : (days : ℕ) (lists : List (List ℕ)) → AllByRecursion (IsRelease days) lists → AreReleases days lists
are_releases days [] h k l = absurd (omega arith)
are_releases days (list ∷ lists) h zero l = (h.0.0, small_at list h.0.1)
are_releases days (list ∷ lists) h (suc k) l = are_releases days lists h.1 k (omega arith)

pub map_long : {A B : Type 0} (f : A → B) (xs : List A) → length (map f xs) ≡ length xs
map_long f [] = refl
map_long f (x ∷ xs) = ap suc (map_long f xs)

small_on : (f : ℕ → ℕ) (a len t : ℕ) → AllByRecursion (λ qty. qty ≤ limit) (map f (range_with_len a len)) → t < len → f (a + t) ≤ limit
small_on f a zero t h l = absurd (omega arith)
small_on f a (suc len) zero h l = let same : a ≡ a + 0 = omega arith in subst (λ k. f k ≤ limit) same h.0
small_on f a (suc len) (suc t) h l =
    let same : a + 1 + t ≡ a + suc t = omega arith in
    let short : t < len = omega arith in
    subst (λ k. f k ≤ limit) same (small_on f (a + 1) len t h.1 short)

-- gross requirements of what is planned ------------------------------------------------------------------------------------------

either_false : (a b : Bool) → (a || b) ≡ false → (a ≡ false) × (b ≡ false)
either_false true b h = cc
either_false false b h = (refl, h)

all_small : (xs : List ℕ) → exceeds xs ≡ false → AllByRecursion (λ qty. qty ≤ limit) xs
all_small [] h = tt
all_small (x ∷ xs) h =
    let two = either_false (nat_lt limit x) (list_any (λ n. nat_lt limit n) xs) h in
    (small x two.0, all_small xs two.1)
  where
    small : (x : ℕ) → nat_lt limit x ≡ false → x ≤ limit
    small x e = grind (arith, nat_tests)

outcome_gross : (x : Input) (o : Lists) → known_from (Some x) ≡ Some (Planned o) → exceeds x.gross ≡ false
outcome_gross x o h = by_size (is_too_large x (planned_of x)) refl h
  where
    by_size : (b : Bool) → is_too_large x (planned_of x) ≡ b → Some (cond b Large (Planned (outcome_from x (planned_of x)))) ≡ Some (Planned o) → exceeds x.gross ≡ false
    by_size true e k = let never : ⊥ = cc in absurd never
    by_size false e k = (either_false (exceeds x.gross) (exceeds (planned_of x) || exceeds (releases x.calendar x.lead (planned_of x))) e).0

input_gross : (c : Contents) (n : Name) (gross : List ℕ) (r : Option Record) (o : Lists) → known_from (input_of c n gross r) ≡ Some (Planned o) → exceeds gross ≡ false
input_gross c n gross (Some (rows_of.Part lead lot safety calendar)) o h = by_calendar (has_calendar c calendar) _ (λ x e. ap (λ (y : Input). exceeds y.gross) e) h
  where
    by_calendar : (b : Bool) (x : Input) → ((y : Input) → y ≡ x → exceeds y.gross ≡ exceeds gross) → known_from (cond b (Some x) None) ≡ Some (Planned o) → exceeds gross ≡ false
    by_calendar true x same k = sym (same x refl) ∙ outcome_gross x o k
    by_calendar false x same k = let never : ⊥ = cc in absurd never
input_gross c n gross _ o h = let never : ⊥ = cc in absurd never

pub plan_gross : (c : Contents) (n : Name) (o : Lists) → plan c n ≡ Some (Planned o) → AllByRecursion (λ qty. qty ≤ limit) (gross_of (plan c) c n)
plan_gross c n o h = all_small (gross_of (plan c) c n) (by_parents (list_all (λ p. has_outcome (plan c p)) (parents c n)) (sym (plan_is_step c n) ∙ h))
  where
    by_parents : (b : Bool) → cond b (known_from (input_of c n (gross_of (plan c) c n) (record_at c (keys.Part n)))) None ≡ Some (Planned o) → exceeds (gross_of (plan c) c n) ≡ false
    by_parents true k = input_gross c n (gross_of (plan c) c n) (record_at c (keys.Part n)) o k
    by_parents false k = let never : ⊥ = cc in absurd never

-- a name without a record has no plan
no_plan : (c : Contents) (n : Name) → record_at c (keys.Part n) ≡ None → plan c n ≡ None
no_plan c n e =
    plan_is_step c n ∙ ap (λ r. cond (list_all (λ p. has_outcome (plan c p)) (parents c n)) (known_from (input_of c n (gross_of (plan c) c n) r)) None) e ∙ none (list_all (λ p. has_outcome (plan c p)) (parents c n))
  where
    none : (b : Bool) → cond b (known_from (input_of c n (gross_of (plan c) c n) None)) None ≡ None
    none true = refl
    none false = refl

planned_at : (o : Option Known) → has_outcome o ≡ true → (x : Lists) × (o ≡ Some (Planned x))
planned_at None h = let never : ⊥ = cc in absurd never
planned_at (Some (Planned x)) h = (x, refl)
planned_at (Some Large) h = let never : ⊥ = cc in absurd never

-- bills -------------------------------------------------------------------------------------------------------------------------

module _ (c : Contents) (plans : Name → Option Known) where
  bills_planned : (bs : List ParentBill) → ((q : Name) → IsIn q (map (λ bill. bill.parent) bs) → has_outcome (plans q) ≡ true) → list_all (λ bill. has_outcome (plans bill.parent)) bs ≡ true
  bills_planned [] h = refl
  bills_planned (b ∷ bs) h =
      let here = h b.parent (inl refl) in
      let rest = bills_planned bs (λ q i. h q (inr i)) in
      λ i. here i && rest i

  bills_listed : (bs : List ParentBill) → ((q : Name) → IsIn q (map (λ bill. bill.parent) bs) → plans q ≡ plan c q)
      → map (λ bill. released (plans bill.parent)) bs ≡ map (λ p. released (plan c p)) (map (λ bill. bill.parent) bs)
  bills_listed [] h = refl
  bills_listed (b ∷ bs) h =
      let here = h b.parent (inl refl) in
      let rest = bills_listed bs (λ q i. h q (inr i)) in
      λ i. released (here i) ∷ rest i

  all_released : (ps : List Name) → ((q : Name) → IsIn q ps → has_outcome (plan c q) ≡ true) → AllByRecursion (IsRelease (days_of c)) (map (λ p. released (plan c p)) ps)
  all_released [] h = tt
  all_released (p ∷ ps) h =
      let o = planned_at (plan c p) (h p (inl refl)) in
      (subst (λ known. IsRelease (days_of c) (released known)) (sym o.1) (plan_release c p o.0 o.1), all_released ps (λ q i. h q (inr i)))

-- what holds the rows that there are
pub rows_found : (o : Option (VersionId × Contents)) (rows : Contents) → option_map (λ cell. cell.1) o ≡ Some rows → (id : VersionId) × (o ≡ Some (id, rows))
rows_found None rows h = absurd (let never : ⊥ = cc in never)
rows_found (Some (id, own)) rows h = (id, cc)

-- an asked name is such a part, and so are the parents of one
pub asked_planned : (c : Contents) (asked : List Name) (plans : Name → Option Known) (n : Name) → ArePlanned c asked plans → IsIn n asked → IsPlannedPart c plans n
asked_planned c asked plans n planned i = record { asked = asked; planned = planned; reached = contained_in (in_reach c asked) n (asked_reached c asked n i) }

-- the part ------------------------------------------------------------------------------------------------------------------------

module _ (wanted : Wanted) (cells : Cells) (n : Name) (plans : Name → Option Known) (job : IsJob wanted cells) (known : IsPlannedPart (records cells) plans n) where
  part_in : IsIn n (in_reach (records cells) known.asked)
  part_in = in_contained (in_reach (records cells) known.asked) n known.reached

  outcome_at : (q : Name) → IsIn q (in_reach (records cells) known.asked) → has_outcome (plan (records cells) q) ≡ true
  outcome_at q i =
      let there = contained_in (in_reach (records cells) known.asked) q i in
      ap has_outcome (sym (known.planned.right q there)) ∙ known.planned.outcomes q there

  parent_in_reach : (q : Name) → IsIn q (parents (records cells) n) → IsIn q (in_reach (records cells) known.asked)
  parent_in_reach q i = parent_reached (records cells) known.asked n q part_in i

  pub cell_there : held cells (names.Part n) ≡ None → ⊥
  cell_there none =
      let gone : plan (records cells) n ≡ None = no_plan (records cells) n (no_record wanted cells (keys.Part n) job none) in
      let never : true ≡ false = sym (outcome_at n part_in) ∙ ap has_outcome gone in cc

  module _ (rows : Contents) (there : rows_held cells (names.Part n) ≡ Some rows) where
    pub cell : HeldCell cells (names.Part n) rows
    cell = let found = rows_found (held cells (names.Part n)) rows there in held_cell wanted cells (names.Part n) found.0 rows job found.1

    bills_are : bills_in rows ≡ bills_of (records cells) n
    bills_are = ap bills_in (sym cell.rows_are) ∙ bills_own (records cells) n

    pub parents_planned : parents_are_planned plans rows ≡ true
    parents_planned =
        ap (λ bs. list_all (λ bill. has_outcome (plans bill.parent)) bs) bills_are
        ∙ bills_planned (records cells) plans (bills_of (records cells) n) (λ q i. known.planned.outcomes q (contained_in (in_reach (records cells) known.asked) q (parent_in_reach q i)))

    pub lists_are : parent_lists plans rows ≡ map (λ p. released (plan (records cells) p)) (parents (records cells) n)
    lists_are =
        ap (λ bs. map (λ bill. released (plans bill.parent)) bs) bills_are
        ∙ bills_listed (records cells) plans (bills_of (records cells) n) (λ q i. known.planned.right q (contained_in (in_reach (records cells) known.asked) q (parent_in_reach q i)))

    pub lists_long : length (bills_in rows) ≡ length (parent_lists plans rows)
    lists_long = sym (map_long (λ bill. released (plans bill.parent)) (bills_in rows))

    pub lists_within : AreReleases (days_of (records cells)) (parent_lists plans rows)
    lists_within =
        subst (AreReleases (days_of (records cells))) (sym lists_are)
        (are_releases (days_of (records cells)) (map (λ p. released (plan (records cells) p)) (parents (records cells) n))
        (all_released (records cells) plans (parents (records cells) n) (λ q i. outcome_at q (parent_in_reach q i))))

    pub day_fits : (t : ℕ) → t < days_of (records cells) → asked_of (start_of (records cells)) t (demands_in rows) (bills_in rows) (parent_lists plans rows) ≤ limit
    day_fits t l =
        let c = records cells in
        let o = planned_at (plan c n) (outcome_at n part_in) in
        let lists = map (λ p. released (plan c p)) (parents c n) in
        let small : AllByRecursion (λ qty. qty ≤ limit) (gross_from c n lists) = subst (AllByRecursion (λ qty. qty ≤ limit)) (gross_lists (plan c) c n) (plan_gross c n o.0 o.1) in
        let demands : demands_in rows ≡ demands_in (cell_rows c (names.Part n)) = ap demands_in (sym cell.rows_are) in
        let here : asked_of (start_of c) t (demands_in rows) (bills_in rows) (parent_lists plans rows) ≡ asked_of (start_of c) t (demands_in (cell_rows c (names.Part n))) (bills_of c n) lists =
        (λ i. asked_of (start_of c) t (demands i) (bills_are i) (lists_are i)) in
        let same : 0 + t ≡ t = omega arith in
        subst (λ qty. qty ≤ limit) (sym (here ∙ (λ i. asked_of (start_of c) t (demands_own c n i) (bills_of c n) lists)))
        (subst (λ day. asked_of (start_of c) day (demands_of c n) (bills_of c n) lists ≤ limit) same
        (small_on (λ day. asked_of (start_of c) day (demands_of c n) (bills_of c n) lists) 0 (days_of c) t small l))

    pub pegs_are : (t : ℕ) → pegs_by rows (start_of (records cells)) t (parent_lists plans rows) ≡ pegs (records cells) n t
    pegs_are t =
        (λ i. pegs_by (sym cell.rows_are i) (start_of (records cells)) t (lists_are i))
        ∙ pegs_own (plan (records cells)) (records cells) n t
