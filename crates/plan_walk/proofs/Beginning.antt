-- What a walk begins with.
use Rattle.std.proofs.Common.{◌≡◌, ℕ, zero, suc, ◌+◌, ◌<◌, List, [], ◌∷◌, ◌++◌, length, take, refl, sym, ◌∙◌, ap, subst, arith, Bool, true, false, cond, add-one, not}
use Rattle.std.specs.Prelude.{Option, Some, None, slice_get, filter, replicate, is_some}
use Rattle.std.specs.List.{AllByRecursion}
use Rattle.plan_schema.specs.declared.name.Name.{Name}
use Rattle.plan_schema.specs.declared.key.Key.TheVariants as keys
use Rattle.plan_schema.specs.declared.key.Record.{Record}
use Rattle.plan_schema.specs.declared.key.Record.TheVariants as rows
use Rattle.plan_schema.specs.declared.refusal.Refusal.TheVariants as refusals
use Rattle.plan_schema.specs.declared.change.CellName.TheVariants as names
use Rattle.plan_schema.specs.Key.{name_eq}
use Rattle.plan_schema.specs.Refusals.{first_of, about}
use Rattle.plan_schema.specs.Contents.{Contents, record_at}
use Rattle.planning_rules.specs.Plan.{Known, plan, has_calendar}
use Rattle.planning_rules.specs.Refused.{least_name, is_part, lacks_calendar, is_cyclic, in_reach}
use Rattle.planning_rules.proofs.Membership.{IsIn, in_contained, contained_in, all_in, all_map}
use Rattle.planning_rules.proofs.LeastNames.{least_found}
use Rattle.record_versions.specs.declared.version.VersionId.{VersionId}
use Rattle.walk_rules.specs.Cells.{Cells, records, held}
use Rattle.walk_rules.specs.Rights.{AreRight}
use Rattle.walk_rules.specs.Steps.{calendar_of, calendar_in}
use Rattle.walk_rules.specs.Walks.{Parts, names_of, known_at, unknown, is_ready, frontier}
use Rattle.plan_jobs.specs.declared.job.Job.{Job}
use Rattle.plan_jobs.specs.declared.job.Wanted.{Wanted}
use Rattle.plan_jobs.specs.Jobs.{IsJob, wants_plan, asked_by}
use Rattle.walk_names.specs.Names.{AreWalkNames}
use Rattle.walk_names.proofs.JobCells.{cell_there}
use Rattle.plan_walk.specs.declared.node.Node.{Node}
use Rattle.plan_walk.specs.Places.{parts_of, ready_at}
use Rattle.plan_walk.specs.Nodes.{node_names, names_at, ups_at, IsGraph, Fits}
use Rattle.plan_walk.specs.Walk.{CanStep, Begins}
use Rattle.plan_walk.proofs.Places.{names_place}
use Rattle.plan_walk.proofs.LookUps.{ready_name, filter_more, append_none, take_whole}
use Rattle.plan_walk.proofs.SoFar.{names_long, name_there, ups_there, names_more, places_more}

-- nothing is known -----------------------------------------------------------------------------------------------------------

pub nothing_parts : (ns : List Name) (n : ℕ) → n ≡ length ns → parts_of ns (replicate n None) ≡ unknown ns
nothing_parts [] n e = refl
nothing_parts (m ∷ ms) zero e = absurd (omega arith)
nothing_parts (m ∷ ms) (suc n) e = let short : n ≡ length ms = omega arith in ap (λ ps. record { name = m; known = None } ∷ ps) (nothing_parts ms n short)

nothing_at : (ns : List Name) (n : Name) → known_at (unknown ns) n ≡ None
nothing_at [] n = refl
nothing_at (m ∷ ms) n = by_cases (name_eq m n) (nothing_at ms n)
  where
    by_cases : (b : Bool) → known_at (unknown ms) n ≡ None → cond b None (known_at (unknown ms) n) ≡ None
    by_cases true h = refl
    by_cases false h = h

pub nothing_right : (c : Contents) (ns : List Name) → AreRight c (unknown ns)
nothing_right c ns n known is = let never : None ≡ Some known = sym (nothing_at ns n) ∙ is in absurd (let no_way : ⊥ = cc in no_way)

-- the parts that can be netted -------------------------------------------------------------------------------------------------

pub record ReadySoFar (nodes : List Node) (ks : List (Option Known)) (i : ℕ) (front : List ℕ) : Type 0 where
  pub ready : (cells : Cells) (plan : VersionId) → Fits cells plan nodes → filter (is_ready (records cells) (parts_of (node_names nodes) ks)) (take i (node_names nodes)) ≡ names_at (node_names nodes) front
  pub places : (k q : ℕ) → slice_get front k ≡ Some q → q < length nodes

pub ready_begins : (nodes : List Node) (ks : List (Option Known)) → ReadySoFar nodes ks 0 []
ready_begins nodes ks = record { ready = λ cells plan fits. refl; places = λ k q at. absurd (let never : ⊥ = cc in never) }

module _ (nodes : List Node) (ks : List (Option Known)) (g : IsGraph nodes) (whole : length ks ≡ length nodes) (i : ℕ) (front : List ℕ) (s : ReadySoFar nodes ks i front) (node : Node) (is : slice_get nodes i ≡ Some node) where
  test_here : (cells : Cells) (plan : VersionId) → Fits cells plan nodes → is_ready (records cells) (parts_of (node_names nodes) ks) node.name ≡ ready_at node.ups.items ks i
  test_here cells plan fits =
      ready_name cells (node_names nodes) g.distinct (ups_at nodes) fits.above g.before ks (whole ∙ sym (names_long nodes)) i node.name (name_there nodes i node is)
      ∙ ap (λ ups. ready_at ups ks i) (ups_there nodes i node is)

  next : (cells : Cells) (plan : VersionId) → Fits cells plan nodes → (b : Bool) → ready_at node.ups.items ks i ≡ b
      → filter (is_ready (records cells) (parts_of (node_names nodes) ks)) (take (i + 1) (node_names nodes)) ≡ names_at (node_names nodes) front ++ cond b (node.name ∷ []) []
  next cells plan fits b e =
      ap (λ k. filter (is_ready (records cells) (parts_of (node_names nodes) ks)) (take k (node_names nodes))) (add-one i)
      ∙ filter_more (is_ready (records cells) (parts_of (node_names nodes) ks)) (node_names nodes) i node.name (name_there nodes i node is)
      ∙ (λ j. s.ready cells plan fits j ++ cond ((test_here cells plan fits ∙ e) j) (node.name ∷ []) [])

  pub ready_joins : ready_at node.ups.items ks i ≡ true → i < length nodes → ReadySoFar nodes ks (i + 1) (front ++ i ∷ [])
  ready_joins e less = record {
    ready = λ cells plan fits. next cells plan fits true e ∙ sym (names_more (node_names nodes) front i node.name (name_there nodes i node is));
    places = places_more (length nodes) front i less s.places;
  }

  pub ready_not : ready_at node.ups.items ks i ≡ false → ReadySoFar nodes ks (i + 1) front
  ready_not e = record {
    ready = λ cells plan fits. next cells plan fits false e ∙ append_none (names_at (node_names nodes) front);
    places = s.places;
  }

pub ready_ends : (nodes : List Node) (ks : List (Option Known)) → length ks ≡ length nodes → (i : ℕ) (front : List ℕ) → i ≡ length nodes → ReadySoFar nodes ks i front
    → (cells : Cells) (plan : VersionId) → Fits cells plan nodes → frontier (records cells) (parts_of (node_names nodes) ks) ≡ names_at (node_names nodes) front
ready_ends nodes ks whole i front end s cells plan fits =
    ap (filter (is_ready (records cells) (parts_of (node_names nodes) ks))) (names_place (node_names nodes) ks (whole ∙ sym (names_long nodes)) ∙ sym (take_whole (node_names nodes)) ∙ ap (λ k. take k (node_names nodes)) (names_long nodes ∙ sym end))
    ∙ s.ready cells plan fits

-- the names of a walk can be netted ----------------------------------------------------------------------------------------------

four_none : (a b d e : Option Name) → first_of (about a refusals.NoPart ∷ about b refusals.MissingPart ∷ about d refusals.MissingCalendar ∷ about e refusals.Cyclic ∷ []) ≡ None → (b ≡ None) × (d ≡ None)
four_none (Some n) b d e h = absurd (let never : ⊥ = cc in never)
four_none None (Some n) d e h = absurd (let never : ⊥ = cc in never)
four_none None None (Some n) e h = absurd (let never : ⊥ = cc in never)
four_none None None None e h = (refl, refl)

module _ (wanted : Wanted) (cells : Cells) (job : IsJob wanted cells) (wants : wants_plan wanted ≡ true) (asked ns : List Name) (w : AreWalkNames (records cells) asked ns) where
  two : (least_name (λ n. not (is_part (records cells) n)) (in_reach (records cells) asked) ≡ None) × (least_name (λ n. lacks_calendar (records cells) (record_at (records cells) (keys.Part n))) (in_reach (records cells) asked) ≡ None)
  two = four_none (least_name (λ n. not (is_part (records cells) n)) asked) (least_name (λ n. not (is_part (records cells) n)) (in_reach (records cells) asked))
      (least_name (λ n. lacks_calendar (records cells) (record_at (records cells) (keys.Part n))) (in_reach (records cells) asked)) (least_name (is_cyclic (records cells)) (in_reach (records cells) asked)) w.allowed

  none_passes : (test : Name → Bool) → least_name test (in_reach (records cells) asked) ≡ None → (n : Name) → IsIn n (in_reach (records cells) asked) → (b : Bool) → test n ≡ b → b ≡ false
  none_passes test none n i false e = refl
  none_passes test none n i true e = let found = least_found test (in_reach (records cells) asked) n i e in let never : None ≡ Some found.0 = sym none ∙ found.1 in absurd (let no_way : ⊥ = cc in no_way)

  is_so : (b : Bool) → not b ≡ false → b ≡ true
  is_so true h = refl
  is_so false h = cc

  -- the calendar that a part's record names is there
  has_its : (o : Option Record) → lacks_calendar (records cells) o ≡ false → has_calendar (records cells) (calendar_of o) ≡ true
  has_its (Some (rows.Part lead lot safety calendar)) h = is_so (has_calendar (records cells) calendar) h
  has_its (Some other) h = refl
  has_its None h = refl

  open_cell : {A B : Type 0} (o : Option (A × B)) → is_some o ≡ true → (a : A) × (b : B) × (o ≡ Some (a, b))
  open_cell None h = let never : false ≡ true = h in absurd (let no_way : ⊥ = cc in no_way)
  open_cell (Some (a, b)) h = (a, b, refl)

  can_step : (n : Name) → IsIn n ns → CanStep cells n
  can_step n i =
      let reached : IsIn n (in_reach (records cells) asked) = in_contained (in_reach (records cells) asked) n ((w.members n).0 (contained_in ns n i)) in
      let part : is_part (records cells) n ≡ true = is_so (is_part (records cells) n) (none_passes (λ m. not (is_part (records cells) m)) two.0 n reached (not (is_part (records cells) n)) refl) in
      let there : has_calendar (records cells) (calendar_in (records cells) n) ≡ true =
      has_its (record_at (records cells) (keys.Part n)) (none_passes (λ m. lacks_calendar (records cells) (record_at (records cells) (keys.Part m))) two.1 n reached (lacks_calendar (records cells) (record_at (records cells) (keys.Part n))) refl) in
      let horizon = open_cell (held cells names.Plan) (job.plan wants) in
      let its = open_cell (held cells (names.Part n)) (cell_there wanted cells (keys.Part n) job part) in
      record {
        cells_held = record {
          plan = horizon.1;
          plan_id = horizon.0;
          plan_held = horizon.2;
          part = its.1;
          part_id = its.0;
          part_held = its.2;
          calendar_held = λ k is. open_cell (held cells (names.Cal k)) (cell_there wanted cells (keys.Cal k) job (ap (has_calendar (records cells)) (sym is) ∙ there));
        };
        part = part;
        calendar = there;
      }

  pub all_step : AllByRecursion (CanStep cells) ns
  all_step = all_map (λ n. IsIn n ns) (CanStep cells) can_step ns (all_in ns)

-- a walk as it begins ------------------------------------------------------------------------------------------------------------

nothing_long : (n : ℕ) → length (replicate n (let none : Option Known = None in none)) ≡ n
nothing_long zero = refl
nothing_long (suc n) = ap suc (nothing_long n)

pub as_many : (ks : List (Option Known)) (nodes : List Node) (count : ℕ) → count ≡ length nodes → ks ≡ replicate count None → length ks ≡ length nodes
as_many ks nodes count many e = ap length e ∙ nothing_long count ∙ many

pub nothing_made : (ks : List (Option Known)) (ns : List Name) (nodes : List Node) (count : ℕ) → node_names nodes ≡ ns → count ≡ length nodes → ks ≡ replicate count None → parts_of (node_names nodes) ks ≡ unknown ns
nothing_made ks ns nodes count named many e =
    (λ i. parts_of (named i) (e i)) ∙ nothing_parts ns count (many ∙ sym (names_long nodes) ∙ ap length named)

pub names_unknown : (ns : List Name) → names_of (unknown ns) ≡ ns
names_unknown [] = refl
names_unknown (n ∷ ns) = ap (λ ms. n ∷ ms) (names_unknown ns)

pub begins : (job : Job) (ns front : List Name) (parts : Parts) → AreWalkNames (records job.cells) (asked_by (records job.cells) job.wanted) ns → parts ≡ unknown ns → Begins job (record { job = job; parts = parts; front = front })
begins job ns front parts w e =
    let same : names_of parts ≡ ns = ap names_of e ∙ names_unknown ns in
    record {
      job_is = refl;
      names = subst (AreWalkNames (records job.cells) (asked_by (records job.cells) job.wanted)) (sym same) w;
      nothing = e ∙ ap unknown (sym same);
    }
