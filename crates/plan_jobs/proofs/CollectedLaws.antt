-- The cells that are collected from a scenario tell the same as its contents.
use Rattle.std.proofs.Common.{◌≡◌, inl, inr, List, [], ◌∷◌, refl, sym, ◌∙◌, ap, subst, Bool, true, false, cond, ◌||◌}
use Rattle.std.proofs.lemmas.Bool.{and_parts}
use Rattle.std.specs.Prelude.{Option, Some, None, is_some, unwrap_or, filter}
use Rattle.std.specs.Option.{option_map}
use Rattle.std.specs.List.{list_all, cons_option}
use Rattle.std.specs.Ordering.{is_eq, ordering_then}
use Rattle.std.specs.declared.cmp.Ordering.{Ordering}
use Rattle.std.specs.declared.cmp.Ordering.TheVariants.{Less, Equal, Greater}
use Rattle.plan_schema.specs.declared.name.Name.{Name}
use Rattle.plan_schema.specs.declared.key.Key.{Key}
use Rattle.plan_schema.specs.declared.key.Key.TheVariants as keys
use Rattle.plan_schema.specs.declared.key.Record.{Record}
use Rattle.plan_schema.specs.declared.change.CellName.{CellName}
use Rattle.plan_schema.specs.declared.change.CellName.TheVariants as names
use Rattle.plan_schema.specs.Key.{name_eq, name_cmp, key_cmp}
use Rattle.plan_schema.specs.Contents.{Contents, record_at, cell_rows}
use Rattle.planning_rules.specs.Bills.{parents}
use Rattle.planning_rules.specs.Refused.{in_reach, is_part}
use Rattle.planning_rules.proofs.Membership.{IsIn, any_in}
use Rattle.planning_rules.proofs.LevelLaws.{same_name}
use Rattle.query_rules.specs.Queries.{part_in, parts_of}
use Rattle.record_versions.specs.declared.version.VersionId.{VersionId}
use Rattle.record_versions.specs.Versions.{IdList, CellList, id_at, are_ordered_ids, cell_at}
use Rattle.version_rules.specs.Meaning.{Meaning, IsMeant, AreMeant}
use Rattle.walk_rules.specs.Cells.{Cells, records, held, Stands}
use Rattle.walk_rules.specs.Rights.{AreMeantCells}
use Rattle.walk_rules.specs.Steps.{Agree, calendar_of, calendar_in}
use Rattle.walk_rules.proofs.Local.{record_same}
use Rattle.plan_jobs.specs.declared.job.Wanted.{Wanted}
use Rattle.plan_jobs.specs.declared.job.Wanted.TheVariants as wants
use Rattle.plan_jobs.specs.Jobs.{wants_plan, asked_by}
use Rattle.plan_jobs.specs.Collects.{AreWholeCells, cell_by, cells_by, records_by, is_calendar, is_needed, is_wanted, collected}
use Rattle.plan_jobs.specs.Laws.{is_among, PlanAlike, CollectedRows, CollectedPlans, CollectedMeans}
use Rattle.plan_jobs.proofs.Rows.{rows_of, rows_held, apart}
use Rattle.plan_jobs.proofs.Kept.{held_kept}
use Rattle.plan_jobs.proofs.Found.{held_by}
use Rattle.plan_jobs.proofs.Visited.{rows_by}
use Rattle.plan_jobs.proofs.Collecting.{is_job}
use Rattle.plan_jobs.proofs.Gathering.{parent_reached, is_in, in_is}
use Rattle.plan_jobs.proofs.Alike.{SameNames, any_moved, all_in_list, plan_alike}

-- names of parts -------------------------------------------------------------------------------------------------------------------

same_part : (o : Ordering) → is_eq (ordering_then o Equal) ≡ is_eq o
same_part Less = refl
same_part Equal = refl
same_part Greater = refl

found_or : (b : Bool) (r : Record) (o : Option Record) → is_some (cond b (Some r) o) ≡ (b || is_some o)
found_or true r o = refl
found_or false r o = refl

-- a name is one of the parts exactly where it has a part's record
pub among_parts : (c : Contents) (n : Name) → is_among (parts_of c) n ≡ is_part c n
among_parts [] n = refl
among_parts (row ∷ c) n = by_key (among_parts c n) row.0 row.1
  where
    by_key : is_among (parts_of c) n ≡ is_part c n → (key : Key) (value : Record)
        → is_among (cons_option (part_in (key, value)) (parts_of c)) n ≡ is_some (cond (is_eq (key_cmp (keys.Part n) key)) (Some value) (record_at c (keys.Part n)))
    by_key rest (keys.Part m) value =
        (λ i. name_eq n m || rest i) ∙ sym (found_or (is_eq (key_cmp (keys.Part n) (keys.Part m))) value (record_at c (keys.Part n)) ∙ ap (λ b. b || is_part c n) (same_part (name_cmp n m)))
    by_key rest _ value = rest

-- contents with the same cells -----------------------------------------------------------------------------------------------------

agrees : (c d : Contents) (n : Name) → ((name : CellName) → cell_rows c name ≡ cell_rows d name) → Agree c d n
agrees c d n same = record { plan_cell = same names.Plan; part_cell = same (names.Part n); calendar_cell = λ k is. same (names.Cal k) }

module _ (c d : Contents) (same : (name : CellName) → cell_rows c name ≡ cell_rows d name) where
  everywhere : (n : Name) → true ≡ true → Agree c d n × (list_all (λ m. true) (parents c n) ≡ true)
  everywhere n e = (agrees c d n same, all_in_list (λ m. true) (parents c n) (λ m i. refl))

  pub all_alike : (asked others : List Name) → SameNames others asked → PlanAlike c asked d others
  all_alike asked others asks = plan_alike c d (λ m. true) everywhere asked others asks (λ n i. refl)

  calendar_alike : (n : Name) → calendar_in d n ≡ calendar_in c n
  calendar_alike n = ap calendar_of (sym (record_same c d (keys.Part n) (same (names.Part n))))

  parts_alike : SameNames (parts_of d) (parts_of c)
  parts_alike n = among_parts d n ∙ ap is_some (sym (record_same c d (keys.Part n) (same (names.Part n)))) ∙ sym (among_parts c n)

  -- the same cells are wanted of both
  wanted_alike : (wanted : Wanted) (name : CellName) → is_wanted d wanted name ≡ is_wanted c wanted name
  wanted_alike (wants.Cell one) name = refl
  wanted_alike wants.All name = refl
  wanted_alike (wants.Part part) names.Plan = refl
  wanted_alike (wants.Part part) (names.Part n) = (all_alike (part ∷ []) (part ∷ []) (λ m. refl)).reach n
  wanted_alike (wants.Part part) (names.Cal k) =
      any_moved (λ n. is_calendar (calendar_in d n) k) (λ n. is_calendar (calendar_in c n) k) (in_reach d (part ∷ [])) (in_reach c (part ∷ []))
      (all_alike (part ∷ []) (part ∷ []) (λ m. refl)).reach (λ n i. ap (λ o. is_calendar o k) (calendar_alike n))

module _ (store : CellList) (ids : IdList) (wanted : Wanted) (c : Contents) (whole : AreWholeCells store ids) (ordered : are_ordered_ids ids ≡ true) (meant : AreMeant (cell_at store) c (id_at ids)) where
  -- the records of a scenario's cells are those of its contents
  rows_meant : (name : CellName) (o : Option VersionId) → IsMeant (cell_at store) name (cell_rows c name) o → rows_of (option_map (cell_by store) o) ≡ cell_rows c name
  rows_meant name None m = sym m
  rows_meant name (Some id) m = ap (λ rows. unwrap_or rows []) m.0

  same_rows : (name : CellName) → cell_rows c name ≡ cell_rows (records_by store ids) name
  same_rows name = sym (rows_by store ids whole ordered name ∙ rows_meant name (id_at ids name) (meant name))

  rows_collected : (name : CellName) → is_wanted c wanted name ≡ true → cell_rows (records (collected store ids wanted)) name ≡ cell_rows c name
  rows_collected name e =
      let all = cells_by store ids in
      let t = λ (name : CellName). is_wanted (records_by store ids) wanted name in
      let job = is_job store ids whole ordered wanted in
      let passes : t name ≡ true = wanted_alike c (records_by store ids) same_rows wanted name ∙ e in
      rows_held (collected store ids wanted) name job.own (apart (collected store ids wanted) job.ascending)
      ∙ ap rows_of (held_kept t all name ∙ ap (λ b. cond b (held all name) None) passes ∙ held_by store ids name whole.named)
      ∙ rows_meant name (id_at ids name) (meant name)

pub collected_rows : CollectedRows
collected_rows store ids wanted cells c whole ordered meant from name e = ap (λ cs. cell_rows (records cs) name) from ∙ rows_collected store ids wanted c whole ordered meant name e

-- what is wanted for a part is enough for its plan
module _ (c d : Contents) (part : Name) (rows : (name : CellName) → is_needed c part name ≡ true → cell_rows d name ≡ cell_rows c name) where
  agrees_there : (n : Name) → is_among (in_reach c (part ∷ [])) n ≡ true → Agree c d n × (list_all (λ m. is_among (in_reach c (part ∷ [])) m) (parents c n) ≡ true)
  agrees_there n e = (
    record {
      plan_cell = sym (rows names.Plan refl);
      part_cell = sym (rows (names.Part n) e);
      calendar_cell = λ k is. sym (rows (names.Cal k) (any_in (λ m. is_calendar (calendar_in c m) k) n (in_reach c (part ∷ [])) (is_in (in_reach c (part ∷ [])) n e) (ap (λ o. is_calendar o k) is ∙ same_name k)));
    },
    all_in_list (λ m. is_among (in_reach c (part ∷ [])) m) (parents c n) (λ p i. in_is (in_reach c (part ∷ [])) p (parent_reached c (part ∷ []) n p (is_in (in_reach c (part ∷ [])) n e) i)),
  )

  part_alike : PlanAlike c (part ∷ []) d (part ∷ [])
  part_alike = plan_alike c d (λ m. is_among (in_reach c (part ∷ [])) m) agrees_there (part ∷ []) (part ∷ []) (λ m. refl) (λ n i. in_is (in_reach c (part ∷ [])) n (inl_reached n i))
    where
      inl_reached : (n : Name) → IsIn n (part ∷ []) → IsIn n (in_reach c (part ∷ []))
      inl_reached n (inl same) = inl same
      inl_reached n (inr out) = absurd out

pub collected_plans : CollectedPlans
collected_plans store ids wanted cells c whole ordered meant from plans = by_wanted wanted plans (collected_rows store ids wanted cells c whole ordered meant from)
  where
    by_wanted : (wanted : Wanted) → wants_plan wanted ≡ true → ((name : CellName) → is_wanted c wanted name ≡ true → cell_rows (records cells) name ≡ cell_rows c name)
        → PlanAlike c (asked_by c wanted) (records cells) (asked_by (records cells) wanted)
    by_wanted (wants.Cell one) h rows = absurd (let no : ⊥ = cc in no)
    by_wanted (wants.Part part) h rows = part_alike c (records cells) part rows
    by_wanted wants.All h rows = all_alike c (records cells) (λ name. sym (rows name refl)) (parts_of c) (parts_of (records cells)) (parts_alike c (records cells) (λ name. sym (rows name refl)))

-- the cells of ids are what these mean
stand_by : (store : CellList) (ids : IdList) → list_all (λ entry. is_some (cell_at store entry.1)) ids ≡ true → Stands (cell_at store) (cells_by store ids)
stand_by store [] h = tt
stand_by store (entry ∷ ids) h =
    let two = and_parts (is_some (cell_at store entry.1)) (list_all (λ other. is_some (cell_at store other.1)) ids) h in
    (there (cell_at store entry.1) two.0, stand_by store ids two.1)
  where
    there : (o : Option Contents) → is_some o ≡ true → o ≡ Some (unwrap_or o [])
    there None h = cc
    there (Some rows) h = refl

stand_kept : (m : Meaning) (q : VersionId × Contents → Bool) (cells : Cells) → Stands m cells → Stands m (filter q cells)
stand_kept m q [] h = tt
stand_kept m q (cell ∷ cells) h =
    let rest = stand_kept m q cells h.1 in
    elim (q cell) as (λ b. Stands m (cond b (cell ∷ filter q cells) (filter q cells))) [ true ↦ (h.0, rest) | false ↦ rest ]

pub collected_means : CollectedMeans
collected_means store ids wanted cells whole ordered from =
    let job = is_job store ids whole ordered wanted in
    subst (AreMeantCells (cell_at store)) (sym from) (record {
      own = job.own;
      apart = apart (collected store ids wanted) job.ascending;
      stands = stand_kept (cell_at store) (λ cell. is_wanted (records_by store ids) wanted cell.0.cell) (cells_by store ids) (stand_by store ids whole.stored);
    })
