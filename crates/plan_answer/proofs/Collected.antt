-- Questions are answered from collected cells as from all contents of their scenario.
use Rattle.std.proofs.Common.{◌≡◌, ℕ, ◌+◌, ◌-◌, inl, inr, List, [], ◌∷◌, map, refl, sym, ◌∙◌, ap, subst, true, cond, ◌||◌}
use Rattle.std.specs.Prelude.{Option, Some, None, filter, nat_lt, nat_le}
use Rattle.std.specs.List.{list_all, range_with_len}
use Rattle.plan_schema.specs.declared.name.Name.{Name}
use Rattle.plan_schema.specs.declared.refusal.Refusal.TheVariants as refusals
use Rattle.plan_schema.specs.declared.change.CellName.{CellName}
use Rattle.plan_schema.specs.declared.change.CellName.TheVariants as names
use Rattle.plan_schema.specs.Refusals.{first_of, where_so}
use Rattle.plan_schema.specs.declared.key.Key.TheVariants as keys
use Rattle.plan_schema.specs.Contents.{Contents, is_ordered, record_at, cell_rows}
use Rattle.planning_rules.specs.Bills.{parents, level}
use Rattle.planning_rules.specs.Days.{start_of, days_of}
use Rattle.planning_rules.specs.Pegs.{pegs, no_day}
use Rattle.planning_rules.specs.Plan.{plan, released, stock_in}
use Rattle.planning_rules.specs.Trace.{trace}
use Rattle.planning_rules.specs.Refused.{in_reach, level_refusal, plan_refusal}
use Rattle.planning_rules.proofs.Membership.{IsIn}
use Rattle.query_language.specs.declared.column.Column.{Column}
use Rattle.query_language.specs.Trees.{CondTree, QueryTree}
use Rattle.query_rules.specs.Lines.{select_line, select_lines}
use Rattle.query_rules.specs.Queries.{asks_for_plan, column_value, is_selected, parts_of, safety_in}
use Rattle.row_text.specs.Spelling.{row_text}
use Rattle.command_words.specs.declared.reply.Reply.TheVariants as replies
use Rattle.walk_rules.specs.Cells.{Cells, records}
use Rattle.walk_rules.specs.Steps.{Agree}
use Rattle.walk_rules.proofs.Local.{same_cell, record_same, bills_same, start_same, days_same}
use Rattle.walk_rules.proofs.PlanLocal.{plan_is_local}
use Rattle.pegging.specs.Pegs.{pegs_by}
use Rattle.pegging.proofs.Local.{pegs_own}
use Rattle.plan_jobs.specs.declared.job.Wanted.{Wanted}
use Rattle.plan_jobs.specs.declared.job.Wanted.TheVariants as wants
use Rattle.plan_jobs.specs.Collects.{IsCollected, is_wanted}
use Rattle.plan_jobs.specs.Jobs.{IsJob, asked_by, wants_plan}
use Rattle.plan_jobs.specs.Laws.{is_among, PlanAlike}
use Rattle.plan_jobs.proofs.Alike.{all_in_list}
use Rattle.plan_jobs.proofs.CollectedLaws.{collected_rows, collected_plans}
use Rattle.plan_jobs.proofs.Collecting.{is_job}
use Rattle.plan_jobs.proofs.Gathering.{asked_reached, parent_reached, is_in, in_is}
use Rattle.query_rows.specs.Rows.{value_by, meets_with}
use Rattle.query_rows.proofs.Values.{value_is_from_cell, meets_from_cell}
use Rattle.session_rules.specs.Costs.{part_costs, no_costs, unplanned_shortages, lines_of_costs}
use Rattle.session_rules.specs.Answers.{lists_of, plan_lines, level_line, peg_line, share_line, promise_line, query_reply}
use Rattle.plan_answer.specs.Asks.{Question, ShowsCell, TellsLevel, TellsPlan, Pegs, Traces, Promises, TellsCosts, Selects}
use Rattle.plan_answer.specs.Planned.{wants_of}
use Rattle.plan_answer.specs.Replies.{reply_of}
use Rattle.plan_answer.specs.Laws.{CollectedIsEnough}
use Rattle.plan_answer.proofs.CollectedParts.{parts_same}
use Rattle.plan_answer.proofs.CollectedShares.{trace_same}

map_listed : {A : Type 0} (f g : Name → A) (ns : List Name) → ((n : Name) → IsIn n ns → f n ≡ g n) → map f ns ≡ map g ns
map_listed f g [] h = refl
map_listed f g (n ∷ ns) h =
    let here = h n (inl refl) in
    let rest = map_listed f g ns (λ m i. h m (inr i)) in
    λ i. here i ∷ rest i

-- one part -----------------------------------------------------------------------------------------------------------------------

module _ (c d : Contents) (part : Name) (alike : PlanAlike c (part ∷ []) d (part ∷ [])) (horizon : cell_rows d names.Plan ≡ cell_rows c names.Plan) where
  reached : is_among (in_reach c (part ∷ [])) part ≡ true
  reached = in_is (in_reach c (part ∷ [])) part (asked_reached c (part ∷ []) part (inl refl))

  start : start_of d ≡ start_of c
  start = start_same d c horizon

  days : days_of d ≡ days_of c
  days = days_same d c horizon

  outside : (day : ℕ) → no_day d day ≡ no_day c day
  outside day = λ i. where_so (nat_lt day (start i) || nat_le (start i + days i) day) (refusals.NoDay day)

  level_reply : (point : ℕ) → reply_of point d (TellsLevel part) ≡ reply_of point c (TellsLevel part)
  level_reply point =
      let refusal : level_refusal d part ≡ level_refusal c part = alike.level_refusals part (in_is (part ∷ []) part (inl refl)) in
      let code : level d part ≡ level c part = alike.levels part reached in
      λ i. query_reply point (refusal i) (level_line part (code i) ∷ [])

  plan_reply : (point : ℕ) → reply_of point d (TellsPlan part) ≡ reply_of point c (TellsPlan part)
  plan_reply point =
      let known : plan d part ≡ plan c part = alike.plans part reached in
      λ i. query_reply point (alike.plan_refusals i) (plan_lines (start i) (days i) (lists_of (known i)))

  promise_reply : (point : ℕ) → reply_of point d (Promises part) ≡ reply_of point c (Promises part)
  promise_reply point =
      let known : plan d part ≡ plan c part = alike.plans part reached in
      λ i. query_reply point (alike.plan_refusals i) (map (promise_line (start i) (lists_of (known i))) (range_with_len 0 (days i)))

  trace_reply : ((t : ℕ) → trace d part t ≡ trace c part t) → (point day : ℕ) → reply_of point d (Traces part day) ≡ reply_of point c (Traces part day)
  trace_reply same point day =
      let lines : map share_line (trace d part (day - start_of d)) ≡ map share_line (trace c part (day - start_of c)) =
      ap (λ t. map share_line (trace d part (day - t))) start ∙ ap (map share_line) (same (day - start_of c)) in
      λ i. query_reply point (first_of (alike.plan_refusals i ∷ outside day i ∷ [])) (lines i)

  module _ (rows : cell_rows d (names.Part part) ≡ cell_rows c (names.Part part)) where
    lists : map (λ p. released (plan d p)) (parents d part) ≡ map (λ p. released (plan c p)) (parents c part)
    lists =
        ap (λ bills. map (λ p. released (plan d p)) (map (λ bill. bill.parent) bills)) (bills_same d c part rows)
        ∙ map_listed (λ p. released (plan d p)) (λ p. released (plan c p)) (parents c part)
        (λ p i. ap released (alike.plans p (in_is (in_reach c (part ∷ [])) p (parent_reached c (part ∷ []) part p (asked_reached c (part ∷ []) part (inl refl)) i))))

    same_pegs : (t : ℕ) → pegs d part t ≡ pegs c part t
    same_pegs t = sym (pegs_own (plan d) d part t) ∙ (λ i. pegs_by (rows i) (start i) t (lists i)) ∙ pegs_own (plan c) c part t

    peg_reply : (point day : ℕ) → reply_of point d (Pegs part day) ≡ reply_of point c (Pegs part day)
    peg_reply point day =
        let lines : map peg_line (pegs d part (day - start_of d)) ≡ map peg_line (pegs c part (day - start_of c)) =
        ap (λ t. map peg_line (pegs d part (day - t))) start ∙ ap (map peg_line) (same_pegs (day - start_of c)) in
        λ i. query_reply point (first_of (alike.plan_refusals i ∷ outside day i ∷ [])) (lines i)

    cost_reply : (point : ℕ) → reply_of point d (TellsCosts part) ≡ reply_of point c (TellsCosts part)
    cost_reply point =
        let known : plan d part ≡ plan c part = alike.plans part reached in
        let own : record_at d (keys.Part part) ≡ record_at c (keys.Part part) = record_same d c (keys.Part part) rows in
        let stock : record_at d (keys.Stock part) ≡ record_at c (keys.Stock part) = record_same d c (keys.Stock part) rows in
        λ i. query_reply point (first_of (alike.plan_refusals i ∷ no_costs part (part_costs (own i)) ∷ []))
        (lines_of_costs (start i) (part_costs (own i)) (unplanned_shortages (stock_in (stock i)) (safety_in (own i)) (lists_of (known i))) (lists_of (known i)).planned)

-- all parts ----------------------------------------------------------------------------------------------------------------------

module _ (c d : Contents) (same : (name : CellName) → cell_rows d name ≡ cell_rows c name) (parts : parts_of d ≡ parts_of c) where
  agree : (n : Name) → true ≡ true → Agree d c n × (list_all (λ m. true) (parents d n) ≡ true)
  agree n e = (record { plan_cell = same names.Plan; part_cell = same (names.Part n); calendar_cell = λ k is. same (names.Cal k) }, all_in_list (λ m. true) (parents d n) (λ m i. refl))

  plans : (n : Name) → plan d n ≡ plan c n
  plans n = (plan_is_local d c (λ m. true) agree n refl).0

  values : (n : Name) (column : Column) → column_value (plan d) d n column ≡ column_value (plan c) c n column
  values n column =
      sym (value_is_from_cell (plan d) d n column) ∙ (λ i. value_by (same (names.Part n) i) (plans n i) n column) ∙ value_is_from_cell (plan c) c n column

  chosen : (cond : Option CondTree) (n : Name) → is_selected (plan d) d cond n ≡ is_selected (plan c) c cond n
  chosen None n = refl
  chosen (Some a) n =
      sym (meets_from_cell (plan d) d n a) ∙ (λ i. meets_with (λ column. value_by (same (names.Part n) i) (plans n i) n column) n a) ∙ meets_from_cell (plan c) c n a

  lines : (query : QueryTree) → select_lines d query ≡ select_lines c query
  lines query = λ i. map select_line (map (λ n. (n, map (λ column. values n column i) query.columns)) (filter (λ n. chosen query.cond n i) (parts i)))

  select_reply : (point : ℕ) (query : QueryTree) → plan_refusal d (parts_of d) ≡ plan_refusal c (parts_of c) → reply_of point d (Selects query) ≡ reply_of point c (Selects query)
  select_reply point query refusal = λ i. query_reply point (cond (asks_for_plan query) (refusal i) None) (lines query i)

-- any question -------------------------------------------------------------------------------------------------------------------

module _ (c : Contents) (ordered : is_ordered c ≡ true) (cells : Cells) where
  rows_are : (wanted : Wanted) → IsCollected c wanted cells → (name : CellName) → is_wanted c wanted name ≡ true → cell_rows (records cells) name ≡ cell_rows c name
  rows_are wanted k = collected_rows k.store k.ids wanted cells c k.whole k.ordered k.meant k.from

  alike : (wanted : Wanted) → IsCollected c wanted cells → wants_plan wanted ≡ true → PlanAlike c (asked_by c wanted) (records cells) (asked_by (records cells) wanted)
  alike wanted k = collected_plans k.store k.ids wanted cells c k.whole k.ordered k.meant k.from

  job_of : (wanted : Wanted) → IsCollected c wanted cells → IsJob wanted cells
  job_of wanted k = subst (IsJob wanted) (sym k.from) (is_job k.store k.ids k.whole k.ordered wanted)

  of_part : (part : Name) → IsCollected c (wants.Part part) cells → cell_rows (records cells) (names.Part part) ≡ cell_rows c (names.Part part)
  of_part part k = rows_are (wants.Part part) k (names.Part part) (in_is (in_reach c (part ∷ [])) part (asked_reached c (part ∷ []) part (inl refl)))

  -- the ancestors of a part in reach are in reach
  all_above : (part n : Name) → is_among (in_reach c (part ∷ [])) n ≡ true → list_all (λ m. is_among (in_reach c (part ∷ [])) m) (parents c n) ≡ true
  all_above part n e =
      all_in_list (λ m. is_among (in_reach c (part ∷ [])) m) (parents c n) (λ p i. in_is (in_reach c (part ∷ [])) p (parent_reached c (part ∷ []) n p (is_in (in_reach c (part ∷ [])) n e) i))

  traced : (part : Name) → IsCollected c (wants.Part part) cells → (t : ℕ) → trace (records cells) part t ≡ trace c part t
  traced part k =
      let job = job_of (wants.Part part) k in
      trace_same c cells ordered job.ascending job.own (λ m. is_among (in_reach c (part ∷ [])) m) (λ n e. rows_are (wants.Part part) k (names.Part n) e)
      (rows_are (wants.Part part) k names.Plan refl) (alike (wants.Part part) k refl).plans (all_above part) part (in_is (in_reach c (part ∷ [])) part (asked_reached c (part ∷ []) part (inl refl)))

  pub answered_alike : (question : Question) (point : ℕ) → IsCollected c (wants_of question) cells → reply_of point (records cells) question ≡ reply_of point c question
  answered_alike (ShowsCell cell) point k = ap (λ rows. replies.Rows point (map (λ row. row_text row.0 row.1) rows)) (rows_are (wants.Cell cell) k cell (same_cell cell))
  answered_alike (TellsLevel part) point k = level_reply c (records cells) part (alike (wants.Part part) k refl) (rows_are (wants.Part part) k names.Plan refl) point
  answered_alike (TellsPlan part) point k = plan_reply c (records cells) part (alike (wants.Part part) k refl) (rows_are (wants.Part part) k names.Plan refl) point
  answered_alike (Pegs part day) point k = peg_reply c (records cells) part (alike (wants.Part part) k refl) (rows_are (wants.Part part) k names.Plan refl) (of_part part k) point day
  answered_alike (Traces part day) point k = trace_reply c (records cells) part (alike (wants.Part part) k refl) (rows_are (wants.Part part) k names.Plan refl) (traced part k) point day
  answered_alike (Promises part) point k = promise_reply c (records cells) part (alike (wants.Part part) k refl) (rows_are (wants.Part part) k names.Plan refl) point
  answered_alike (TellsCosts part) point k = cost_reply c (records cells) part (alike (wants.Part part) k refl) (rows_are (wants.Part part) k names.Plan refl) (of_part part k) point
  answered_alike (Selects query) point k =
      let same : (name : CellName) → cell_rows (records cells) name ≡ cell_rows c name = λ name. rows_are wants.All k name refl in
      let job = job_of wants.All k in
      select_reply c (records cells) same (parts_same c cells ordered same job.ascending job.own) point query (alike wants.All k refl).plan_refusals

pub collected_is_enough : CollectedIsEnough
collected_is_enough c wanted cells question point ordered k wants = answered_alike c ordered cells question point (subst (λ w. IsCollected c w cells) wants k)
