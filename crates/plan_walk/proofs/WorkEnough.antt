-- The rounds that the definition of a query's work looks at are enough.
use Rattle.std.proofs.Common.{◌≡◌, ℕ, zero, suc, ◌<◌, ◌≤◌, ◌+◌, List, [], ◌∷◌, length, map, refl, sym, ◌∙◌, ap, subst, arith, Bool, true, false, cond, ◌&&◌}
use Rattle.std.proofs.lemmas.Bool.{and_parts}
use Rattle.std.specs.Prelude.{Option, Some, None, is_none, is_some, fold, option_map}
use Rattle.std.specs.List.{AllByRecursion, list_all, filter_map, cons_option}
use Rattle.plan_schema.specs.declared.name.Name.{Name}
use Rattle.plan_schema.specs.declared.key.Key.TheVariants as keys
use Rattle.plan_schema.specs.declared.key.Record.{Record}
use Rattle.plan_schema.specs.declared.key.Record.TheVariants as rows
use Rattle.plan_schema.specs.declared.change.CellName.TheVariants as names
use Rattle.plan_schema.specs.Contents.{Contents, record_at}
use Rattle.plan_schema.specs.Sound.{is_sound_key, record_has_names, is_within, is_sound_row}
use Rattle.plan_schema.proofs.Orders.{sound_at}
use Rattle.planning_rules.specs.Bills.{parents}
use Rattle.planning_rules.specs.Netting.{Input}
use Rattle.planning_rules.specs.Plan.{Known, has_outcome, has_calendar, input_of, known_from}
use Rattle.planning_rules.proofs.Membership.{IsIn, all_in, all_map, all_at, kept_in}
use Rattle.walk_rules.specs.Cells.{Cells, records}
use Rattle.walk_rules.specs.Steps.{gross_from, step_from, calendar_of}
use Rattle.walk_rules.specs.Walks.{Parts, State, names_of, known_at, releases_of, is_ready, frontier, is_empty, unknown, take_in, result_of, results_of, net_all, with_hits, work_within}
use Rattle.plan_jobs.specs.declared.job.Wanted.{Wanted}
use Rattle.plan_jobs.specs.Jobs.{IsJob, asked_by}
use Rattle.walk_names.proofs.JobCells.{held_cell, record_of}
use Rattle.plan_walk.specs.Walk.{CanStep, left}
use Rattle.plan_walk.specs.Rounds.{WorkIsEnough}
use Rattle.plan_walk.proofs.Beginning.{all_step, names_unknown}
use Rattle.plan_walk.proofs.LevelRounds.{names_hits, names_results}
use Rattle.plan_walk.proofs.Rounds.{with_result, left_with, hits_most, results_less}

-- a part that can be netted comes to something ------------------------------------------------------------------------------------

by_calendar : (b : Bool) (x : Input) → b ≡ true → is_some (known_from (cond b (Some x) None)) ≡ true
by_calendar true x h = refl
by_calendar false x h = absurd (let never : ⊥ = cc in never)

steps : (c : Contents) (n : Name) (gross : List ℕ) (o : Option Record) → is_some o ≡ true → ((r : Record) → o ≡ Some r → is_within (keys.Part n) r ≡ true) → has_calendar c (calendar_of o) ≡ true → is_some (known_from (input_of c n gross o)) ≡ true
steps c n gross (Some (rows.Part lead lot safety calendar)) some within cal = by_calendar (has_calendar c calendar) _ cal
steps c n gross (Some r) some within cal = let never : false ≡ true = within r refl in absurd (let wrong : ⊥ = cc in wrong)
steps c n gross None some within cal = absurd (let never : ⊥ = cc in never)

last_of : (a b d : Bool) → (a && b && d) ≡ true → d ≡ true
last_of true true d h = h
last_of true false d h = cc
last_of false b d h = cc

module _ (wanted : Wanted) (cells : Cells) (job : IsJob wanted cells) where
  comes : (n : Name) (lists : List (List ℕ)) → CanStep cells n → is_some (step_from (records cells) n lists) ≡ true
  comes n lists can =
      let c = records cells in
      let held = held_cell wanted cells (names.Part n) can.cells_held.part_id can.cells_held.part job can.cells_held.part_held in
      steps c n (gross_from c n lists) (record_at c (keys.Part n)) can.part
      (λ r is.
      let sound : is_sound_row (keys.Part n) r ≡ true = sound_at can.cells_held.part (keys.Part n) r held.sound (record_of cells (keys.Part n) can.cells_held.part held ∙ is) in
      last_of (is_sound_key (keys.Part n)) (record_has_names r) (is_within (keys.Part n) r) sound)
      can.calendar

  -- so the results of a frontier are those of its parts
  named : (parts : Parts) (ns : List Name) → AllByRecursion (CanStep cells) ns → map (λ (r : Name × Known). r.0) (filter_map (result_of cells parts) ns) ≡ ns
  named parts [] h = refl
  named parts (n ∷ ns) h = by_step (step_from (records cells) n (releases_of (records cells) parts n)) (comes n (releases_of (records cells) parts n) h.0) (named parts ns h.1)
    where
      by_step : (o : Option Known) → is_some o ≡ true → map (λ (r : Name × Known). r.0) (filter_map (result_of cells parts) ns) ≡ ns
          → map (λ (r : Name × Known). r.0) (cons_option (option_map (λ known. (n, known)) o) (filter_map (result_of cells parts) ns)) ≡ n ∷ ns
      by_step None some rest = absurd (let never : ⊥ = cc in never)
      by_step (Some known) some rest = ap (λ ms. n ∷ ms) rest

  -- a round of the work -----------------------------------------------------------------------------------------------------------

  taken : (most : ℕ) (rs : List (Name × Known)) (s : State) → (fold (take_in cells most) s rs).parts ≡ fold with_result s.parts rs
  taken most [] s = refl
  taken most (r ∷ rs) s = taken most rs (take_in cells most s r)

  netted_less : (most : ℕ) (s : State) → AllByRecursion (CanStep cells) (names_of s.parts) → is_empty (frontier (records cells) s.parts) ≡ false → left (net_all cells most s).parts < left s.parts
  netted_less most s can some =
      let c = records cells in
      let front = frontier c s.parts in
      let kept : (n : Name) → IsIn n front → IsIn n (names_of s.parts) × (is_ready c s.parts n ≡ true) = λ n i. kept_in (is_ready c s.parts) n (names_of s.parts) i in
      let can_front : AllByRecursion (CanStep cells) front = all_map (λ n. IsIn n front) (CanStep cells) (λ n i. all_at (CanStep cells) n (names_of s.parts) (kept n i).0 can) front (all_in front) in
      let each : (n : Name) → IsIn n front → IsIn n (names_of s.parts) × (is_none (known_at s.parts n) ≡ true) = λ n i.
      ((kept n i).0, (and_parts (is_none (known_at s.parts n)) (list_all (λ p. has_outcome (known_at s.parts p)) (parents c n)) (kept n i).1).0) in
      subst (λ (ps : Parts). left ps < left s.parts) (sym (taken most (results_of cells s.parts) s))
      (results_less (results_of cells s.parts) s.parts front (named s.parts front can_front) (λ none. let never : true ≡ false = sym (ap is_empty none) ∙ some in let wrong : ⊥ = cc in wrong) each)

  names_netted : (most : ℕ) (s : State) → names_of (net_all cells most s).parts ≡ names_of s.parts
  names_netted most s = ap names_of (taken most (results_of cells s.parts) s) ∙ names_results (results_of cells s.parts) s.parts

  emptied : (ns : List Name) → is_empty ns ≡ true → ns ≡ []
  emptied [] h = refl
  emptied (n ∷ ns) h = absurd (let never : ⊥ = cc in never)

  enough : (rounds most : ℕ) (s : State) → AllByRecursion (CanStep cells) (names_of s.parts) → left s.parts < rounds → frontier (records cells) (work_within rounds cells most s).parts ≡ []
  enough zero most s can less = absurd (omega arith)
  enough (suc rounds) most s can less = by_front (enough rounds most) (is_empty (frontier (records cells) found.parts)) refl
    where
      found : State
      found = with_hits cells s

      can_found : AllByRecursion (CanStep cells) (names_of found.parts)
      can_found = subst (AllByRecursion (CanStep cells)) (sym (names_hits cells (names_of s.parts) s)) can

      by_front : ((t : State) → AllByRecursion (CanStep cells) (names_of t.parts) → left t.parts < rounds → frontier (records cells) (work_within rounds cells most t).parts ≡ [])
          → (b : Bool) → is_empty (frontier (records cells) found.parts) ≡ b → frontier (records cells) (cond b found (work_within rounds cells most (net_all cells most found))).parts ≡ []
      by_front again true e = emptied (frontier (records cells) found.parts) e
      by_front again false e =
          let fewer = netted_less most found can_found e in
          let hits : left found.parts ≤ left s.parts = hits_most cells (names_of s.parts) s in
          let under : left (net_all cells most found).parts < rounds = omega arith in
          again (net_all cells most found) (subst (AllByRecursion (CanStep cells)) (sym (names_netted most found)) can_found) under

left_unknown : (ns : List Name) → left (unknown ns) ≡ length ns
left_unknown [] = refl
left_unknown (n ∷ ns) =
    let rest = left_unknown ns in
    let here : left (unknown (n ∷ ns)) ≡ 1 + left (unknown ns) = left_with (record { name = n; known = None }) (unknown ns) in
    let all : length (n ∷ ns) ≡ suc (length ns) = refl in
    omega arith

pub work_is_enough : WorkIsEnough
work_is_enough wanted cells names most pairs netted reused job wants walk =
    let can : AllByRecursion (CanStep cells) names = all_step wanted cells job wants (asked_by (records cells) wanted) names walk in
    let all = left_unknown names in
    let under : left (unknown names) < suc (length names) = omega arith in
    enough wanted cells job (suc (length names)) most (record { parts = unknown names; pairs = pairs; netted = netted; reused = reused })
    (subst (AllByRecursion (CanStep cells)) (sym (names_unknown names)) can) under
