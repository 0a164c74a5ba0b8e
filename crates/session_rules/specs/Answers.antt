-- What a command is answered at the state after a history of changes: plain records, folded from the history and planned in full.
use Rattle.std.specs.Prelude.{ℕ, ◌+◌, ◌-◌, Bool, nat_lt, ◌==◌, List, [], ◌∷◌, length, map, filter, slice_index, Option, Some, None, unwrap_or, if◌then◌else◌, codes, decimal}
use Rattle.std.specs.List.{range_with_len}
use Rattle.std.specs.Result.{result_ok}
use Rattle.plan_schema.specs.declared.name.Name.{Name}
use Rattle.plan_schema.specs.declared.refusal.Refusal.{Refusal}
use Rattle.plan_schema.specs.declared.change.Change.{Change}
use Rattle.plan_schema.specs.declared.change.Entry.{Entry}
use Rattle.plan_schema.specs.Day.{day_text}
use Rattle.plan_schema.specs.declared.key.Key.TheVariants as keys
use Rattle.plan_schema.specs.Contents.{Contents, record_at, cell_rows}
use Rattle.plan_schema.specs.Refusals.{first_of}
use Rattle.row_text.specs.Spelling.{words_text, row_text, calendar_text}
use Rattle.query_language.specs.Trees.{QueryTree}
use Rattle.query_language.specs.Growing.{query_of}
use Rattle.query_rules.specs.Lines.{select_lines}
use Rattle.query_rules.specs.Queries.{query_refusal, safety_in}
use Rattle.planning_rules.specs.Bills.{level}
use Rattle.planning_rules.specs.Days.{start_of, days_of}
use Rattle.planning_rules.specs.Netting.{Lists}
use Rattle.planning_rules.specs.Plan.{Known, Planned, plan, stock_in}
use Rattle.planning_rules.specs.Refused.{plan_refusal, level_refusal}
use Rattle.planning_rules.specs.Pegs.{Peg, FromDemand, FromParent, pegs, no_day}
use Rattle.planning_rules.specs.Promise.{promise_on}
use Rattle.planning_rules.specs.Trace.{End, AtDemand, Surplus, trace}
use Rattle.scenario_rules.specs.World.{World, Scenario, contents_in, may_use}
use Rattle.scenario_rules.specs.Steps.{world_after}
use Rattle.scenario_rules.specs.Refused.{access_refusal, refused}
use Rattle.command_words.specs.declared.command.Command.{Command}
use Rattle.command_words.specs.declared.command.Command.TheVariants as commands
use Rattle.command_words.specs.declared.reply.Reply.{Reply}
use Rattle.command_words.specs.declared.reply.Reply.TheVariants as replies
use Rattle.session_rules.specs.Costs.{part_costs, no_costs, unplanned_shortages, lines_of_costs}

-- lines of replies -------------------------------------------------------------------------------------------------------

-- the lists of a planned part
abbrev pub lists_of : Option Known → Lists
lists_of (Some (Planned lists)) = lists
lists_of _ = record { gross = []; sched = []; planned = []; balance = []; release = []; late = 0 }

-- the late sum stands on the first day
abbrev pub late_on : Lists → ℕ → ℕ
late_on lists day = if day == 0 then lists.late else 0

-- the line of a day with its date: gross requirements, scheduled receipts, planned order receipts, projected balance, planned order
-- releases, and what is late
abbrev pub plan_line : ℕ → Lists → ℕ → List ℕ
plan_line start lists day =
    words_text (
    day_text (start + day) ∷ decimal (slice_index lists.gross day) ∷ decimal (slice_index lists.sched day) ∷ decimal (slice_index lists.planned day)
    ∷ decimal (slice_index lists.balance day) ∷ decimal (slice_index lists.release day) ∷ decimal (late_on lists day) ∷ [])

-- whether something is asked for, received, planned or released on a day
abbrev pub is_eventful : Lists → ℕ → Bool
is_eventful lists day = nat_lt 0 (slice_index lists.gross day + slice_index lists.sched day + slice_index lists.planned day + slice_index lists.release day)

-- a plan has a line for each eventful day
abbrev pub plan_lines : ℕ → ℕ → Lists → List (List ℕ)
plan_lines start days lists = map (plan_line start lists) (filter (is_eventful lists) (range_with_len 0 days))

abbrev pub peg_line : Peg → List ℕ
peg_line (FromDemand order qty) = words_text (codes "DEMAND" ∷ order ∷ decimal qty ∷ [])
peg_line (FromParent parent qty) = words_text (codes "BILL" ∷ parent ∷ decimal qty ∷ [])

-- where units of a planned receipt end, at an independent demand or as surplus of a part, and how many
abbrev pub share_line : (End × ℕ) → List ℕ
share_line (AtDemand part order, qty) = words_text (codes "DEMAND" ∷ part ∷ order ∷ decimal qty ∷ [])
share_line (Surplus part, qty) = words_text (codes "SURPLUS" ∷ part ∷ decimal qty ∷ [])

-- what can be promised on a day, with its date
abbrev pub promise_line : ℕ → Lists → ℕ → List ℕ
promise_line start lists day = words_text (day_text (start + day) ∷ decimal (promise_on lists day) ∷ [])

-- a scenario: its name, its parent and its owner, who may use it, and how many own changes it has
abbrev pub tree_line : (Name × Scenario) → List ℕ
tree_line (name, x) =
    words_text (name ∷ calendar_text x.parent ∷ calendar_text x.owner ∷ (if x.private then codes "private" else codes "shared") ∷ decimal (length x.own) ∷ [])

abbrev pub level_line : Name → Option ℕ → List ℕ
level_line name code = words_text (name ∷ decimal (unwrap_or code 0) ∷ [])

-- why a part has no costs to tell, and the lines of what its planned orders cost
abbrev pub costs_refusal : Contents → Name → Option Refusal
costs_refusal c part = no_costs part (part_costs (record_at c (keys.Part part)))

abbrev pub costs_lines : Contents → Name → List (List ℕ)
costs_lines c part =
    let lists = lists_of (plan c part) in
    let stock = stock_in (record_at c (keys.Stock part)) in
    let short = unplanned_shortages stock (safety_in (record_at c (keys.Part part))) lists in
    lines_of_costs (start_of c) (part_costs (record_at c (keys.Part part))) short lists.planned

-- answers ----------------------------------------------------------------------------------------------------------------

-- a query at a point: the first refusal that applies, or its lines
abbrev pub query_reply : ℕ → Option Refusal → List (List ℕ) → Reply
query_reply point None lines = replies.Rows point lines
query_reply point (Some refusal) lines = replies.No point refusal

-- a change that is refused is answered so; one that isn't has no answer at the state before it
abbrev pub change_reply : ℕ → Option Refusal → Option Reply
change_reply point None = None
change_reply point (Some refusal) = Some (replies.No point refusal)

abbrev pub change_answer : Contents → List Entry → Name → Change → Option Reply
change_answer base history user change = change_reply (length history) (refused base history user change)

-- the scenarios that the user may use, by name
abbrev pub trees : World → Name → List (List ℕ)
trees world user = map tree_line (filter (λ e. may_use world user e.0) world)

module _ (world : World) (point : ℕ) (user scenario : Name) where
  -- a query of a scenario's contents is refused where the user has no access, before all that its own rules say
  abbrev pub query_answer : Option Refusal → List (List ℕ) → Option Reply
  query_answer refusal lines = Some (query_reply point (first_of (access_refusal world user scenario ∷ refusal ∷ [])) lines)

  abbrev pub plan_answer : Contents → Name → Option Reply
  plan_answer c part = query_answer (plan_refusal c (part ∷ [])) (plan_lines (start_of c) (days_of c) (lists_of (plan c part)))

  abbrev pub level_answer : Contents → Name → Option Reply
  level_answer c part = query_answer (level_refusal c part) (level_line part (level c part) ∷ [])

  abbrev pub peg_answer : Contents → Name → ℕ → Option Reply
  peg_answer c part day = query_answer (first_of (plan_refusal c (part ∷ []) ∷ no_day c day ∷ [])) (map peg_line (pegs c part (day - start_of c)))

  abbrev pub trace_answer : Contents → Name → ℕ → Option Reply
  trace_answer c part day = query_answer (first_of (plan_refusal c (part ∷ []) ∷ no_day c day ∷ [])) (map share_line (trace c part (day - start_of c)))

  abbrev pub promise_answer : Contents → Name → Option Reply
  promise_answer c part = query_answer (plan_refusal c (part ∷ [])) (map (promise_line (start_of c) (lists_of (plan c part))) (range_with_len 0 (days_of c)))

  abbrev pub cost_answer : Contents → Name → Option Reply
  cost_answer c part = query_answer (first_of (plan_refusal c (part ∷ []) ∷ costs_refusal c part ∷ [])) (costs_lines c part)

  -- a text that is no query is answered nothing
  abbrev pub select_answer : Contents → Option QueryTree → Option Reply
  select_answer c None = None
  select_answer c (Some query) = query_answer (query_refusal c query) (select_lines c query)

-- what a command that is no change is answered after a history; the user is the one who speaks
unfoldable pub answer : Contents → List Entry → Name → Command → Option Reply
answer base history user (commands.Hello name) = Some (replies.Ok (length history))
answer base history user commands.Point = Some (replies.Ok (length history))
answer base history user commands.Reclaim = Some (replies.Ok (length history))
answer base history user commands.Quit = Some (replies.Ok (length history))
answer base history user commands.Tree = Some (replies.Rows (length history) (trees (world_after base history) user))
answer base history user (commands.Show scenario cell) =
    let world = world_after base history in
    query_answer world (length history) user scenario None (map (λ row. row_text row.0 row.1) (cell_rows (contents_in world scenario) cell))
answer base history user (commands.Level scenario part) =
    let world = world_after base history in
    level_answer world (length history) user scenario (contents_in world scenario) part
answer base history user (commands.Plan scenario part) =
    let world = world_after base history in
    plan_answer world (length history) user scenario (contents_in world scenario) part
answer base history user (commands.Peg scenario part day) =
    let world = world_after base history in
    peg_answer world (length history) user scenario (contents_in world scenario) part day
answer base history user (commands.Trace scenario part day) =
    let world = world_after base history in
    trace_answer world (length history) user scenario (contents_in world scenario) part day
answer base history user (commands.Atp scenario part) =
    let world = world_after base history in
    promise_answer world (length history) user scenario (contents_in world scenario) part
answer base history user (commands.Cost scenario part) =
    let world = world_after base history in
    cost_answer world (length history) user scenario (contents_in world scenario) part
answer base history user (commands.Select scenario text) =
    let world = world_after base history in
    select_answer world (length history) user scenario (contents_in world scenario) (result_ok (query_of text))
answer base history user _ = None
