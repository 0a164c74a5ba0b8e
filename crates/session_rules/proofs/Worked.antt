-- Worked examples, by computation: what commands are answered at a point of a history, and how an input is read as requests.
use Rattle.std.specs.Prelude.{◌≡◌, ℕ, List, [], ◌∷◌, ◌++◌, Some, None, take, codes}
use Rattle.std.proofs.Common.{refl}
use Rattle.std.specs.Fmt.{digits}
use Rattle.plan_schema.specs.declared.name.Name.{Name}
use Rattle.plan_schema.specs.declared.key.Key.TheVariants as keys
use Rattle.plan_schema.specs.declared.key.Record.TheVariants as records
use Rattle.plan_schema.specs.declared.key.Lot.TheVariants as lots
use Rattle.plan_schema.specs.declared.change.Change.{Change}
use Rattle.plan_schema.specs.declared.change.Change.TheVariants as changes
use Rattle.plan_schema.specs.declared.change.CellName.TheVariants as cells
use Rattle.plan_schema.specs.declared.change.Entry.{Entry}
use Rattle.plan_schema.specs.declared.refusal.Refusal.TheVariants as refusals
use Rattle.plan_schema.specs.Contents.{Contents}
use Rattle.plan_schema.specs.Day.{day_text, date_of}
use Rattle.row_text.specs.Spelling.{row_text, row_fields, key_fields, record_fields, lot_text, span_fields, calendar_text}
use Rattle.scenario_rules.specs.World.{root}
use Rattle.command_words.specs.declared.command.Command.TheVariants as commands
use Rattle.command_words.specs.declared.reply.Reply.{Reply}
use Rattle.command_words.specs.declared.reply.Reply.TheVariants as replies
use Rattle.command_words.specs.declared.reply.Bad.TheVariants as bads
use Rattle.command_words.specs.Words.{words_of}
use Rattle.command_words.specs.Commands.{command_of, command_of_verb, hello_of, point_of, put_of, del_of, plan_of, trace_of, quit_of, only_name, two_names}
use Rattle.command_words.specs.Verbs.{verb_of}
use Rattle.plan_schema.specs.declared.fault.Rule.TheVariants as rules
use Rattle.plan_schema.specs.Name.{is_name}
use Rattle.byte_lines.specs.Lines.{lines_of, text_of_line}
use Rattle.row_text.specs.Row.{name_at, name_in, text_at, end_at, row_of, row_of_table, bill_of, key_of, key_of_table}
use Rattle.row_text.specs.Row as row_words
use Rattle.session_rules.specs.Requests.{Makes, Asks, IsBad, Request, requests_of, requests_within, reading, guest}
use Rattle.session_rules.specs.Runs.{accepted_entries, accepted_points}
use Rattle.session_rules.specs.Costs.{lines_of_costs}
use Rattle.session_rules.specs.Answers.{answer, change_answer}

abbrev a : Name
a = codes "A"

abbrev b : Name
b = codes "B"

abbrev c : Name
c = codes "C"

abbrev x : Name
x = codes "X"

abbrev y : Name
y = codes "Y"

abbrev ann : Name
ann = codes "ann"

abbrev bob : Name
bob = codes "bob"

-- part A with 30 on hand and a demand of 50 on 2025-03-05, in a horizon of five days from 2025-03-03, which is day 9193
abbrev one_part : Contents
one_part =
    (keys.Plan, records.Plan 9193 5)
    ∷ (keys.Part a, records.Part 2 lots.Exact 0 None)
    ∷ (keys.Stock a, records.Stock 30)
    ∷ (keys.Demand a (codes "D1"), records.Demand 9195 50)
    ∷ []

-- the same with a component B of A, three to each, and C apart
abbrev three_parts : Contents
three_parts =
    (keys.Plan, records.Plan 9193 5)
    ∷ (keys.Part a, records.Part 2 lots.Exact 0 None)
    ∷ (keys.Part b, records.Part 1 lots.Exact 0 None)
    ∷ (keys.Part c, records.Part 0 lots.Exact 0 None)
    ∷ (keys.Stock a, records.Stock 30)
    ∷ (keys.Demand a (codes "D1"), records.Demand 9195 50)
    ∷ (keys.Bill a b, records.Bill 3 None)
    ∷ []

-- the same with B and C apart
abbrev apart : Contents
apart =
    (keys.Plan, records.Plan 9193 5)
    ∷ (keys.Part a, records.Part 2 lots.Exact 0 None)
    ∷ (keys.Part b, records.Part 0 lots.Exact 0 None)
    ∷ (keys.Part c, records.Part 0 lots.Exact 0 None)
    ∷ (keys.Stock a, records.Stock 30)
    ∷ (keys.Demand a (codes "D1"), records.Demand 9195 50)
    ∷ []

-- an entry of the first session
abbrev by : Name → ℕ → Change → Entry
by user line change = record { session = 1; line = line; user = user; change = change }

-- the two lines of A's plan in the first base
abbrev lines_of_a : List (List ℕ)
lines_of_a = codes "2025-03-03 0 0 0 30 20 0" ∷ codes "2025-03-05 50 0 20 0 0 0" ∷ []

-- a planner branches, changes the branch and the root, updates and commits: every scenario then shows the same plan ----------------

abbrev work_of_ann : List Entry
work_of_ann =
    by ann 2 (changes.Branch root x)
    ∷ by ann 3 (changes.Put x (keys.Stock a) (records.Stock 40))
    ∷ by ann 4 (changes.Put root (keys.Stock b) (records.Stock 5))
    ∷ by ann 5 (changes.Update x)
    ∷ by ann 7 (changes.Commit x)
    ∷ []

before_the_work : answer three_parts [] guest (commands.Plan root a) ≡ Some (replies.Rows 0 lines_of_a)
unfolding answer day_text date_of digits
before_the_work = refl

the_branch_shows_the_root : answer three_parts (take 4 work_of_ann) ann (commands.Show x (cells.Part b))
    ≡ Some (replies.Rows 4 (codes "PART B 1 L4L 0 -" ∷ codes "STOCK B 5" ∷ codes "BILL A B 3" ∷ []))
unfolding answer row_text row_fields key_fields record_fields lot_text span_fields calendar_text digits
the_branch_shows_the_root = refl

the_root_is_planned_anew : answer three_parts work_of_ann ann (commands.Plan root b) ≡ Some (replies.Rows 5 (codes "2025-03-03 30 0 25 0 25 25" ∷ []))
unfolding answer day_text date_of digits
the_root_is_planned_anew = refl

and_so_is_the_branch : answer three_parts work_of_ann ann (commands.Plan x b) ≡ Some (replies.Rows 5 (codes "2025-03-03 30 0 25 0 25 25" ∷ []))
unfolding answer day_text date_of digits
and_so_is_the_branch = refl

the_tree_has_both : answer three_parts work_of_ann ann commands.Tree
    ≡ Some (replies.Rows 5 (codes "Baseline - - shared 0" ∷ codes "X Baseline ann private 0" ∷ []))
unfolding answer calendar_text digits
the_tree_has_both = refl

others_see_the_root_alone : answer three_parts work_of_ann bob commands.Tree ≡ Some (replies.Rows 5 (codes "Baseline - - shared 0" ∷ []))
unfolding answer calendar_text digits
others_see_the_root_alone = refl

and_are_denied_the_branch : answer three_parts work_of_ann bob (commands.Plan x b) ≡ Some (replies.No 5 (refusals.Denied x))
unfolding answer
and_are_denied_the_branch = refl

-- two planners change one stock: a commit over another's change conflicts until an update -------------------------------------------

abbrev both_restock : List Entry
both_restock =
    by guest 1 (changes.Branch root x)
    ∷ by guest 2 (changes.Put x (keys.Stock a) (records.Stock 40))
    ∷ by guest 3 (changes.Put root (keys.Stock a) (records.Stock 35))
    ∷ []

a_commit_conflicts : change_answer one_part both_restock guest (changes.Commit x) ≡ Some (replies.No 3 (refusals.Conflict (keys.Stock a)))
a_commit_conflicts = refl

abbrev after_an_update : List Entry
after_an_update = both_restock ++ by guest 5 (changes.Update x) ∷ []

then_it_has_no_refusal : change_answer one_part after_an_update guest (changes.Commit x) ≡ None
then_it_has_no_refusal = refl

the_root_has_what_was_committed : answer one_part (after_an_update ++ by guest 6 (changes.Commit x) ∷ []) guest (commands.Show root (cells.Part a))
    ≡ Some (replies.Rows 5 (codes "PART A 2 L4L 0 -" ∷ codes "STOCK A 40" ∷ codes "DEMAND A D1 2025-03-05 50" ∷ []))
unfolding answer row_text row_fields key_fields record_fields lot_text calendar_text digits day_text date_of
the_root_has_what_was_committed = refl

-- the root may be changed back in the meantime
nothing_was_changed : change_answer one_part (both_restock ++ by guest 4 (changes.Put root (keys.Stock a) (records.Stock 30)) ∷ []) guest (changes.Commit x) ≡ None
nothing_was_changed = refl

-- two bills that make a cycle only together -----------------------------------------------------------------------------------------

abbrev both_bill : List Entry
both_bill =
    by guest 1 (changes.Branch root x)
    ∷ by guest 2 (changes.Put x (keys.Bill a b) (records.Bill 1 None))
    ∷ by guest 3 (changes.Put root (keys.Bill b a) (records.Bill 1 None))
    ∷ by guest 4 (changes.Update x)
    ∷ []

the_branch_is_cyclic : answer apart both_bill guest (commands.Plan x a) ≡ Some (replies.No 4 (refusals.Cyclic a))
unfolding answer
the_branch_is_cyclic = refl

another_part_is_planned : answer apart both_bill guest (commands.Plan x c) ≡ Some (replies.Rows 4 [])
unfolding answer
another_part_is_planned = refl

the_root_is_planned : answer apart both_bill guest (commands.Plan root a) ≡ Some (replies.Rows 4 lines_of_a)
unfolding answer day_text date_of digits
the_root_is_planned = refl

-- owners, branches of branches and drops ----------------------------------------------------------------------------------------------

abbrev two_branches : List Entry
two_branches = by ann 2 (changes.Branch root x) ∷ by ann 3 (changes.Branch x y) ∷ []

a_parent_stays : change_answer one_part two_branches ann (changes.Drop x) ≡ Some (replies.No 2 (refusals.HasChildren x))
a_parent_stays = refl

the_root_stays : change_answer one_part two_branches ann (changes.Drop root) ≡ Some (replies.No 2 (refusals.Root root))
the_root_stays = refl

another_may_not_drop : change_answer one_part two_branches bob (changes.Drop y) ≡ Some (replies.No 2 (refusals.Denied y))
another_may_not_drop = refl

nor_ask : answer one_part two_branches bob (commands.Plan y a) ≡ Some (replies.No 2 (refusals.Denied y))
unfolding answer
nor_ask = refl

abbrev one_dropped : List Entry
one_dropped = two_branches ++ by ann 10 (changes.Drop y) ∷ []

it_is_gone : change_answer one_part one_dropped ann (changes.Drop y) ≡ Some (replies.No 3 (refusals.NoScenario y))
it_is_gone = refl

a_name_is_taken : change_answer one_part one_dropped ann (changes.Branch root x) ≡ Some (replies.No 3 (refusals.Taken x))
a_name_is_taken = refl

the_other_is_planned : answer one_part one_dropped ann (commands.Plan x a) ≡ Some (replies.Rows 3 lines_of_a)
unfolding answer day_text date_of digits
the_other_is_planned = refl

-- a shared scenario: every user asks and commits, and its owner alone drops it ---------------------------------------------------------

abbrev shared_by_ann : List Entry
shared_by_ann = by ann 2 (changes.Branch root x) ∷ by ann 3 (changes.Share x) ∷ []

another_asks : answer one_part shared_by_ann bob (commands.Plan x a) ≡ Some (replies.Rows 2 lines_of_a)
unfolding answer day_text date_of digits
another_asks = refl

but_may_not_drop : change_answer one_part shared_by_ann bob (changes.Drop x) ≡ Some (replies.No 2 (refusals.Denied x))
but_may_not_drop = refl

and_commits : change_answer one_part shared_by_ann bob (changes.Commit x) ≡ None
and_commits = refl

-- refusals of the records -------------------------------------------------------------------------------------------------------------

a_bill_of_no_part : answer one_part (by guest 1 (changes.Put root (keys.Bill (codes "Q") a) (records.Bill 1 None)) ∷ []) guest (commands.Plan root a)
    ≡ Some (replies.No 1 (refusals.MissingPart (codes "Q")))
unfolding answer
a_bill_of_no_part = refl

no_such_part : answer one_part [] guest (commands.Plan root (codes "Q")) ≡ Some (replies.No 0 (refusals.NoPart (codes "Q")))
unfolding answer
no_such_part = refl

no_such_scenario : answer one_part [] guest (commands.Plan x a) ≡ Some (replies.No 0 (refusals.NoScenario x))
unfolding answer
no_such_scenario = refl

-- requests: blank lines are counted, and the faults of the grammar are told -----------------------------------------------------------

an_input_is_read : requests_of (codes "PLAN Baseline A\r\n \n\nFOO\nPLAN Baseline\nPLAN x y")
    ≡ record { line = 1; wish = Asks (commands.Plan root a) }
    ∷ record { line = 4; wish = IsBad bads.Word }
    ∷ record { line = 5; wish = IsBad (bads.Field (record { field = 2; rule = rules.Shape })) }
    ∷ record { line = 6; wish = Asks (commands.Plan (codes "x") (codes "y")) }
    ∷ []
unfolding requests_within reading words_of command_of command_of_verb verb_of plan_of two_names lines_of text_of_line name_at text_at end_at name_in is_name
an_input_is_read = refl

-- a session changes the root and ends with QUIT; what stands behind is no request
changes_are_read : requests_of (codes "HELLO ann\nDEL Baseline DEMAND A D1\nPOINT\nQUIT\nPOINT\n")
    ≡ record { line = 1; wish = Asks (commands.Hello ann) }
    ∷ record { line = 2; wish = Makes (changes.Del root (keys.Demand a (codes "D1"))) }
    ∷ record { line = 3; wish = Asks commands.Point }
    ∷ record { line = 4; wish = Asks commands.Quit }
    ∷ []
unfolding requests_within reading words_of command_of command_of_verb verb_of hello_of only_name del_of point_of quit_of key_of key_of_table row_words.two_names lines_of text_of_line name_at text_at end_at name_in is_name
changes_are_read = refl

-- a bill is read as any other row, and what stands before the table is looked at first
bills_are_read : requests_of (codes "PUT Baseline BILL\nDEL - BILL A B\nDEL Baseline BILL A D1\nTRACE Baseline A\n")
    ≡ record { line = 1; wish = IsBad (bads.Field (record { field = 3; rule = rules.Shape })) }
    ∷ record { line = 2; wish = IsBad (bads.Field (record { field = 1; rule = rules.Shape })) }
    ∷ record { line = 3; wish = Makes (changes.Del root (keys.Bill a (codes "D1"))) }
    ∷ record { line = 4; wish = IsBad (bads.Field (record { field = 3; rule = rules.Shape })) }
    ∷ []
unfolding requests_within reading words_of command_of command_of_verb verb_of put_of del_of trace_of key_of key_of_table row_words.bill_key_of row_words.component_at row_words.two_names row_of row_of_table bill_of lines_of text_of_line name_at row_words.day_at text_at end_at name_in is_name
bills_are_read = refl

-- full pegging: what a planned receipt is for --------------------------------------------------------------------------------------------

the_planned_receipt_is_for_the_demand : answer three_parts [] guest (commands.Trace root a 9195) ≡ Some (replies.Rows 0 (codes "DEMAND A D1 20" ∷ []))
unfolding answer digits
the_planned_receipt_is_for_the_demand = refl

and_so_is_that_of_its_component : answer three_parts [] guest (commands.Trace root b 9193) ≡ Some (replies.Rows 0 (codes "DEMAND A D1 60" ∷ []))
unfolding answer digits
and_so_is_that_of_its_component = refl

nothing_is_received_on_another_day : answer three_parts [] guest (commands.Trace root a 9194) ≡ Some (replies.Rows 0 [])
unfolding answer
nothing_is_received_on_another_day = refl

a_day_past_the_horizon_is_refused : answer three_parts [] guest (commands.Trace root a 9198) ≡ Some (replies.No 0 (refusals.NoDay 9198))
unfolding answer
a_day_past_the_horizon_is_refused = refl

but_the_part_is_looked_at_first : answer three_parts [] guest (commands.Trace root (codes "Q") 9198) ≡ Some (replies.No 0 (refusals.NoPart (codes "Q")))
unfolding answer
but_the_part_is_looked_at_first = refl

-- A is ordered by fifteens, so ten are left over, and so is what they take of B
abbrev by_fifteens : List Entry
by_fifteens = by guest 1 (changes.Put root (keys.Part a) (records.Part 2 (lots.Fixed 15) 0 None)) ∷ []

what_is_left_over_is_surplus : answer three_parts by_fifteens guest (commands.Trace root a 9195)
    ≡ Some (replies.Rows 1 (codes "DEMAND A D1 20" ∷ codes "SURPLUS A 10" ∷ []))
unfolding answer digits
what_is_left_over_is_surplus = refl

and_so_is_what_it_takes : answer three_parts by_fifteens guest (commands.Trace root b 9193)
    ≡ Some (replies.Rows 1 (codes "DEMAND A D1 60" ∷ codes "SURPLUS A 30" ∷ []))
unfolding answer digits
and_so_is_what_it_takes = refl

-- entries and points of accepted changes -------------------------------------------------------------------------------------------------

abbrev two_asked : List Request
two_asked = record { line = 1; wish = Asks (commands.Hello ann) } ∷ record { line = 2; wish = Makes (changes.Drop x) } ∷ record { line = 5; wish = Makes (changes.Drop y) } ∷ []

abbrev two_answered : List Reply
two_answered = replies.Ok 0 ∷ replies.No 0 (refusals.NoScenario x) ∷ replies.Ok 1 ∷ []

the_accepted_one_is_entered : accepted_entries 3 guest two_asked two_answered ≡ record { session = 3; line = 5; user = ann; change = changes.Drop y } ∷ []
the_accepted_one_is_entered = refl

and_its_point_is_its_number : accepted_points two_asked two_answered ≡ 1 ∷ []
and_its_point_is_its_number = refl

-- costs ------------------------------------------------------------------------------------------------------------------------------

-- four days that need 10, 60, 15 and 40, where an order costs 100 and a unit that waits for a day 1: orders of 85 and 40 cost the least
costs_are_told : lines_of_costs 9193 (Some (100, 1)) (10 ∷ 70 ∷ 85 ∷ 125 ∷ []) (85 ∷ 0 ∷ 0 ∷ 40 ∷ [])
    ≡ codes "cost 290" ∷ codes "2025-03-03 10 85 290" ∷ codes "2025-03-04 60 0 195" ∷ codes "2025-03-05 15 0 140" ∷ codes "2025-03-06 40 40 100" ∷ []
unfolding day_text date_of digits
costs_are_told = refl
