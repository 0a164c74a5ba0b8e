-- Worked examples, by computation: what a planner sees who branches, changes, updates, commits, shares and drops scenarios.
use Rattle.std.specs.Prelude.{◌≡◌, ℕ, zero, suc, ◌+◌, List, [], ◌∷◌, ◌++◌, true, Some, None, take, map, codes}
use Rattle.std.specs.List.{range_with_len}
use Rattle.std.proofs.Common.{refl}
use Rattle.plan_schema.specs.declared.name.Name.{Name}
use Rattle.plan_schema.specs.declared.key.Key.TheVariants as keys
use Rattle.plan_schema.specs.declared.key.Record.TheVariants as records
use Rattle.plan_schema.specs.declared.key.Lot.TheVariants as lots
use Rattle.plan_schema.specs.declared.change.Change.{Change}
use Rattle.plan_schema.specs.declared.change.Change.TheVariants as changes
use Rattle.plan_schema.specs.declared.change.CellName.TheVariants as cells
use Rattle.plan_schema.specs.declared.change.Entry.{Entry}
use Rattle.plan_schema.specs.declared.refusal.Refusal.TheVariants as refusals
use Rattle.plan_schema.specs.declared.refusal.Room.TheVariants as rooms
use Rattle.plan_schema.specs.Name.{is_name}
use Rattle.plan_schema.specs.Contents.{Contents, cell_rows}
use Rattle.scenario_rules.specs.World.{root, root_with, contents_in}
use Rattle.scenario_rules.specs.Steps.{world_after}
use Rattle.scenario_rules.specs.Refused.{refused, access_refusal}
use Rattle.scenario_rules.specs.Journal.{AreSound, AreAccepted, IsLegal}

-- names, and the base that most examples begin with: part A with 30 on hand and a demand of 50 on 2025-03-05, in a horizon of five
-- days from 2025-03-03, which is day 9193
abbrev a : Name
a = codes "A"

abbrev b : Name
b = codes "B"

abbrev c : Name
c = codes "C"

abbrev x : Name
x = codes "X"

abbrev y : Name
y = codes "Y"

abbrev ann : Name
ann = codes "ann"

abbrev bob : Name
bob = codes "bob"

abbrev guest : Name
guest = codes "guest"

abbrev one_part : Contents
one_part =
    (keys.Plan, records.Plan 9193 5)
    ∷ (keys.Part a, records.Part 2 lots.Exact 0 None)
    ∷ (keys.Stock a, records.Stock 30)
    ∷ (keys.Demand a (codes "D1"), records.Demand 9195 50)
    ∷ []

-- an entry of the first session
abbrev by : Name → ℕ → Change → Entry
by user line change = record { session = 1; line = line; user = user; change = change }

-- a planner branches, changes the branch and the root, updates and commits -------------------------------------------------------

-- A with its component B, three to each, and C apart
abbrev three_parts : Contents
three_parts =
    (keys.Plan, records.Plan 9193 5)
    ∷ (keys.Part a, records.Part 2 lots.Exact 0 None)
    ∷ (keys.Part b, records.Part 1 lots.Exact 0 None)
    ∷ (keys.Part c, records.Part 0 lots.Exact 0 None)
    ∷ (keys.Stock a, records.Stock 30)
    ∷ (keys.Demand a (codes "D1"), records.Demand 9195 50)
    ∷ (keys.Bill a b, records.Bill 3 None)
    ∷ []

abbrev work_of_ann : List Entry
work_of_ann =
    by ann 2 (changes.Branch root x)
    ∷ by ann 3 (changes.Put x (keys.Stock a) (records.Stock 40))
    ∷ by ann 4 (changes.Put root (keys.Stock b) (records.Stock 5))
    ∷ by ann 5 (changes.Update x)
    ∷ by ann 7 (changes.Commit x)
    ∷ []

-- what both the root and X hold in the end
abbrev three_parts_restocked : Contents
three_parts_restocked =
    (keys.Plan, records.Plan 9193 5)
    ∷ (keys.Part a, records.Part 2 lots.Exact 0 None)
    ∷ (keys.Part b, records.Part 1 lots.Exact 0 None)
    ∷ (keys.Part c, records.Part 0 lots.Exact 0 None)
    ∷ (keys.Stock a, records.Stock 40)
    ∷ (keys.Stock b, records.Stock 5)
    ∷ (keys.Demand a (codes "D1"), records.Demand 9195 50)
    ∷ (keys.Bill a b, records.Bill 3 None)
    ∷ []

a_branch_is_private_and_empty : world_after three_parts (take 1 work_of_ann)
    ≡ (root, root_with three_parts) ∷ (x, record { parent = Some root; owner = Some ann; private = true; base = three_parts; own = [] }) ∷ []
a_branch_is_private_and_empty = refl

a_put_is_an_own_change : world_after three_parts (take 2 work_of_ann)
    ≡ (root, root_with three_parts)
    ∷ (x, record { parent = Some root; owner = Some ann; private = true; base = three_parts; own = (keys.Stock a, Some (records.Stock 40)) ∷ [] })
    ∷ []
a_put_is_an_own_change = refl

a_change_of_the_root_stays_hidden : cell_rows (contents_in (world_after three_parts (take 3 work_of_ann)) x) (cells.Part b)
    ≡ (keys.Part b, records.Part 1 lots.Exact 0 None) ∷ (keys.Bill a b, records.Bill 3 None) ∷ []
a_change_of_the_root_stays_hidden = refl

until_an_update : cell_rows (contents_in (world_after three_parts (take 4 work_of_ann)) x) (cells.Part b)
    ≡ (keys.Part b, records.Part 1 lots.Exact 0 None) ∷ (keys.Stock b, records.Stock 5) ∷ (keys.Bill a b, records.Bill 3 None) ∷ []
until_an_update = refl

a_commit_leaves_one_contents : world_after three_parts work_of_ann
    ≡ (root, root_with three_parts_restocked)
    ∷ (x, record { parent = Some root; owner = Some ann; private = true; base = three_parts_restocked; own = [] })
    ∷ []
a_commit_leaves_one_contents = refl

each_is_sound : AreSound work_of_ann
unfolding is_name
each_is_sound zero = refl
each_is_sound (suc zero) = refl
each_is_sound (suc (suc zero)) = refl
each_is_sound (suc (suc (suc zero))) = refl
each_is_sound (suc (suc (suc (suc zero)))) = refl
each_is_sound (suc (suc (suc (suc (suc k))))) = tt

each_is_accepted : AreAccepted three_parts work_of_ann
each_is_accepted zero = refl
each_is_accepted (suc zero) = refl
each_is_accepted (suc (suc zero)) = refl
each_is_accepted (suc (suc (suc zero))) = refl
each_is_accepted (suc (suc (suc (suc zero)))) = refl
each_is_accepted (suc (suc (suc (suc (suc k))))) = tt

the_work_is_legal : IsLegal three_parts work_of_ann
the_work_is_legal = record { sound = each_is_sound; accepted = each_is_accepted }

-- conflicts ------------------------------------------------------------------------------------------------------------------------

abbrev both_restock : List Entry
both_restock =
    by guest 1 (changes.Branch root x)
    ∷ by guest 2 (changes.Put x (keys.Stock a) (records.Stock 40))
    ∷ by guest 3 (changes.Put root (keys.Stock a) (records.Stock 35))
    ∷ []

a_commit_over_another_change_conflicts : refused one_part both_restock guest (changes.Commit x) ≡ Some (refusals.Conflict (keys.Stock a))
a_commit_over_another_change_conflicts = refl

abbrev seen : List Entry
seen = both_restock ++ by guest 5 (changes.Update x) ∷ []

not_after_an_update : refused one_part seen guest (changes.Commit x) ≡ None
not_after_an_update = refl

and_the_own_change_wins : cell_rows (contents_in (world_after one_part (seen ++ by guest 6 (changes.Commit x) ∷ [])) root) (cells.Part a)
    ≡ (keys.Part a, records.Part 2 lots.Exact 0 None) ∷ (keys.Stock a, records.Stock 40) ∷ (keys.Demand a (codes "D1"), records.Demand 9195 50) ∷ []
and_the_own_change_wins = refl

a_change_put_back_is_no_conflict : refused one_part (both_restock ++ by guest 4 (changes.Put root (keys.Stock a) (records.Stock 30)) ∷ []) guest (changes.Commit x) ≡ None
a_change_put_back_is_no_conflict = refl

-- an update lets bills of both sides meet, though they make a cycle ----------------------------------------------------------------

abbrev apart : Contents
apart =
    (keys.Plan, records.Plan 9193 5)
    ∷ (keys.Part a, records.Part 2 lots.Exact 0 None)
    ∷ (keys.Part b, records.Part 0 lots.Exact 0 None)
    ∷ (keys.Part c, records.Part 0 lots.Exact 0 None)
    ∷ (keys.Stock a, records.Stock 30)
    ∷ (keys.Demand a (codes "D1"), records.Demand 9195 50)
    ∷ []

abbrev bills_of_both : List Entry
bills_of_both =
    by guest 1 (changes.Branch root x)
    ∷ by guest 2 (changes.Put x (keys.Bill a b) (records.Bill 1 None))
    ∷ by guest 3 (changes.Put root (keys.Bill b a) (records.Bill 1 None))
    ∷ by guest 4 (changes.Update x)
    ∷ []

the_branch_has_both_bills : contents_in (world_after apart bills_of_both) x ≡ apart ++ (keys.Bill a b, records.Bill 1 None) ∷ (keys.Bill b a, records.Bill 1 None) ∷ []
the_branch_has_both_bills = refl

the_root_has_its_own_alone : contents_in (world_after apart bills_of_both) root ≡ apart ++ (keys.Bill b a, records.Bill 1 None) ∷ []
the_root_has_its_own_alone = refl

that_update_is_accepted : refused apart (take 3 bills_of_both) guest (changes.Update x) ≡ None
that_update_is_accepted = refl

-- what is dropped, and by whom -----------------------------------------------------------------------------------------------------

abbrev two_branches : List Entry
two_branches = by ann 2 (changes.Branch root x) ∷ by ann 3 (changes.Branch x y) ∷ []

a_parent_is_not_dropped : refused one_part two_branches ann (changes.Drop x) ≡ Some (refusals.HasChildren x)
a_parent_is_not_dropped = refl

the_root_is_not_dropped : refused one_part two_branches ann (changes.Drop root) ≡ Some (refusals.Root root)
the_root_is_not_dropped = refl

nobody_drops_anothers_scenario : refused one_part two_branches bob (changes.Drop y) ≡ Some (refusals.Denied y)
nobody_drops_anothers_scenario = refl

nor_asks_of_it : access_refusal (world_after one_part two_branches) bob y ≡ Some (refusals.Denied y)
nor_asks_of_it = refl

its_owner_drops_it : refused one_part two_branches ann (changes.Drop y) ≡ None
its_owner_drops_it = refl

abbrev one_dropped : List Entry
one_dropped = two_branches ++ by ann 10 (changes.Drop y) ∷ []

the_others_stay : world_after one_part one_dropped ≡ world_after one_part (take 1 two_branches)
the_others_stay = refl

once : refused one_part one_dropped ann (changes.Drop y) ≡ Some (refusals.NoScenario y)
once = refl

a_name_in_use_is_taken : refused one_part one_dropped ann (changes.Branch root x) ≡ Some (refusals.Taken x)
a_name_in_use_is_taken = refl

-- what is shared -------------------------------------------------------------------------------------------------------------------

abbrev shared : List Entry
shared = by ann 2 (changes.Branch root x) ∷ by ann 3 (changes.Share x) ∷ []

a_shared_scenario_is_open : access_refusal (world_after one_part shared) bob x ≡ None
a_shared_scenario_is_open = refl

but_dropped_by_its_owner_alone : refused one_part shared bob (changes.Drop x) ≡ Some (refusals.Denied x)
but_dropped_by_its_owner_alone = refl

and_committed_by_anyone : refused one_part shared bob (changes.Commit x) ≡ None
and_committed_by_anyone = refl

-- what is not there is not deleted -------------------------------------------------------------------------------------------------

nothing_to_delete : refused one_part [] guest (changes.Del root (keys.Stock b)) ≡ Some (refusals.NoRecord (keys.Stock b))
nothing_to_delete = refl

-- how deep and how many ------------------------------------------------------------------------------------------------------------

abbrev nth : ℕ → Name
nth k = 83 ∷ k ∷ []

-- S1 from the root, S2 from S1, on to S32 from S31
abbrev chain : List Entry
chain = by guest 1 (changes.Branch root (nth 1)) ∷ map (λ k. by guest 1 (changes.Branch (nth k) (nth (k + 1)))) (range_with_len 1 31)

the_chain_ends_at_thirty_two : refused one_part (take 31 chain) guest (changes.Branch (nth 31) (nth 32)) ≡ None
the_chain_ends_at_thirty_two = refl

one_more_is_too_deep : refused one_part chain guest (changes.Branch (nth 32) (nth 33)) ≡ Some (refusals.Depth (nth 33))
one_more_is_too_deep = refl

abbrev branches : ℕ → List Entry
branches n = map (λ k. by guest 1 (changes.Branch root (nth k))) (range_with_len 1 n)

the_last_branch_has_room : refused one_part (branches 254) guest (changes.Branch root (nth 255)) ≡ None
the_last_branch_has_room = refl

one_more_has_none : refused one_part (branches 255) guest (changes.Branch root (nth 256)) ≡ Some (refusals.Full rooms.Scenarios)
one_more_has_none = refl
