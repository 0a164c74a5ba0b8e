-- The base that is made: a plan of 60 days, a calendar, and for each part its record, its stock, and a demand or its bills. Numbers are
-- drawn in the order of the text; `state` is the state before the first draw of what is defined.
use Rattle.std.specs.Prelude.{ℕ, zero, suc, ◌+◌, ◌-◌, ◌/◌, ◌%◌, Bool, ◌==◌, nat_le, List, [], ◌∷◌, ◌++◌, if◌then◌else◌, codes, decimal}
use Rattle.std.specs.List.{flat_map}
use Rattle.plan_schema.specs.Day.{day_text}
use Rattle.command_words.specs.Replies.{ended}
use Rattle.plan_make.specs.declared.base.Bill.{Bill}
use Rattle.plan_make.specs.Numbers.{after, draw}

-- lines ----------------------------------------------------------------------------------------------------------------------

-- fields behind others, each behind a comma
abbrev pub behind_commas : List (List ℕ) → List ℕ
behind_commas fields = flat_map (λ field. 44 ∷ field) fields

-- the fields of a row, parted by commas
abbrev pub row_line : List (List ℕ) → List ℕ
row_line [] = []
row_line (field ∷ fields) = field ++ behind_commas fields

-- the digit of a number at a place: 1, 10, 100 or so on
abbrev pub digit_at : ℕ → ℕ → ℕ
digit_at place number = 48 + number / place % 10

-- the name of a part: `P` and its number in five digits
unfoldable pub part_name : ℕ → List ℕ
part_name number = 80 ∷ digit_at 10000 number ∷ digit_at 1000 number ∷ digit_at 100 number ∷ digit_at 10 number ∷ digit_at 1 number ∷ []

-- the rows of a part ---------------------------------------------------------------------------------------------------------

-- four lot rules
abbrev pub lot_word : ℕ → List ℕ
lot_word zero = codes "L4L"
lot_word (suc zero) = codes "FOQ:25"
lot_word (suc (suc zero)) = codes "MM:10:5"
lot_word _ = codes "POQ:5"

-- lead time, lot rule and safety stock are drawn
unfoldable pub part_line : ℕ → ℕ → List ℕ
part_line part state =
    row_line (codes "PART" ∷ part_name part ∷ decimal (draw 1 6 state) ∷ lot_word (draw 2 4 state) ∷ decimal (draw 3 20 state) ∷ codes "W" ∷ [])

-- the stock is drawn
unfoldable pub stock_line : ℕ → ℕ → List ℕ
stock_line part state = row_line (codes "STOCK" ∷ part_name part ∷ decimal (draw 1 50 state) ∷ [])

-- 2025-03-03, the first day of the plan
abbrev pub first_day : ℕ
first_day = 9193

-- a day of the plan and a quantity are drawn
unfoldable pub demand_line : ℕ → ℕ → List ℕ
demand_line part state =
    row_line (codes "DEMAND" ∷ part_name part ∷ codes "D1" ∷ day_text (first_day + draw 1 60 state) ∷ decimal (1 + draw 2 9 state) ∷ [])

-- the bill that is drawn for a part: its parent is one of the parts before it
unfoldable pub drawn_bill : ℕ → ℕ → Bill
drawn_bill part state = record { parent = 1 + draw 1 (part - 1) state; per = 1 + draw 2 3 state }

unfoldable pub bill_line : ℕ → Bill → List ℕ
bill_line part bill = row_line (codes "BILL" ∷ part_name bill.parent ∷ part_name part ∷ decimal bill.per ∷ [])

-- the second of two bills of a part is left out where its parent is that of the first
unfoldable pub second_text : ℕ → Bill → Bill → List ℕ
second_text part first second = if second.parent == first.parent then [] else ended (bill_line part second)

-- whether a part has one bill alone, which is drawn
unfoldable pub has_one_bill : ℕ → Bool
has_one_bill state = draw 1 2 state == 0

-- the number of bills is drawn, and then each of them
unfoldable pub bills_text : ℕ → ℕ → List ℕ
bills_text part state =
    let first = drawn_bill part (after 1 state) in
    ended (bill_line part first) ++ (if has_one_bill state then [] else second_text part first (drawn_bill part (after 3 state)))

unfoldable pub behind_bills : ℕ → ℕ
behind_bills state = if has_one_bill state then after 3 state else after 5 state

-- all parts ------------------------------------------------------------------------------------------------------------------

-- the first tenth of the parts, rounded up, have a demand and no parents
abbrev pub is_top : ℕ → ℕ → Bool
is_top parts part = nat_le part ((parts + 9) / 10)

-- what follows the stock: a demand, or one or two bills
unfoldable pub needs_text : ℕ → ℕ → ℕ → List ℕ
needs_text parts part state = if is_top parts part then ended (demand_line part state) else bills_text part state

unfoldable pub behind_needs : ℕ → ℕ → ℕ → ℕ
behind_needs parts part state = if is_top parts part then after 2 state else behind_bills state

-- the rows of a part
unfoldable pub part_text : ℕ → ℕ → ℕ → List ℕ
part_text parts part state =
    ended (part_line part state) ++ (ended (stock_line part (after 3 state)) ++ needs_text parts part (after 4 state))

-- the state behind the first so many parts
unfoldable pub behind_parts : ℕ → ℕ → ℕ → ℕ
behind_parts parts zero state = state
behind_parts parts (suc part) state = behind_needs parts (suc part) (after 4 (behind_parts parts part state))

-- the rows of the first so many parts
unfoldable pub parts_text : ℕ → ℕ → ℕ → List ℕ
parts_text parts zero state = []
parts_text parts (suc part) state = parts_text parts part state ++ part_text parts (suc part) (behind_parts parts part state)

abbrev pub base_head : List ℕ
base_head = ended (codes "PLAN,2025-03-03,60") ++ ended (codes "CAL,W,1111100")

-- the base of so many parts
unfoldable pub base_text : ℕ → ℕ → List ℕ
base_text parts state = base_head ++ parts_text parts parts state

-- the state behind the base
abbrev pub behind_base : ℕ → ℕ → ℕ
behind_base parts state = behind_parts parts parts state
