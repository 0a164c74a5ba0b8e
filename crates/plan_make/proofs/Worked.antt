-- Worked examples, by computation: the base of three parts and the first requests over them, from the start 1.
use Rattle.std.specs.Prelude.{◌≡◌, ◌++◌, codes}
use Rattle.std.proofs.Common.{refl}
use Rattle.std.specs.Fmt.{digits}
use Rattle.plan_schema.specs.Day.{day_text, date_of}
use Rattle.plan_make.specs.Numbers.{next, told}
use Rattle.plan_make.specs.Base.{part_name, part_line, stock_line, demand_line, drawn_bill, bill_line, second_text, has_one_bill, bills_text, behind_bills, needs_text, behind_needs, part_text, behind_parts, parts_text, base_text, behind_base}
use Rattle.plan_make.specs.Input.{put_text, plan_text, turn_text, behind_turns, turns_text}

three_parts : base_text 3 1
    ≡ codes "PLAN,2025-03-03,60\n" ++ codes "CAL,W,1111100\n" ++ codes "PART,P00001,2,FOQ:25,16,W\n" ++ codes "STOCK,P00001,20\n"
    ++ codes "DEMAND,P00001,D1,2025-04-26,9\n" ++ codes "PART,P00002,2,MM:10:5,9,W\n"
    ++ codes "STOCK,P00002,46\n" ++ codes "BILL,P00001,P00002,1\n" ++ codes "PART,P00003,4,MM:10:5,15,W\n"
    ++ codes "STOCK,P00003,32\n" ++ codes "BILL,P00002,P00003,2\n" ++ codes "BILL,P00001,P00003,1\n"
unfolding base_text parts_text behind_parts part_text behind_needs needs_text bills_text behind_bills has_one_bill second_text drawn_bill bill_line demand_line stock_line part_line part_name next told day_text date_of digits
three_parts = refl

-- a user's first two turns, and the draws that follow those of the base
two_turns : turns_text 3 2 (behind_base 3 1)
    ≡ codes "PUT X STOCK P00001 28\n" ++ codes "PLAN X P00001\n" ++ codes "PUT X STOCK P00003 21\n" ++ codes "PLAN X P00002\n"
unfolding turns_text behind_turns turn_text put_text plan_text part_name behind_parts behind_needs behind_bills has_one_bill next told digits
two_turns = refl
