-- The bills of a part, case by case.
use Rattle.std.proofs.Common.{◌≡◌, ℕ, [], ◌++◌, ap, sym, ◌∙◌, eq-eqb, ne_eqb, append-nil, if◌then◌else◌}
use Rattle.command_words.specs.Replies.{ended}
use Rattle.plan_make.specs.declared.base.Bill.{Bill}
use Rattle.plan_make.specs.Numbers.{after, draw}
use Rattle.plan_make.specs.Base.{bill_line, drawn_bill, second_text, has_one_bill, bills_text, behind_bills}

-- a second bill to the same parent is left out, and one to another isn't
pub second_none : (part : ℕ) (first second : Bill) → second.parent ≡ first.parent → second_text part first second ≡ []
unfolding second_text
second_none part first second same = ap (λ b. if b then [] else ended (bill_line part second)) (eq-eqb _ _ same)

pub second_some : (part : ℕ) (first second : Bill) → (second.parent ≡ first.parent → ⊥) → second_text part first second ≡ ended (bill_line part second)
unfolding second_text
second_some part first second other = ap (λ b. if b then [] else ended (bill_line part second)) (ne_eqb _ _ other)

-- the one bill of a part
pub bills_one : (part state : ℕ) → draw 1 2 state ≡ 0 → ended (bill_line part (drawn_bill part (after 1 state))) ≡ bills_text part state
unfolding bills_text has_one_bill
bills_one part state one =
    let first = drawn_bill part (after 1 state) in
    sym (append-nil _) ∙ sym (ap (λ b. ended (bill_line part first) ++ (if b then [] else second_text part first (drawn_bill part (after 3 state)))) (eq-eqb _ _ one))

pub behind_one : (state : ℕ) → draw 1 2 state ≡ 0 → after 3 state ≡ behind_bills state
unfolding behind_bills has_one_bill
behind_one state one = sym (ap (λ b. if b then after 3 state else after 5 state) (eq-eqb _ _ one))

-- both bills of a part
pub bills_two : (part state : ℕ) → (draw 1 2 state ≡ 0 → ⊥) → ended (bill_line part (drawn_bill part (after 1 state))) ++ second_text part (drawn_bill part (after 1 state)) (drawn_bill part (after 3 state)) ≡ bills_text part state
unfolding bills_text has_one_bill
bills_two part state two =
    let first = drawn_bill part (after 1 state) in
    sym (ap (λ b. ended (bill_line part first) ++ (if b then [] else second_text part first (drawn_bill part (after 3 state)))) (ne_eqb _ _ two))

pub behind_two : (state : ℕ) → (draw 1 2 state ≡ 0 → ⊥) → after 5 state ≡ behind_bills state
unfolding behind_bills has_one_bill
behind_two state two = sym (ap (λ b. if b then after 3 state else after 5 state) (ne_eqb _ _ two))
