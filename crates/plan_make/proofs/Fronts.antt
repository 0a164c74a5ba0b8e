-- The first parts and the first turns, and what follows them.
use Rattle.std.proofs.Common.{◌≡◌, ℕ, zero, suc, ◌+◌, ◌-◌, ◌<◌, List, [], ◌++◌, subst, sym, refl, ap, ◌∙◌, append_assoc, append-nil, add-one, arith}
use Rattle.plan_make.specs.Numbers.{after}
use Rattle.plan_make.specs.Base.{part_text, parts_text, behind_needs, behind_parts}
use Rattle.plan_make.specs.Input.{turn_text, turns_text, behind_turns}

-- one part more
pub parts_more : (parts place state : ℕ) → parts_text parts (place + 1) state ≡ parts_text parts place state ++ part_text parts (place + 1) (behind_parts parts place state)
unfolding parts_text
parts_more parts place state =
    let P : ℕ → Type 0 = λ n. parts_text parts n state ≡ parts_text parts place state ++ part_text parts n (behind_parts parts place state) in
    subst P (sym (add-one place)) refl

pub behind_more : (parts place state : ℕ) → behind_parts parts (place + 1) state ≡ behind_needs parts (place + 1) (after 4 (behind_parts parts place state))
unfolding behind_parts
behind_more parts place state =
    let P : ℕ → Type 0 = λ n. behind_parts parts n state ≡ behind_needs parts n (after 4 (behind_parts parts place state)) in
    subst P (sym (add-one place)) refl

-- the first parts are a front of more parts
parts_behind : (parts place more state : ℕ) → (rest : List ℕ) × (parts_text parts place state ++ rest ≡ parts_text parts (place + more) state)
parts_behind parts place zero state =
    let e : place + zero ≡ place = omega arith in
    ([], append-nil (parts_text parts place state) ∙ ap (λ n. parts_text parts n state) (sym e))
parts_behind parts place (suc more) state =
    let before = parts_behind parts place more state in
    let own = part_text parts ((place + more) + 1) (behind_parts parts (place + more) state) in
    let e : (place + more) + 1 ≡ place + suc more = omega arith in (
      before.0 ++ own,
      sym (append_assoc (parts_text parts place state) before.0 own) ∙ ap (λ t. t ++ own) before.1 ∙ sym (parts_more parts (place + more) state)
          ∙ ap (λ n. parts_text parts n state) e,
    )

-- the first parts and the next one are a front of all
pub parts_split : (parts place state : ℕ) → place < parts → (rest : List ℕ) × ((parts_text parts place state ++ part_text parts (place + 1) (behind_parts parts place state)) ++ rest ≡ parts_text parts parts state)
parts_split parts place state within =
    let behind = parts_behind parts (place + 1) (parts - (place + 1)) state in
    let e : (place + 1) + (parts - (place + 1)) ≡ parts = omega arith in
    (behind.0, ap (λ t. t ++ behind.0) (sym (parts_more parts place state)) ∙ behind.1 ∙ ap (λ n. parts_text parts n state) e)

-- one turn more
pub turns_more : (parts turns state : ℕ) → turns_text parts (turns + 1) state ≡ turns_text parts turns state ++ turn_text parts (behind_turns turns state)
unfolding turns_text
turns_more parts turns state =
    let P : ℕ → Type 0 = λ n. turns_text parts n state ≡ turns_text parts turns state ++ turn_text parts (behind_turns turns state) in
    subst P (sym (add-one turns)) refl

pub turns_behind_more : (turns state : ℕ) → behind_turns (turns + 1) state ≡ after 3 (behind_turns turns state)
unfolding behind_turns
turns_behind_more turns state =
    let P : ℕ → Type 0 = λ n. behind_turns n state ≡ after 3 (behind_turns turns state) in
    subst P (sym (add-one turns)) refl

turns_behind : (parts turns more state : ℕ) → (rest : List ℕ) × (turns_text parts turns state ++ rest ≡ turns_text parts (turns + more) state)
turns_behind parts turns zero state =
    let e : turns + zero ≡ turns = omega arith in
    ([], append-nil (turns_text parts turns state) ∙ ap (λ n. turns_text parts n state) (sym e))
turns_behind parts turns (suc more) state =
    let before = turns_behind parts turns more state in
    let own = turn_text parts (behind_turns (turns + more) state) in
    let e : (turns + more) + 1 ≡ turns + suc more = omega arith in (
      before.0 ++ own,
      sym (append_assoc (turns_text parts turns state) before.0 own) ∙ ap (λ t. t ++ own) before.1 ∙ sym (turns_more parts (turns + more) state)
          ∙ ap (λ n. turns_text parts n state) e,
    )

-- the first turns and the next one are a front of all
pub turns_split : (parts all turns state : ℕ) → turns < all → (rest : List ℕ) × ((turns_text parts turns state ++ turn_text parts (behind_turns turns state)) ++ rest ≡ turns_text parts all state)
turns_split parts all turns state within =
    let behind = turns_behind parts (turns + 1) (all - (turns + 1)) state in
    let e : (turns + 1) + (all - (turns + 1)) ≡ all = omega arith in
    (behind.0, ap (λ t. t ++ behind.0) (sym (turns_more parts turns state)) ∙ behind.1 ∙ ap (λ n. turns_text parts n state) e)
