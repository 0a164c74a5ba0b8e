use Rattle.std.proofs.Common.{◌≡◌, ◌∙◌, ◌-◌, ◌<◌, suc, sym, ap, drop, ℕ, true, false, arith}
use Rattle.byte_lines.specs.Desks.{all_desks, no_desks, without_last_desk}
use Rattle.byte_lines.proofs.DeskSteps.{all_desks-set, without_last_desk-set, without_last_desk-none, no_desks-some}
use Rattle.byte_lines.proofs.rounds.Rounds.pop.Goals as goal

next : (at : ℕ) → 0 < at → at ≡ suc (at - 1)
next at h = omega arith

pub returns-in-Some-clause-taken : goal.returns-in-Some-clause-taken
returns-in-Some-clause-taken g c =
    let i = c.loop-at.invariant in
    let step = next c.loop-at.at c.loop-at-test.true in
    ap all_desks (sym i.same) ∙ all_desks-set c.loop-at.self-inside.rounds.items _ c.pop.new.self c.in-Some.desk (c.loop-at.at - 1) (omega arith)
    (sym c.index_mut-round.ensures.value ∙ c.in-Some.ensures.taken) (ap (λ n. no_desks (drop n c.loop-at.self-inside.rounds.items)) (sym step) ∙ i.none)

pub returns-in-Some-clause-left : goal.returns-in-Some-clause-left
returns-in-Some-clause-left g c =
    let i = c.loop-at.invariant in
    let step = next c.loop-at.at c.loop-at-test.true in
    without_last_desk-set c.loop-at.self-inside.rounds.items _ c.pop.new.self c.in-Some.desk (c.loop-at.at - 1) (omega arith)
    (sym c.index_mut-round.ensures.value ∙ c.in-Some.ensures.taken) (ap (λ n. no_desks (drop n c.loop-at.self-inside.rounds.items)) (sym step) ∙ i.none) ∙ ap without_last_desk i.same

pub returns-in-Some-clause-none : goal.returns-in-Some-clause-none
returns-in-Some-clause-none g c =
    let i = c.loop-at.invariant in
    let some : no_desks c.loop-at.self-inside.rounds.items ≡ false = no_desks-some c.loop-at.self-inside.rounds.items _ c.pop.new.self c.in-Some.desk (c.loop-at.at - 1) (omega arith)
    (sym c.index_mut-round.ensures.value ∙ c.in-Some.ensures.taken) in
    let here = ap no_desks (sym i.same) ∙ some in
    (λ e. cc, λ e. sym e ∙ here)

pub returns-clause-left : goal.returns-clause-left
returns-clause-left g c =
    let i = c.loop-at.invariant in
    let zero : c.loop-at.at ≡ 0 = omega arith in
    let none : no_desks c.loop-at.self-inside.rounds.items ≡ true = ap (λ n. no_desks (drop n c.loop-at.self-inside.rounds.items)) (sym zero) ∙ i.none in
    sym (without_last_desk-none c.loop-at.self-inside.rounds.items none) ∙ ap without_last_desk i.same
