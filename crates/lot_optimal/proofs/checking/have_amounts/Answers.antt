use Rattle.std.proofs.Common.{◌≡◌, ◌+◌, ◌-◌, drop, get_or, sym, ◌∙◌, ap, arith}
use Rattle.lot_optimal.specs.Costs.{before_order}
use Rattle.lot_optimal.proofs.RowLaws.{blank, before_more, wrong_here}
use Rattle.lot_optimal.proofs.checking.have_amounts.Goals as goal

pub overflow_add-before : goal.overflow_add-before
overflow_add-before c =
    let next : c.loop-at.at - 1 + 1 ≡ c.loop-at.at = omega arith in
    let bound = before_more (c.loop-at.at - 1) c.args.rows.now (omega arith) in
    let is = ap (λ k. before_order (drop k c.args.rows.now)) next in
    omega arith

pub overflow_add-row : goal.overflow_add-row
overflow_add-row c =
    let next : c.loop-at.at - 1 + 1 ≡ c.loop-at.at = omega arith in
    let bound = before_more (c.loop-at.at - 1) c.args.rows.now (omega arith) in
    let is = ap (λ k. before_order (drop k c.args.rows.now)) next in
    omega arith

pub returns-then-row-before : goal.returns-then-row-before
returns-then-row-before c =
    let next : c.loop-at.at - 1 + 1 ≡ c.loop-at.at = omega arith in
    let is = ap (λ k. before_order (drop k c.args.rows.now)) next in
    sym (wrong_here (c.loop-at.at - 1) c.args.rows.now (omega arith) (let some = c.if-row-eq0.false in omega arith) (λ e. c.if-row-before.true (e ∙ ap (λ n. (get_or c.args.rows.now (c.loop-at.at - 1) blank).need + n) (is ∙ sym c.loop-at.invariant.before))))
