use Rattle.std.proofs.Common.{◌≡◌, ◌∙◌, ◌∷◌, ◌++◌, [], Bool, List, false, length, length-append, slice_index_or, ap, arith}
use Rattle.plan_audit.proofs.Marks.{all_unmarked}
use Rattle.plan_audit.proofs.lost.unmarked.Goals as goal

pub loop-place-init : goal.loop-place-init
loop-place-init c =
    let none : c.in_ok-marks.marks.items ≡ [] = c.in_ok-marks.ensures.items in
    (ap length none, λ k. ap (λ (marks : List Bool). slice_index_or marks k false) none)

pub loop-place-preserved : goal.loop-place-preserved
loop-place-preserved c =
    let items = c.loop-place.marks.items in
    let grown : c.push.new.self.items ≡ items ++ false ∷ [] = c.in_ok-push.ensures.items in
    let long = ap length grown ∙ length-append items (false ∷ []) in
    let counted = c.loop-place.invariant.0 in
    (omega (arith, long, counted), λ k. ap (λ (marks : List Bool). slice_index_or marks k false) grown ∙ all_unmarked items c.loop-place.invariant.1 k)

pub returns-clause-len : goal.returns-clause-len
returns-clause-len c = let counted = c.loop-place.invariant.0 in omega (arith, counted, c.loop-place-test.false)

pub returns-clause-none : goal.returns-clause-none
returns-clause-none c = c.loop-place.invariant.1
