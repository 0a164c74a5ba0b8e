use Rattle.std.proofs.Common.{◌≡◌, ◌+◌, ◌-◌, ◌≤◌, length, take, drop, Some, None, ap, ◌∙◌, sym, arith, length-drop}
use Rattle.std.specs.Prelude.{◌==◌}
use Rattle.std.specs.List.{position, position_or_len}
use Rattle.std.proofs.lemmas.List.{take_all}
use Rattle.std.proofs.lemmas.List.Quantifiers.{position-Some}
use Rattle.std.proofs.lemmas.List.Sums.{fails_before_first}
use Rattle.std.proofs.lemmas.Bool.Decides.{nat_tests}
use Rattle.plan_journal.proofs.Pieces.{place_cuts, no_place}
use Rattle.plan_journal.proofs.cuts.cut_at.Goals as goal

pub returns-in-Some : goal.returns-in-Some
returns-in-Some c =
    let text = c.args.text.now in
    let place = c.in-Some.place in
    let at = position-Some (λ byte. byte == c.args.mark) text place 0 (sym c.in-Some.ensures) in
    let long : length (drop (place + 1) text) ≤ length text - (place + 1) = omega (arith, length-drop (place + 1) text) in
    place_cuts c.args.mark text place at.0 at.1 at.2
    ∙ ap (λ rest. Some (take place text, rest)) (sym (take_all (length text - (place + 1)) (drop (place + 1) text) long))

pub returns-in-None : goal.returns-in-None
returns-in-None c =
    let text = c.args.text.now in
    let none : position (λ byte. byte == c.args.mark) text ≡ None = sym c.in-None.ensures in
    let far : length text ≤ position_or_len (λ byte. byte == c.args.mark) text = grind (arith, nat_tests) in
    no_place c.args.mark text (λ j less. fails_before_first (λ byte. byte == c.args.mark) text j 0 (omega arith))
