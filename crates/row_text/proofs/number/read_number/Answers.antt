use Rattle.std.proofs.Common.{◌≡◌, ◌+◌, ◌*◌, ◌<◌, drop, arith}
use Rattle.std.proofs.lemmas.Grind.{common_steps}
use Rattle.std.proofs.lemmas.Bool.Decides.{nat_tests}
use Rattle.row_text.specs.Number.{number_of, number_from}
use Rattle.row_text.proofs.Numbers.{number_from_grows}
use Rattle.row_text.proofs.number.read_number.Goals as goal

pub returns-then-value-high : goal.returns-then-value-high
unfolding number_of
returns-then-value-high c =
    let step : number_from (c.loop-b.value * 10 + c.from.result) (drop (c.loop-b.b-index + 1) c.args.text.now) ≡ number_from 0 c.args.text.now = grind (arith, common_steps) in
    let above : c.args.high < number_from 0 c.args.text.now = omega (arith, number_from_grows (c.loop-b.value * 10 + c.from.result) (drop (c.loop-b.b-index + 1) c.args.text.now)) in
    grind (arith, nat_tests)
