use Rattle.std.proofs.Common.{◌≡◌, ◌+◌, ◌<◌, length, get_or, true, cond, ap, sym, arith}
use Rattle.std.proofs.lemmas.Bool.Decides.{nat_tests}
use Rattle.std.specs.Prelude.{nat_lt}
use Rattle.planning_rules.specs.Trace.{Surplus}
use Rattle.full_pegging.specs.Weights.{weight}
use Rattle.full_pegging.specs.Following.{supply_weight}
use Rattle.full_pegging.proofs.follow.place_piece.Goals as goal

pub returns-in_ok-add_units : goal.returns-in_ok-add_units
returns-in_ok-add_units c = λ measure places.
    let units = c.args.piece.now.units in
    let befores = c.args.befores.now in
    let day = c.args.piece.now.stretch in
    let low : day < length befores = c.if-piece-befores.true in
    let there : nat_lt day (length befores) ≡ true = grind (arith, nat_tests) in
    let added = c.in_ok-add_units.ensures places in
    let placed : weight places c.moved.result ≡ weight (λ unit. places (get_or befores day 0 + unit)) units = c.moved.ensures places in
    let told : weight (λ unit. places (get_or befores day 0 + unit)) units ≡ weight (supply_weight measure places c.args.part.now befores day) units =
    ap (λ b. weight (λ unit. cond b (places (get_or befores day 0 + unit)) (measure (Surplus c.args.part.now))) units) (sym there) in
    omega (arith, added, placed, told)
