use Rattle.std.proofs.Common.{◌≡◌, ◌+◌, arith}
use Rattle.full_pegging.proofs.Stretches.{goes_on, twice}
use Rattle.full_pegging.proofs.rows.joined.Goals as goal

pub returns-then-units-other : goal.returns-then-units-other
returns-then-units-other c = λ measure.
    let units = c.args.units.now in
    let other = c.args.other.now in
    let end : units.first + units.many ≡ other.first = let h = c.in_ok-end.ensures in let t = c.if-end-other.true in omega (arith, h, t) in
    let all : c.in_ok-many.many ≡ units.many + other.many = let h = c.in_ok-many.ensures in omega (arith, h) in
    goes_on measure units.first units.many other.first other.many c.in_ok-many.many units.times other.times end all c.if-units-other.true

pub returns-then-units-other-3 : goal.returns-then-units-other-3
returns-then-units-other-3 c = λ measure.
    let units = c.args.units.now in
    let other = c.args.other.now in
    let both : c.in_ok-times.times ≡ units.times + other.times = let h = c.in_ok-times.ensures in omega (arith, h) in
    twice measure units.first units.many other.first other.many c.in_ok-times.times units.times other.times c.if-units-other-2.true c.if-units-other-3.true both
