use Rattle.std.proofs.Common.{◌-◌, ◌*◌, ◌/◌, ◌%◌, arith, refl}
use Rattle.full_pegging.proofs.Spreading.{spread, part_fits, quotient_most, quotient_least, remainder_most}
use Rattle.full_pegging.proofs.units.parent_units.Goals as goal

pub overflow_add-begun : goal.overflow_add-begun
overflow_add-begun c = let less = quotient_least c.args.units.now.first c.args.per c.requires.per in let fits = c.requires.numbers in omega (arith, less, fits)

pub overflow_sub-rest : goal.overflow_sub-rest
overflow_sub-rest c = let is = c.begun_share-head.ensures in omega (arith, is)

pub overflow_add-next : goal.overflow_add-next
overflow_add-next c = let less = quotient_least c.args.units.now.first c.args.per c.requires.per in let fits = c.requires.numbers in omega (arith, less, fits)

pub overflow_add-last : goal.overflow_add-last
overflow_add-last c =
    let less = quotient_least c.args.units.now.first c.args.per c.requires.per in
    let few = quotient_least (c.args.units.now.many - c.begun_share-head.result) c.args.per c.requires.per in
    let is = c.begun_share-head.ensures in
    let fits = c.requires.numbers in
    omega (arith, less, few, is, fits)

pub overflow_mul-begun_times : goal.overflow_mul-begun_times
overflow_mul-begun_times c =
    let is = c.begun_share-head.ensures in
    let fits = part_fits c.args.units.now.times c.begun_share-head.result c.args.units.now.many (omega (arith, is)) c.requires.fits in
    omega (arith, fits)

pub filled_times-full_times-requires : goal.filled_times-full_times-requires
filled_times-full_times-requires c =
    let most = quotient_most (c.args.units.now.many - c.begun_share-head.result) c.args.per in
    part_fits c.args.units.now.times ((c.args.units.now.many - c.begun_share-head.result) / c.args.per * c.args.per) c.args.units.now.many (omega (arith, most)) c.requires.fits

pub overflow_mul-left_times : goal.overflow_mul-left_times
overflow_mul-left_times c =
    let most = remainder_most (c.args.units.now.many - c.begun_share-head.result) c.args.per in
    let fits = part_fits c.args.units.now.times ((c.args.units.now.many - c.begun_share-head.result) % c.args.per) c.args.units.now.many (omega (arith, most)) c.requires.fits in
    omega (arith, fits)

pub returns : goal.returns
returns c = λ measure.
    spread measure c.args.before c.args.per c.args.units.now.first c.args.units.now.many c.args.units.now.times c.begun_share-head.result (c.args.units.now.many - c.begun_share-head.result) c.filled_times-full_times.result
    c.requires.per c.begun_share-head.ensures refl c.filled_times-full_times.ensures.some
