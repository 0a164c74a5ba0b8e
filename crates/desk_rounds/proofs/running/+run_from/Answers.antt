use Rattle.std.proofs.Common.{rules, ◌≡◌, ◌+◌, ◌++◌, length, drop, sym, ap, ◌∙◌, arith, length-append, true, false}
use Rattle.byte_lines.specs.Desks.{desk_count}
use Rattle.turn_table.proofs.Stories.{begins-itself}
use Rattle.desk_rounds.specs.RoundsRun.{all_ended, IsDeskRun}
use Rattle.desk_rounds.proofs.OneRound.{fours_long}
use Rattle.desk_rounds.proofs.RunSteps.{count_is, later_same, earlier_same, run_on, run_out}
use Rattle.desk_rounds.proofs.running.+run_from.Goals as goal

pub split_at_mut-here-requires : goal.split_at_mut-here-requires
split_at_mut-here-requires g t c =
    let all = c.requires.count ∙ count_is c.args.rounds.now c.args.at c.round-desks.result.now c.round-desks.result.now c.round-desks.ensures.value in
    omega (arith, all)

pub run_from-requires-clause-count : goal.run_from-requires-clause-count
run_from-requires-clause-count g t c κs within =
    let P = IsDeskRun g.S.Source.left g.S.Source.faults g.S.Source.label g.K.Sink.taken g.K.Sink.faults g.K.Sink.label c.args.office.now c.args.pass.now.seen c.run_round.new.pass.seen in
    let ds = c.round-desks.result.now in
    let is = c.round-desks.ensures.value in
    let here = c.split_at_mut-here.result.0.now in
    let later = c.split_at_mut-here.result.1.now in
    let all = c.requires.count ∙ count_is c.args.rounds.now c.args.at ds c.run_round.new.desks is in
    let parts : here ++ later ≡ c.args.passes.now = search rules in
    let sizes = ap length parts in
    let sum = length-append here later in
    let long = fours_long P ds here c.run_round.new.desks c.run_round.new.passes c.run_round.ensures.run in
    let one = long.0 in
    let count : length later ≡ desk_count (drop (c.args.at + 1) c.args.rounds.now) = omega (arith, all, sizes, sum, one) in
    count ∙ ap desk_count (sym (later_same c.args.rounds.now c.args.at ds c.run_round.new.desks is long.1))

pub returns-then-run_round-clause-earlier : goal.returns-then-run_round-clause-earlier
returns-then-run_round-clause-earlier g t c =
    let P = IsDeskRun g.S.Source.left g.S.Source.faults g.S.Source.label g.K.Sink.taken g.K.Sink.faults g.K.Sink.label c.args.office.now c.args.pass.now.seen c.run_round.new.pass.seen in
    let long = fours_long P c.round-desks.result.now c.split_at_mut-here.result.0.now c.run_round.new.desks c.run_round.new.passes c.run_round.ensures.run in
    earlier_same c.args.rounds.now c.args.at c.round-desks.result.now c.run_round.new.desks c.round-desks.ensures.value long.1 c.run_from.new.rounds c.run_from.ensures.earlier

pub returns-then-run_round-clause-run : goal.returns-then-run_round-clause-run
returns-then-run_round-clause-run g t c =
    let P = IsDeskRun g.S.Source.left g.S.Source.faults g.S.Source.label g.K.Sink.taken g.K.Sink.faults g.K.Sink.label c.args.office.now c.args.pass.now.seen c.run_round.new.pass.seen in
    let here = c.split_at_mut-here.result.0.now in
    let later = c.split_at_mut-here.result.1.now in
    let long = fours_long P c.round-desks.result.now here c.run_round.new.desks c.run_round.new.passes c.run_round.ensures.run in
    let parts : here ++ later ≡ c.args.passes.now = search rules in
    let ended : all_ended c.run_round.new.desks ≡ true = sym c.run_round.ensures.ended ∙ c.if-run_round.true in
    run_on g.S.Source.left g.S.Source.faults g.S.Source.label g.K.Sink.taken g.K.Sink.faults g.K.Sink.label c.args.office.now c.args.pass.now.seen c.run_round.new.pass.seen c.run_round.ensures.saw.grows
    c.round-desks.result.now c.run_round.new.desks c.args.passes.now here later c.run_round.new.passes parts c.run_round.ensures.run c.args.rounds.now c.args.at c.round-desks.ensures.value long.1
    c.run_from.new.pass.seen c.run_from.new.rounds c.run_from.new.passes ended c.run_from.ensures.earlier c.run_from.ensures.run

pub returns-else-run_round-clause-run : goal.returns-else-run_round-clause-run
returns-else-run_round-clause-run g t c =
    let P = IsDeskRun g.S.Source.left g.S.Source.faults g.S.Source.label g.K.Sink.taken g.K.Sink.faults g.K.Sink.label c.args.office.now c.args.pass.now.seen c.run_round.new.pass.seen in
    let here = c.split_at_mut-here.result.0.now in
    let later = c.split_at_mut-here.result.1.now in
    let long = fours_long P c.round-desks.result.now here c.run_round.new.desks c.run_round.new.passes c.run_round.ensures.run in
    let parts : here ++ later ≡ c.args.passes.now = search rules in
    let ended : all_ended c.run_round.new.desks ≡ false = sym c.run_round.ensures.ended ∙ c.if-run_round.false in
    run_out g.S.Source.left g.S.Source.faults g.S.Source.label g.K.Sink.taken g.K.Sink.faults g.K.Sink.label c.args.office.now c.args.pass.now.seen c.run_round.new.pass.seen c.run_round.ensures.saw.grows
    c.round-desks.result.now c.run_round.new.desks c.args.passes.now here later c.run_round.new.passes parts c.run_round.ensures.run c.args.rounds.now c.args.at c.round-desks.ensures.value long.1
    (begins-itself c.run_round.new.pass.seen) ended
