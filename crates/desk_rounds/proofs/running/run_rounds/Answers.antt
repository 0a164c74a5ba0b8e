use Rattle.std.proofs.Common.{◌≤◌, ◌∙◌, sym, ap, arith, length}
use Rattle.byte_lines.specs.Desks.{desk_count}
use Rattle.desk_rounds.proofs.RunsTold.{run_legal, run_cut}
use Rattle.desk_rounds.proofs.RunsWhole.{count_is, are_ready, left_free, rounds_run}
use Rattle.desk_rounds.proofs.running.run_rounds.Goals as goal

pub run_from-requires-clause-count : goal.run_from-requires-clause-count
run_from-requires-clause-count g c κs within =
    count_is g.S.Source.left g.S.Source.faults g.S.Source.label g.K.Sink.taken g.K.Sink.faults g.K.Sink.label c.args.office.now c.args.pass.now c.split_all.new.pass c.desks-count.result c.in_ok-passes.passes.len
    c.in_ok-passes.passes.items c.as_mut_slice.result.now c.requires.begun c.in_ok-passes.ensures.pass c.in_ok-passes.ensures.passes c.as_mut_slice.ensures.value (desk_count c.args.rounds.now) c.desks-count.ensures c.requires.few

pub run_from-requires-clause-ready : goal.run_from-requires-clause-ready
run_from-requires-clause-ready g c κs within =
    let few : c.desks-count.result ≤ 16 = omega (arith, c.desks-count.ensures, c.requires.few) in
    are_ready g.S.Source.left g.S.Source.faults g.S.Source.label g.K.Sink.taken g.K.Sink.faults g.K.Sink.label c.args.office.now c.args.pass.now c.split_all.new.pass c.desks-count.result c.in_ok-passes.passes.len
    c.in_ok-passes.passes.items c.as_mut_slice.result.now c.requires.begun c.in_ok-passes.ensures.pass c.in_ok-passes.ensures.passes c.as_mut_slice.ensures.value few c.in_ok-passes.ensures.own

pub join_all-requires-clause-others : goal.join_all-requires-clause-others
join_all-requires-clause-others g c =
    left_free g.S.Source.left g.S.Source.faults g.S.Source.label g.K.Sink.taken g.K.Sink.faults g.K.Sink.label c.args.office.now c.args.pass.now c.split_all.new.pass c.desks-count.result c.in_ok-passes.passes.len
    c.in_ok-passes.passes.items c.as_mut_slice.result.now c.requires.begun c.in_ok-passes.ensures.pass c.in_ok-passes.ensures.passes c.as_mut_slice.ensures.value
    c.run_from.new.pass c.args.rounds.now c.run_from.new.rounds c.run_from.new.passes (sym c.as_mut_slice.ensures.len ∙ ap length c.as_mut_slice.ensures.value) c.run_from.ensures.run

pub returns : goal.returns
returns g c =
    let ran =
    rounds_run g.S.Source.left g.S.Source.faults g.S.Source.label g.K.Sink.taken g.K.Sink.faults g.K.Sink.label c.args.office.now c.args.pass.now c.split_all.new.pass c.desks-count.result c.in_ok-passes.passes.len
    c.in_ok-passes.passes.items c.as_mut_slice.result.now c.requires.begun c.in_ok-passes.ensures.pass c.in_ok-passes.ensures.passes c.as_mut_slice.ensures.value
    c.run_from.new.pass c.args.rounds.now c.run_from.new.rounds c.run_from.new.passes (sym c.as_mut_slice.ensures.len ∙ ap length c.as_mut_slice.ensures.value) c.run_from.ensures.run
    c.join_all.new.pass c.run_from.ensures.saw c.join_all.ensures c.requires.unserved in
    record {
      run = ran;
      legal = run_legal g.S.Source.left g.S.Source.faults g.S.Source.label g.K.Sink.taken g.K.Sink.faults g.K.Sink.label c.args.office.now c.args.pass.now c.join_all.new.pass c.args.rounds.now c.run_from.new.rounds ran;
      cut = run_cut g.S.Source.left g.S.Source.faults g.S.Source.label g.K.Sink.taken g.K.Sink.faults g.K.Sink.label c.args.office.now c.args.pass.now c.join_all.new.pass c.args.rounds.now c.run_from.new.rounds ran;
      unread = tt;
    }
