use Rattle.std.proofs.Common.{rules, ◌≡◌, length, sym, ◌∙◌}
use Rattle.std.specs.List.{AllByRecursion}
use Rattle.sessions.specs.InTurns.{IsReady}
use Rattle.desk_rounds.specs.DesksServed.{IsDeskServed}
use Rattle.desk_rounds.proofs.OneRound.{all_met, all_seen, all_ready, all_free, fourths, saw_on, round_run}
use Rattle.desk_rounds.proofs.rounds.run_round.Goals as goal

pub meet_all-requires : goal.meet_all-requires
meet_all-requires g c = record { free = c.requires.free; others = all_free c.args.office.now c.args.passes.now c.requires.ready }

pub serve_desks-requires : goal.serve_desks-requires
serve_desks-requires g c =
    let met = all_met c.args.pass.now c.args.passes.now c.meet_all.new.others c.meet_all.ensures.others in
    let same : length c.args.desks.now ≡ length c.meet_all.new.others = c.requires.same ∙ sym c.meet_all.ensures.others.long in
    let ready : AllByRecursion (IsReady c.args.office.now) c.meet_all.new.others = all_ready c.args.office.now c.args.pass.now c.args.passes.now c.meet_all.new.others met c.requires.ready in
    search rules

pub meet_all-requires-2 : goal.meet_all-requires-2
meet_all-requires-2 g c =
    let turn = c.args.office.now in
    let P = IsDeskServed g.S.Source.left g.S.Source.faults g.S.Source.label g.K.Sink.taken g.K.Sink.faults g.K.Sink.label turn in
    record {
      free = c.meet_all.ensures.main.free;
      others = all_free turn c.serve_desks.new.passes
          (fourths P (IsReady turn) (λ desk pass desk_then pass_then served. served.ready) c.args.desks.now c.meet_all.new.others c.serve_desks.new.desks c.serve_desks.new.passes c.serve_desks.ensures);
    }

pub returns : goal.returns
returns g c =
    let turn = c.args.office.now in
    let p = c.args.pass.now in
    let m = c.meet_all.new.pass in
    let q = c.meet_all-2.new.pass in
    let met = all_met p c.args.passes.now c.meet_all.new.others c.meet_all.ensures.others in
    let met_then = all_met m c.serve_desks.new.passes c.meet_all-2.new.others c.meet_all-2.ensures.others in
    let seen = all_seen q c.serve_desks.new.passes c.meet_all-2.ensures.seen in
    record {
      saw = saw_on turn p m q c.meet_all.ensures.main c.meet_all-2.ensures.main;
      run = round_run g.S.Source.left g.S.Source.faults g.S.Source.label g.K.Sink.taken g.K.Sink.faults g.K.Sink.label turn p m q
          c.args.desks.now c.args.passes.now c.meet_all.new.others c.serve_desks.new.desks c.serve_desks.new.passes c.meet_all-2.new.others met c.serve_desks.ensures met_then seen;
      ended = c.have_ended.ensures;
    }
