use Rattle.std.proofs.Common.{◌∙◌, Ok, sym, ap}
use Rattle.plan_core.specs.State.{State}
use Rattle.response_program.proofs.Trials.{tried}
use Rattle.response_program.proofs.trial.trial_over.Goals as goal

pub returns-in-Ended : goal.returns-in-Ended
returns-in-Ended c base is =
    let begun = c.in-Ok.ensures in
    tried c.args.parts c.in-Ended.requests base c.args.input c.bytes.result.now c.in-Ok.book c.serve_alone.new.book _ _ c.totals_of-totals.result (is ∙ sym (ap (λ (b : State). Ok b.base) begun))
    (ap (λ (b : State). b.earlier) begun) (ap (λ (b : State). b.entries) begun) c.serve_alone.ensures.book.kept c.holds.ensures (c.in-Ended.ensures.served c.args.input c.new-source.ensures.left) c.new-sink.ensures.taken
    c.bytes.ensures c.totals_of-totals.ensures.counted c.totals_of-totals.ensures.drops
