use Rattle.std.proofs.Common.{◌+◌, ◌<◌, ◌≤◌, List, [], ◌∷◌, ◌++◌, length, take, sym, subst, arith}
use Rattle.plan_core.proofs.Reclaimed.{on_err}
use Rattle.core_runs.specs.declared.step.CoreReply.{CoreReply}
use Rattle.core_runs.specs.Machine.{Machine, unasked}
use Rattle.core_runs.specs.Runs.{IsRun}
use Rattle.core_runs.proofs.Kept.{step_in_work}
use Rattle.core_runs.proofs.Joined.{run_more, ran_first}
use Rattle.core_runs.proofs.run.core_run.Goals as goal

pub returns-in_err-reply-clause-err : goal.returns-in_err-reply-clause-err
returns-in_err-reply-clause-err c =
    let at = c.loop-step in
    let items = c.as_slice-step-items.result.now in
    let few : at.step-index ≤ length items = omega arith in
    on_err c.from_residual.result
    (ran_first c.args.core.now c.take_step.new.core at.walks.items items c.args.steps.now at.replies at.step-index c.as_slice-step-items.ensures few
    (subst (λ core. IsRun (unasked c.args.core.now) (take at.step-index items) at.replies (record { core = core; walks = at.walks.items })) (sym c.in_err-reply.ensures.err) at.invariant.run))

pub returns-in_err-add-clause-err : goal.returns-in_err-add-clause-err
returns-in_err-add-clause-err c =
    let at = c.loop-step in
    let items = c.as_slice-step-items.result.now in
    let reply = c.in_ok-reply.reply in
    let between : Machine = record { core = at.core; walks = at.walks.items } in
    let new : Machine = record { core = c.take_step.new.core; walks = c.take_step.new.walks.items } in
    let within : at.step-index < length items = omega arith in
    let few : at.step-index + 1 ≤ length items = omega arith in
    on_err c.from_residual-in_err-add.result
    (ran_first c.args.core.now c.take_step.new.core c.take_step.new.walks.items items c.args.steps.now (at.replies ++ reply ∷ []) (at.step-index + 1) c.as_slice-step-items.ensures few
    (run_more (unasked c.args.core.now) between new items at.replies at.step-index c.step-item.result reply within c.step-item.is at.invariant.run c.in_ok-reply.ensures.ok))

pub loop-step-preserved : goal.loop-step-preserved
loop-step-preserved c =
    let at = c.loop-step in
    let items = c.as_slice-step-items.result.now in
    let reply = c.in_ok-reply.reply in
    let between : Machine = record { core = at.core; walks = at.walks.items } in
    let new : Machine = record { core = c.take_step.new.core; walks = c.take_step.new.walks.items } in
    let within : at.step-index < length items = omega arith in
    record {
      run = subst (λ (replied : List CoreReply). IsRun (unasked c.args.core.now) (take (at.step-index + 1) items) replied new) (sym c.in_ok-add.ensures.ok)
          (run_more (unasked c.args.core.now) between new items at.replies at.step-index c.step-item.result reply within c.step-item.is at.invariant.run c.in_ok-reply.ensures.ok);
      in_work = step_in_work between c.step-item.result reply new c.in_ok-reply.ensures.ok at.invariant.in_work;
    }
