use Rattle.std.proofs.Common.{Some, None, refl, sym, ◌∙◌, ap, subst}
use Rattle.std.specs.Prelude.{Option}
use Rattle.core_runs.specs.declared.in_work.InWork.{InWork}
use Rattle.core_runs.specs.declared.step.CoreReply.TheVariants.{Idle}
use Rattle.core_runs.specs.Machine.{with_walk}
use Rattle.core_runs.specs.Runs.{IsSolveStep}
use Rattle.core_runs.proofs.Listed.{set_again, set_none}
use Rattle.core_runs.proofs.stepping.solve_walk.Goals as goal

pub returns-in_default : goal.returns-in_default
returns-in_default c =
    let walks = c.args.walks.now.items in
    let none = sym c.take_walk.ensures.walk ∙ c.in_default.is in
    subst (λ (o : Option InWork). IsSolveStep c.args.number o walks c.take_walk.new.walks.items Idle) (sym none) (refl, c.take_walk.ensures.left ∙ set_none walks c.args.number none)

pub returns : goal.returns
returns c =
    let walks = c.args.walks.now.items in
    let left = Some c.net-reply.new.work in
    let there = sym c.take_walk.ensures.walk ∙ c.in-Some.is in
    subst (λ (o : Option InWork). IsSolveStep c.args.number o walks c.put_walk.new.walks.items c.net-reply.result) (sym there)
    (record {
      left = c.net-reply.new.work;
      netted = c.net-reply.ensures;
      listed = c.put_walk.ensures ∙ ap (λ ws. with_walk ws c.args.number left) c.take_walk.ensures.left ∙ set_again walks c.args.number None left;
    })
