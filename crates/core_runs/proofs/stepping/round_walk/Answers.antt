use Rattle.std.proofs.Common.{None, refl, sym, ◌∙◌, ap, subst}
use Rattle.std.specs.Prelude.{Option}
use Rattle.core_runs.specs.declared.in_work.InWork.{InWork}
use Rattle.core_runs.specs.declared.step.CoreReply.TheVariants.{Idle}
use Rattle.core_runs.specs.Machine.{Machine, Walks, with_walk}
use Rattle.core_runs.specs.Runs.{IsRoundStep}
use Rattle.core_runs.proofs.Listed.{set_again, set_none}
use Rattle.core_runs.proofs.stepping.round_walk.Goals as goal

pub returns-in_default : goal.returns-in_default
returns-in_default c =
    let walks = c.args.walks.now.items in
    let old : Machine = record { core = c.args.core.now; walks = walks } in
    let new : Machine = record { core = c.args.core.now; walks = c.take_walk.new.walks.items } in
    let none = sym c.take_walk.ensures.walk ∙ c.in_default.is in
    subst (λ (o : Option InWork). IsRoundStep c.args.number o old new Idle) (sym none)
    (refl, ap (λ (ws : Walks). record { core = c.args.core.now; walks = ws }) (c.take_walk.ensures.left ∙ set_none walks c.args.number none))

pub returns : goal.returns
returns c =
    let walks = c.args.walks.now.items in
    let old : Machine = record { core = c.args.core.now; walks = walks } in
    let new : Machine = record { core = c.round-made.new.core; walks = c.put_walk.new.walks.items } in
    let left = c.round-made.result.walk in
    let there = sym c.take_walk.ensures.walk ∙ c.in-Some.is in
    subst (λ (o : Option InWork). IsRoundStep c.args.number o old new c.round-made.result.reply) (sym there)
    (record {
      left = left;
      replied = c.round-made.ensures;
      listed = c.put_walk.ensures ∙ ap (λ ws. with_walk ws c.args.number left) c.take_walk.ensures.left ∙ set_again walks c.args.number None left;
    })
