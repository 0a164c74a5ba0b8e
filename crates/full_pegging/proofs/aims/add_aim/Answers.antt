use Rattle.std.proofs.Common.{◌++◌, [], ◌∷◌, refl, sym, ap, subst}
use Rattle.std.specs.Prelude.{sum, take}
use Rattle.planning_rules.specs.Plan.{released}
use Rattle.planning_rules.specs.Trace.{per_in}
use Rattle.walk_rules.specs.Cells.{records}
use Rattle.walk_rules.specs.Walks.{names_of}
use Rattle.pegging.specs.declared.source.Peg.{Peg}
use Rattle.pegging.specs.declared.source.Peg.TheVariants as held
use Rattle.pegging.specs.Pegs.{shown}
use Rattle.full_pegging.specs.declared.target.Target.{Target}
use Rattle.full_pegging.specs.declared.target.Target.TheVariants as targets
use Rattle.full_pegging.specs.Ends.{IsTarget, AreTargets}
use Rattle.full_pegging.specs.Walking.{CanAim}
use Rattle.full_pegging.proofs.Aiming.{grown}
use Rattle.full_pegging.proofs.aims.add_aim.Goals as goal

pub returns-in_ok-push-in-Demand-2 : goal.returns-in_ok-push-in-Demand-2
returns-in_ok-push-in-Demand-2 c = λ pegs are.
    let contents = records c.args.walk.now.job.cells in
    let ns = names_of c.args.walk.now.parts in
    let order = c.in-Demand.order in
    let qty = c.in-Demand.qty in
    subst (λ (peg : Peg). AreTargets contents ns c.args.part.now (pegs ++ (c.args.at, shown peg) ∷ []) c.push.new.self.items c.push-in-Demand.new.self.items) (sym c.in-Demand.is)
    (grown contents ns c.args.part.now pegs c.args.aims.now.targets.items c.push.new.self.items c.args.aims.now.quantities.items c.push-in-Demand.new.self.items (c.args.at, shown (held.Demand order qty)) (targets.Demand order) qty
    are c.in_ok-push-in-Demand.ensures.items c.in_ok-push-in-Demand-2.ensures.items refl refl)

pub returns-in_ok-push-in-Bill-2 : goal.returns-in_ok-push-in-Bill-2
returns-in_ok-push-in-Bill-2 c = λ pegs are.
    let contents = records c.args.walk.now.job.cells in
    let ns = names_of c.args.walk.now.parts in
    let parent = c.in-Bill.parent in
    let qty = c.in-Bill.qty in
    let can = subst (λ (peg : Peg). CanAim contents c.args.walk.now.parts c.args.at (shown peg)) c.in-Bill.is c.requires.aim in
    let told = c.parent_target.ensures in
    let is : IsTarget contents ns c.args.part.now (c.args.at, shown (held.Bill parent qty)) c.parent_target.result =
    subst (λ (target : Target). IsTarget contents ns c.args.part.now (c.args.at, shown (held.Bill parent qty)) target) (sym told.2)
    (told.1, ap per_in (c.requires.rows parent), ap (λ known. sum (take c.args.at (released known))) can.known) in
    subst (λ (peg : Peg). AreTargets contents ns c.args.part.now (pegs ++ (c.args.at, shown peg) ∷ []) c.push-in-Bill.new.self.items c.push-in-Bill-2.new.self.items) (sym c.in-Bill.is)
    (grown contents ns c.args.part.now pegs c.args.aims.now.targets.items c.push-in-Bill.new.self.items c.args.aims.now.quantities.items c.push-in-Bill-2.new.self.items (c.args.at, shown (held.Bill parent qty)) c.parent_target.result qty
    are c.in_ok-push-in-Bill.ensures.items c.in_ok-push-in-Bill-2.ensures.items is refl)
