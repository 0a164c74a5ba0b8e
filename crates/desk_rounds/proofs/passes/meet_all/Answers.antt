use Rattle.std.proofs.Common.{◌≡◌, ◌<◌, ℕ, List, length, get_or, sym, ◌∙◌, subst, arith}
use Rattle.std.proofs.lemmas.Grind.{common_steps}
use Rattle.turn_table.specs.Story.{Begins}
use Rattle.plan_office.specs.Turns.{Known}
use Rattle.desk_rounds.proofs.Meets.{saw_more, met_more, seen_more}
use Rattle.desk_rounds.proofs.passes.meet_all.Goals as goal

one_default : (xs : List Known) (i : ℕ) (d e : Known) → i < length xs → get_or xs i d ≡ get_or xs i e
one_default xs i d e h = grind (arith, common_steps)

pub meets-preserved : goal.meets-preserved
meets-preserved g c =
    let e = c.meet.ensures in
    let x = get_or c.meets.others c.meets.other-index c.other-item.result in
    let within : c.meets.other-index < length c.meets.others = omega (arith, c.meets-test.true, c.meets.auto.others) in
    let here : (d : Known) → get_or c.args.others.now c.meets.other-index d ≡ x = λ d. sym (c.meets.invariant.others.others c.meets.other-index d (omega arith)) ∙ one_default c.meets.others c.meets.other-index d c.other-item.result within in
    record {
      main = saw_more c.args.office.now c.args.pass.now c.meets.pass c.meet.new.one x c.meets.invariant.main e.one e.seen.0;
      others = met_more c.args.office.now c.args.pass.now c.meets.pass x c.meet.new.two c.args.others.now c.meets.others c.meets.other-index c.meets.invariant.main c.meets.invariant.others within
          (λ d. one_default c.meets.others c.meets.other-index d c.other-item.result within) e.two
          (subst (λ s. Begins c.meets.pass.seen s) e.same e.seen.0) (subst (λ s. Begins x.seen s) e.same e.seen.1) e.own.1;
      seen = seen_more c.meets.pass c.meet.new.one c.args.others.now c.meets.other-index c.meets.invariant.seen e.seen.0
          (λ d. subst (λ q. Begins q.seen c.meet.new.one.seen) (sym (here d)) e.seen.1);
    }
