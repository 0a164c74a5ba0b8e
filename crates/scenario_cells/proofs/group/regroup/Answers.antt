use Rattle.std.proofs.Common.{◌≡◌, ◌∙◌, sym, ap, subst, ◌∷◌, [], ◌++◌, append_assoc}
use Rattle.std.proofs.lemmas.List.{append-nil}
use Rattle.plan_schema.specs.Contents.{Contents}
use Rattle.scenario_rules.specs.World.{laid_over}
use Rattle.scenario_rules.specs.Steps.{all_put}
use Rattle.scenario_cells.specs.Grouped.{IsGrouped}
use Rattle.scenario_cells.proofs.GroupLaws.{grouped_next, all_laid}
use Rattle.scenario_cells.proofs.group.regroup.Goals as goal

pub loop-key-preserved : goal.loop-key-preserved
loop-key-preserved c =
    let done : Contents = c.loop-key.invariant.0 in
    let k = c.in-Some.key.now in
    let v = c.in-Some.value.now in
    let rest : Contents = c.next.new.self in
    let split : c.args.contents.now ≡ done ++ (k, v) ∷ rest = c.loop-key.invariant.1 ∙ ap (λ (r : Contents). done ++ r) c.in-Some.ensures.steps in (
      done ++ (k, v) ∷ [],
      split ∙ sym (append_assoc done ((k, v) ∷ []) rest),
      grouped_next done c.loop-key.store c.loop-key.ids k v c.loop-key.invariant.2 c.put_row_in.new.store c.put_row_in.new.ids c.in_ok-put_row_in.ensures.ids c.in_ok-put_row_in.ensures.store,
    )

pub returns : goal.returns
returns c =
    let done : Contents = c.loop-key.invariant.0 in
    let whole : c.args.contents.now ≡ done = c.loop-key.invariant.1 ∙ ap (λ (r : Contents). done ++ r) c.in-None.ensures.steps.0 ∙ append-nil done in
    subst (λ (x : Contents). IsGrouped x c.loop-key.store c.loop-key.ids) (ap (λ (x : Contents). laid_over [] (all_put x)) (sym whole) ∙ all_laid c.args.contents.now c.requires) c.loop-key.invariant.2
