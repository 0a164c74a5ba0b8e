use Rattle.std.proofs.Common.{◌≡◌, List, [], ◌∷◌, ◌++◌, ◌∙◌, sym, ap, subst, append_assoc}
use Rattle.std.specs.Prelude.{Some}
use Rattle.std.specs.Option.{option_copied}
use Rattle.std.specs.Arc.{arc_value}
use Rattle.record_versions.specs.declared.version.VersionId.{VersionId}
use Rattle.record_versions.specs.Versions.{IdList}
use Rattle.version_reclaim.specs.Collected.{AreIn, IsWithIds, with_new}
use Rattle.version_reclaim.proofs.SetLaws.{IsBeside, one_put, still_in, first_beside, none_beside}
use Rattle.version_reclaim.proofs.collect.put_ids.Goals.{in-Some-next, in-None-next}
use Rattle.version_reclaim.proofs.collect.put_ids.Goals as goal

pub loop-cell-preserved : goal.loop-cell-preserved
loop-cell-preserved c =
    let done : IdList = c.loop-cell.invariant.0 in
    let cell = c.in-Some._cell in
    let id = arc_value c.in-Some.id.now in
    let list = c.loop-cell.live.items in
    let others = c.next-in-loop-cell.new.self in
    let other = option_copied c.match-next-2.other in
    let beside : IsBeside list other others = elim c.match-next-2.branch [
      | in-Some-next w ↦ first_beside list w.in-Some-next._cell (arc_value w.in-Some-next.other.now) c.loop-cell.others others other c.loop-cell.invariant.3 w.in-Some-next.ensures.steps (ap option_copied w.other-is ∙ ap Some w.deref.ensures)
      | in-None-next w ↦ none_beside list others other w.in-None-next.ensures.steps.1 (ap option_copied w.other-is)
    ] in
    let split : c.args.ids.now ≡ done ++ (cell, id) ∷ c.next.new.self = c.loop-cell.invariant.1 ∙ ap (λ (l : IdList). done ++ l) c.in-Some.ensures.steps in
    let new : c.put_new.new.live.items ≡ with_new other id list = c.in_ok-put_new.ensures ∙ ap (λ (k : VersionId). with_new other k list) c.deref-in-loop-cell.ensures in (
      done ++ (cell, id) ∷ [],
      split ∙ sym (append_assoc done ((cell, id) ∷ []) c.next.new.self),
      subst (λ (l : List VersionId). IsWithIds (done ++ (cell, id) ∷ []) c.args.live.now.items l) (sym new) (one_put done cell id c.args.live.now.items list c.loop-cell.invariant.2 other beside.0),
      subst (λ (l : List VersionId). AreIn l others) (sym new) (still_in others other id list beside.1),
    )
