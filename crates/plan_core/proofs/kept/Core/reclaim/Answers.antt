use Rattle.std.proofs.Common.{◌≡◌, ◌∙◌, sym, ap, subst}
use Rattle.std.specs.List.{list_all}
use Rattle.planning_rules.specs.Plan.{Known}
use Rattle.record_versions.specs.Versions.{has_id}
use Rattle.scenario_merge.specs.Grown.{Grown}
use Rattle.shared_memo.specs.Pairs.{Memo}
use Rattle.walk_rules.specs.declared.key.MemoKey.{MemoKey}
use Rattle.plan_core.specs.Keys.{key_ids}
use Rattle.plan_core.specs.State.{state_of}
use Rattle.plan_core.specs.Holds.{IsCore}
use Rattle.plan_core.proofs.Reclaimed.{on_err, reclaimed_core, reclaims}
use Rattle.plan_core.proofs.kept.Core.reclaim.Goals as goal

pub invariant_of-self : goal.invariant_of-self
invariant_of-self c =
    let x = c.self.inside in
    let P : Grown × Memo MemoKey Known → Type 0 = λ p. IsCore (state_of x.began.base x.began.earlier x.journal.entries p.1 x.tally) p.0 x.before x.carried in
    subst P (sym (λ i. (c.in_err-reclaim.ensures.forest i, c.in_err-reclaim.ensures.memo i))) c.self.invariant

pub returns-in_err-reclaim-clause-err : goal.returns-in_err-reclaim-clause-err
returns-in_err-reclaim-clause-err c =
    let x = c.self.inside in
    on_err c.from_residual.result
    (ap (λ (m : Memo MemoKey Known). state_of x.began.base x.began.earlier x.journal.entries m x.tally) c.in_err-reclaim.ensures.memo ∙ c.self.view_is)

pub invariant_of-self-2 : goal.invariant_of-self-2
invariant_of-self-2 c =
    let x = c.self.inside in
    reclaimed_core x.began.base x.began.earlier x.journal.entries x.memo c.reclaim.new.memo x.tally x.forest c.reclaim.new.forest x.before x.carried _
    c.self.invariant c.in_ok-reclaim.ensures.same c.in_ok-reclaim.ensures.reclaimed.memo

pub returns-clause-ok : goal.returns-clause-ok
returns-clause-ok c =
    let x = c.self.inside in
    let done = c.in_ok-reclaim.ensures.reclaimed in
    reclaims x.began.base x.began.earlier x.journal.entries x.memo c.reclaim.new.memo x.tally c.args.self.now x.forest x.before x.carried done.live _
    c.self.invariant c.self.view_is c.holds.ensures c.in_ok-reclaim.ensures.most done.are_live
    (λ key t said.
    let one : t ≡ list_all (has_id said.set.now) (key_ids said.shown.now) = said.says.met in
    sym (one ∙ λ i. list_all (has_id (said.has i)) (key_ids (said.shows i))))
    done.memo

pub returns-clause-point : goal.returns-clause-point
returns-clause-point c = c.point-point.ensures
