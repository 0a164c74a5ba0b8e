use Rattle.std.proofs.Common.{◌≡◌, sym, subst}
use Rattle.std.proofs.lemmas.Result.{IfOk-weaker}
use Rattle.std.specs.Prelude.{Result, Ok, Err, OnOk}
use Rattle.record_versions.specs.Versions.{IdList}
use Rattle.scenario_merge.specs.Grown.{ids_in}
use Rattle.version_reclaim.specs.Collected.{AreIn}
use Rattle.version_reclaim.proofs.LiveLaws.{both_put}
use Rattle.version_reclaim.proofs.collect.put_scenario.Goals as goal

-- what holds at each answer
on_ok : {A E P : Type 0} (r : Result A E) → P → OnOk r P
on_ok (Ok a) p = p
on_ok (Err e) p = tt

pub returns-clause-ids : goal.returns-clause-ids
returns-clause-ids c =
    on_ok c.share.result (both_put (ids_in c.args.forest.now c.args.name.now) c.in-Some.base.now c.in-Some-ids.contents.now c.in-Some.ensures.ids c.in-Some-ids.ensures.ids
    c.args.live.now.items c.put_ids.new.live.items c.put_ids-2.new.live.items c.in_ok-put_ids.ensures.ok c.in_ok-put_ids-2.ensures.ok c.in_ok-put_ids.ensures.ordered c.in_ok-put_ids-2.ensures.ordered)

pub returns-clause-contents : goal.returns-clause-contents
returns-clause-contents c =
    IfOk-weaker c.share.result
    (λ ids. ids ≡ c.in-Some-ids.contents.now)
    (λ ids. AreIn c.put_ids-2.new.live.items ids)
    (λ ids e. subst (λ (l : IdList). AreIn c.put_ids-2.new.live.items l) (sym e) c.in_ok-put_ids-2.ensures.ok.put)
    c.share.ensures
