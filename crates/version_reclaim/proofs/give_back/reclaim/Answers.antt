use Rattle.version_reclaim.specs.Reclaimed.{Answers}
use Rattle.version_reclaim.proofs.KeptLaws.{keeps_as}
use Rattle.version_reclaim.proofs.LiveLaws.{live_there}
use Rattle.version_reclaim.proofs.give_back.reclaim.Goals as goal

pub sweep-requires : goal.sweep-requires
sweep-requires g c = λ id live. c.in_ok-live.ensures.all id (live_there c.args.forest.now c.holds.ensures.gone id live)

pub returns-clause-reclaimed : goal.returns-clause-reclaimed
returns-clause-reclaimed g c = record {
  live = c.in_ok-live.live;
  are_live = c.in_ok-live.ensures;
  store = c.sweep.ensures.store;
  memo = keeps_as _ (Answers g.F.Fn c.args.keep c.in_ok-live.live) (λ k b said. let one : Answers g.F.Fn c.args.keep c.in_ok-live.live said.shown.now b = said.says.met in rw said.shows at one) _ _ c.in_ok-keep_only.ensures.ok;
}
