use Rattle.std.proofs.Common.{◌≡◌, ◌++◌, sym, ◌∙◌, ap, arith}
use Rattle.plan_schema.specs.declared.refusal.Refusal.TheVariants as refusals
use Rattle.plan_schema.specs.declared.refusal.Room.TheVariants as rooms
use Rattle.plan_schema.specs.Refusals.{where_so}
use Rattle.scenario_rules.specs.Refused.{record_counts}
use Rattle.plan_core.specs.State.{State, history}
use Rattle.plan_core.proofs.Refusing.{full_is}
use Rattle.plan_core.proofs.kept.Core.journal_refusal.Goals as goal

pub is_full-requires : goal.is_full-requires
is_full-requires c =
    let x = c.self.inside in
    let light = c.self.invariant.holds.light in
    let is : x.carried ≡ record_counts (x.began.earlier ++ x.journal.entries) = c.self.invariant.carried_is in
    omega arith

pub returns-then-is_full : goal.returns-then-is_full
returns-then-is_full c =
    let x = c.self.inside in
    sym (full_is (history c.args.self.now) c.args.change.now c.is_full.result c.point.result x.carried c.record_count.result c.is_full.ensures c.point.ensures
    (c.self.invariant.carried_is ∙ ap (λ (s : State). record_counts (history s)) c.self.view_is) c.record_count.ensures
    ∙ ap (λ b. where_so b (refusals.Full rooms.Journal)) c.if-is_full.true)

pub returns : goal.returns
returns c =
    let x = c.self.inside in
    sym (full_is (history c.args.self.now) c.args.change.now c.is_full.result c.point.result x.carried c.record_count.result c.is_full.ensures c.point.ensures
    (c.self.invariant.carried_is ∙ ap (λ (s : State). record_counts (history s)) c.self.view_is) c.record_count.ensures
    ∙ ap (λ b. where_so b (refusals.Full rooms.Journal)) c.if-is_full.false)
