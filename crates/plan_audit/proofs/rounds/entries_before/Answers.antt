use Rattle.std.proofs.Common.{◌<◌, length, ap, arith}
use Rattle.session_rules.specs.Runs.{entries_of}
use Rattle.plan_audit.proofs.Points.{counted_one, counted_none, nothing_left}
use Rattle.plan_audit.proofs.rounds.entries_before.Goals as goal
use Rattle.plan_audit.proofs.rounds.entries_before.Goals.{then-entry-session, else-entry-session}

pub loop-entry-preserved : goal.loop-entry-preserved
loop-entry-preserved c =
    let within : c.loop-entry.entry-index < length c.args.entries.now = omega (arith, c.loop-entry-test.true) in
    let few = c.loop-entry.invariant.few in
    let all = c.loop-entry.invariant.all in
    elim c.if-entry-session.branch [
      | then-entry-session w ↦
          (let one = counted_one c.args.entries.now c.loop-entry.entry-index c.args.session c.entry-item.result within c.entry-item.is w.if-entry-session.true in
          let is = w.count-is in
          record { few = omega (arith, few, is); all = omega (arith, all, one, is) })
      | else-entry-session w ↦
          (let one = counted_none c.args.entries.now c.loop-entry.entry-index c.args.session c.entry-item.result within c.entry-item.is w.if-entry-session.false in
          let is = w.count-is in
          record { few = omega (arith, few, is); all = omega (arith, all, one, is) })
    ]

pub returns : goal.returns
returns c =
    let none = ap (λ es. entries_of es 0 c.args.session) (nothing_left c.loop-entry.entry-index c.args.entries.now (omega (arith, c.loop-entry-test.false))) in
    let all = c.loop-entry.invariant.all in
    omega (arith, none, all)
