use Rattle.std.proofs.Common.{◌≤◌, length, arith}
use Rattle.plan_audit.proofs.Lines.{more_ahead}
use Rattle.plan_audit.proofs.ahead.Ahead.is_at_end.Goals as goal

pub returns-then-self-clause-told : goal.returns-then-self-clause-told
returns-then-self-clause-told g c =
    let within : c.args.self.now.to ≤ length c.args.self.now.piece = omega (arith, c.args.self.now.within) in
    more_ahead c.args.self.now.piece c.args.self.now.from c.args.self.now.to (g.S.Source.left c.args.source.now) c.if-self.true within
