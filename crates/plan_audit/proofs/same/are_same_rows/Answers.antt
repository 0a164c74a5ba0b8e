use Rattle.std.proofs.Common.{sym}
use Rattle.plan_audit.proofs.Rows.{unlike}
use Rattle.plan_audit.proofs.same.are_same_rows.Goals as goal

pub returns-then-rows-others : goal.returns-then-rows-others
returns-then-rows-others c = sym (unlike c.args.rows.now c.args.others.now c.if-rows-others.true)
