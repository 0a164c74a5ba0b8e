use Rattle.std.proofs.Common.{◌-◌, length}
use Rattle.plan_audit.proofs.rounds.+audit_from.Given as goal

abbrev pub decreases-audit_from : goal.decreases-audit_from
decreases-audit_from g l = length l.rounds.now - l.at
