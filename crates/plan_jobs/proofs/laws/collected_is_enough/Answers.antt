use Rattle.plan_jobs.proofs.CollectedLaws.{collected_rows, collected_plans, collected_means}
use Rattle.plan_jobs.proofs.laws.collected_is_enough.Goals as goal

pub returns : goal.returns
returns c = record { rows = collected_rows; plans = collected_plans; means = collected_means }
