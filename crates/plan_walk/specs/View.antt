-- What contracts see of a walk: its job, what is known of its parts, and its frontier.
use Rattle.std.specs.Prelude.{List}
use Rattle.plan_schema.specs.declared.name.Name.{Name}
use Rattle.plan_jobs.specs.declared.job.Job.{Job}
use Rattle.walk_rules.specs.Walks.{Parts}

pub record View : Type 0 where
  pub job : Job
  pub parts : Parts
  pub front : List Name
