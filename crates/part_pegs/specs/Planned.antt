-- What has to be known of plans, so that a question about them can be answered.
use Rattle.std.specs.Prelude.{◌≡◌, List, true, Option, None, Contains}
use Rattle.plan_schema.specs.declared.name.Name.{Name}
use Rattle.plan_schema.specs.Contents.{Contents}
use Rattle.planning_rules.specs.Plan.{Known, plan, has_outcome}
use Rattle.planning_rules.specs.Refused.{in_reach, plan_refusal}

-- the plan of the asked names isn't refused, and of each name in reach the plan is known, and it has an outcome
pub record ArePlanned (c : Contents) (asked : List Name) (plans : Name → Option Known) : Type 0 where
  pub allowed : plan_refusal c asked ≡ None
  pub right : (n : Name) → Contains (in_reach c asked) n → plans n ≡ plan c n
  pub outcomes : (n : Name) → Contains (in_reach c asked) n → has_outcome (plans n) ≡ true

-- a part is in reach of asked names whose plans are known so
pub record IsPlannedPart (c : Contents) (plans : Name → Option Known) (n : Name) : Type 0 where
  pub asked : List Name
  pub planned : ArePlanned c asked plans
  pub reached : Contains (in_reach c asked) n
