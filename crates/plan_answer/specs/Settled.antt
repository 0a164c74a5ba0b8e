-- When a walk has what a question about plans is answered from.
use Rattle.std.specs.Prelude.{◌≡◌, ◌↔◌, List, None, Contains}
use Rattle.std.specs.List.{AllByRecursion}
use Rattle.plan_schema.specs.declared.name.Name.{Name}
use Rattle.plan_schema.specs.Contents.{Contents}
use Rattle.planning_rules.specs.Refused.{in_reach, plan_refusal}
use Rattle.walk_rules.specs.Rights.{AreRight}
use Rattle.walk_rules.specs.Walks.{Parts, names_of, IsSettled}

-- the plan of the asked names isn't refused; the parts of the walk are those in reach of them; each is settled, and what is known of it
-- is right
pub record AreAllSettled (c : Contents) (asked : List Name) (parts : Parts) : Type 0 where
  pub allowed : plan_refusal c asked ≡ None
  pub members : (n : Name) → Contains (names_of parts) n ↔ Contains (in_reach c asked) n
  pub right : AreRight c parts
  pub settled : AllByRecursion (IsSettled c parts) (names_of parts)
