use Rattle.std.proofs.Common.{◌≡◌, ℕ, Bool, take, Some}
use Rattle.std.specs.Prelude.{slice_get}
use Rattle.plan_schema.specs.declared.name.Name.{Name}
use Rattle.planning_rules.specs.Refused.{is_large, least_name}
use Rattle.plan_walk.specs.Places.{known_in}
use Rattle.plan_walk.specs.Nodes.{node_names, shown}
use Rattle.plan_walk.proofs.large.least_large.Given as goal

abbrev pub invariant-loop-place : goal.invariant-loop-place
invariant-loop-place l = (test : Name → Bool) → ((k : ℕ) (n : Name) → slice_get (node_names l.nodes) k ≡ Some n → test n ≡ is_large (known_in (shown l.known) k))
    → l.least ≡ least_name test (take l.place (node_names l.nodes))
