use Rattle.std.proofs.Common.{◌≡◌, ◌++◌}
use Rattle.std.specs.List.{filter_map}
use Rattle.planning_rules.specs.Bills.{parent_in}
use Rattle.plan_jobs.proofs.gather.add_parents.Given as goal

abbrev pub invariant-loop-key : goal.invariant-loop-key
invariant-loop-key l = l.todo.items ++ filter_map parent_in l.key-iterator ≡ l.initial.todo.items ++ filter_map parent_in l.cell
