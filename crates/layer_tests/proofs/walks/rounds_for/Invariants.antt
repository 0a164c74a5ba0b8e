use Rattle.std.proofs.Common.{◌≡◌, true}
use Rattle.std.specs.List.{list_all}
use Rattle.core_runs.specs.Runs.{is_sound_step}
use Rattle.layer_tests.proofs.walks.rounds_for.Given as goal

abbrev pub invariant-loop-round : goal.invariant-loop-round
invariant-loop-round l = list_all is_sound_step l.steps ≡ true
