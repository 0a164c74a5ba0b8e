use Rattle.std.proofs.Common.{◌≡◌, true}
use Rattle.std.specs.List.{list_all}
use Rattle.core_runs.specs.Runs.{is_sound_step}
use Rattle.layer_tests.proofs.stepped.steps_in.Given as goal

abbrev pub invariant-loop-line : goal.invariant-loop-line
invariant-loop-line l = list_all is_sound_step l.steps ≡ true
