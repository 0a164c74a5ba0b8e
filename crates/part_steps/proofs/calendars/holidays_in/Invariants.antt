use Rattle.std.proofs.Common.{◌≡◌, ◌++◌}
use Rattle.part_steps.specs.Holidays.{holidays_of}
use Rattle.part_steps.proofs.calendars.holidays_in.Given as goal

abbrev pub invariant-loop-key : goal.invariant-loop-key
invariant-loop-key l = l.holidays ++ holidays_of l.fn.name l.key-iterator ≡ holidays_of l.fn.name l.fn.cell
