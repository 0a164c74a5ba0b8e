use Rattle.std.proofs.Common.{◌≡◌, ◌≤◌, drop}
use Rattle.row_text.specs.Number.{number_from}
use Rattle.row_text.proofs.number.read_number.Given as goal

abbrev pub invariant-loop-b : goal.invariant-loop-b
invariant-loop-b l = (number_from l.value (drop l.b-index l.text) ≡ number_from 0 l.text) × (l.value ≤ l.high)
