use Rattle.std.proofs.Common.{◌≡◌, false, drop}
use Rattle.plan_journal.specs.Cuts.{parts_singly}
use Rattle.plan_journal.proofs.cuts.parts_singly.Given as goal

abbrev pub invariant-loop-byte : goal.invariant-loop-byte
invariant-loop-byte l = parts_singly l.is_behind_word (drop l.byte-index l.text) ≡ parts_singly false l.text
