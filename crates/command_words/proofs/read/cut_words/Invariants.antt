use Rattle.std.proofs.Common.{◌≡◌, length, take, nat_lt}
use Rattle.std.specs.Prelude.{filter}
use Rattle.row_text.specs.Texts.{texts}
use Rattle.command_words.proofs.read.cut_words.Given as goal

abbrev pub invariant-loop-word : goal.invariant-loop-word
invariant-loop-word l = texts l.words.items ≡ take 10 (filter (λ word. nat_lt 0 (length word)) (texts l.yielded))
