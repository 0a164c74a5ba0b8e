use Rattle.std.proofs.Common.{◌≡◌, Ok}
use Rattle.command_words.specs.Pages.{Gathered}
use Rattle.plan_make.specs.Input.{turns_text, behind_turns}
use Rattle.plan_make.proofs.input.put_turns.Given as goal

abbrev pub invariant-loop-turn : goal.invariant-loop-turn
invariant-loop-turn g l =
    Gathered {T = Unit {0}} g.S.Sink.taken g.S.Sink.faults g.S.Sink.label l.fn.sink l.sink l.fn.page.items l.page.items (turns_text l.parts l.turn l.fn.numbers) (Ok tt)
    × (l.numbers ≡ behind_turns l.turn l.fn.numbers)
