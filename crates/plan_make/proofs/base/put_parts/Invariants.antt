use Rattle.std.proofs.Common.{◌≡◌, Ok}
use Rattle.command_words.specs.Pages.{Gathered}
use Rattle.plan_make.specs.Base.{parts_text, behind_parts}
use Rattle.plan_make.proofs.base.put_parts.Given as goal

abbrev pub invariant-loop-place : goal.invariant-loop-place
invariant-loop-place g l =
    Gathered {T = Unit {0}} g.S.Sink.taken g.S.Sink.faults g.S.Sink.label l.fn.sink l.sink l.fn.page.items l.page.items (parts_text l.parts l.place l.fn.numbers) (Ok tt)
    × (l.numbers ≡ behind_parts l.parts l.place l.fn.numbers)
