use Rattle.std.proofs.Common.{take, Ok}
use Rattle.command_words.specs.Pages.{Gathered}
use Rattle.plan_journal.specs.Entries.{entries_text}
use Rattle.plan_journal.proofs.write.put_entries.Given as goal

abbrev pub invariant-loop-place : goal.invariant-loop-place
invariant-loop-place g l =
    Gathered {T = Unit {0}} g.S.Sink.taken g.S.Sink.faults g.S.Sink.label l.fn.sink l.sink l.fn.page.items l.page.items (entries_text 1 (take l.place l.entries)) (Ok tt)
