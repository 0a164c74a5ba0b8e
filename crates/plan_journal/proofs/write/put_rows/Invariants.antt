use Rattle.std.proofs.Common.{take, Ok}
use Rattle.command_words.specs.Pages.{Gathered}
use Rattle.plan_journal.specs.Entries.{rows_text}
use Rattle.plan_journal.proofs.write.put_rows.Given as goal

abbrev pub invariant-loop-row : goal.invariant-loop-row
invariant-loop-row g l =
    Gathered {T = Unit {0}} g.S.Sink.taken g.S.Sink.faults g.S.Sink.label l.fn.sink l.sink l.fn.page.items l.page.items (rows_text (take l.row-index l.rows)) (Ok tt)
