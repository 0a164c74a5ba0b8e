use Rattle.std.proofs.Common.{take, map, Ok}
use Rattle.std.specs.List.{flat_map}
use Rattle.command_words.specs.Pages.{Gathered}
use Rattle.command_words.specs.Replies.{ended}
use Rattle.command_words.proofs.page.put_lines.Given as goal

abbrev pub invariant-loop-line : goal.invariant-loop-line
invariant-loop-line g l =
    Gathered {T = Unit {0}} g.S.Sink.taken g.S.Sink.faults g.S.Sink.label l.fn.sink l.sink l.fn.page.items l.page.items (flat_map ended (map (λ line. line.items) (take l.line-index l.lines))) (Ok tt)
