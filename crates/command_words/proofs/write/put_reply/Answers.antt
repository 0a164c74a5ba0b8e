use Rattle.std.proofs.Common.{◌++◌, ◌∙◌, subst, map}
use Rattle.std.specs.List.{flat_map}
use Rattle.command_words.specs.Pages.{Gathered}
use Rattle.command_words.specs.Replies.{ended, reply_text}
use Rattle.command_words.proofs.Pages.{gathered_then}
use Rattle.command_words.proofs.write.put_reply.Goals as goal

pub returns : goal.returns
unfolding reply_text
returns g c =
    subst (λ t. Gathered g.S.Sink.taken g.S.Sink.faults g.S.Sink.label c.args.sink.now c.put_lines.new.sink c.args.page.now.items c.put_lines.new.page.items t c.put_lines.result)
    (λ i. (c.as_slice.ensures.value ∙ c.head_bytes.ensures) i ++ flat_map ended (c.more_lines.ensures i))
    (gathered_then g.S.Sink.taken g.S.Sink.faults g.S.Sink.label _ _ _ _ _ _ c.as_slice.result.now (flat_map ended (map (λ line. line.items) c.more_lines.result.now)) _ _ _ c.in_ok-put.was c.put.ensures c.put_lines.ensures)
