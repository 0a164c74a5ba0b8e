use Rattle.std.proofs.lemmas.Result.{err_from_is_err_and}
use Rattle.command_words.specs.Replies.{reply_text}
use Rattle.command_words.proofs.Pages.{gathered_written, gathered_front}
use Rattle.command_words.proofs.write.write_reply.Goals as goal

pub returns : goal.returns
returns g c = gathered_written g.S.Sink.taken g.S.Sink.faults g.S.Sink.label _ _ _ _ _ (reply_text c.args.reply.now) _ _ _ c.new-page.ensures c.in_ok-put_reply.was c.put_reply.ensures c.flush.ensures.wrote

pub returns-in_err-put_reply : goal.returns-in_err-put_reply
returns-in_err-put_reply g c =
    let p = err_from_is_err_and c.from_residual.result c.from_residual.ensures.1 in
    rw (p.1, p.2) (gathered_front g.S.Sink.taken g.S.Sink.faults g.S.Sink.label _ _ _ _ (reply_text c.args.reply.now) _ _ c.new-page.ensures c.in_err-put_reply.was c.put_reply.ensures)
