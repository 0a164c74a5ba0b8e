use Rattle.walk_rules.specs.Cells.{records}
use Rattle.plan_answer.specs.Asks.{question}
use Rattle.sessions.proofs.Asking.{refused_job, if_ok}
use Rattle.sessions.proofs.job.answer_by_walk.Goals as goal

pub returns-in-Err-clause-reply : goal.returns-in-Err-clause-reply
returns-in-Err-clause-reply g c =
    if_ok c.answer_unwalked.result c.answer_unwalked.ensures.reply
    (refused_job (records c.args.job.cells) (question c.args.ask.now) c.args.job.wanted c.args.job.point c.in-Err.trouble c.requires.wants c.requires.uses c.in-Err.ensures.refused)
