use Rattle.std.proofs.Common.{subst, arith}
use Rattle.plan_audit.specs.Ahead.{still, LineTaken}
use Rattle.plan_audit.specs.Buffers.{ahead_of}
use Rattle.plan_audit.proofs.Causes.{quiet_of, quiet_then}
use Rattle.plan_audit.proofs.Lines.{no_lines_yet, one_line_more, lines_lack, lines_are_taken}
use Rattle.plan_audit.proofs.replies.take_lines.Goals as goal

pub loop-line-init : goal.loop-line-init
loop-line-init g c = (λ all is. no_lines_yet c.args.count all _ _ is, record { later = omega arith; same = λ i. g.S.Source.label c.args.source.now })

pub loop-line-preserved : goal.loop-line-preserved
loop-line-preserved g c = (
  λ all is.
      let h = c.loop-line.invariant.0 all is in
      one_line_more c.loop-line.line c.args.count all (still (ahead_of c.loop-line.ahead) (g.S.Source.left c.loop-line.source)) (still (ahead_of c.take_line.new.self) (g.S.Source.left c.take_line.new.source)) c.args.text.now.items c.loop-line.text.items c.take_line.new.text.items
      c.loop-line-test.true h
      (subst (λ b. LineTaken h.behind (still (ahead_of c.take_line.new.self) (g.S.Source.left c.take_line.new.source)) c.loop-line.text.items c.take_line.new.text.items b) c.if-not-branch.false (c.in_ok-take_line.ensures.line h.behind h.left)),
  quiet_then g.S.Source.faults g.S.Source.label _ _ _ c.loop-line.invariant.1 (quiet_of g.S.Source.faults g.S.Source.label _ _ c.take_line.result c.take_line.ensures.cause),
)

pub returns-then-not-branch-clause-lines : goal.returns-then-not-branch-clause-lines
returns-then-not-branch-clause-lines g c = λ all is.
    let h = c.loop-line.invariant.0 all is in
    lines_lack c.loop-line.line c.args.count all (still (ahead_of c.loop-line.ahead) (g.S.Source.left c.loop-line.source)) c.args.text.now.items c.loop-line.text.items
    c.loop-line-test.true h
    (subst (λ b. LineTaken h.behind (still (ahead_of c.take_line.new.self) (g.S.Source.left c.take_line.new.source)) c.loop-line.text.items c.take_line.new.text.items b) c.if-not-branch.true (c.in_ok-take_line.ensures.line h.behind h.left))

pub returns-clause-lines : goal.returns-clause-lines
returns-clause-lines g c = λ all is.
    lines_are_taken c.loop-line.line c.args.count all (still (ahead_of c.loop-line.ahead) (g.S.Source.left c.loop-line.source)) c.args.text.now.items c.loop-line.text.items
    c.loop-line-test.false (c.loop-line.invariant.0 all is)
