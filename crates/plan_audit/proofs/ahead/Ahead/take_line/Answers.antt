use Rattle.std.proofs.Common.{subst, arith}
use Rattle.plan_audit.specs.Ahead.{still, GivesByte}
use Rattle.plan_audit.specs.Buffers.{ahead_of}
use Rattle.plan_audit.proofs.Causes.{quiet_of, quiet_then}
use Rattle.plan_audit.proofs.Lines.{no_line_yet, no_line_more, line_ends, line_lacks, line_is_long, pushed, pushed_some}
use Rattle.plan_audit.proofs.ahead.Ahead.take_line.Goals as goal

pub loop-count-init : goal.loop-count-init
loop-count-init g c = (λ all is. no_line_yet all _ _ is, record { later = omega arith; same = λ i. g.S.Source.label c.args.source.now })

pub returns-in_default-clause-line : goal.returns-in_default-clause-line
returns-in_default-clause-line g c = λ all is.
    line_lacks c.loop-count.count all (still (ahead_of c.loop-count.self) (g.S.Source.left c.loop-count.source)) (still (ahead_of c.next_byte.new.self) (g.S.Source.left c.next_byte.new.source)) c.args.text.now.items c.loop-count.text.items
    (c.loop-count.invariant.0 all is)
    (subst (λ b. GivesByte b (still (ahead_of c.loop-count.self) (g.S.Source.left c.loop-count.source)) (still (ahead_of c.next_byte.new.self) (g.S.Source.left c.next_byte.new.source))) c.in_default.is c.in_ok-byte.ensures.bytes)

pub returns-then-byte-eq10-clause-line : goal.returns-then-byte-eq10-clause-line
returns-then-byte-eq10-clause-line g c = λ all is.
    line_ends c.loop-count.count c.in-Some.byte all (still (ahead_of c.loop-count.self) (g.S.Source.left c.loop-count.source)) (still (ahead_of c.next_byte.new.self) (g.S.Source.left c.next_byte.new.source)) c.args.text.now.items c.loop-count.text.items c.push.new.self.items
    c.loop-count-test.true (c.loop-count.invariant.0 all is)
    (subst (λ b. GivesByte b (still (ahead_of c.loop-count.self) (g.S.Source.left c.loop-count.source)) (still (ahead_of c.next_byte.new.self) (g.S.Source.left c.next_byte.new.source))) c.in-Some.is c.in_ok-byte.ensures.bytes)
    c.if-byte-eq10.true (pushed _ _ _ _ c.push.ensures.items c.if-is_err.ensures.negation)

pub loop-count-preserved : goal.loop-count-preserved
loop-count-preserved g c = (
  λ all is.
      no_line_more c.loop-count.count c.in-Some.byte all (still (ahead_of c.loop-count.self) (g.S.Source.left c.loop-count.source)) (still (ahead_of c.next_byte.new.self) (g.S.Source.left c.next_byte.new.source)) c.args.text.now.items c.loop-count.text.items c.push.new.self.items
      (c.loop-count.invariant.0 all is)
      (subst (λ b. GivesByte b (still (ahead_of c.loop-count.self) (g.S.Source.left c.loop-count.source)) (still (ahead_of c.next_byte.new.self) (g.S.Source.left c.next_byte.new.source))) c.in-Some.is c.in_ok-byte.ensures.bytes)
      c.if-byte-eq10.false (pushed _ _ _ _ c.push.ensures.items c.if-is_err.ensures.negation),
  quiet_then g.S.Source.faults g.S.Source.label _ _ _ c.loop-count.invariant.1 (quiet_of g.S.Source.faults g.S.Source.label _ _ c.next_byte.result c.next_byte.ensures.cause),
)

pub returns-clause-line : goal.returns-clause-line
returns-clause-line g c = λ all is. line_is_long c.loop-count.count all (still (ahead_of c.loop-count.self) (g.S.Source.left c.loop-count.source)) c.args.text.now.items c.loop-count.text.items c.loop-count-test.false (c.loop-count.invariant.0 all is)

pub returns-then-byte-eq10-clause-some : goal.returns-then-byte-eq10-clause-some
returns-then-byte-eq10-clause-some g c = λ e. pushed_some _ c.loop-count.text.items c.in-Some.byte (pushed _ _ _ _ c.push.ensures.items c.if-is_err.ensures.negation)
