use Rattle.std.proofs.Common.{◌<◌, ◌∙◌, sym, ap, length, arith, Err}
use Rattle.plan_journal.specs.Reading.{told}
use Rattle.plan_journal.proofs.Steps.{one_line, faulty_line, no_more_lines, told_fault, shorter}
use Rattle.plan_journal.proofs.reading.read_entries.Goals as goal

pub returns-in-Err : goal.returns-in-Err
returns-in-Err c =
    told_fault _ c.in-Err.fault c.in_line.result c.loop-line.number c.in_line.ensures.form c.in_line.ensures.memory
    (λ e. sym c.loop-line.invariant.same ∙ faulty_line c.args.frame c.loop-line.reading c.loop-line.number c.loop-line.rest.now c.in-Some.line.now c.in-Some.behind.now c.in-Some.ensures (c.in-Err.ensures.form (ap Err e)))

pub overflow_add-number : goal.overflow_add-number
overflow_add-number c =
    let less = shorter c.loop-line.rest.now c.in-Some.line.now c.in-Some.behind.now c.in-Some.ensures in
    omega arith

pub loop-line-smaller : goal.loop-line-smaller
loop-line-smaller c = shorter c.loop-line.rest.now c.in-Some.line.now c.in-Some.behind.now c.in-Some.ensures

pub loop-line-preserved : goal.loop-line-preserved
loop-line-preserved c =
    let less : length c.in-Some.behind.now < length c.loop-line.rest.now = shorter c.loop-line.rest.now c.in-Some.line.now c.in-Some.behind.now c.in-Some.ensures in
    record {
      same = sym (one_line c.args.frame c.loop-line.reading c.take_line.new.self c.loop-line.number c.loop-line.rest.now c.in-Some.line.now c.in-Some.behind.now c.in-Some.ensures c.in_default-take_line.ensures.ok) ∙ c.loop-line.invariant.same;
      few = omega arith;
    }

pub returns-in-None : goal.returns-in-None
returns-in-None c =
    sym c.loop-line.invariant.same ∙ no_more_lines c.args.frame c.loop-line.reading c.loop-line.number c.loop-line.rest.now c.in_default.ensures
    ∙ ap (told c.loop-line.number) (sym c.in-None.ensures)

pub returns-in-Some-finish : goal.returns-in-Some-finish
returns-in-Some-finish c =
    sym c.loop-line.invariant.same ∙ no_more_lines c.args.frame c.loop-line.reading c.loop-line.number c.loop-line.rest.now c.in_default.ensures
    ∙ ap (told c.loop-line.number) (sym c.in-Some-finish.ensures)
