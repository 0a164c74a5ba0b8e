use Rattle.std.proofs.Common.{◌≡◌, ℕ, ◌+◌, ◌-◌, ◌<◌, ◌≤◌, ◌∙◌, length, take, List, Result, Ok, Err, ap, sym, subst, arith, ◌++◌, length-append}
use Rattle.std.specs.Prelude.{IsErrAnd}
use Rattle.std.proofs.lemmas.List.{length-take}
use Rattle.plan_schema.proofs.Writes.{rose_after}
use Rattle.byte_lines.specs.declared.reading.ReadAllFault.{ReadAllFault}
use Rattle.byte_lines.specs.declared.reading.ReadAllFault.TheVariants.{Failed, Memory}
use Rattle.byte_lines.specs.ReadAll.{ReadAll}
use Rattle.byte_lines.proofs.ReadSteps.{gave_front, gave_untold, failed_behind, failed_untold, read_whole, read_front, read_large, read_more}
use Rattle.byte_lines.proofs.reading.read_all.Goals as goal

pub returns-then-count-eq0 : goal.returns-then-count-eq0
returns-then-count-eq0 g c =
    let i = c.loop-bytes.invariant in
    let gives = c.in_ok-count.ensures.bytes in
    let some : 0 < length c.read_piece.new.buffer = omega arith in
    record {
      fits = i.few;
      whole = λ before e. read_whole (i.told before e) (gave_front _ _ _ _ _ _ (i.told before e) gives.1) some c.if-count-eq0.true;
      front = λ before e. tt;
      large = λ before e no. cc;
      untold = λ e. gave_untold _ _ _ _ (i.untold e) gives.1;
      later = omega (arith, i.later, c.in_ok-count.ensures.cause.later);
      failed = λ no. cc;
      same = c.in_ok-count.ensures.same ∙ i.same;
    }

pub returns-then-count-room : goal.returns-then-count-room
returns-then-count-room g c =
    let i = c.loop-bytes.invariant in
    let gives = c.in_ok-count.ensures.bytes in
    let few : c.in_ok-count.count ≤ c.args.most - length c.loop-bytes.bytes + 1 = omega (arith, c.in_ok-count.ensures.few) in
    let over : c.args.most < length c.loop-bytes.bytes + c.in_ok-count.count = omega arith in
    record {
      fits = tt;
      whole = λ before e. tt;
      front = λ before e. read_front (i.told before e) (gave_front _ _ _ _ _ _ (i.told before e) gives.1) _ (omega (arith, few, i.few));
      large = λ before e _. read_large (i.told before e) (gave_front _ _ _ _ _ _ (i.told before e) gives.1) _ over;
      untold = λ e. gave_untold _ _ _ _ (i.untold e) gives.1;
      later = omega (arith, i.later, c.in_ok-count.ensures.cause.later);
      failed = λ no. cc;
      same = c.in_ok-count.ensures.same ∙ i.same;
    }

-- a want of memory
memory_error : (result : Result (List ℕ) ReadAllFault) → IsErrAnd result (λ fault. fault ≡ Memory) → result ≡ Err Memory
memory_error (Ok bytes) h = absurd h
memory_error (Err fault) h = ap Err h

-- a fault of the source
failed_error : (result : Result (List ℕ) ReadAllFault) → IsErrAnd result (λ fault. fault ≡ Failed) → result ≡ Err Failed
failed_error (Ok bytes) h = absurd h
failed_error (Err fault) h = ap Err h

pub returns-in_err-count : goal.returns-in_err-count
returns-in_err-count g c =
    let i = c.loop-bytes.invariant in
    let leaves = c.in_err-count.ensures.bytes in
    let is : c.from_residual.result ≡ Err Failed = failed_error _ c.from_residual.ensures.1 in
    subst (λ (r : Result (List ℕ) ReadAllFault). ReadAll {S = g.row.S.Denot} g.S.Source.left g.S.Source.faults g.S.Source.label c.args.most c.args.source.now c.read_piece.new.source r) (sym is)
    (record {
      fits = tt;
      whole = λ before e. tt;
      front = λ before e. failed_behind _ _ _ _ (i.told before e) leaves;
      large = λ before e no. cc;
      untold = λ e. failed_untold _ _ (i.untold e) leaves;
      later = omega (arith, i.later, c.in_err-count.ensures.cause.later);
      failed = λ _. rose_after _ _ _ i.later (c.in_err-count.ensures.cause.failed);
      same = c.in_err-count.ensures.same ∙ i.same;
    })

pub returns-in_err-extend : goal.returns-in_err-extend
returns-in_err-extend g c =
    let i = c.loop-bytes.invariant in
    let gives = c.in_ok-count.ensures.bytes in
    let few : c.in_ok-count.count ≤ c.args.most - length c.loop-bytes.bytes = omega arith in
    let is : c.from_residual-in_err-extend.result ≡ Err Memory = memory_error _ c.from_residual-in_err-extend.ensures.1 in
    subst (λ (r : Result (List ℕ) ReadAllFault). ReadAll {S = g.row.S.Denot} g.S.Source.left g.S.Source.faults g.S.Source.label c.args.most c.args.source.now c.read_piece.new.source r) (sym is)
    (record {
      fits = tt;
      whole = λ before e. tt;
      front = λ before e. read_front (i.told before e) (gave_front _ _ _ _ _ _ (i.told before e) gives.1) _ (omega (arith, few, i.few));
      large = λ before e no. cc;
      untold = λ e. gave_untold _ _ _ _ (i.untold e) gives.1;
      later = omega (arith, i.later, c.in_ok-count.ensures.cause.later);
      failed = λ no. cc;
      same = c.in_ok-count.ensures.same ∙ i.same;
    })

pub loop-bytes-preserved : goal.loop-bytes-preserved
loop-bytes-preserved g c =
    let i = c.loop-bytes.invariant in
    let gives = c.in_ok-count.ensures.bytes in
    let grown : c.extend.new.self ≡ c.loop-bytes.bytes ++ take c.in_ok-count.count c.read_piece.new.buffer = c.in_ok-extend.ensures.ok in
    let few : c.in_ok-count.count ≤ c.args.most - length c.loop-bytes.bytes = omega arith in
    record {
      few = rw grown (omega (arith, few, i.few, gives.0, length-append c.loop-bytes.bytes (take c.in_ok-count.count c.read_piece.new.buffer), length-take c.in_ok-count.count c.read_piece.new.buffer));
      told = λ before e. rw grown (read_more (i.told before e) (gave_front _ _ _ _ _ _ (i.told before e) gives.1) gives.0);
      untold = λ e. gave_untold _ _ _ _ (i.untold e) gives.1;
      later = omega (arith, i.later, c.in_ok-count.ensures.cause.later);
      same = c.in_ok-count.ensures.same ∙ i.same;
    }
