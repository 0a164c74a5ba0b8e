use Rattle.std.proofs.Common.{◌<◌, ◌∙◌, ℕ, length, take, drop, subst, arith, length-append}
use Rattle.std.proofs.lemmas.List.{length-take}
use Rattle.journal_disk.specs.Disks.{GaveFrom}
use Rattle.journal_disk.proofs.Moments.{looked_on}
use Rattle.journal_disk.proofs.Pieces.{front_whole, front_end, front_more}
use Rattle.journal_disk.proofs.recovery.read_whole.Goals as goal

pub returns-then-count-eq0 : goal.returns-then-count-eq0
returns-then-count-eq0 g c =
    let i = c.loop-buffer.invariant in
    let gave = c.in_ok-count.ensures.bytes in
    let room : 0 < length c.read_piece.new.buffer = omega (arith, c.read_piece.array_long) in
    record {
      whole = λ all e. front_end all c.loop-buffer.bytes c.read_piece.new.buffer c.in_ok-count.count (i.front all e)
          (subst (λ (p : ℕ). GaveFrom (drop p all) c.read_piece.new.buffer c.in_ok-count.count) c.len-in-loop-buffer-2.ensures (gave.bytes all (i.same.told ∙ e))) room c.if-count-eq0.true;
      large = λ all e no. cc;
      no_form = λ place no. cc;
      fits = omega (arith, i.few, i.fits);
      same = looked_on _ _ _ i.same c.in_ok-count.ensures.same;
      later = omega (arith, i.later, c.in_ok-count.ensures.cause.later);
      failed = λ no. cc;
    }

pub loop-buffer-preserved : goal.loop-buffer-preserved
loop-buffer-preserved g c =
    let i = c.loop-buffer.invariant in
    let gave = c.in_ok-count.ensures.bytes in
    let grown = c.in_ok-extend.ensures.ok in
    record {
      front = λ all e. rw grown (front_more all c.loop-buffer.bytes c.read_piece.new.buffer c.in_ok-count.count (i.front all e) gave.fits
          (subst (λ (p : ℕ). GaveFrom (drop p all) c.read_piece.new.buffer c.in_ok-count.count) c.len-in-loop-buffer-2.ensures (gave.bytes all (i.same.told ∙ e))));
      size = i.size;
      few = rw grown (omega (arith, c.in_ok-count.ensures.few, c.loop-buffer-test.true, i.few, c.len-in-loop-buffer.ensures, length-append c.loop-buffer.bytes (take c.in_ok-count.count c.read_piece.new.buffer), length-take c.in_ok-count.count c.read_piece.new.buffer));
      fits = i.fits;
      same = looked_on _ _ _ i.same c.in_ok-count.ensures.same;
      later = omega (arith, i.later, c.in_ok-count.ensures.cause.later);
    }

pub returns : goal.returns
returns g c =
    let i = c.loop-buffer.invariant in
    record {
      whole = λ all e. front_whole all c.loop-buffer.bytes (i.front all e) (omega (arith, i.size all e, c.loop-buffer-test.false, c.len.ensures));
      large = λ all e no. cc;
      no_form = λ place no. cc;
      fits = omega (arith, i.few, i.fits);
      same = i.same;
      later = i.later;
      failed = λ no. cc;
    }
