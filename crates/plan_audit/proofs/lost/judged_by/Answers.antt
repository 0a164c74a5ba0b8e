use Rattle.std.proofs.Common.{◌≡◌, ◌∙◌, ◌+◌, ◌<◌, ◌∷◌, false, length, drop, slice_index_or, ap, refl, sym, arith}
use Rattle.plan_schema.specs.declared.change.Entry.{Entry}
use Rattle.plan_audit.specs.Verdicts.{first_lost, judged_last}
use Rattle.plan_audit.proofs.Points.{one_left, nothing_left}
use Rattle.plan_audit.proofs.Marks.{lost_here, lost_later, none_lost}
use Rattle.plan_audit.proofs.lost.judged_by.Goals as goal

pub loop-entry-init : goal.loop-entry-init
loop-entry-init c = (refl, λ points h. refl)

pub returns-then-not-is_marked : goal.returns-then-not-is_marked
returns-then-not-is_marked c = λ points h.
    let entries = c.args.entries.now in
    let at = c.loop-entry.entry-index in
    let entry = c.entry-item.result in
    let within : at < length entries = omega (arith, c.loop-entry-test.true) in
    let left : drop at entries ≡ entry ∷ drop (at + 1) entries = one_left at entries entry within ∙ ap (λ (e : Entry). e ∷ drop (at + 1) entries) (sym c.entry-item.is) in
    ap judged_last (c.loop-entry.invariant.1 points h ∙ ap (λ es. first_lost points (at + 1) es) left
    ∙ lost_here points (at + 1) entry (drop (at + 1) entries) (sym (h at within) ∙ sym (ap (λ n. slice_index_or c.args.marks.now n false) c.loop-entry.invariant.0) ∙ sym c.is_marked.ensures ∙ c.if-not-is_marked.true))

pub loop-entry-preserved : goal.loop-entry-preserved
loop-entry-preserved c =
    let entries = c.args.entries.now in
    let at = c.loop-entry.entry-index in
    let entry = c.entry-item.result in
    let within : at < length entries = omega (arith, c.loop-entry-test.true) in
    let left : drop at entries ≡ entry ∷ drop (at + 1) entries = one_left at entries entry within ∙ ap (λ (e : Entry). e ∷ drop (at + 1) entries) (sym c.entry-item.is) in (
      ap (λ n. n + 1) c.loop-entry.invariant.0,
      λ points h.
          c.loop-entry.invariant.1 points h ∙ ap (λ es. first_lost points (at + 1) es) left
          ∙ lost_later points (at + 1) entry (drop (at + 1) entries) (sym (h at within) ∙ sym (ap (λ n. slice_index_or c.args.marks.now n false) c.loop-entry.invariant.0) ∙ sym c.is_marked.ensures ∙ c.if-not-is_marked.false),
    )

pub returns : goal.returns
returns c = λ points h.
    let at = c.loop-entry.entry-index in
    ap judged_last (c.loop-entry.invariant.1 points h ∙ ap (λ es. first_lost points (at + 1) es) (nothing_left at c.args.entries.now (omega (arith, c.loop-entry-test.false))) ∙ none_lost points (at + 1))
