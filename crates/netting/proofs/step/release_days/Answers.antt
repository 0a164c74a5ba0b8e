use Rattle.std.proofs.Common.{◌≡◌, ◌+◌, ◌*◌, ◌<◌, ◌≤◌, [], ◌∷◌, ◌++◌, length, slice_index_or, slice_set, arith, subst, sym, ◌∙◌, ap, cond}
use Rattle.std.proofs.lemmas.Grind.{common_steps, get_or_default_zero}
use Rattle.planning_rules.specs.Days.{back}
use Rattle.netting.proofs.Passed.{told_within, passed_more, passed_same}
use Rattle.netting.proofs.Released.{late_to, released_to, late_more, release_step, small_step, released_all}
use Rattle.netting.proofs.step.release_days.Goals as goal
use Rattle.netting.proofs.step.release_days.Goals.{then-is_late, else-is_late, then-works+in_ok-push, else-works}

pub returns-clause-release : goal.returns-clause-release
returns-clause-release c =
    let done : c.loop-day.day ≡ length c.args.planned.now = omega arith in
    released_all c.args.calendar.now c.args.lead c.args.planned.now c.loop-day.release.items c.loop-day.invariant.whole
    (λ t h. c.loop-day.invariant.each t h ∙ ap (released_to c.args.calendar.now c.args.lead c.args.planned.now t) done)

pub index_mut-requires : goal.index_mut-requires
index_mut-requires c =
    let told = c.release_day-at.ensures c.args.calendar.now (c.as_slice.ensures.value ∙ c.loop-day.invariant.passed) in
    let earlier = told_within c.args.calendar.now c.loop-day.day c.args.lead c.release_day-at.result told in
    omega (arith, c.loop-day.invariant.whole, c.in_ok-release.ensures.len)

pub overflow_add-index_mut : goal.overflow_add-index_mut
overflow_add-index_mut c =
    let on = c.release_day-at.result.0 in
    let told = c.release_day-at.ensures c.args.calendar.now (c.as_slice.ensures.value ∙ c.loop-day.invariant.passed) in
    let earlier = told_within c.args.calendar.now c.loop-day.day c.args.lead c.release_day-at.result told in
    let within : on < length c.loop-day.release.items = omega (arith, c.loop-day.invariant.whole) in
    let is : c.index_mut.result.now ≡ slice_index_or c.loop-day.release.items on 0 = c.index_mut.ensures.value ∙ get_or_default_zero c.loop-day.release.items on c.index_mut.result.now within in
    let so_far : slice_index_or c.loop-day.release.items on 0 ≤ c.loop-day.day * 1000000000000000 = c.loop-day.invariant.small on in
    let little : slice_index_or c.args.planned.now c.loop-day.day 0 ≤ 1000000000000000 = c.requires.small c.loop-day.day 0 c.loop-day-test.true in
    omega arith

pub loop-day-preserved : goal.loop-day-preserved
loop-day-preserved c =
    let on = c.release_day-at.result.0 in
    let told : c.release_day-at.result ≡ back c.args.calendar.now c.loop-day.day c.args.lead = c.release_day-at.ensures c.args.calendar.now (c.as_slice.ensures.value ∙ c.loop-day.invariant.passed) in
    let day : (back c.args.calendar.now c.loop-day.day c.args.lead).0 ≡ on = ap (λ p. p.0) (sym told) in
    let is_late : (back c.args.calendar.now c.loop-day.day c.args.lead).1 ≡ c.release_day-at.result.1 = ap (λ p. p.1) (sym told) in
    let earlier = told_within c.args.calendar.now c.loop-day.day c.args.lead c.release_day-at.result told in
    let within : on < length c.loop-day.release.items = omega (arith, c.loop-day.invariant.whole) in
    let was : slice_index_or c.loop-day.release.items on 0 ≡ c.index_mut.result.now = sym (c.index_mut.ensures.value ∙ get_or_default_zero c.loop-day.release.items on c.index_mut.result.now within) in
    let little : slice_index_or c.args.planned.now c.loop-day.day 0 ≤ 1000000000000000 = c.requires.small c.loop-day.day 0 c.loop-day-test.true in
    let more = late_more c.args.calendar.now c.args.lead c.args.planned.now c.loop-day.day in
    let so_far : c.loop-day.late ≡ late_to c.args.calendar.now c.args.lead c.args.planned.now c.loop-day.day = c.loop-day.invariant.late in
    let some : c.if-is_late.late ≡ c.loop-day.late + cond c.release_day-at.result.1 (slice_index_or c.args.planned.now c.loop-day.day 0) 0 =
    elim c.if-is_late.branch [ then-is_late w ↦ rw w.if-is_late.true w.late-is | else-is_late w ↦ rw w.if-is_late.false (w.late-is ∙ omega arith) ] in
    record {
      passed = elim c.if-works.branch [
        | then-works+in_ok-push w ↦
            let pushed : w.push.new.self.items ≡ c.loop-day.passed.items ++ c.loop-day.day ∷ [] = grind (arith, common_steps) in
            ap (λ v. v.items) w.passed-is ∙ pushed ∙ passed_more c.args.calendar.now c.loop-day.passed.items c.loop-day.day c.loop-day.invariant.passed (sym w.if-works.ensures)
        | else-works w ↦ ap (λ v. v.items) w.passed-is ∙ passed_same c.args.calendar.now c.loop-day.passed.items c.loop-day.day c.loop-day.invariant.passed (sym w.if-works.ensures)
      ];
      whole = grind (arith, common_steps);
      each = λ t h. subst (λ v. slice_index_or (slice_set c.loop-day.release.items on (v + slice_index_or c.args.planned.now c.loop-day.day 0)) t 0 ≡ released_to c.args.calendar.now c.args.lead c.args.planned.now t (c.loop-day.day + 1)) was
          (release_step c.args.calendar.now c.args.lead c.args.planned.now c.loop-day.release.items c.loop-day.day on within day t (c.loop-day.invariant.each t h));
      late = some ∙ ap (λ v. v + cond c.release_day-at.result.1 (slice_index_or c.args.planned.now c.loop-day.day 0) 0) so_far
          ∙ ap (λ b. late_to c.args.calendar.now c.args.lead c.args.planned.now c.loop-day.day + cond b (slice_index_or c.args.planned.now c.loop-day.day 0) 0) (sym is_late) ∙ sym more;
      small = λ t. subst (λ v. slice_index_or (slice_set c.loop-day.release.items on (v + slice_index_or c.args.planned.now c.loop-day.day 0)) t 0 ≤ (c.loop-day.day + 1) * 1000000000000000) was
          (small_step c.loop-day.release.items c.loop-day.day on (slice_index_or c.args.planned.now c.loop-day.day 0) within little c.loop-day.invariant.small t);
      small_late = let before : c.loop-day.late ≤ c.loop-day.day * 1000000000000000 = c.loop-day.invariant.small_late in
          elim c.if-is_late.branch [ then-is_late w ↦ omega arith | else-is_late w ↦ omega arith ];
    }
