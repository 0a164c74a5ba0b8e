use Rattle.std.proofs.Common.{◌≡◌, ℕ, suc, ◌+◌, ◌≤◌, List, map, length, take, sym, ◌∙◌, ap, subst, arith}
use Rattle.std.proofs.lemmas.List.FromFn.{length-map-range_with_len}
use Rattle.std.specs.Prelude.{Some, sum, slice_get}
use Rattle.std.specs.Option.{option_copied}
use Rattle.std.specs.List.{range_with_len}
use Rattle.planning_rules.specs.Days.{start_of, days_of}
use Rattle.planning_rules.specs.Plan.{stock_in}
use Rattle.walk_rules.specs.Cells.{records}
use Rattle.walk_rules.specs.Walks.{names_of, known_at}
use Rattle.explosion.specs.Sums.{sched_by}
use Rattle.plan_jobs.specs.declared.job.Job.{Job}
use Rattle.part_pegs.specs.Planned.{IsPlannedPart}
use Rattle.full_pegging.specs.declared.target.Target.{Target}
use Rattle.full_pegging.specs.Rows.{rows_weight, by_stretch}
use Rattle.full_pegging.specs.Following.{supply_weight, target_weight}
use Rattle.full_pegging.specs.Ends.{AreTargets, pegs_of, ends_by}
use Rattle.full_pegging.proofs.Aiming.{part_planned, outcome_there}
use Rattle.full_pegging.proofs.Following.{own_part}
use Rattle.full_pegging.proofs.Walked.{targets_whole}
use Rattle.full_pegging.proofs.Named.{there_at, days_long, sched_is, sched_long, planned_few, asked_few, all_follow, step_weighs, befores_room, few_sched, place_low, not_none}
use Rattle.full_pegging.proofs.trail.follow_rows.Goals as goal

pub part_cell-cell-requires-clause-planned : goal.part_cell-cell-requires-clause-planned
part_cell-cell-requires-clause-planned g c =
    subst (λ (job : Job). IsPlannedPart (records job.cells) (known_at c.args.walk.now.parts) c.in-Some.part.now) (sym c.job-job.ensures)
    (part_planned c.args.walk.now c.requires.0 c.in-Some.part.now (there_at c.args.walk.now c.in-Some.part.now g.spot (subst (λ k. slice_get (names_of c.args.walk.now.parts) k ≡ Some c.in-Some.part.now) (sym c.requires.1.0) (sym c.name_at.ensures ∙ ap option_copied c.in-Some.is))))

pub outcome_of-outcome-requires : goal.outcome_of-outcome-requires
outcome_of-outcome-requires g c = outcome_there c.args.walk.now c.requires.0 c.in-Some.part.now (there_at c.args.walk.now c.in-Some.part.now g.spot (subst (λ k. slice_get (names_of c.args.walk.now.parts) k ≡ Some c.in-Some.part.now) (sym c.requires.1.0) (sym c.name_at.ensures ∙ ap option_copied c.in-Some.is)))

pub sched-requires-clause-rows : goal.sched-requires-clause-rows
sched-requires-clause-rows g c =
    (own_part c.args.walk.now c.requires.0 c.in-Some.part.now (there_at c.args.walk.now c.in-Some.part.now g.spot (subst (λ k. slice_get (names_of c.args.walk.now.parts) k ≡ Some c.in-Some.part.now) (sym c.requires.1.0) (sym c.name_at.ensures ∙ ap option_copied c.in-Some.is))) c.job-job.result.now c.job-job.ensures c.part_cell-cell.result.now c.part_cell-cell.ensures).few

pub sched-requires-clause-sound : goal.sched-requires-clause-sound
sched-requires-clause-sound g c =
    (own_part c.args.walk.now c.requires.0 c.in-Some.part.now (there_at c.args.walk.now c.in-Some.part.now g.spot (subst (λ k. slice_get (names_of c.args.walk.now.parts) k ≡ Some c.in-Some.part.now) (sym c.requires.1.0) (sym c.name_at.ensures ∙ ap option_copied c.in-Some.is))) c.job-job.result.now c.job-job.ensures c.part_cell-cell.result.now c.part_cell-cell.ensures).sound

pub stock_in-requires : goal.stock_in-requires
stock_in-requires g c =
    (own_part c.args.walk.now c.requires.0 c.in-Some.part.now (there_at c.args.walk.now c.in-Some.part.now g.spot (subst (λ k. slice_get (names_of c.args.walk.now.parts) k ≡ Some c.in-Some.part.now) (sym c.requires.1.0) (sym c.name_at.ensures ∙ ap option_copied c.in-Some.is))) c.job-job.result.now c.job-job.ensures c.part_cell-cell.result.now c.part_cell-cell.ensures).sound

pub befores_of-requires-clause-days : goal.befores_of-requires-clause-days
befores_of-requires-clause-days g c =
    let w = c.args.walk.now in
    let n = c.in-Some.part.now in
    let rows = c.part_cell-cell.result.now in
    let o = c.outcome_of-outcome.result.now in
    let at = (subst (λ k. slice_get (names_of c.args.walk.now.parts) k ≡ Some c.in-Some.part.now) (sym c.requires.1.0) (sym c.name_at.ensures ∙ ap option_copied c.in-Some.is)) in
    let own = own_part w c.requires.0 n (there_at w n g.spot at) c.job-job.result.now c.job-job.ensures rows c.part_cell-cell.ensures in
    let horizon = ap (λ (job : Job). (start_of (records job.cells), days_of (records job.cells))) (sym c.job-job.ensures) ∙ sym c.horizon-start.ensures.value in
    let days = ap (λ (pair : ℕ × ℕ). pair.1) horizon in
    let most = c.horizon-start.ensures.most in
    let few : days_of (records w.job.cells) ≤ 400 = omega (arith, days, most) in
    let scheduled = c.as_slice.ensures ∙ c.in_ok-sched.ensures.sched ∙ (λ i. sched_by rows (sym horizon i).0 (sym horizon i).1) ∙ sched_is w c.requires.0 n g.spot at rows own o c.outcome_of-outcome.ensures few in
    ap length scheduled ∙ sched_long w c.requires.0 n g.spot at rows own o c.outcome_of-outcome.ensures few
    ∙ sym (ap length c.as_slice-planned.ensures ∙ days_long w c.requires.0 n g.spot at rows own o c.outcome_of-outcome.ensures few)

pub befores_of-requires-clause-fits : goal.befores_of-requires-clause-fits
befores_of-requires-clause-fits g c =
    let w = c.args.walk.now in
    let n = c.in-Some.part.now in
    let rows = c.part_cell-cell.result.now in
    let o = c.outcome_of-outcome.result.now in
    let at = (subst (λ k. slice_get (names_of c.args.walk.now.parts) k ≡ Some c.in-Some.part.now) (sym c.requires.1.0) (sym c.name_at.ensures ∙ ap option_copied c.in-Some.is)) in
    let own = own_part w c.requires.0 n (there_at w n g.spot at) c.job-job.result.now c.job-job.ensures rows c.part_cell-cell.ensures in
    let horizon = ap (λ (job : Job). (start_of (records job.cells), days_of (records job.cells))) (sym c.job-job.ensures) ∙ sym c.horizon-start.ensures.value in
    let days = ap (λ (pair : ℕ × ℕ). pair.1) horizon in
    let most = c.horizon-start.ensures.most in
    let few : days_of (records w.job.cells) ≤ 400 = omega (arith, days, most) in
    let listed = c.in_ok-sched.ensures.sched ∙ (λ i. sched_by rows (sym horizon i).0 (sym horizon i).1) ∙ sched_is w c.requires.0 n g.spot at rows own o c.outcome_of-outcome.ensures few in
    let sched_few = few_sched c.in_ok-sched.sched (days_of (records w.job.cells)) (ap length listed ∙ sched_long w c.requires.0 n g.spot at rows own o c.outcome_of-outcome.ensures few) few c.in_ok-sched.ensures.small in
    let sched_sum = ap sum c.as_slice.ensures in
    let planned = planned_few w c.requires.0 n g.spot at rows own o c.outcome_of-outcome.ensures few in
    let planned_sum = ap sum c.as_slice-planned.ensures in
    let stock = c.stock_in.ensures.most in
    omega (arith, sched_few, sched_sum, planned, planned_sum, stock)

pub aims_of-requires-clause-part : goal.aims_of-requires-clause-part
aims_of-requires-clause-part g c = there_at c.args.walk.now c.in-Some.part.now g.spot (subst (λ k. slice_get (names_of c.args.walk.now.parts) k ≡ Some c.in-Some.part.now) (sym c.requires.1.0) (sym c.name_at.ensures ∙ ap option_copied c.in-Some.is))

pub follow_part-requires : goal.follow_part-requires
follow_part-requires g c =
    let w = c.args.walk.now in
    let n = c.in-Some.part.now in
    let rows = c.part_cell-cell.result.now in
    let o = c.outcome_of-outcome.result.now in
    let at = (subst (λ k. slice_get (names_of c.args.walk.now.parts) k ≡ Some c.in-Some.part.now) (sym c.requires.1.0) (sym c.name_at.ensures ∙ ap option_copied c.in-Some.is)) in
    let own = own_part w c.requires.0 n (there_at w n g.spot at) c.job-job.result.now c.job-job.ensures rows c.part_cell-cell.ensures in
    let horizon = ap (λ (job : Job). (start_of (records job.cells), days_of (records job.cells))) (sym c.job-job.ensures) ∙ sym c.horizon-start.ensures.value in
    let days = ap (λ (pair : ℕ × ℕ). pair.1) horizon in
    let most = c.horizon-start.ensures.most in
    let few : days_of (records w.job.cells) ≤ 400 = omega (arith, days, most) in
    let known = c.outcome_of-outcome.ensures in
    let listed = c.in_ok-sched.ensures.sched ∙ (λ i. sched_by rows (sym horizon i).0 (sym horizon i).1) ∙ sched_is w c.requires.0 n g.spot at rows own o known few in
    let sched_few = few_sched c.in_ok-sched.sched (days_of (records w.job.cells)) (ap length listed ∙ sched_long w c.requires.0 n g.spot at rows own o known few) few c.in_ok-sched.ensures.small in
    let sched_sum = ap sum c.as_slice.ensures in
    let planned = planned_few w c.requires.0 n g.spot at rows own o known few in
    let planned_sum = ap sum c.as_slice-planned.ensures in
    let stock = c.stock_in.ensures.most in
    let are =
    (let contents = records c.args.walk.now.job.cells in
    let ns = names_of c.args.walk.now.parts in
    subst (λ (ts : List Target). AreTargets contents ns c.in-Some.part.now (pegs_of contents c.in-Some.part.now (days_of contents)) ts c.as_slice-3.result.now) (sym c.as_slice-4.ensures.value)
    (subst (λ (qs : List ℕ). AreTargets contents ns c.in-Some.part.now (pegs_of contents c.in-Some.part.now (days_of contents)) c.in_ok-aims.aims.targets.items qs) (sym c.as_slice-3.ensures.value) c.in_ok-aims.ensures)) in
    let asked = asked_few w c.requires.0 n g.spot at rows own o known few c.as_slice-4.result.now c.as_slice-3.result.now are in
    let befores = c.as_slice-2.ensures.value ∙ c.in_ok-befores.ensures in
    let low = place_low (names_of w.parts) g.spot n at in
    let long = c.requires.1.1.1.1 in (
      c.requires.1.1.1.0,
      (
        omega (arith, planned, planned_sum),
        (
          omega (arith, asked),
          (
            ap length befores ∙ length-map-range_with_len (λ t. (c.stock_in.result + sum (take (suc t) c.as_slice.result.now)) + sum (take t c.as_slice-planned.result.now)) 0 (length c.as_slice-planned.result.now),
            (
              befores_room c.stock_in.result c.as_slice.result.now c.as_slice-planned.result.now c.as_slice-2.result.now befores (omega (arith, sched_few, sched_sum, planned, planned_sum, stock)),
              (
                targets_whole (records w.job.cells) (names_of w.parts) n (pegs_of (records w.job.cells) n (days_of (records w.job.cells))) c.as_slice-4.result.now c.as_slice-3.result.now are,
                (
                  all_follow w c.requires.0 n g.spot at rows own o known few c.as_slice-4.result.now c.as_slice-3.result.now are,
                  omega (arith, low, long),
                ),
              ),
            ),
          ),
        ),
      ),
    )

pub returns-clause-weight : goal.returns-clause-weight
returns-clause-weight g c = λ measure.
    let w = c.args.walk.now in
    let n = c.in-Some.part.now in
    let rows = c.part_cell-cell.result.now in
    let o = c.outcome_of-outcome.result.now in
    let at = (subst (λ k. slice_get (names_of c.args.walk.now.parts) k ≡ Some c.in-Some.part.now) (sym c.requires.1.0) (sym c.name_at.ensures ∙ ap option_copied c.in-Some.is)) in
    let own = own_part w c.requires.0 n (there_at w n g.spot at) c.job-job.result.now c.job-job.ensures rows c.part_cell-cell.ensures in
    let horizon = ap (λ (job : Job). (start_of (records job.cells), days_of (records job.cells))) (sym c.job-job.ensures) ∙ sym c.horizon-start.ensures.value in
    let days = ap (λ (pair : ℕ × ℕ). pair.1) horizon in
    let most = c.horizon-start.ensures.most in
    let few : days_of (records w.job.cells) ≤ 400 = omega (arith, days, most) in
    let known = c.outcome_of-outcome.ensures in
    let scheduled = c.as_slice.ensures ∙ c.in_ok-sched.ensures.sched ∙ (λ i. sched_by rows (sym horizon i).0 (sym horizon i).1) ∙ sched_is w c.requires.0 n g.spot at rows own o known few in
    let are =
    (let contents = records c.args.walk.now.job.cells in
    let ns = names_of c.args.walk.now.parts in
    subst (λ (ts : List Target). AreTargets contents ns c.in-Some.part.now (pegs_of contents c.in-Some.part.now (days_of contents)) ts c.as_slice-3.result.now) (sym c.as_slice-4.ensures.value)
    (subst (λ (qs : List ℕ). AreTargets contents ns c.in-Some.part.now (pegs_of contents c.in-Some.part.now (days_of contents)) c.in_ok-aims.aims.targets.items qs) (sym c.as_slice-3.ensures.value) c.in_ok-aims.ensures)) in
    let ends = ends_by measure (records w.job.cells) (names_of w.parts) in
    let told = c.in_ok-follow_part.ensures.weight measure ends in
    let befores : c.as_slice-2.result.now ≡ map (λ t. (c.stock_in.result + sum (take (suc t) o.sched)) + sum (take t o.planned)) (range_with_len 0 (length o.planned)) =
    c.as_slice-2.ensures.value ∙ c.in_ok-befores.ensures
    ∙ (λ i. map (λ t. (c.stock_in.result + sum (take (suc t) (scheduled i))) + sum (take t (c.as_slice-planned.ensures i))) (range_with_len 0 (length (c.as_slice-planned.ensures i)))) in
    let same = ap (λ xs. rows_weight (by_stretch (supply_weight measure (by_stretch (λ k. target_weight measure ends n (slice_get c.as_slice-4.result.now k)) c.as_slice-3.result.now) n c.as_slice-2.result.now) xs) c.args.rows.now) c.as_slice-planned.ensures
    ∙ step_weighs w c.requires.0 n g.spot at rows own o known few c.as_slice-4.result.now c.as_slice-3.result.now are c.stock_in.result c.as_slice-2.result.now (c.stock_in.ensures.value ∙ ap stock_in own.stock_row) befores measure c.args.rows.now in
    omega (arith, told, same)

pub unreachable-requires : goal.unreachable-requires
unreachable-requires g c = not_none (names_of c.args.walk.now.parts) c.args.place c.requires.1.1.0 (sym c.name_at.ensures ∙ ap option_copied c.in_default.is)
