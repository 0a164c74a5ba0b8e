use Rattle.std.proofs.Common.{◌≡◌, ◌++◌, ◌<◌, ◌≤◌, List, ℕ, map, sym, ◌∙◌, ap, subst, arith}
use Rattle.std.specs.List.{AllByRecursion}
use Rattle.planning_rules.specs.Days.{start_of, days_of}
use Rattle.planning_rules.specs.Netting.{limit}
use Rattle.planning_rules.specs.Pegs.{Peg as PlanPeg, pegs_from}
use Rattle.planning_rules.specs.Plan.{plan}
use Rattle.walk_rules.specs.Cells.{records}
use Rattle.walk_rules.specs.Walks.{names_of, known_at}
use Rattle.explosion.specs.Sums.{AreReleases, asked_of, bills_in, demands_in}
use Rattle.pegging.specs.Pegs.{shown, pegs_by}
use Rattle.plan_jobs.specs.declared.job.Job.{Job}
use Rattle.part_pegs.specs.Planned.{IsPlannedPart}
use Rattle.part_pegs.specs.ParentLists.{parent_lists}
use Rattle.full_pegging.specs.Ends.{AreTargets, pegs_of}
use Rattle.full_pegging.specs.Walking.{CanAim}
use Rattle.full_pegging.proofs.Aiming.{part_planned, pegs_aim, pegs_more}
use Rattle.full_pegging.proofs.Following.{own_part, all_shown, shown_days}
use Rattle.full_pegging.proofs.aims.aims_of.Goals as goal

pub part_cell-cell-requires-clause-planned : goal.part_cell-cell-requires-clause-planned
part_cell-cell-requires-clause-planned c =
    subst (λ (job : Job). IsPlannedPart (records job.cells) (known_at c.args.walk.now.parts) c.args.part.now) (sym c.job-job.ensures) (part_planned c.args.walk.now c.requires.walk c.args.part.now c.requires.part)

pub parent_releases-requires : goal.parent_releases-requires
parent_releases-requires c =
    (own_part c.args.walk.now c.requires.walk c.args.part.now c.requires.part c.job-job.result.now c.job-job.ensures c.part_cell-cell.result.now c.part_cell-cell.ensures).planned

pub peg-requires-clause-lists : goal.peg-requires-clause-lists
peg-requires-clause-lists c =
    let own = own_part c.args.walk.now c.requires.walk c.args.part.now c.requires.part c.job-job.result.now c.job-job.ensures c.part_cell-cell.result.now c.part_cell-cell.ensures in
    let days : days_of (records c.args.walk.now.job.cells) ≡ c.horizon-start.result.1 = ap (λ (job : Job). days_of (records job.cells)) (sym c.job-job.ensures) ∙ ap (λ (pair : ℕ × ℕ). pair.1) (sym c.horizon-start.ensures.value) in
    subst (λ (lists : List (List ℕ)). AreReleases c.horizon-start.result.1 lists) (sym (c.as_slice.ensures.value ∙ c.in_ok-releases.ensures))
    (subst (λ n. AreReleases n (parent_lists (known_at c.args.walk.now.parts) c.part_cell-cell.result.now)) days own.lists)

pub peg-requires-clause-rows : goal.peg-requires-clause-rows
peg-requires-clause-rows c =
    (own_part c.args.walk.now c.requires.walk c.args.part.now c.requires.part c.job-job.result.now c.job-job.ensures c.part_cell-cell.result.now c.part_cell-cell.ensures).few

pub peg-requires-clause-sound : goal.peg-requires-clause-sound
peg-requires-clause-sound c =
    (own_part c.args.walk.now c.requires.walk c.args.part.now c.requires.part c.job-job.result.now c.job-job.ensures c.part_cell-cell.result.now c.part_cell-cell.ensures).sound

pub peg-requires-clause-fits : goal.peg-requires-clause-fits
peg-requires-clause-fits c =
    let own = own_part c.args.walk.now c.requires.walk c.args.part.now c.requires.part c.job-job.result.now c.job-job.ensures c.part_cell-cell.result.now c.part_cell-cell.ensures in
    let rows = c.part_cell-cell.result.now in
    let horizon = ap (λ (job : Job). (start_of (records job.cells), days_of (records job.cells))) (sym c.job-job.ensures) ∙ sym c.horizon-start.ensures.value in
    let low : c.loop-at.at < days_of (records c.args.walk.now.job.cells) = subst (λ n. c.loop-at.at < n) (sym (ap (λ (pair : ℕ × ℕ). pair.1) horizon)) c.loop-at-test.true in
    subst (λ (lists : List (List ℕ)). asked_of c.horizon-start.result.0 c.loop-at.at (demands_in rows) (bills_in rows) lists ≤ limit) (sym (c.as_slice.ensures.value ∙ c.in_ok-releases.ensures))
    (subst (λ start. asked_of start c.loop-at.at (demands_in rows) (bills_in rows) (parent_lists (known_at c.args.walk.now.parts) rows) ≤ limit) (ap (λ (pair : ℕ × ℕ). pair.0) horizon) (own.fits c.loop-at.at low))

pub add_day-requires-clause-sound : goal.add_day-requires-clause-sound
add_day-requires-clause-sound c =
    (own_part c.args.walk.now c.requires.walk c.args.part.now c.requires.part c.job-job.result.now c.job-job.ensures c.part_cell-cell.result.now c.part_cell-cell.ensures).sound

pub add_day-requires-clause-rows : goal.add_day-requires-clause-rows
add_day-requires-clause-rows c =
    (own_part c.args.walk.now c.requires.walk c.args.part.now c.requires.part c.job-job.result.now c.job-job.ensures c.part_cell-cell.result.now c.part_cell-cell.ensures).bill_rows

-- the pegs of the day are those of the plan
pub add_day-requires-clause-aim : goal.add_day-requires-clause-aim
add_day-requires-clause-aim c =
    let w = c.args.walk.now in
    let contents = records w.job.cells in
    let own = own_part w c.requires.walk c.args.part.now c.requires.part c.job-job.result.now c.job-job.ensures c.part_cell-cell.result.now c.part_cell-cell.ensures in
    let horizon = ap (λ (job : Job). (start_of (records job.cells), days_of (records job.cells))) (sym c.job-job.ensures) ∙ sym c.horizon-start.ensures.value in
    let days = ap (λ (pair : ℕ × ℕ). pair.1) horizon in
    let most = c.horizon-start.ensures.most in
    let below = c.loop-at-test.true in
    let pegs : map shown c.as_slice-in-loop-at.result.now ≡ pegs_from (plan contents) contents c.args.part.now c.loop-at.at =
    ap (map shown) c.as_slice-in-loop-at.ensures ∙ c.in_ok-pegs.ensures ∙ (λ i. pegs_by c.part_cell-cell.result.now (sym (ap (λ (pair : ℕ × ℕ). pair.0) horizon) i) c.loop-at.at ((c.as_slice.ensures.value ∙ c.in_ok-releases.ensures) i)) ∙ own.pegs c.loop-at.at in
    all_shown (CanAim contents w.parts c.loop-at.at) c.as_slice-in-loop-at.result.now
    (subst (λ (ps : List PlanPeg). AllByRecursion (CanAim contents w.parts c.loop-at.at) ps) (sym pegs) (pegs_aim w c.requires.walk c.args.part.now c.loop-at.at c.requires.part (omega (arith, days, most)) (omega (arith, days, below))))

pub loop-at-preserved : goal.loop-at-preserved
loop-at-preserved c =
    let w = c.args.walk.now in
    let contents = records w.job.cells in
    let own = own_part w c.requires.walk c.args.part.now c.requires.part c.job-job.result.now c.job-job.ensures c.part_cell-cell.result.now c.part_cell-cell.ensures in
    let horizon = ap (λ (job : Job). (start_of (records job.cells), days_of (records job.cells))) (sym c.job-job.ensures) ∙ sym c.horizon-start.ensures.value in
    let pegs : map shown c.as_slice-in-loop-at.result.now ≡ pegs_from (plan contents) contents c.args.part.now c.loop-at.at =
    ap (map shown) c.as_slice-in-loop-at.ensures ∙ c.in_ok-pegs.ensures ∙ (λ i. pegs_by c.part_cell-cell.result.now (sym (ap (λ (pair : ℕ × ℕ). pair.0) horizon) i) c.loop-at.at ((c.as_slice.ensures.value ∙ c.in_ok-releases.ensures) i)) ∙ own.pegs c.loop-at.at in
    subst (λ (ps : List (ℕ × PlanPeg)). AreTargets contents (names_of w.parts) c.args.part.now ps c.add_day.new.aims.targets.items c.add_day.new.aims.quantities.items)
    (ap (λ (ps : List (ℕ × PlanPeg)). pegs_of contents c.args.part.now c.loop-at.at ++ ps) (shown_days c.loop-at.at c.as_slice-in-loop-at.result.now (pegs_from (plan contents) contents c.args.part.now c.loop-at.at) pegs) ∙ sym (pegs_more contents c.args.part.now c.loop-at.at))
    (c.in_ok-add_day.ensures (pegs_of contents c.args.part.now c.loop-at.at) c.loop-at.invariant)

pub returns : goal.returns
returns c =
    let w = c.args.walk.now in
    let contents = records w.job.cells in
    let horizon = ap (λ (job : Job). (start_of (records job.cells), days_of (records job.cells))) (sym c.job-job.ensures) ∙ sym c.horizon-start.ensures.value in
    let days : days_of contents ≡ c.horizon-start.result.1 = ap (λ (pair : ℕ × ℕ). pair.1) horizon in
    let end = c.loop-at-test.false in
    let most = c.loop-at.auto.at-end in
    let last : c.loop-at.at ≡ days_of contents = omega (arith, days, end, most) in
    subst (λ t. AreTargets contents (names_of w.parts) c.args.part.now (pegs_of contents c.args.part.now t) c.loop-at.aims.targets.items c.loop-at.aims.quantities.items) last c.loop-at.invariant
