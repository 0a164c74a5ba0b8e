use Rattle.std.proofs.Common.{◌≡◌, ℕ, ◌∙◌, ap, sym, subst, length, arith}
use Rattle.std.specs.Prelude.{is_some}
use Rattle.plan_schema.specs.declared.change.CellName.TheVariants as names
use Rattle.plan_schema.specs.declared.key.Key.TheVariants as keys
use Rattle.planning_rules.specs.Days.{horizon_of, works}
use Rattle.planning_rules.specs.Plan.{has_calendar}
use Rattle.walk_rules.specs.Cells.{records}
use Rattle.walk_rules.specs.Steps.{calendar_of}
use Rattle.explosion.specs.Sums.{AreReleases, bills_in}
use Rattle.explosion.proofs.Own.{bills_own}
use Rattle.part_steps.specs.Steps.{known_by}
use Rattle.part_steps.proofs.Local.{step_from_cell}
use Rattle.walk_names.proofs.JobCells.{held_cell, record_of, plan_there, works_length}
use Rattle.plan_walk.proofs.cells.net_part.Goals as goal

pub horizon-start-requires-clause-sound : goal.horizon-start-requires-clause-sound
horizon-start-requires-clause-sound g c =
    (held_cell c.args.job.now.wanted c.args.job.now.cells names.Plan c.cell_in-plan.ensures.0 c.cell_in-plan.result.now c.requires.job c.cell_in-plan.ensures.1).sound

pub horizon-start-requires-clause-there : goal.horizon-start-requires-clause-there
horizon-start-requires-clause-there g c =
    let held = (held_cell c.args.job.now.wanted c.args.job.now.cells names.Plan c.cell_in-plan.ensures.0 c.cell_in-plan.result.now c.requires.job c.cell_in-plan.ensures.1) in plan_there c.cell_in-plan.result.now held.filled held.own

pub working_days-requires-clause-start : goal.working_days-requires-clause-start
working_days-requires-clause-start g c =
    (ap (λ (p : ℕ × ℕ). p.0) (c.horizon-start.ensures.value ∙ ap horizon_of (record_of c.args.job.now.cells keys.Plan c.cell_in-plan.result.now (held_cell c.args.job.now.wanted c.args.job.now.cells names.Plan c.cell_in-plan.ensures.0 c.cell_in-plan.result.now c.requires.job c.cell_in-plan.ensures.1))))

pub working_days-requires-clause-days : goal.working_days-requires-clause-days
working_days-requires-clause-days g c =
    (ap (λ (p : ℕ × ℕ). p.1) (c.horizon-start.ensures.value ∙ ap horizon_of (record_of c.args.job.now.cells keys.Plan c.cell_in-plan.result.now (held_cell c.args.job.now.wanted c.args.job.now.cells names.Plan c.cell_in-plan.ensures.0 c.cell_in-plan.result.now c.requires.job c.cell_in-plan.ensures.1))))

pub working_days-requires-clause-there : goal.working_days-requires-clause-there
working_days-requires-clause-there g c =
    ap (has_calendar (records c.args.job.now.cells)) (c.calendar_named-named.ensures ∙ ap calendar_of (record_of c.args.job.now.cells (keys.Part c.args.name.now) c.cell_in-part.result.now (held_cell c.args.job.now.wanted c.args.job.now.cells (names.Part c.args.name.now) c.cell_in-part.ensures.0 c.cell_in-part.result.now c.requires.job c.cell_in-part.ensures.1))) ∙ c.requires.part.calendar

pub step-requires-clause-sound : goal.step-requires-clause-sound
step-requires-clause-sound g c =
    (held_cell c.args.job.now.wanted c.args.job.now.cells (names.Part c.args.name.now) c.cell_in-part.ensures.0 c.cell_in-part.result.now c.requires.job c.cell_in-part.ensures.1).sound

pub step-requires-clause-rows : goal.step-requires-clause-rows
step-requires-clause-rows g c =
    (held_cell c.args.job.now.wanted c.args.job.now.cells (names.Part c.args.name.now) c.cell_in-part.ensures.0 c.cell_in-part.result.now c.requires.job c.cell_in-part.ensures.1).few

pub step-requires-clause-there : goal.step-requires-clause-there
step-requires-clause-there g c =
    ap is_some (record_of c.args.job.now.cells (keys.Part c.args.name.now) c.cell_in-part.result.now (held_cell c.args.job.now.wanted c.args.job.now.cells (names.Part c.args.name.now) c.cell_in-part.ensures.0 c.cell_in-part.result.now c.requires.job c.cell_in-part.ensures.1)) ∙ c.requires.part.part

pub step-requires-clause-calendar : goal.step-requires-clause-calendar
step-requires-clause-calendar g c =
    ap length c.in_ok-working.ensures ∙ works_length (records c.args.job.now.cells) c.calendar_named-named.result ∙ sym (ap (λ (p : ℕ × ℕ). p.1) (c.horizon-start.ensures.value ∙ ap horizon_of (record_of c.args.job.now.cells keys.Plan c.cell_in-plan.result.now (held_cell c.args.job.now.wanted c.args.job.now.cells names.Plan c.cell_in-plan.ensures.0 c.cell_in-plan.result.now c.requires.job c.cell_in-plan.ensures.1))))

pub step-requires-clause-lists : goal.step-requires-clause-lists
step-requires-clause-lists g c =
    subst (λ d. AreReleases d c.args.releases.now) (sym (ap (λ (p : ℕ × ℕ). p.1) (c.horizon-start.ensures.value ∙ ap horizon_of (record_of c.args.job.now.cells keys.Plan c.cell_in-plan.result.now (held_cell c.args.job.now.wanted c.args.job.now.cells names.Plan c.cell_in-plan.ensures.0 c.cell_in-plan.result.now c.requires.job c.cell_in-plan.ensures.1))))) c.requires.lists

pub step-requires-clause-each : goal.step-requires-clause-each
step-requires-clause-each g c =
    let held = (held_cell c.args.job.now.wanted c.args.job.now.cells (names.Part c.args.name.now) c.cell_in-part.ensures.0 c.cell_in-part.result.now c.requires.job c.cell_in-part.ensures.1) in
    let own : length (bills_in c.cell_in-part.result.now) ≡ length c.args.releases.now = ap (λ rows. length (bills_in rows)) (sym held.rows_are) ∙ ap length (bills_own (records c.args.job.now.cells) c.args.name.now) ∙ c.requires.each in
    omega arith

pub returns-clause-known : goal.returns-clause-known
returns-clause-known g c =
    let held = (held_cell c.args.job.now.wanted c.args.job.now.cells (names.Part c.args.name.now) c.cell_in-part.ensures.0 c.cell_in-part.result.now c.requires.job c.cell_in-part.ensures.1) in
    let works_are = c.in_ok-working.ensures ∙ ap (works (records c.args.job.now.cells)) (c.calendar_named-named.ensures ∙ ap calendar_of (record_of c.args.job.now.cells (keys.Part c.args.name.now) c.cell_in-part.result.now (held_cell c.args.job.now.wanted c.args.job.now.cells (names.Part c.args.name.now) c.cell_in-part.ensures.0 c.cell_in-part.result.now c.requires.job c.cell_in-part.ensures.1))) in
    let start = (ap (λ (p : ℕ × ℕ). p.0) (c.horizon-start.ensures.value ∙ ap horizon_of (record_of c.args.job.now.cells keys.Plan c.cell_in-plan.result.now (held_cell c.args.job.now.wanted c.args.job.now.cells names.Plan c.cell_in-plan.ensures.0 c.cell_in-plan.result.now c.requires.job c.cell_in-plan.ensures.1)))) in
    let days = (ap (λ (p : ℕ × ℕ). p.1) (c.horizon-start.ensures.value ∙ ap horizon_of (record_of c.args.job.now.cells keys.Plan c.cell_in-plan.result.now (held_cell c.args.job.now.wanted c.args.job.now.cells names.Plan c.cell_in-plan.ensures.0 c.cell_in-plan.result.now c.requires.job c.cell_in-plan.ensures.1)))) in
    sym (step_from_cell (records c.args.job.now.cells) c.args.name.now c.args.releases.now c.requires.part.calendar)
    ∙ (λ i. known_by (held.rows_are i) c.args.name.now (sym start i) (sym days i) (sym works_are i) c.args.releases.now) ∙ c.in_ok-known.ensures.known
