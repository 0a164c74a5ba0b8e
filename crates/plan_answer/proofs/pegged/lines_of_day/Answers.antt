use Rattle.std.proofs.Common.{◌≡◌, ◌<◌, ◌≤◌, inl, refl, List, [], ◌∷◌, ℕ, map, sym, ◌∙◌, ap, subst}
use Rattle.std.proofs.lemmas.Simd.{map-map}
use Rattle.std.specs.Prelude.{IfOk}
use Rattle.planning_rules.specs.Days.{start_of, days_of}
use Rattle.planning_rules.specs.Netting.{limit}
use Rattle.walk_rules.specs.Cells.{records}
use Rattle.explosion.specs.Sums.{AreReleases, asked_of, bills_in, demands_in}
use Rattle.pegging.specs.Pegs.{shown, pegs_by}
use Rattle.session_rules.specs.Answers.{peg_line}
use Rattle.part_pegs.specs.ParentLists.{parent_lists}
use Rattle.part_pegs.proofs.OwnPegs.{asked_planned, cell, parents_planned, lists_within, day_fits, pegs_are}
use Rattle.plan_answer.proofs.pegged.lines_of_day.Goals as goal

pub parent_releases-requires : goal.parent_releases-requires
parent_releases-requires g c =
    let cells = c.args.job.now.cells in
    parents_planned c.args.job.now.wanted cells c.args.part.now (g.P.Plans.plans c.args.plans.now) c.requires.job (asked_planned (records c.args.job.now.cells) (c.args.part.now ∷ []) (g.P.Plans.plans c.args.plans.now) c.args.part.now c.requires.planned (inl refl)) c.part_cell-cell.result.now c.part_cell-cell.ensures

pub peg-requires-clause-lists : goal.peg-requires-clause-lists
peg-requires-clause-lists g c =
    let cells = c.args.job.now.cells in
    let lists : c.as_slice.result.now ≡ parent_lists (g.P.Plans.plans c.args.plans.now) c.part_cell-cell.result.now = c.as_slice.ensures.value ∙ c.in_ok-releases.ensures in
    subst (AreReleases c.args.days) (sym lists) (subst (λ days. AreReleases days (parent_lists (g.P.Plans.plans c.args.plans.now) c.part_cell-cell.result.now)) (sym c.requires.days)
    (lists_within c.args.job.now.wanted cells c.args.part.now (g.P.Plans.plans c.args.plans.now) c.requires.job (asked_planned (records c.args.job.now.cells) (c.args.part.now ∷ []) (g.P.Plans.plans c.args.plans.now) c.args.part.now c.requires.planned (inl refl)) c.part_cell-cell.result.now c.part_cell-cell.ensures))

pub peg-requires-clause-rows : goal.peg-requires-clause-rows
peg-requires-clause-rows g c =
    let cells = c.args.job.now.cells in
    (cell c.args.job.now.wanted cells c.args.part.now (g.P.Plans.plans c.args.plans.now) c.requires.job (asked_planned (records c.args.job.now.cells) (c.args.part.now ∷ []) (g.P.Plans.plans c.args.plans.now) c.args.part.now c.requires.planned (inl refl)) c.part_cell-cell.result.now c.part_cell-cell.ensures).few

pub peg-requires-clause-sound : goal.peg-requires-clause-sound
peg-requires-clause-sound g c =
    let cells = c.args.job.now.cells in
    (cell c.args.job.now.wanted cells c.args.part.now (g.P.Plans.plans c.args.plans.now) c.requires.job (asked_planned (records c.args.job.now.cells) (c.args.part.now ∷ []) (g.P.Plans.plans c.args.plans.now) c.args.part.now c.requires.planned (inl refl)) c.part_cell-cell.result.now c.part_cell-cell.ensures).sound

pub peg-requires-clause-fits : goal.peg-requires-clause-fits
peg-requires-clause-fits g c =
    let cells = c.args.job.now.cells in
    let rows = c.part_cell-cell.result.now in
    let lists : c.as_slice.result.now ≡ parent_lists (g.P.Plans.plans c.args.plans.now) rows = c.as_slice.ensures.value ∙ c.in_ok-releases.ensures in
    let low : c.args.at < days_of (records cells) = subst (λ days. c.args.at < days) c.requires.days c.requires.at in
    subst (λ start. asked_of start c.args.at (demands_in rows) (bills_in rows) c.as_slice.result.now ≤ limit) (sym c.requires.start)
    (subst (λ ls. asked_of (start_of (records cells)) c.args.at (demands_in rows) (bills_in rows) ls ≤ limit) (sym lists)
    (day_fits c.args.job.now.wanted cells c.args.part.now (g.P.Plans.plans c.args.plans.now) c.requires.job (asked_planned (records c.args.job.now.cells) (c.args.part.now ∷ []) (g.P.Plans.plans c.args.plans.now) c.args.part.now c.requires.planned (inl refl)) rows c.part_cell-cell.ensures c.args.at low))

pub returns : goal.returns
returns g c =
    let cells = c.args.job.now.cells in
    let rows = c.part_cell-cell.result.now in
    let lists : c.as_slice.result.now ≡ parent_lists (g.P.Plans.plans c.args.plans.now) rows = c.as_slice.ensures.value ∙ c.in_ok-releases.ensures in
    subst (λ (lines : List (List ℕ)). IfOk c.peg_lines.result (λ result. result ≡ lines))
    (sym (map-map peg_line shown c.as_slice-2.result.now)
    ∙ ap (λ ps. map peg_line (map shown ps)) c.as_slice-2.ensures
    ∙ ap (map peg_line) (c.in_ok-pegs.ensures ∙ (λ i. pegs_by rows (c.requires.start i) c.args.at (lists i))
    ∙ pegs_are c.args.job.now.wanted cells c.args.part.now (g.P.Plans.plans c.args.plans.now) c.requires.job (asked_planned (records c.args.job.now.cells) (c.args.part.now ∷ []) (g.P.Plans.plans c.args.plans.now) c.args.part.now c.requires.planned (inl refl)) rows c.part_cell-cell.ensures c.args.at))
    c.peg_lines.ensures

pub part_cell-cell-requires-clause-planned : goal.part_cell-cell-requires-clause-planned
part_cell-cell-requires-clause-planned g c =
    asked_planned (records c.args.job.now.cells) (c.args.part.now ∷ []) (g.P.Plans.plans c.args.plans.now) c.args.part.now c.requires.planned (inl refl)
