use Rattle.std.proofs.Common.{sym, ◌∙◌, ap}
use Rattle.std.specs.Option.{option_map}
use Rattle.plan_jobs.specs.Jobs.{shown_cell}
use Rattle.part_pegs.proofs.OwnPegs.{cell_there}
use Rattle.part_pegs.proofs.planned.part_cell.Goals as goal

pub unreachable-requires : goal.unreachable-requires
unreachable-requires g c =
    cell_there c.args.job.now.wanted c.args.job.now.cells c.args.part.now (g.P.Plans.plans c.args.plans.now) c.requires.job c.requires.planned
    (sym c.get.ensures ∙ ap (option_map shown_cell) c.in-None.is)
