use Rattle.part_steps.proofs.Days.{every_day}
use Rattle.part_steps.proofs.Local.{step_from_cell, works_from_cell}
use Rattle.part_steps.proofs.laws.steps_are_local.Goals as goal

pub returns-clause-step : goal.returns-clause-step
returns-clause-step c = step_from_cell

pub returns-clause-works : goal.returns-clause-works
returns-clause-works c = works_from_cell

pub returns-clause-every : goal.returns-clause-every
returns-clause-every c = every_day
