use Rattle.full_pegging.proofs.ByDays.{shares_sum_to_planned, each_unit_ends_once, all_are_shared}
use Rattle.full_pegging.proofs.laws.shares_are_whole.Goals as goal

pub returns-clause-day : goal.returns-clause-day
returns-clause-day c = shares_sum_to_planned

pub returns-clause-once : goal.returns-clause-once
returns-clause-once c = each_unit_ends_once

pub returns-clause-all : goal.returns-clause-all
returns-clause-all c = all_are_shared
