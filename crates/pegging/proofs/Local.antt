-- The pegs from a part's own rows are those from all records.
use Rattle.std.proofs.Common.{◌++◌, map, sym, ◌∙◌}
use Rattle.planning_rules.specs.Bills.{bills_of, parents}
use Rattle.planning_rules.specs.Days.{start_of}
use Rattle.planning_rules.specs.Plan.{released, demands_of}
use Rattle.planning_rules.specs.Pegs.{FromParent, above_zero}
use Rattle.walk_rules.proofs.Local.{asked_lists}
use Rattle.explosion.proofs.Own.{demands_own, bills_own}
use Rattle.pegging.specs.Laws.{PegsAreFromCell}
use Rattle.pegging.specs.Pegs.{demand_pegs, bill_pegs}

pub pegs_own : PegsAreFromCell
pegs_own plans c n t =
    let lists = map (λ p. released (plans p)) (parents c n) in
    (λ i. demand_pegs (start_of c) t (demands_own c n i) ++ bill_pegs (start_of c) t (bills_own c n i) lists)
    ∙ (λ i. demand_pegs (start_of c) t (demands_of c n) ++ map (λ pair. FromParent pair.0 pair.1) (above_zero (sym (asked_lists plans (start_of c) t (bills_of c n)) i)))
