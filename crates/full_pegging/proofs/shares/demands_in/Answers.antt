use Rattle.std.proofs.Common.{◌++◌, take, sym, ◌∙◌, ap}
use Rattle.std.specs.List.{filter_map}
use Rattle.planning_rules.specs.Trace.{demand_end}
use Rattle.record_versions.specs.Shown.{cells_of}
use Rattle.walk_rules.specs.Cells.{records}
use Rattle.full_pegging.specs.Shares.{counted_at, shares_by}
use Rattle.full_pegging.proofs.Sharing.{shares_more, ends_more}
use Rattle.full_pegging.proofs.shares.demands_in.Goals as goal

pub loop-id-preserved : goal.loop-id-preserved
loop-id-preserved c =
    let count = counted_at c.args.counts.now.by_key.entries in
    let before = filter_map demand_end (records (cells_of (take c.loop-id._id-index c.args.cells.now))) in
    c.in_ok-add_demands.ensures ∙ ap (λ shares. shares ++ shares_by count (filter_map demand_end c.deref.result.now)) c.loop-id.invariant
    ∙ sym (ap (shares_by count) (ends_more demand_end c.args.cells.now c.loop-id._id-index c.loop-id-item.result c.deref.result.now c.loop-id-test.true c.loop-id-item.is c.deref.ensures)
    ∙ shares_more count before (filter_map demand_end c.deref.result.now))
