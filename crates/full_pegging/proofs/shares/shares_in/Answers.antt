use Rattle.std.proofs.Common.{◌++◌, take, sym, ◌∙◌, ap, append_assoc}
use Rattle.std.specs.List.{filter_map}
use Rattle.planning_rules.specs.Trace.{demand_end, surplus_end}
use Rattle.record_versions.specs.Shown.{cells_of}
use Rattle.walk_rules.specs.Cells.{records}
use Rattle.full_pegging.specs.Shares.{counted_at, shares_by}
use Rattle.full_pegging.proofs.Sharing.{shares_more, ends_more}
use Rattle.full_pegging.proofs.shares.shares_in.Goals as goal

pub loop-id-preserved : goal.loop-id-preserved
loop-id-preserved c =
    let count = counted_at c.in_ok-counts.counts.by_key.entries in
    let demands = filter_map demand_end (records (cells_of c.args.cells.now)) in
    let before = filter_map surplus_end (records (cells_of (take c.loop-id._id-index c.args.cells.now))) in
    let here = filter_map surplus_end c.deref.result.now in
    c.in_ok-add_surplus.ensures ∙ ap (λ shares. shares ++ shares_by count here) c.loop-id.invariant
    ∙ sym (ap (λ ends. shares_by count (demands ++ ends)) (ends_more surplus_end c.args.cells.now c.loop-id._id-index c.loop-id-item.result c.deref.result.now c.loop-id-test.true c.loop-id-item.is c.deref.ensures)
    ∙ ap (shares_by count) (sym (append_assoc demands before here)) ∙ shares_more count (demands ++ before) here)
