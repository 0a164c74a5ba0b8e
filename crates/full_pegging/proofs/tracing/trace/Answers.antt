use Rattle.std.proofs.Common.{◌≡◌, ◌*◌, ℕ, ◌++◌, List, map, length, take, get_or, sym, ◌∙◌, ap, subst, cond, arith}
use Rattle.std.proofs.lemmas.List.{length-take-le}
use Rattle.std.specs.Prelude.{IfOk, sum, sum_by}
use Rattle.std.specs.List.{filter_map, range_with_len}
use Rattle.plan_jobs.specs.declared.job.Job.{Job}
use Rattle.planning_rules.specs.Days.{days_of}
use Rattle.planning_rules.specs.Plan.{plan}
use Rattle.planning_rules.specs.Trace.{End, same_end, demand_end, surplus_end, day_ends, ends_of}
use Rattle.walk_rules.specs.Cells.{Cells, records}
use Rattle.walk_rules.specs.Walks.{names_of}
use Rattle.full_pegging.specs.Ends.{ends_by}
use Rattle.full_pegging.specs.Following.{landed_weight, shown_share, waiting_weight}
use Rattle.full_pegging.specs.Shares.{landed_at, shares_by}
use Rattle.full_pegging.proofs.Named.{place_low}
use Rattle.full_pegging.proofs.Sharing.{landed_counts}
use Rattle.full_pegging.proofs.TraceEnds.{part_there, whole_plan, first_few, lands, lands_few, all_shares, hits_once, long_names}
use Rattle.full_pegging.proofs.tracing.trace.Goals as goal

pub unreachable-requires : goal.unreachable-requires
unreachable-requires c = let here = part_there c.args.walk.now c.args.part.now c.requires.walk in c.in_default.ensures here.0 here.1

pub slice_bounds-total-end : goal.slice_bounds-total-end
slice_bounds-total-end c =
    let low = c.requires.day in
    let long = whole_plan c.args.walk.now c.args.part.now c.requires.walk c.outcome_of.result.now c.outcome_of.ensures in
    let same = ap length c.as_slice-planned.ensures in
    sym (length-take-le c.args.at c.as_slice-planned.result.now (omega (arith, low, long, same)))

pub total-requires : goal.total-requires
total-requires c =
    let days = ap (λ (job : Job). days_of (records job.cells)) (sym c.job-job.ensures) ∙ ap (λ (pair : ℕ × ℕ). pair.1) (sym c.horizon-start.ensures.value) in
    let most = c.horizon-start.ensures.most in
    let few = first_few c.args.walk.now c.args.part.now c.requires.walk c.outcome_of.result.now c.outcome_of.ensures c.args.at (omega (arith, days, most)) in
    let same = ap (λ xs. sum (take c.args.at xs)) c.as_slice-planned.ensures in
    omega (arith, few, same)

pub bounds-planned-at : goal.bounds-planned-at
bounds-planned-at c =
    let low = c.requires.day in
    let long = whole_plan c.args.walk.now c.args.part.now c.requires.walk c.outcome_of.result.now c.outcome_of.ensures in
    let same = ap length c.as_slice-planned.ensures in
    omega (arith, low, long, same)

pub waiting_at-requires : goal.waiting_at-requires
waiting_at-requires c =
    let low = place_low (names_of c.args.walk.now.parts) c.in-Some.place c.args.part.now c.in-Some.ensures in
    let many = c.len.ensures in
    let long = long_names c.args.walk.now in
    omega (arith, low, many, long)

pub follow_all-requires-clause-total : goal.follow_all-requires-clause-total
follow_all-requires-clause-total c =
    let w = c.args.walk.now in
    let n = c.args.part.now in
    let o = c.outcome_of.result.now in
    let units = lands w n c.requires.walk o c.outcome_of.ensures (λ (end : End). 1) c.in-Some.place c.args.at c.in-Some.ensures c.requires.day in
    let few = lands_few w n c.requires.walk o c.outcome_of.ensures (λ (end : End). 1) c.args.at c.requires.day (λ end. omega arith) in
    let rows : 1 * sum_by (λ (unit : ℕ). 1) (range_with_len c.total.result (get_or c.as_slice-planned.result.now c.args.at 0)) ≡ 1 * sum_by (λ (unit : ℕ). 1) (range_with_len (sum (take c.args.at o.planned)) (get_or o.planned c.args.at 0)) =
    (λ i. 1 * sum_by (λ (unit : ℕ). 1) (range_with_len ((c.total.ensures ∙ ap (λ xs. sum (take c.args.at xs)) c.as_slice-planned.ensures) i) (get_or (c.as_slice-planned.ensures i) c.args.at 0))) in
    let waits = c.in_ok-waiting.ensures.weight (λ place unit. 1) in
    let listed = ap (waiting_weight (λ place unit. 1)) c.as_mut_slice.ensures.value in
    let none = ap (landed_weight (λ (end : End). 1)) c.new-landed.ensures.items in
    omega (arith, units, few, rows, waits, listed, none)

pub shares_in-requires : goal.shares_in-requires
shares_in-requires c =
    let w = c.args.walk.now in
    let n = c.args.part.now in
    let contents = records w.job.cells in
    let ns = names_of w.parts in
    let o = c.outcome_of.result.now in
    let landed = c.as_slice.result.now in
    let final : (measure : End → ℕ) → landed_weight measure landed ≡ sum_by measure (day_ends (ends_of contents) (plan contents) contents n c.args.at) = λ measure.
    (let ends = ends_by measure contents ns in
    let told = c.in_ok-follow_all.ensures measure in
    let slice = ap (landed_weight measure) c.as_slice.ensures.value in
    let none = ap (landed_weight measure) c.new-landed.ensures.items in
    let waits = c.in_ok-waiting.ensures.weight ends in
    let listed = ap (waiting_weight ends) c.as_mut_slice.ensures.value in
    let rows : 1 * sum_by (ends c.in-Some.place) (range_with_len c.total.result (get_or c.as_slice-planned.result.now c.args.at 0)) ≡ 1 * sum_by (ends c.in-Some.place) (range_with_len (sum (take c.args.at o.planned)) (get_or o.planned c.args.at 0)) =
    (λ i. 1 * sum_by (ends c.in-Some.place) (range_with_len ((c.total.ensures ∙ ap (λ xs. sum (take c.args.at xs)) c.as_slice-planned.ensures) i) (get_or (c.as_slice-planned.ensures i) c.args.at 0))) in
    let units = lands w n c.requires.walk o c.outcome_of.ensures measure c.in-Some.place c.args.at c.in-Some.ensures c.requires.day in
    omega (arith, told, slice, none, waits, listed, rows, units)) in
    λ end.
    let counts = landed_counts landed end in
    let is = final (λ unit. cond (same_end end unit) 1 0) in
    let few = lands_few w n c.requires.walk o c.outcome_of.ensures (λ unit. cond (same_end end unit) 1 0) c.args.at c.requires.day (hits_once end) in
    omega (arith, counts, is, few)

pub returns : goal.returns
returns c =
    let w = c.args.walk.now in
    let n = c.args.part.now in
    let contents = records w.job.cells in
    let ns = names_of w.parts in
    let o = c.outcome_of.result.now in
    let landed = c.as_slice.result.now in
    let final : (measure : End → ℕ) → landed_weight measure landed ≡ sum_by measure (day_ends (ends_of contents) (plan contents) contents n c.args.at) = λ measure.
    (let ends = ends_by measure contents ns in
    let told = c.in_ok-follow_all.ensures measure in
    let slice = ap (landed_weight measure) c.as_slice.ensures.value in
    let none = ap (landed_weight measure) c.new-landed.ensures.items in
    let waits = c.in_ok-waiting.ensures.weight ends in
    let listed = ap (waiting_weight ends) c.as_mut_slice.ensures.value in
    let rows : 1 * sum_by (ends c.in-Some.place) (range_with_len c.total.result (get_or c.as_slice-planned.result.now c.args.at 0)) ≡ 1 * sum_by (ends c.in-Some.place) (range_with_len (sum (take c.args.at o.planned)) (get_or o.planned c.args.at 0)) =
    (λ i. 1 * sum_by (ends c.in-Some.place) (range_with_len ((c.total.ensures ∙ ap (λ xs. sum (take c.args.at xs)) c.as_slice-planned.ensures) i) (get_or (c.as_slice-planned.ensures i) c.args.at 0))) in
    let units = lands w n c.requires.walk o c.outcome_of.ensures measure c.in-Some.place c.args.at c.in-Some.ensures c.requires.day in
    omega (arith, told, slice, none, waits, listed, rows, units)) in
    let units = day_ends (ends_of contents) (plan contents) contents n c.args.at in
    let cells = c.as_slice-2.ensures.cells ∙ ap (λ (job : Job). job.cells) c.job-job.ensures in
    subst (λ (list : List (End × ℕ)). IfOk c.shares_in.result (λ shares. map shown_share shares.items ≡ list))
    (ap (λ (cs : Cells). shares_by (landed_at landed) (filter_map demand_end (records cs) ++ filter_map surplus_end (records cs))) cells
    ∙ all_shares landed units (filter_map demand_end contents ++ filter_map surplus_end contents) final)
    c.shares_in.ensures
