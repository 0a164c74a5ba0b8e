-- Jobs of a core.
use Rattle.std.proofs.Common.{◌≡◌, ℕ, List, sym, ◌∙◌, ap, subst, true, ◌++◌, length}
use Rattle.std.specs.Prelude.{None, IsSome}
use Rattle.plan_schema.specs.declared.name.Name.{Name}
use Rattle.plan_schema.specs.declared.change.CellName.{CellName}
use Rattle.plan_schema.specs.declared.change.Entry.{Entry}
use Rattle.plan_schema.specs.Contents.{Contents, cell_rows}
use Rattle.planning_rules.specs.Plan.{Known}
use Rattle.scenario_rules.specs.World.{scenario_at, scenario, contents_in}
use Rattle.scenario_rules.specs.Steps.{world_after}
use Rattle.scenario_rules.specs.Refused.{access_refusal}
use Rattle.scenario_rules.proofs.Wholeness.{whole_contents}
use Rattle.record_versions.specs.Versions.{IdList, id_at, are_ordered_ids, cell_at}
use Rattle.version_rules.specs.Ids.{WorldIds}
use Rattle.version_rules.specs.Meaning.{IsMeant, AreMeant, meaning_after}
use Rattle.version_rules.proofs.Histories.{ids_have_meanings}
use Rattle.version_rules.proofs.StepMeans.{there}
use Rattle.scenario_merge.specs.Grown.{Grown, ids_in, IsGrown}
use Rattle.scenario_merge.proofs.FirstLaws.{accessed}
use Rattle.shared_memo.specs.Pairs.{Memo}
use Rattle.walk_rules.specs.declared.key.MemoKey.{MemoKey}
use Rattle.walk_rules.specs.Cells.{Stands}
use Rattle.plan_jobs.specs.declared.job.Job.{Job}
use Rattle.plan_jobs.specs.declared.job.Wanted.{Wanted}
use Rattle.plan_jobs.specs.Jobs.{IsJob}
use Rattle.plan_jobs.specs.Collects.{AreWholeCells, CollectedFrom, records_by, is_wanted, cells_by}
use Rattle.plan_walk.specs.declared.round.Tally.{Tally}
use Rattle.plan_core.specs.State.{State, state_of, point_of, world_of}
use Rattle.plan_core.specs.Holds.{IsCore}
use Rattle.plan_core.specs.Asks.{IsAsked}
use Rattle.plan_core.proofs.Cells.{whole_cells, all_stand, stand_kept}

-- the ids of a scenario that is there mean its contents in the store
meant_here : (forest : Grown) (s : Name) (ids : IdList) → IsGrown forest → IsSome (scenario_at forest.world s) → ((cell : CellName) → id_at ids cell ≡ (ids_in forest s).contents cell)
    → AreMeant (cell_at forest.store) (contents_in forest.world s) (id_at ids)
meant_here forest s ids grown is_there same cell =
    subst (λ o. IsMeant (cell_at forest.store) cell (cell_rows (contents_in forest.world s) cell) o) (sym (same cell))
    ((grown.meant s (scenario forest.world s) (there forest.world s is_there)).contents cell)

-- a scenario that the user may use has whole cells
pub cells_whole : (forest : Grown) (user s : Name) (ids : IdList) → IsGrown forest → access_refusal forest.world user s ≡ None → are_ordered_ids ids ≡ true
    → ((cell : CellName) → id_at ids cell ≡ (ids_in forest s).contents cell) → AreWholeCells forest.store ids
cells_whole forest user s ids grown allowed ordered same =
    let is_there = accessed forest.world user s allowed in
    whole_cells forest.store ids (contents_in forest.world s) ordered (meant_here forest s ids grown is_there same) (whole_contents forest.world s grown.whole is_there)
    (grown.whole.each s (scenario forest.world s) (there forest.world s is_there)).limits

-- a job
pub asked : (base : Contents) (earlier entries : List Entry) (m : Memo MemoKey Known) (tally : Tally) (seen : State) (forest : Grown) (before carried : ℕ) (user s : Name) (ids : IdList) (wanted : Wanted) (job : Job)
    → IsCore (state_of base earlier entries m tally) forest before carried → state_of base earlier entries m tally ≡ seen → IsGrown forest → access_refusal forest.world user s ≡ None → are_ordered_ids ids ≡ true
    → ((cell : CellName) → id_at ids cell ≡ (ids_in forest s).contents cell) → job.point ≡ point_of seen → job.wanted ≡ wanted → IsJob wanted job.cells → CollectedFrom forest.store ids wanted job.cells
    → IsAsked seen user s wanted job
asked base earlier entries m tally seen forest before carried user s ids wanted job core view grown allowed ordered same point wants is_job from =
    let history : List Entry = earlier ++ entries in
    let world = world_after base history in
    let m_after = meaning_after base history in
    let is_there = accessed forest.world user s allowed in
    let then_there : IsSome (scenario_at world s) = subst (λ w. IsSome (scenario_at w s)) core.world is_there in
    let c = contents_in world s in
    let stored : AreMeant (cell_at forest.store) c (id_at ids) = subst (λ w. AreMeant (cell_at forest.store) (contents_in w s) (id_at ids)) core.world (meant_here forest s ids grown is_there same) in
    let means = (ids_have_meanings base history core.holds.whole core.holds.limits core.holds.legal s (scenario world s) (there world s then_there)).contents in
    let after : AreMeant m_after c (id_at ids) = λ cell.
    subst (λ o. IsMeant m_after cell (cell_rows c cell) o) (sym (same cell ∙ ap (λ (i : WorldIds). (i s).contents cell) core.ids)) (means cell) in
    subst (λ (x : State). (job.point ≡ point_of x) → IsAsked x user s wanted job) view (λ (here : job.point ≡ length history). record {
      allowed = ap (λ w. access_refusal w user s) (sym core.world) ∙ allowed;
      point_is = here;
      wanted_is = wants;
      is_job = is_job;
      collected = record { store = forest.store; ids = ids; whole = cells_whole forest user s ids grown allowed ordered same; ordered = ordered; meant = stored; from = from };
      stands = subst (Stands m_after) (sym from)
          (stand_kept m_after (λ cell. is_wanted (records_by forest.store ids) wanted cell.0.cell) (cells_by forest.store ids) (all_stand forest.store ids c ordered stored m_after after));
    }) point

-- the access that the scenarios tell is that of the state
pub access_is : (base : Contents) (earlier entries : List Entry) (m : Memo MemoKey Known) (tally : Tally) (seen : State) (forest : Grown) (before carried : ℕ) (user s : Name)
    → IsCore (state_of base earlier entries m tally) forest before carried → state_of base earlier entries m tally ≡ seen → access_refusal forest.world user s ≡ access_refusal (world_of seen) user s
access_is base earlier entries m tally seen forest before carried user s core view = ap (λ w. access_refusal w user s) core.world ∙ ap (λ (x : State). access_refusal (world_of x) user s) view
