-- BRANCH: a new scenario over what its parent holds.
use Rattle.std.proofs.Common.{◌≡◌, [], refl, sym, ◌∙◌, ap, subst, true, ℕ, length}
use Rattle.std.specs.Prelude.{Some}
use Rattle.std.specs.BTreeMap.{insert_entry}
use Rattle.plan_schema.specs.declared.name.Name.{Name}
use Rattle.plan_schema.specs.declared.change.Change.TheVariants as changes
use Rattle.plan_schema.specs.Key.{name_cmp}
use Rattle.plan_schema.specs.Base.{part_count}
use Rattle.scenario_rules.specs.World.{World, scenario, with_scenario, contents_of, contents_in}
use Rattle.scenario_rules.specs.Steps.{step}
use Rattle.scenario_rules.specs.Whole.{IsWhole}
use Rattle.scenario_rules.proofs.Wholeness.{scenario_is}
use Rattle.record_versions.specs.Versions.{CellList, id_at, cell_at}
use Rattle.record_versions.proofs.Cells.{seen_insert}
use Rattle.version_rules.specs.Ids.{WorldIds, with_ids, step_ids}
use Rattle.version_rules.specs.Meaning.{AreMeant}
use Rattle.scenario_cells.specs.declared.held.Held.{Held}
use Rattle.scenario_cells.specs.Held.{contents_by, scenario_by, IsHeld}
use Rattle.scenario_merge.specs.Grown.{Grown, ids_of, world_by, table_of, grown, IsForest, IsSteppedBy}
use Rattle.scenario_cells.specs.Laid.{branched}
use Rattle.scenario_cells.proofs.Join.{join_is}
use Rattle.scenario_cells.proofs.HeldLaws.{held_contents, contents_ordered}
use Rattle.scenario_merge.proofs.ForestLaws.{Entries, held_at, ids_at, scenario_here}
use Rattle.scenario_merge.proofs.CommitLaws.{held_put, ids_put}

pub branch_done : (entries entries' : Entries) (cells : CellList) (old : Grown) (point : ℕ) (user s child : Name) (above : Held) → grown entries cells ≡ old → IsForest entries cells → held_at entries s ≡ Some above
    → IsWhole (step old.world user (changes.Branch s child)) → entries' ≡ insert_entry name_cmp entries child (branched user s above)
    → IsForest entries' cells × IsSteppedBy point user (changes.Branch s child) old (grown entries' cells)
branch_done entries entries' cells old point user s child above view forest at whole es =
    let m = cell_at cells in
    let w : World = world_by m entries in
    let whole' = subst (λ (f : Grown). IsWhole (step f.world user (changes.Branch s child))) (sym view) whole in
    let its = forest.held s above at in
    let new = branched user s above in
    let joined = join_is m above.ids (held_contents cells above) its.ids_ordered (contents_ordered cells above) its.contents in
    let means : AreMeant m (contents_by m above.ids) (id_at above.ids) = subst (λ c. AreMeant m c (id_at above.ids)) (sym joined) its.contents in
    let held : IsHeld m new = record {
      base_ordered = its.ids_ordered;
      ids_ordered = its.ids_ordered;
      own_ordered = refl;
      base = means;
      contents = means;
      parts = its.parts ∙ ap part_count (sym joined);
      records = its.records ∙ ap length (sym joined);
    } in
    let z_is : scenario w s ≡ scenario_by m above = scenario_is w s (scenario_by m above) (scenario_here m entries s above at) in
    let shows : scenario_by m new ≡ record { parent = Some s; owner = Some user; private = true; base = contents_in w s; own = [] } =
    λ i. record { parent = Some s; owner = Some user; private = true; base = (joined ∙ sym (ap contents_of z_is)) i; own = [] } in
    let second : Entries = insert_entry name_cmp entries child new in
    let world_is : world_by m second ≡ step w user (changes.Branch s child) = seen_insert (scenario_by m) name_cmp entries child new ∙ ap (with_scenario w child) shows in
    let ids : WorldIds = ids_of (table_of entries) in
    let ids_are : ids_of (table_of second) ≡ step_ids point w ids (changes.Branch s child) =
    ids_put entries child new ∙ (λ i. with_ids ids child (record { base = (sym (ids_at entries s above at) i).contents; contents = (sym (ids_at entries s above at) i).contents })) in
    let P : Entries → Type 0 = λ e. IsForest e cells × IsSteppedBy point user (changes.Branch s child) old (grown e cells) in
    let done : IsSteppedBy point user (changes.Branch s child) (grown entries cells) (grown second cells) = record { world = world_is; ids = ids_are } in
    subst P (sym es) (
      record { whole = subst IsWhole (sym world_is) whole'; held = held_put m entries child new forest.held held },
      subst (λ (f : Grown). IsSteppedBy point user (changes.Branch s child) f (grown second cells)) view done,
    )
