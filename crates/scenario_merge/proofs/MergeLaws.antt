-- A forest after a scenario is put under a name, and what an update puts there.
use Rattle.std.proofs.Common.{◌≡◌, ℕ, [], refl, sym, ◌∙◌, ap, subst, Bool, true, false, cond, length}
use Rattle.std.specs.Prelude.{Some, if◌then◌else◌, unwrap_or}
use Rattle.std.specs.Option.{option_map}
use Rattle.std.specs.BTreeMap.{insert_entry}
use Rattle.plan_schema.specs.declared.name.Name.{Name}
use Rattle.plan_schema.specs.declared.change.Change.TheVariants as changes
use Rattle.plan_schema.specs.Key.{name_cmp, name_eq}
use Rattle.plan_schema.specs.Contents.{Contents}
use Rattle.plan_schema.specs.Base.{part_count}
use Rattle.scenario_rules.specs.World.{World, Scenario, scenario, with_scenario, parent_of, laid_over, contents_of, contents_in}
use Rattle.scenario_rules.specs.Steps.{step}
use Rattle.scenario_rules.specs.Whole.{IsWhole}
use Rattle.scenario_rules.proofs.Maps.{lookup_insert}
use Rattle.scenario_rules.proofs.Keys.{name_total}
use Rattle.scenario_rules.proofs.Wholeness.{scenario_is}
use Rattle.record_versions.specs.Versions.{CellList, id_at, cell_at}
use Rattle.record_versions.proofs.Cells.{seen_insert}
use Rattle.version_rules.specs.Ids.{CellIds, ScenarioIds, WorldIds, with_ids, joined_ids, ids_above, step_ids}
use Rattle.version_rules.specs.Meaning.{AreMeant, Keep}
use Rattle.version_rules.proofs.Meant.{all_kept, joined_means}
use Rattle.scenario_cells.specs.declared.held.Held.{Held}
use Rattle.scenario_cells.specs.declared.laid.Laid.{Laid}
use Rattle.scenario_cells.specs.Held.{contents_by, scenario_by, listed, cell_ids, KeepsOlder, IsHeld}
use Rattle.scenario_cells.specs.Laid.{IsLaid, ids_of_held}
use Rattle.scenario_merge.specs.Grown.{Grown, ids_where, ids_of, ids_in, world_by, table_of, grown, IsForest, IsStepped}
use Rattle.version_rules.specs.Ids.{AreOlder}
use Rattle.scenario_cells.proofs.Join.{join_is, ordered_by}
use Rattle.scenario_cells.proofs.HeldLaws.{held_contents, contents_ordered}
use Rattle.scenario_merge.proofs.ForestLaws.{Entries, held_at, ids_found, ids_at, scenario_here, world_stays, forest_stays, ids_keep}

module _ (entries : Entries) (cells cells' : CellList) (point : ℕ) (forest : IsForest entries cells) (keeps : KeepsOlder point cells cells') (older : AreOlder point (ids_of (table_of entries)))
    (s : Name) (new : Held) (held : IsHeld (cell_at cells') new) where
  abbrev after : Entries
  after = insert_entry name_cmp entries s new

  pub put_world : world_by (cell_at cells') after ≡ with_scenario (world_by (cell_at cells) entries) s (scenario_by (cell_at cells') new)
  put_world =
      seen_insert (scenario_by (cell_at cells')) name_cmp entries s new
      ∙ ap (λ w. insert_entry name_cmp w s (scenario_by (cell_at cells') new)) (world_stays entries cells cells' point forest keeps older)

  after_at : (q : Name) → held_at after q ≡ cond (name_eq q s) (Some new) (held_at entries q)
  after_at q = lookup_insert name_total q s new entries

  pub put_forest : IsWhole (with_scenario (world_by (cell_at cells) entries) s (scenario_by (cell_at cells') new)) → IsForest after cells'
  put_forest whole = record { whole = subst IsWhole (sym put_world) whole; held = λ q z found. by_cases q z (name_eq q s) refl (sym (after_at q) ∙ found) }
    where
      by_cases : (q : Name) (z : Held) (t : Bool) → name_eq q s ≡ t → cond (name_eq q s) (Some new) (held_at entries q) ≡ Some z → IsHeld (cell_at cells') z
      by_cases q z true t found =
          let one : Some new ≡ Some z = sym (ap (λ b. cond b (Some new) (held_at entries q)) t) ∙ found in
          subst (IsHeld (cell_at cells')) (ap (λ o. unwrap_or o new) one) held
      by_cases q z false t found = (forest_stays entries cells cells' point forest keeps older).held q z (sym (ap (λ b. cond b (Some new) (held_at entries q)) t) ∙ found)

  pub put_ids : ids_of (table_of after) ≡ with_ids (ids_of (table_of entries)) s (cell_ids (listed new))
  put_ids = λ i q. by_cases q (name_eq q s) refl i
    where
      by_cases : (q : Name) (t : Bool) → name_eq q s ≡ t → ids_of (table_of after) q ≡ with_ids (ids_of (table_of entries)) s (cell_ids (listed new)) q
      by_cases q true t =
          ids_found after q ∙ ap (λ o. ids_where (option_map listed o)) (after_at q ∙ ap (λ b. cond b (Some new) (held_at entries q)) t)
          ∙ sym (ap (λ b. if b then cell_ids (listed new) else ids_of (table_of entries) q) t)
      by_cases q false t =
          ids_found after q ∙ ap (λ o. ids_where (option_map listed o)) (after_at q ∙ ap (λ b. cond b (Some new) (held_at entries q)) t) ∙ sym (ids_found entries q)
          ∙ sym (ap (λ b. if b then cell_ids (listed new) else ids_of (table_of entries) q) t)

-- a parent and its child, and the child's own changes laid over the parent's contents
module _ (cells cells' : CellList) (point : ℕ) (above child : Held) (laid : Laid) (its : IsHeld (cell_at cells) above) (mine : IsHeld (cell_at cells) child)
    (ka : Keep (cell_at cells) (cell_at cells') (id_at above.ids)) (kc : Keep (cell_at cells) (cell_at cells') (id_at child.ids))
    (is : IsLaid point (held_contents cells above) (id_at above.ids) (ids_of_held child) child.own cells' laid) where
  abbrev over : Contents
  over = laid_over (held_contents cells above) child.own

  pub laid_means : AreMeant (cell_at cells') over (id_at laid.ids)
  laid_means =
      subst (λ (ids : CellIds). AreMeant (cell_at cells') over ids) (sym (λ i cell. is.ids cell i))
      (joined_means (cell_at cells) (cell_at cells') point (held_contents cells above) (contents_by (cell_at cells) child.base) child.own (id_at above.ids) (ids_of_held child)
      (contents_ordered cells above) (ordered_by (cell_at cells) child.base) its.contents mine.base mine.contents ka kc is.gives)

  abbrev based : Held
  based = record { parent = child.parent; owner = child.owner; private = child.private; base = above.ids; ids = laid.ids; own = child.own; parts = laid.parts; records = laid.records }

  base_means : AreMeant (cell_at cells') (held_contents cells above) (id_at above.ids)
  base_means = all_kept (cell_at cells) (cell_at cells') (held_contents cells above) (id_at above.ids) ka its.contents

  base_joined : contents_by (cell_at cells') above.ids ≡ held_contents cells above
  base_joined = join_is (cell_at cells') above.ids (held_contents cells above) its.ids_ordered (contents_ordered cells above) base_means

  pub based_scenario : scenario_by (cell_at cells') based ≡ record (scenario_by (cell_at cells) child) { base = held_contents cells above }
  based_scenario = λ i. record { parent = child.parent; owner = child.owner; private = child.private; base = base_joined i; own = child.own }

  pub based_held : IsHeld (cell_at cells') based
  based_held =
      let P : Scenario → Type 0 = λ x. AreMeant (cell_at cells') x.base (id_at above.ids) in
      let Q : Scenario → Type 0 = λ x. AreMeant (cell_at cells') (contents_of x) (id_at laid.ids) in
      record {
        base_ordered = its.ids_ordered;
        ids_ordered = is.ordered;
        own_ordered = mine.own_ordered;
        base = subst P (sym based_scenario) base_means;
        contents = subst Q (sym based_scenario) laid_means;
        parts = is.parts ∙ ap (λ x. part_count (contents_of x)) (sym based_scenario);
        records = is.records ∙ ap (λ x. length (contents_of x)) (sym based_scenario);
      }

-- UPDATE, as the call of a forest needs it
pub updated : (entries entries' : Entries) (cells cells' : CellList) (old : Grown) (point : ℕ) (s parent : Name) (above child : Held) (laid : Laid) → grown entries cells ≡ old → IsForest entries cells
    → held_at entries s ≡ Some child → child.parent ≡ Some parent → held_at entries parent ≡ Some above → IsLaid point (held_contents cells above) (id_at above.ids) (ids_of_held child) child.own cells' laid
    → KeepsOlder point cells cells' → AreOlder point (ids_in old) → IsWhole (step old.world [] (changes.Update s))
    → entries' ≡ insert_entry name_cmp entries s (record { parent = child.parent; owner = child.owner; private = child.private; base = above.ids; ids = laid.ids; own = child.own; parts = laid.parts; records = laid.records })
    → IsForest entries' cells' × IsStepped point (changes.Update s) old (grown entries' cells')
updated entries entries' cells cells' old point s parent above child laid view forest at has above_at is keeps older whole es =
    let m = cell_at cells in
    let w : World = world_by m entries in
    let there = subst (λ (f : Grown). AreOlder point (ids_in f)) (sym view) older in
    let whole' = subst (λ (f : Grown). IsWhole (step f.world [] (changes.Update s))) (sym view) whole in
    let its = forest.held parent above above_at in
    let mine = forest.held s child at in
    let ka = ids_keep entries cells cells' point forest keeps there parent above above_at in
    let kc = ids_keep entries cells cells' point forest keeps there s child at in
    let new = based cells cells' point above child laid its mine ka kc is in
    let good = based_held cells cells' point above child laid its mine ka kc is in
    let shows = based_scenario cells cells' point above child laid its mine ka kc is in
    let child_is : scenario w s ≡ scenario_by m child = scenario_is w s (scenario_by m child) (scenario_here m entries s child at) in
    let name_is : parent_of (scenario w s) ≡ parent = ap parent_of child_is ∙ ap (λ o. unwrap_or o []) has in
    let above_is : contents_in w (parent_of (scenario w s)) ≡ held_contents cells above =
    ap (contents_in w) name_is ∙ ap contents_of (scenario_is w parent (scenario_by m above) (scenario_here m entries parent above above_at)) in
    let stepped : with_scenario w s (scenario_by (cell_at cells') new) ≡ step w [] (changes.Update s) =
    ap (with_scenario w s) (shows ∙ sym (λ i. record (child_is i) { base = above_is i })) in
    let ids : WorldIds = ids_of (table_of entries) in
    let parent_ids : (ids (parent_of (scenario w s))).contents ≡ id_at above.ids = ap (λ n. (ids n).contents) name_is ∙ ap (λ (i : ScenarioIds). i.contents) (ids_at entries parent above above_at) in
    let contents_ids : ids_above point w ids s ≡ id_at laid.ids =
    (λ i. joined_ids point (laid_over (above_is i) (child_is i).own) (child_is i).own (parent_ids i) (ids_at entries s child at i)) ∙ sym (λ i cell. is.ids cell i) in
    let ids_stepped : with_ids ids s (cell_ids (listed new)) ≡ step_ids point w ids (changes.Update s) = λ i. with_ids ids s (record { base = sym parent_ids i; contents = sym contents_ids i }) in
    let P : Entries → Type 0 = λ e. IsForest e cells' × IsStepped point (changes.Update s) old (grown e cells') in
    let done : IsStepped point (changes.Update s) (grown entries cells) (grown (insert_entry name_cmp entries s new) cells') = record {
      world = put_world entries cells cells' point forest keeps there s new good ∙ stepped;
      ids = put_ids entries cells cells' point forest keeps there s new good ∙ ids_stepped;
    } in
    subst P (sym es) (
      put_forest entries cells cells' point forest keeps there s new good (subst IsWhole (sym stepped) whole'),
      subst (λ (f : Grown). IsStepped point (changes.Update s) f (grown (insert_entry name_cmp entries s new) cells')) view done,
    )
