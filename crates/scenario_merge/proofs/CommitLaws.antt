-- COMMIT: a parent takes the own changes of a child, and both have equal contents.
use Rattle.std.proofs.Common.{◌≡◌, ℕ, [], refl, sym, ◌∙◌, ap, subst, Bool, true, false, cond, length}
use Rattle.std.specs.Prelude.{Some, if◌then◌else◌, IsSome, unwrap_or}
use Rattle.std.specs.Option.{option_map}
use Rattle.std.specs.BTreeMap.{insert_entry}
use Rattle.std.specs.FinMap.{is_sorted}
use Rattle.plan_schema.specs.declared.name.Name.{Name}
use Rattle.plan_schema.specs.declared.change.Change.TheVariants as changes
use Rattle.plan_schema.specs.Key.{name_cmp, name_eq, key_cmp}
use Rattle.plan_schema.specs.Contents.{Contents, is_ordered}
use Rattle.plan_schema.specs.Base.{part_count}
use Rattle.scenario_rules.specs.World.{World, Scenario, is_root, scenario, with_scenario, parent_of, laid_over, contents_of, contents_in}
use Rattle.scenario_rules.specs.Steps.{joined, step, with_changes}
use Rattle.scenario_rules.specs.Whole.{IsWhole}
use Rattle.scenario_rules.proofs.Maps.{lookup_insert}
use Rattle.scenario_rules.proofs.Keys.{name_total}
use Rattle.scenario_rules.proofs.LaidOver.{ordered_joined}
use Rattle.scenario_rules.proofs.Wholeness.{scenario_is, root_is}
use Rattle.record_versions.specs.Versions.{IdList, CellList, id_at, cell_at, are_ordered_ids}
use Rattle.record_versions.proofs.Cells.{seen_insert}
use Rattle.version_rules.specs.Ids.{ScenarioIds, WorldIds, with_ids, with_contents_ids, joined_ids, ids_above, step_ids}
use Rattle.version_rules.specs.Meaning.{Meaning, AreMeant, Keep}
use Rattle.version_rules.proofs.Meant.{all_kept}
use Rattle.version_rules.proofs.CellRows.{ordered_laid}
use Rattle.version_rules.proofs.StepMeans.{laid_joined, contents_after}
use Rattle.scenario_cells.specs.declared.held.Held.{Held}
use Rattle.scenario_cells.specs.declared.laid.Laid.{Laid}
use Rattle.scenario_cells.specs.Held.{contents_by, scenario_by, listed, cell_ids, KeepsOlder, IsHeld, changed_by}
use Rattle.scenario_cells.specs.Laid.{IsLaid, ids_of_held, given, settled}
use Rattle.scenario_merge.specs.Grown.{Grown, ids_where, ids_of, ids_in, world_by, table_of, grown, IsForest, IsStepped}
use Rattle.version_rules.specs.Ids.{AreOlder}
use Rattle.scenario_cells.proofs.Join.{join_is, ordered_by, contents_kept}
use Rattle.scenario_cells.proofs.HeldLaws.{held_contents, contents_ordered}
use Rattle.scenario_merge.proofs.ForestLaws.{Entries, held_at, ids_found, ids_at, scenario_here, world_stays, forest_stays, base_keeps, ids_keep}
use Rattle.scenario_merge.proofs.MergeLaws.{laid_means}

-- putting a scenario under a name, in any list of entries
held_put_at : (entries : Entries) (s : Name) (new : Held) (q : Name) → held_at (insert_entry name_cmp entries s new) q ≡ cond (name_eq q s) (Some new) (held_at entries q)
held_put_at entries s new q = lookup_insert name_total q s new entries

pub held_put : (m : Meaning) (entries : Entries) (s : Name) (new : Held) → ((q : Name) (z : Held) → held_at entries q ≡ Some z → IsHeld m z) → IsHeld m new
    → (q : Name) (z : Held) → held_at (insert_entry name_cmp entries s new) q ≡ Some z → IsHeld m z
held_put m entries s new each one q z found = by_cases (name_eq q s) refl (sym (held_put_at entries s new q) ∙ found)
  where
    by_cases : (t : Bool) → name_eq q s ≡ t → cond (name_eq q s) (Some new) (held_at entries q) ≡ Some z → IsHeld m z
    by_cases true t found =
        let same : Some new ≡ Some z = sym (ap (λ b. cond b (Some new) (held_at entries q)) t) ∙ found in
        subst (IsHeld m) (ap (λ o. unwrap_or o new) same) one
    by_cases false t found = each q z (sym (ap (λ b. cond b (Some new) (held_at entries q)) t) ∙ found)

pub ids_put : (entries : Entries) (s : Name) (new : Held) → ids_of (table_of (insert_entry name_cmp entries s new)) ≡ with_ids (ids_of (table_of entries)) s (cell_ids (listed new))
ids_put entries s new = λ i q. by_cases q (name_eq q s) refl i
  where
    after : Entries
    after = insert_entry name_cmp entries s new

    by_cases : (q : Name) (t : Bool) → name_eq q s ≡ t → ids_of (table_of (insert_entry name_cmp entries s new)) q ≡ with_ids (ids_of (table_of entries)) s (cell_ids (listed new)) q
    by_cases q true t =
        ids_found (insert_entry name_cmp entries s new) q ∙ ap (λ o. ids_where (option_map listed o)) (held_put_at entries s new q ∙ ap (λ b. cond b (Some new) (held_at entries q)) t)
        ∙ sym (ap (λ b. if b then cell_ids (listed new) else ids_of (table_of entries) q) t)
    by_cases q false t =
        ids_found (insert_entry name_cmp entries s new) q ∙ ap (λ o. ids_where (option_map listed o)) (held_put_at entries s new q ∙ ap (λ b. cond b (Some new) (held_at entries q)) t) ∙ sym (ids_found entries q)
        ∙ sym (ap (λ b. if b then cell_ids (listed new) else ids_of (table_of entries) q) t)

module _ (cells cells' : CellList) (point : ℕ) (above child : Held) (laid : Laid) (its : IsHeld (cell_at cells) above) (mine : IsHeld (cell_at cells) child)
    (kb : Keep (cell_at cells) (cell_at cells') (id_at above.base)) (ka : Keep (cell_at cells) (cell_at cells') (id_at above.ids)) (kc : Keep (cell_at cells) (cell_at cells') (id_at child.ids))
    (is : IsLaid point (held_contents cells above) (id_at above.ids) (ids_of_held child) child.own cells' laid) where
  abbrev over : Contents
  over = laid_over (held_contents cells above) child.own

  over_ordered : is_ordered over ≡ true
  over_ordered = ordered_laid (held_contents cells above) child.own (contents_ordered cells above)

  over_means : AreMeant (cell_at cells') over (id_at laid.ids)
  over_means = laid_means cells cells' point above child laid its mine ka kc is

  over_joined : contents_by (cell_at cells') laid.ids ≡ over
  over_joined = join_is (cell_at cells') laid.ids over is.ordered over_ordered over_means

  pub settled_scenario : scenario_by (cell_at cells') (settled child laid) ≡ record (scenario_by (cell_at cells) child) { base = over; own = [] }
  settled_scenario = λ i. record { parent = child.parent; owner = child.owner; private = child.private; base = over_joined i; own = [] }

  pub settled_held : IsHeld (cell_at cells') (settled child laid)
  settled_held =
      let means = subst (λ c. AreMeant (cell_at cells') c (id_at laid.ids)) (sym over_joined) over_means in
      record {
        base_ordered = is.ordered;
        ids_ordered = is.ordered;
        own_ordered = refl;
        base = means;
        contents = means;
        parts = is.parts ∙ ap part_count (sym over_joined);
        records = is.records ∙ ap length (sym over_joined);
      }

  pub given_scenario : (root : Bool) → (root ≡ true → above.own ≡ []) → scenario_by (cell_at cells') (given root above child laid) ≡ changed_by root (scenario_by (cell_at cells) above) child.own
  given_scenario true rooted =
      let base : contents_by (cell_at cells') laid.ids ≡ laid_over (contents_by (cell_at cells) above.base) child.own =
      over_joined ∙ ap (λ own. laid_over (laid_over (contents_by (cell_at cells) above.base) own) child.own) (rooted refl) in
      λ i. record { parent = above.parent; owner = above.owner; private = above.private; base = base i; own = above.own }
  given_scenario false rooted =
      let base = contents_kept (cell_at cells) (cell_at cells') above.base its.base_ordered its.base kb in
      λ i. record { parent = above.parent; owner = above.owner; private = above.private; base = base i; own = joined above.own child.own }

  given_contents : (root : Bool) → (root ≡ true → above.own ≡ []) → contents_of (changed_by root (scenario_by (cell_at cells) above) child.own) ≡ over
  given_contents true rooted =
      ap (λ own. laid_over (laid_over (contents_by (cell_at cells) above.base) child.own) own) (rooted refl)
      ∙ sym (ap (λ own. laid_over (laid_over (contents_by (cell_at cells) above.base) own) child.own) (rooted refl))
  given_contents false rooted = laid_joined (contents_by (cell_at cells) above.base) above.own child.own (ordered_by (cell_at cells) above.base) its.own_ordered

  given_base : (root : Bool) → (root ≡ true → above.own ≡ []) → AreMeant (cell_at cells') (scenario_by (cell_at cells') (given root above child laid)).base (id_at (given root above child laid).base)
  given_base true rooted = subst (λ c. AreMeant (cell_at cells') c (id_at laid.ids)) (sym over_joined) over_means
  given_base false rooted =
      subst (λ c. AreMeant (cell_at cells') c (id_at above.base)) (sym (contents_kept (cell_at cells) (cell_at cells') above.base its.base_ordered its.base kb))
      (all_kept (cell_at cells) (cell_at cells') (contents_by (cell_at cells) above.base) (id_at above.base) kb its.base)

  base_sorted : (root : Bool) → are_ordered_ids (given root above child laid).base ≡ true
  base_sorted true = is.ordered
  base_sorted false = its.base_ordered

  own_sorted : (root : Bool) → is_sorted key_cmp (given root above child laid).own ≡ true
  own_sorted true = its.own_ordered
  own_sorted false = ordered_joined above.own child.own its.own_ordered

  pub given_held : (root : Bool) → (root ≡ true → above.own ≡ []) → IsHeld (cell_at cells') (given root above child laid)
  given_held root rooted =
      let shows : contents_of (scenario_by (cell_at cells') (given root above child laid)) ≡ over = ap contents_of (given_scenario root rooted) ∙ given_contents root rooted in
      record {
        base_ordered = base_sorted root;
        ids_ordered = is.ordered;
        own_ordered = own_sorted root;
        base = given_base root rooted;
        contents = subst (λ c. AreMeant (cell_at cells') c (id_at laid.ids)) (sym shows) over_means;
        parts = is.parts ∙ ap part_count (sym shows);
        records = is.records ∙ ap length (sym shows);
      }

base_id : (root : Bool) (laid above : IdList) → id_at (if root then laid else above) ≡ (if root then id_at laid else id_at above)
base_id true laid above = refl
base_id false laid above = refl

-- COMMIT, as the call of a forest needs it
pub committed : (entries entries' : Entries) (cells cells' : CellList) (old : Grown) (point : ℕ) (root : Bool) (s p : Name) (above child : Held) (laid : Laid) → grown entries cells ≡ old → IsForest entries cells
    → held_at entries s ≡ Some child → child.parent ≡ Some p → held_at entries p ≡ Some above → root ≡ is_root p → IsLaid point (held_contents cells above) (id_at above.ids) (ids_of_held child) child.own cells' laid
    → KeepsOlder point cells cells' → AreOlder point (ids_in old) → IsWhole (step old.world [] (changes.Commit s))
    → entries' ≡ insert_entry name_cmp (insert_entry name_cmp entries p (given root above child laid)) s (settled child laid)
    → IsForest entries' cells' × IsStepped point (changes.Commit s) old (grown entries' cells')
committed entries entries' cells cells' old point root s p above child laid view forest at has above_at rt is keeps older whole es =
    let m = cell_at cells in
    let m' = cell_at cells' in
    let w : World = world_by m entries in
    let there = subst (λ (f : Grown). AreOlder point (ids_in f)) (sym view) older in
    let whole' = subst (λ (f : Grown). IsWhole (step f.world [] (changes.Commit s))) (sym view) whole in
    let its = forest.held p above above_at in
    let mine = forest.held s child at in
    let kb = base_keeps entries cells cells' point forest keeps there p above above_at in
    let ka = ids_keep entries cells cells' point forest keeps there p above above_at in
    let kc = ids_keep entries cells cells' point forest keeps there s child at in
    let z = scenario_by m above in
    let z_at = scenario_here m entries p above above_at in
    let rooted : root ≡ true → above.own ≡ [] = λ t. ap (λ (x : Scenario). x.own) (root_is w p z forest.whole z_at (sym rt ∙ t)).1 in
    let newp = given root above child laid in
    let newc = settled child laid in
    let p_held = given_held cells cells' point above child laid its mine kb ka kc is root rooted in
    let c_held = settled_held cells cells' point above child laid its mine kb ka kc is in
    let p_shows = given_scenario cells cells' point above child laid its mine kb ka kc is root rooted in
    let c_shows = settled_scenario cells cells' point above child laid its mine kb ka kc is in
    let first : Entries = insert_entry name_cmp entries p newp in
    let second : Entries = insert_entry name_cmp first s newc in
    let x_is : scenario w s ≡ scenario_by m child = scenario_is w s (scenario_by m child) (scenario_here m entries s child at) in
    let p_is : parent_of (scenario w s) ≡ p = ap parent_of x_is ∙ ap (λ o. unwrap_or o []) has in
    let z_is : scenario w p ≡ z = scenario_is w p z z_at in
    let world_first : world_by m' first ≡ with_changes w p child.own =
    seen_insert (scenario_by m') name_cmp entries p newp
    ∙ ap (λ v. with_scenario v p (scenario_by m' newp)) (world_stays entries cells cells' point forest keeps there)
    ∙ ap (with_scenario w p) (p_shows ∙ (λ i. changed_by (rt i) (sym z_is i) child.own)) in
    let after_is : contents_in (with_changes w p child.own) p ≡ laid_over (held_contents cells above) child.own =
    contents_after w p child.own forest.whole (subst IsSome (sym z_at) refl) ∙ ap (λ (y : Scenario). laid_over (contents_of y) child.own) z_is in
    let stepped : with_scenario (with_changes w p child.own) s (record (scenario_by m child) { base = laid_over (held_contents cells above) child.own; own = [] }) ≡ step w [] (changes.Commit s) =
    (λ i. with_scenario (with_changes w p child.own) s (record (scenario_by m child) { base = sym after_is i; own = [] }))
    ∙ (λ i. with_scenario (with_changes w (sym p_is i) (sym x_is i).own) s (record (sym x_is i) { base = contents_in (with_changes w (sym p_is i) (sym x_is i).own) (sym p_is i); own = [] })) in
    let world_second : world_by m' second ≡ step w [] (changes.Commit s) =
    seen_insert (scenario_by m') name_cmp first s newc ∙ (λ i. with_scenario (world_first i) s (c_shows i)) ∙ stepped in
    let ids : WorldIds = ids_of (table_of entries) in
    let above_ids : (ids (parent_of (scenario w s))).contents ≡ id_at above.ids = ap (λ n. (ids n).contents) p_is ∙ ap (λ (i : ScenarioIds). i.contents) (ids_at entries p above above_at) in
    let above_contents : contents_in w (parent_of (scenario w s)) ≡ held_contents cells above = ap (contents_in w) p_is ∙ ap contents_of z_is in
    let contents_ids : ids_above point w ids s ≡ id_at laid.ids =
    (λ i. joined_ids point (laid_over (above_contents i) (x_is i).own) (x_is i).own (above_ids i) (ids_at entries s child at i)) ∙ sym (λ i cell. is.ids cell i) in
    let base_ids : (if is_root p then ids_above point w ids s else (ids p).base) ≡ id_at newp.base =
    (λ i. if sym rt i then contents_ids i else (ids_at entries p above above_at i).base) ∙ sym (base_id root laid.ids above.base) in
    let ids_second : ids_of (table_of second) ≡ step_ids point w ids (changes.Commit s) =
    ids_put first s newc ∙ ap (λ v. with_ids v s (cell_ids (listed newc))) (ids_put entries p newp)
    ∙ (λ i. with_ids (with_ids ids p (record { base = sym base_ids i; contents = sym contents_ids i })) s (record { base = sym contents_ids i; contents = sym contents_ids i }))
    ∙ (λ i. with_ids (with_contents_ids ids (sym p_is i) (ids_above point w ids s)) s (record { base = ids_above point w ids s; contents = ids_above point w ids s })) in
    let P : Entries → Type 0 = λ e. IsForest e cells' × IsStepped point (changes.Commit s) old (grown e cells') in
    let each = (forest_stays entries cells cells' point forest keeps there).held in
    let done : IsStepped point (changes.Commit s) (grown entries cells) (grown second cells') = record { world = world_second; ids = ids_second } in
    subst P (sym es) (
      record { whole = subst IsWhole (sym world_second) whole'; held = held_put m' first s newc (held_put m' entries p newp each p_held) c_held },
      subst (λ (f : Grown). IsStepped point (changes.Commit s) f (grown second cells')) view done,
    )
