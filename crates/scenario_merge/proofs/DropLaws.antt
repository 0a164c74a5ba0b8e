-- DROP: a scenario is gone.
use Rattle.std.proofs.Common.{◌≡◌, ℕ, [], refl, sym, ◌∙◌, ap, subst, Bool, true, false}
use Rattle.std.specs.Prelude.{Some, None, if◌then◌else◌}
use Rattle.std.specs.Option.{option_map}
use Rattle.std.specs.Map.{remove_entry}
use Rattle.std.specs.BTreeMap.{is_at}
use Rattle.std.specs.FinMap.{is_sorted}
use Rattle.plan_schema.specs.declared.name.Name.{Name}
use Rattle.plan_schema.specs.declared.change.Change.TheVariants as changes
use Rattle.plan_schema.specs.Key.{name_cmp, name_eq}
use Rattle.scenario_rules.specs.Steps.{step}
use Rattle.scenario_rules.specs.Whole.{IsWhole}
use Rattle.scenario_rules.proofs.Maps.{lookup_remove_same, lookup_remove_other}
use Rattle.scenario_rules.proofs.Keys.{name_total, name_exact}
use Rattle.scenario_rules.proofs.Wholeness.{one_name}
use Rattle.record_versions.specs.Versions.{CellList, cell_at}
use Rattle.record_versions.proofs.Cells.{seen_remove}
use Rattle.version_rules.specs.Ids.{no_ids, with_ids}
use Rattle.scenario_cells.specs.declared.held.Held.{Held}
use Rattle.scenario_cells.specs.Held.{scenario_by, listed, IsHeld}
use Rattle.scenario_merge.specs.Grown.{Grown, ids_where, ids_of, world_by, table_of, grown, IsForest, IsStepped}
use Rattle.scenario_merge.proofs.ForestLaws.{Entries, held_at, ids_found, sorted_seen}

abbrev without : Entries → Name → Entries
without entries s = remove_entry (is_at (name_cmp s)) entries

gone_held : (entries : Entries) (s q : Name) → is_sorted name_cmp entries ≡ true → name_eq q s ≡ true → held_at (without entries s) q ≡ None
gone_held entries s q o t = ap (held_at (without entries s)) (one_name q s t) ∙ lookup_remove_same name_total name_exact s entries o

other_held : (entries : Entries) (s q : Name) → name_eq q s ≡ false → held_at (without entries s) q ≡ held_at entries q
other_held entries s q t = lookup_remove_other name_total name_exact q s entries t

pub drop_done : (entries entries' : Entries) (cells : CellList) (old : Grown) (point : ℕ) (s : Name) → grown entries cells ≡ old → IsForest entries cells → IsWhole (step old.world [] (changes.Drop s))
    → entries' ≡ remove_entry (is_at (name_cmp s)) entries → IsForest entries' cells × IsStepped point (changes.Drop s) old (grown entries' cells)
drop_done entries entries' cells old point s view forest whole es =
    let m = cell_at cells in
    let o = sym (sorted_seen (scenario_by m) name_cmp entries) ∙ forest.whole.ordered in
    let whole' = subst (λ (f : Grown). IsWhole (step f.world [] (changes.Drop s))) (sym view) whole in
    let world_is : world_by m (without entries s) ≡ step (world_by m entries) [] (changes.Drop s) = seen_remove (scenario_by m) (is_at (name_cmp s)) entries in
    let P : Entries → Type 0 = λ e. IsForest e cells × IsStepped point (changes.Drop s) old (grown e cells) in
    let done : IsStepped point (changes.Drop s) (grown entries cells) (grown (without entries s) cells) = record { world = world_is; ids = λ i q. ids_are o q (name_eq q s) refl i } in
    subst P (sym es) (
      record { whole = subst IsWhole (sym world_is) whole'; held = λ q z found. held_is o q z (name_eq q s) refl found },
      subst (λ (f : Grown). IsStepped point (changes.Drop s) f (grown (without entries s) cells)) view done,
    )
  where
    ids_are : is_sorted name_cmp entries ≡ true → (q : Name) (t : Bool) → name_eq q s ≡ t → ids_of (table_of (without entries s)) q ≡ with_ids (ids_of (table_of entries)) s no_ids q
    ids_are o q true t =
        ids_found (without entries s) q ∙ ap (λ h. ids_where (option_map listed h)) (gone_held entries s q o t) ∙ sym (ap (λ b. if b then no_ids else ids_of (table_of entries) q) t)
    ids_are o q false t =
        ids_found (without entries s) q ∙ ap (λ h. ids_where (option_map listed h)) (other_held entries s q t) ∙ sym (ids_found entries q) ∙ sym (ap (λ b. if b then no_ids else ids_of (table_of entries) q) t)

    held_is : is_sorted name_cmp entries ≡ true → (q : Name) (z : Held) (t : Bool) → name_eq q s ≡ t → held_at (without entries s) q ≡ Some z → IsHeld (cell_at cells) z
    held_is o q z true t found = absurd (let no : ⊥ = (let wrong : None ≡ Some z = sym (gone_held entries s q o t) ∙ found in cc) in no)
    held_is o q z false t found = forest.held q z (sym (other_held entries s q t) ∙ found)
