-- A scenario that is changed in its place among those that are held.
use Rattle.std.proofs.Common.{◌≡◌, List, [], ◌∷◌, refl, sym, ◌∙◌, ap, subst, Bool, true, false, cond}
use Rattle.std.specs.Prelude.{Some, None, Result, Ok, Err, OnOk, OnErr, is_some, IsSome, ℕ}
use Rattle.std.proofs.lemmas.Map.Steps.{set_value_same}
use Rattle.std.specs.Map.{lookup, set_value}
use Rattle.std.specs.BTreeMap.{is_at, insert_entry}
use Rattle.std.specs.FinMap.{is_sorted}
use Rattle.std.specs.FinMap.Entries.{below_all}
use Rattle.std.specs.Ordering.{is_eq, match_ordering}
use Rattle.std.specs.Cmp.{IsTotalOrder}
use Rattle.std.specs.declared.cmp.Ordering.{Ordering}
use Rattle.std.specs.declared.cmp.Ordering.TheVariants.{Less, Equal, Greater}
use Rattle.plan_schema.specs.declared.name.Name.{Name}
use Rattle.plan_schema.specs.Key.{name_cmp}
use Rattle.scenario_rules.specs.World.{OwnChanges, is_root}
use Rattle.scenario_rules.specs.Steps.{with_changes}
use Rattle.scenario_rules.specs.Whole.{IsWhole}
use Rattle.scenario_rules.proofs.Maps.{both_parts}
use Rattle.scenario_rules.proofs.Keys.{name_total}
use Rattle.record_versions.specs.Versions.{CellList, cell_at}
use Rattle.record_versions.proofs.Same.{below_further, none_below}
use Rattle.version_rules.specs.Ids.{AreOlder}
use Rattle.scenario_cells.specs.declared.held.Held.{Held}
use Rattle.scenario_cells.specs.Held.{scenario_by, KeepsOlder, IsChanged}
use Rattle.scenario_merge.specs.Grown.{Grown, grown, ids_in, IsForest, IsAfterChanges, IsAsBefore}
use Rattle.scenario_merge.proofs.ForestLaws.{Entries, held_at, sorted_seen, as_before, after_changes_of}

-- another value under a key that is there is what an insertion puts there
written_is : {K X : Type 0} {R : K → K → Ordering} (o : IsTotalOrder R) (k : K) (w : X) (es : List (K × X)) → is_sorted R es ≡ true → IsSome (lookup (is_at (R k)) es)
    → set_value (is_at (R k)) es w ≡ insert_entry R es k w
written_is o k w [] s there = cc
written_is {K = K} {X = X} {R = R} o k w (e ∷ es) s there =
    let two = both_parts (below_all R e.0 es) (is_sorted R es) s in
    by_cases (written_is o k w es two.1) two.0 (R k e.0) refl there
  where
    by_cases : (IsSome (lookup (is_at (R k)) es) → set_value (is_at (R k)) es w ≡ insert_entry R es k w) → below_all R e.0 es ≡ true → (r : Ordering) → R k e.0 ≡ r
        → IsSome (cond (is_eq (R k e.0)) (Some e.1) (lookup (is_at (R k)) es))
        → cond (is_eq (R k e.0)) ((e.0, w) ∷ es) (e ∷ set_value (is_at (R k)) es w) ≡ match_ordering (R k e.0) ((k, w) ∷ e ∷ es) ((e.0, w) ∷ es) (e ∷ insert_entry R es k w)
    by_cases later below Less r some =
        let none : cond (is_eq (R k e.0)) (Some e.1) (lookup (is_at (R k)) es) ≡ None =
        ap (λ q. cond (is_eq q) (Some e.1) (lookup (is_at (R k)) es)) r ∙ none_below o k es (below_further o k e.0 es r below) in
        absurd (let no : ⊥ = (let wrong : false ≡ true = sym (ap is_some none) ∙ some in cc) in no)
    by_cases later below Equal r some =
        ap (λ q. cond (is_eq q) ((e.0, w) ∷ es) (e ∷ set_value (is_at (R k)) es w)) r
        ∙ sym (ap (λ q. match_ordering q ((k, w) ∷ e ∷ es) ((e.0, w) ∷ es) (e ∷ insert_entry R es k w)) r)
    by_cases later below Greater r some =
        ap (λ q. cond (is_eq q) ((e.0, w) ∷ es) (e ∷ set_value (is_at (R k)) es w)) r
        ∙ ap (λ l. e ∷ l) (later (subst IsSome (ap (λ q. cond (is_eq q) (Some e.1) (lookup (is_at (R k)) es)) r) some))
        ∙ sym (ap (λ q. match_ordering q ((k, w) ∷ e ∷ es) ((e.0, w) ∷ es) (e ∷ insert_entry R es k w)) r)

-- a scenario is changed in its place, or left as it was
pub written : {T E : Type 0} (r : Result T E) (entries entries' : Entries) (cells cells' : CellList) (old : Grown) (point : ℕ) (root : Bool) (s : Name) (later : OwnChanges) (h new : Held)
    → grown entries cells ≡ old → IsForest entries cells → held_at entries s ≡ Some h → root ≡ is_root s → OnOk r (IsChanged point root later (cell_at cells) (cell_at cells') h new) → OnErr r (new ≡ h)
    → KeepsOlder point cells cells' → AreOlder point (ids_in old) → IsWhole (with_changes old.world s later) → entries' ≡ set_value (is_at (name_cmp s)) entries new
    → IsForest entries' cells' × OnOk r (IsAfterChanges point s later old (grown entries' cells')) × OnErr r (IsAsBefore old (grown entries' cells'))
written (Ok x) entries entries' cells cells' old point root s later h new view forest is rt change stays keeps older whole es =
    let sorted : is_sorted name_cmp entries ≡ true = sym (sorted_seen (scenario_by (cell_at cells)) name_cmp entries) ∙ forest.whole.ordered in
    let there : IsSome (held_at entries s) = subst IsSome (sym is) refl in
    let both = after_changes_of entries entries' cells cells' old point root s later h new view forest is rt change keeps older whole (es ∙ written_is name_total s new entries sorted there) in
    (both.0, both.1, tt)
written (Err x) entries entries' cells cells' old point root s later h new view forest is rt change stays keeps older whole es =
    let same : entries' ≡ entries = es ∙ ap (set_value (is_at (name_cmp s)) entries) stays ∙ set_value_same (is_at (name_cmp s)) entries h is in
    let both = as_before entries cells cells' old point view forest keeps older in
    (subst (λ (e : Entries). IsForest e cells') (sym same) both.0, tt, subst (λ (e : Entries). IsAsBefore old (grown e cells')) (sym same) both.1)
