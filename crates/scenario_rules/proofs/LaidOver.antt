-- What shows of contents with changes laid over them, and that they stay whole.
use Rattle.std.proofs.Common.{◌≡◌, List, [], ◌∷◌, refl, sym, ◌∙◌, ap, Bool, true, false, cond, ◌&&◌, subst}
use Rattle.std.specs.Prelude.{Option, Some, None, unwrap_or, IsSome}
use Rattle.std.specs.List.{list_all}
use Rattle.std.specs.Map.{lookup, remove_entry}
use Rattle.std.specs.BTreeMap.{is_at, insert_entry}
use Rattle.std.specs.FinMap.{is_sorted, IsAntisymmetric}
use Rattle.std.specs.FinMap.Entries.{below_all}
use Rattle.std.specs.Ordering.{is_eq, match_ordering}
use Rattle.std.specs.declared.cmp.Ordering.{Ordering}
use Rattle.std.specs.declared.cmp.Ordering.TheVariants.{Less, Equal, Greater}
use Rattle.plan_schema.specs.declared.key.Key.{Key}
use Rattle.plan_schema.specs.declared.key.Key.TheVariants as keys
use Rattle.plan_schema.specs.declared.key.Record.{Record}
use Rattle.plan_schema.specs.Key.{key_cmp}
use Rattle.plan_schema.specs.Contents.{Contents, record_at, is_ordered}
use Rattle.plan_schema.specs.Sound.{is_sound_row, are_sound_rows}
use Rattle.scenario_rules.specs.World.{OwnChanges, changed, laid_over}
use Rattle.scenario_rules.specs.Steps.{joined, all_put}
use Rattle.scenario_rules.specs.Whole.{AreWholeContents, is_sound_own, AreWholeChanges}
use Rattle.scenario_rules.specs.Laws.{shown}
use Rattle.scenario_rules.proofs.Maps.{both_parts, both_so, is_equal, lookup_below, sorted_remove, lookup_insert, lookup_insert_same, lookup_insert_other, sorted_insert, lookup_remove_other, lookup_remove_same}
use Rattle.scenario_rules.proofs.Keys.{key_total, key_exact}

-- what each pair of a list passes, where a pair that passes is put, or one is taken away
all_insert : {K X : Type 0} {R : K → K → Ordering} → IsAntisymmetric R → (test : (K × X) → Bool) (k : K) (v : X) (es : List (K × X)) → list_all test es ≡ true → test (k, v) ≡ true → list_all test (insert_entry R es k v) ≡ true
all_insert exact test k v [] h t = both_so (test (k, v)) true t refl
all_insert {R = R} exact test k v (e ∷ es) h t =
    let two = both_parts (test e) (list_all test es) h in
    by_cases (all_insert exact test k v es two.1 t) two.0 two.1 (R k e.0) refl
  where
    by_cases : list_all test (insert_entry R es k v) ≡ true → test e ≡ true → list_all test es ≡ true → (r : Ordering) → R k e.0 ≡ r
        → list_all test (match_ordering r ((k, v) ∷ e ∷ es) ((e.0, v) ∷ es) (e ∷ insert_entry R es k v)) ≡ true
    by_cases more here rest Less e' = both_so (test (k, v)) (test e && list_all test es) t (both_so (test e) (list_all test es) here rest)
    by_cases more here rest Equal e' = both_so (test (e.0, v)) (list_all test es) (ap (λ q. test (q, v)) (sym (exact k e.0 e')) ∙ t) rest
    by_cases more here rest Greater e' = both_so (test e) (list_all test (insert_entry R es k v)) here more

all_remove : {K X : Type 0} (test : (K × X) → Bool) (at : K → Bool) (es : List (K × X)) → list_all test es ≡ true → list_all test (remove_entry at es) ≡ true
all_remove test at [] h = refl
all_remove test at (e ∷ es) h =
    let two = both_parts (test e) (list_all test es) h in
    let rest = both_so (test e) (list_all test (remove_entry at es)) two.0 (all_remove test at es two.1) in
    elim (at e.0) as (λ b. list_all test (cond b es (e ∷ remove_entry at es)) ≡ true) [ true ↦ two.1 | false ↦ rest ]

-- one change ---------------------------------------------------------------------------------------------------------------------------

pub changed_shows : (c : Contents) (k : Key) (new : Option Record) → is_ordered c ≡ true → record_at (changed c k new) k ≡ new
changed_shows c k (Some value) h = lookup_insert_same key_total k value c
changed_shows c k None h = lookup_remove_same key_total key_exact k c h

pub others_show : (c : Contents) (q k : Key) (new : Option Record) → is_eq (key_cmp q k) ≡ false → record_at (changed c k new) q ≡ record_at c q
others_show c q k (Some value) h = lookup_insert_other key_total q k value c h
others_show c q k None h = lookup_remove_other key_total key_exact q k c h

pub ordered_changed : (c : Contents) (k : Key) (new : Option Record) → is_ordered c ≡ true → is_ordered (changed c k new) ≡ true
ordered_changed c k (Some value) h = sorted_insert key_total k value c h
ordered_changed c k None h = sorted_remove key_cmp (is_at (key_cmp k)) c h

sound_changed : (c : Contents) (change : Key × Option Record) → are_sound_rows c ≡ true → is_sound_own change ≡ true → are_sound_rows (changed c change.0 change.1) ≡ true
sound_changed c (k, Some value) h s = all_insert key_exact (λ row. is_sound_row row.0 row.1) k value c h s
sound_changed c (k, None) h s = all_remove (λ row. is_sound_row row.0 row.1) (is_at (key_cmp k)) c h

-- the horizon's record is not taken away
horizon_changed : (c : Contents) (change : Key × Option Record) → is_ordered c ≡ true → is_sound_own change ≡ true → IsSome (record_at c keys.Plan) → IsSome (record_at (changed c change.0 change.1) keys.Plan)
horizon_changed c (k, new) h s there = by_cases (is_eq (key_cmp keys.Plan k)) refl
  where
    put_there : (o : Option Record) → is_sound_own (keys.Plan, o) ≡ true → IsSome o
    put_there (Some value) s = refl
    put_there None s = cc

    by_cases : (t : Bool) → is_eq (key_cmp keys.Plan k) ≡ t → IsSome (record_at (changed c k new) keys.Plan)
    by_cases true t =
        let same : k ≡ keys.Plan = sym (key_exact keys.Plan k (is_equal (key_cmp keys.Plan k) t)) in
        let shows : record_at (changed c k new) keys.Plan ≡ new = ap (record_at (changed c k new)) (sym same) ∙ changed_shows c k new h in
        subst IsSome (sym shows) (put_there new (subst (λ x. is_sound_own (x, new) ≡ true) same s))
    by_cases false t = subst IsSome (sym (others_show c keys.Plan k new t)) there

-- changes laid over contents -----------------------------------------------------------------------------------------------------------

pub whole_laid : (c : Contents) (later : OwnChanges) → AreWholeContents c → list_all is_sound_own later ≡ true → AreWholeContents (laid_over c later)
whole_laid c [] whole h = whole
whole_laid c (change ∷ later) whole h =
    let two = both_parts (is_sound_own change) (list_all is_sound_own later) h in
    whole_laid (changed c change.0 change.1) later (record {
      ordered = ordered_changed c change.0 change.1 whole.ordered;
      sound = sound_changed c change whole.sound two.0;
      horizon = horizon_changed c change whole.ordered two.0 whole.horizon;
    }) two.1

-- below all own keys nothing is said
pub nothing_below : (own : OwnChanges) (q k : Key) (under : Option Record) → is_eq (key_cmp q k) ≡ true → below_all key_cmp k own ≡ true → shown own q under ≡ under
nothing_below own q k under same below =
    ap (λ o. unwrap_or o under) (ap (λ x. lookup (is_at (key_cmp x)) own) (key_exact q k (is_equal (key_cmp q k) same)) ∙ lookup_below key_cmp k own below)

pub shows_laid : (c : Contents) (own : OwnChanges) (q : Key) → is_ordered c ≡ true → is_sorted key_cmp own ≡ true → record_at (laid_over c own) q ≡ shown own q (record_at c q)
shows_laid c [] q h s = refl
shows_laid c (change ∷ own) q h s =
    let two = both_parts (below_all key_cmp change.0 own) (is_sorted key_cmp own) s in
    shows_laid (changed c change.0 change.1) own q (ordered_changed c change.0 change.1 h) two.1 ∙ by_cases two.0 (is_eq (key_cmp q change.0)) refl
  where
    by_cases : below_all key_cmp change.0 own ≡ true → (t : Bool) → is_eq (key_cmp q change.0) ≡ t
        → shown own q (record_at (changed c change.0 change.1) q) ≡ unwrap_or (cond t (Some change.1) (lookup (is_at (key_cmp q)) own)) (record_at c q)
    by_cases below true t =
        let here : record_at (changed c change.0 change.1) q ≡ change.1 = ap (record_at (changed c change.0 change.1)) (key_exact q change.0 (is_equal (key_cmp q change.0) t)) ∙ changed_shows c change.0 change.1 h in
        nothing_below own q change.0 (record_at (changed c change.0 change.1) q) t below ∙ here
    by_cases below false t = ap (shown own q) (others_show c q change.0 change.1 t)

-- changes joined to own changes --------------------------------------------------------------------------------------------------------

pub whole_joined : (own later : OwnChanges) → AreWholeChanges own → list_all is_sound_own later ≡ true → AreWholeChanges (joined own later)
whole_joined own [] whole h = whole
whole_joined own (change ∷ later) whole h =
    let two = both_parts (is_sound_own change) (list_all is_sound_own later) h in
    whole_joined (insert_entry key_cmp own change.0 change.1) later
    (record { ordered = sorted_insert key_total change.0 change.1 own whole.ordered; sound = all_insert key_exact is_sound_own change.0 change.1 own whole.sound two.0 }) two.1

pub ordered_joined : (own later : OwnChanges) → is_sorted key_cmp own ≡ true → is_sorted key_cmp (joined own later) ≡ true
ordered_joined own [] s = s
ordered_joined own (change ∷ later) s = ordered_joined (insert_entry key_cmp own change.0 change.1) later (sorted_insert key_total change.0 change.1 own s)

pub shows_joined : (own later : OwnChanges) (q : Key) (under : Option Record) → is_sorted key_cmp later ≡ true → shown (joined own later) q under ≡ shown later q (shown own q under)
shows_joined own [] q under s = refl
shows_joined own (change ∷ later) q under s =
    let two = both_parts (below_all key_cmp change.0 later) (is_sorted key_cmp later) s in
    shows_joined (insert_entry key_cmp own change.0 change.1) later q under two.1
    ∙ ap (λ o. shown later q (unwrap_or o under)) (lookup_insert key_total q change.0 change.1 own)
    ∙ by_cases two.0 (is_eq (key_cmp q change.0)) refl
  where
    by_cases : below_all key_cmp change.0 later ≡ true → (t : Bool) → is_eq (key_cmp q change.0) ≡ t
        → shown later q (unwrap_or (cond t (Some change.1) (lookup (is_at (key_cmp q)) own)) under) ≡ unwrap_or (cond t (Some change.1) (lookup (is_at (key_cmp q)) later)) (shown own q under)
    by_cases below true t = nothing_below later q change.0 change.1 t below
    by_cases below false t = refl

-- rows that are put are sound changes
pub sound_puts : (rows : List (Key × Record)) → are_sound_rows rows ≡ true → list_all is_sound_own (all_put rows) ≡ true
sound_puts [] h = refl
sound_puts (row ∷ rows) h =
    let two = both_parts (is_sound_row row.0 row.1) (are_sound_rows rows) h in
    both_so (is_sound_row row.0 row.1) (list_all is_sound_own (all_put rows)) two.0 (sound_puts rows two.1)
