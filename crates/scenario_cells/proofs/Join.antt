-- Contents are the join of their cells.
use Rattle.std.proofs.Common.{◌≡◌, List, [], ◌∷◌, refl, sym, ◌∙◌, ap, Bool, true, false, cond, ◌&&◌, ◌||◌}
use Rattle.std.specs.Prelude.{Option, Some, None, unwrap_or, fold}
use Rattle.std.specs.Option.{option_map}
use Rattle.std.specs.List.{AllByRecursion, list_any}
use Rattle.std.specs.Map.{lookup}
use Rattle.std.specs.BTreeMap.{is_at}
use Rattle.std.specs.FinMap.{is_sorted}
use Rattle.std.specs.FinMap.Entries.{below_all}
use Rattle.std.specs.Ordering.{is_eq, is_lt}
use Rattle.std.specs.declared.cmp.Ordering.{Ordering}
use Rattle.std.specs.Cmp.{IsTotalOrder, tied_itself}
use Rattle.std.proofs.lemmas.Map.Lookups.{CmpEqualImpliesEq}
use Rattle.plan_schema.specs.declared.key.Key.{Key}
use Rattle.plan_schema.specs.declared.key.Record.{Record}
use Rattle.plan_schema.specs.declared.change.CellName.{CellName}
use Rattle.plan_schema.specs.Key.{key_cmp, cell_of}
use Rattle.plan_schema.specs.Cell.{cell_cmp, cell_eq}
use Rattle.plan_schema.specs.Contents.{Contents, record_at, is_ordered, cell_rows}
use Rattle.scenario_rules.specs.World.{laid_over}
use Rattle.scenario_rules.specs.Steps.{all_put}
use Rattle.scenario_rules.proofs.Maps.{both_parts}
use Rattle.scenario_rules.proofs.LaidOver.{shows_laid}
use Rattle.record_versions.specs.declared.version.VersionId.{VersionId}
use Rattle.record_versions.specs.Versions.{IdList, id_at, are_ordered_ids}
use Rattle.record_versions.proofs.Same.{is_same, none_below}
use Rattle.record_versions.proofs.Orders.{cell_total, cell_exact}
use Rattle.version_rules.specs.Meaning.{Meaning, IsMeant, AreMeant, Keep}
use Rattle.version_rules.proofs.CellRows.{same_contents, row_found, rows_ordered, ordered_laid}
use Rattle.version_rules.proofs.Meant.{all_kept}
use Rattle.scenario_cells.specs.Held.{rows_of_id, contents_by}

-- what is found under each key of a list in order passes
pub each_found : {K X : Type 0} {R : K → K → Ordering} (o : IsTotalOrder R) (exact : CmpEqualImpliesEq R) (P : K → X → Type 0) (es : List (K × X)) → is_sorted R es ≡ true
    → ((k : K) (v : X) → lookup (is_at (R k)) es ≡ Some v → P k v) → AllByRecursion (λ e. P e.0 e.1) es
each_found o exact P [] s h = tt
each_found {K = K} {X = X} {R = R} o exact P (e ∷ es) s h =
    let two = both_parts (below_all R e.0 es) (is_sorted R es) s in (
      h e.0 e.1 (ap (λ r. cond (is_eq r) (Some e.1) (lookup (is_at (R e.0)) es)) (tied_itself o e.0)),
      each_found o exact P es two.1 (λ k v found. h k v (by_cases k v found two.0 (is_eq (R k e.0)) refl)),
    )
  where
    by_cases : (k : K) (v : X) → lookup (is_at (R k)) es ≡ Some v → below_all R e.0 es ≡ true → (t : Bool) → is_eq (R k e.0) ≡ t → lookup (is_at (R k)) (e ∷ es) ≡ Some v
    by_cases k v found below true t =
        let same = exact k e.0 (is_same (R k e.0) t) in
        let none : lookup (is_at (R k)) es ≡ None = ap (λ q. lookup (is_at (R q)) es) same ∙ none_below o e.0 es below in
        absurd (let no : ⊥ = (let wrong : None ≡ Some v = sym none ∙ found in cc) in no)
    by_cases k v found below false t = ap (λ b. cond b (Some e.1) (lookup (is_at (R k)) es)) t ∙ found

pub none_found : {K X : Type 0} (test : K → Bool) (es : List (K × X)) → list_any (λ e. test e.0) es ≡ false → lookup test es ≡ None
none_found test [] h = refl
none_found {K = K} {X = X} test (e ∷ es) h = by_cases (none_found test es) (test e.0) refl h
  where
    by_cases : (list_any (λ e. test e.0) es ≡ false → lookup test es ≡ None) → (t : Bool) → test e.0 ≡ t → (test e.0 || list_any (λ e. test e.0) es) ≡ false → cond (test e.0) (Some e.1) (lookup test es) ≡ None
    by_cases rest true t h = absurd (let no : ⊥ = (let wrong : true ≡ false = sym (ap (λ b. b || list_any (λ e. test e.0) es) t) ∙ h in cc) in no)
    by_cases rest false t h = ap (λ b. cond b (Some e.1) (lookup test es)) t ∙ rest (sym (ap (λ b. b || list_any (λ e. test e.0) es) t) ∙ h)

pub lookup_puts : (test : Key → Bool) (rows : Contents) → lookup test (all_put rows) ≡ option_map Some (lookup test rows)
lookup_puts test [] = refl
lookup_puts test (row ∷ rows) =
    let rest = lookup_puts test rows in
    elim (test row.0) as (λ b. cond b (Some (Some row.1)) (lookup test (all_put rows)) ≡ option_map Some (cond b (Some row.1) (lookup test rows))) [ true ↦ refl | false ↦ rest ]

below_puts : (k : Key) (rows : Contents) → below_all key_cmp k (all_put rows) ≡ below_all key_cmp k rows
below_puts k [] = refl
below_puts k (row ∷ rows) = ap (λ b. is_lt (key_cmp k row.0) && b) (below_puts k rows)

pub sorted_puts : (rows : Contents) → is_sorted key_cmp (all_put rows) ≡ is_ordered rows
sorted_puts [] = refl
sorted_puts (row ∷ rows) = λ i. below_puts row.0 rows i && sorted_puts rows i

-- what shows of a key, by whether it was covered before and is in the next cell
shows_next : (before here : Bool) (r : Option Record) → unwrap_or (option_map Some (cond here r None)) (cond before r None) ≡ cond (before || here) r None
shows_next true true (Some v) = refl
shows_next true true None = refl
shows_next true false (Some v) = refl
shows_next true false None = refl
shows_next false true (Some v) = refl
shows_next false true None = refl
shows_next false false r = refl

either_later : (a b c : Bool) → ((a || b) || c) ≡ (a || (b || c))
either_later true b c = refl
either_later false b c = refl

either_none : (a : Bool) → (a || false) ≡ a
either_none true = refl
either_none false = refl

abbrev part : Meaning → CellName × VersionId → Contents
part m entry = rows_of_id m (Some entry.1)

abbrev join_from : Meaning → Contents → IdList → Contents
join_from m c ids = fold (λ c entry. laid_over c (all_put (part m entry))) c ids

ordered_from : (m : Meaning) (c : Contents) (ids : IdList) → is_ordered c ≡ true → is_ordered (join_from m c ids) ≡ true
ordered_from m c [] h = h
ordered_from m c (e ∷ ids) h = ordered_from m (laid_over c (all_put (part m e))) ids (ordered_laid c (all_put (part m e)) h)

pub ordered_by : (m : Meaning) (ids : IdList) → is_ordered (contents_by m ids) ≡ true
ordered_by m ids = ordered_from m [] ids refl

found_joined : (m : Meaning) (ids : IdList) (c : Contents) → is_ordered c ≡ true → AllByRecursion (λ e. part m e ≡ cell_rows c e.0) ids → (from : Contents) → is_ordered from ≡ true → (covered : Key → Bool)
    → ((q : Key) → record_at from q ≡ cond (covered q) (record_at c q) None)
    → (q : Key) → record_at (join_from m from ids) q ≡ cond (covered q || list_any (λ e. cell_eq (cell_of q) e.0) ids) (record_at c q) None
found_joined m [] c oc parts from of covered h q = h q ∙ sym (ap (λ b. cond b (record_at c q) None) (either_none (covered q)))
found_joined m (e ∷ ids) c oc parts from of covered h q =
    found_joined m ids c oc parts.1 (laid_over from (all_put (part m e))) (ordered_laid from (all_put (part m e)) of) (λ q. covered q || cell_eq (cell_of q) e.0) next q
    ∙ ap (λ b. cond b (record_at c q) None) (either_later (covered q) (cell_eq (cell_of q) e.0) (list_any (λ e. cell_eq (cell_of q) e.0) ids))
  where
    next : (q : Key) → record_at (laid_over from (all_put (part m e))) q ≡ cond (covered q || cell_eq (cell_of q) e.0) (record_at c q) None
    next q =
        let sorted : is_sorted key_cmp (all_put (part m e)) ≡ true = sorted_puts (part m e) ∙ ap is_ordered parts.0 ∙ rows_ordered c e.0 oc in
        let rows : record_at (part m e) q ≡ cond (cell_eq (cell_of q) e.0) (record_at c q) None = ap (λ rows. record_at rows q) parts.0 ∙ row_found c e.0 q in
        shows_laid from (all_put (part m e)) q of sorted
        ∙ ap (λ o. unwrap_or o (record_at from q)) (lookup_puts (is_at (key_cmp q)) (part m e) ∙ ap (option_map Some) rows)
        ∙ ap (unwrap_or (option_map Some (cond (cell_eq (cell_of q) e.0) (record_at c q) None))) (h q)
        ∙ shows_next (covered q) (cell_eq (cell_of q) e.0) (record_at c q)

rows_of_meant : (m : Meaning) (cell : CellName) (rows : Contents) (o : Option VersionId) → IsMeant m cell rows o → rows_of_id m o ≡ rows
rows_of_meant m cell rows None h = sym h
rows_of_meant m cell rows (Some id) h = ap (λ o. unwrap_or o []) h.0

-- the rows of a cell by its id
pub rows_meant : (m : Meaning) (c : Contents) (ids : IdList) (cell : CellName) → AreMeant m c (id_at ids) → rows_of_id m (id_at ids cell) ≡ cell_rows c cell
rows_meant m c ids cell h = rows_of_meant m cell (cell_rows c cell) (id_at ids cell) (h cell)

pub join_is : (m : Meaning) (ids : IdList) (c : Contents) → are_ordered_ids ids ≡ true → is_ordered c ≡ true → AreMeant m c (id_at ids) → contents_by m ids ≡ c
join_is m ids c oi oc h = same_contents (contents_by m ids) c (ordered_by m ids) oc (λ q. found_joined m ids c oc parts [] refl (λ q. false) (λ q. refl) q ∙ by_cases q (list_any (λ e. cell_eq (cell_of q) e.0) ids) refl)
  where
    parts : AllByRecursion (λ e. part m e ≡ cell_rows c e.0) ids
    parts = each_found cell_total cell_exact (λ cell id. rows_of_id m (Some id) ≡ cell_rows c cell) ids oi (λ cell id found. ap (rows_of_id m) (sym found) ∙ rows_meant m c ids cell h)

    by_cases : (q : Key) (t : Bool) → list_any (λ e. cell_eq (cell_of q) e.0) ids ≡ t → cond (list_any (λ e. cell_eq (cell_of q) e.0) ids) (record_at c q) None ≡ record_at c q
    by_cases q true t = ap (λ b. cond b (record_at c q) None) t
    by_cases q false t =
        let cell = cell_of q in
        let none : id_at ids cell ≡ None = none_found (is_at (cell_cmp cell)) ids t in
        let empty : cell_rows c cell ≡ [] = sym (rows_meant m c ids cell h) ∙ ap (rows_of_id m) none in
        let inside : cell_eq cell cell ≡ true = ap is_eq (tied_itself cell_total cell) in
        let here : record_at c q ≡ None = sym (ap (λ b. cond b (record_at c q) None) inside) ∙ sym (row_found c cell q) ∙ ap (λ rows. record_at rows q) empty in
        ap (λ b. cond b (record_at c q) None) t ∙ sym here

-- the contents stay where the ids keep their meanings
pub contents_kept : (m m' : Meaning) (ids : IdList) → are_ordered_ids ids ≡ true → AreMeant m (contents_by m ids) (id_at ids) → Keep m m' (id_at ids) → contents_by m' ids ≡ contents_by m ids
contents_kept m m' ids oi h keep = join_is m' ids (contents_by m ids) oi (ordered_by m ids) (all_kept m m' (contents_by m ids) (id_at ids) keep h)
