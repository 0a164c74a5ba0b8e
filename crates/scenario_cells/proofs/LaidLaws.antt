-- One own change more, laid over a parent's contents.
use Rattle.std.proofs.Common.{◌≡◌, ◌≢◌, ℕ, ◌+◌, ◌<◌, [], ◌∷◌, ◌++◌, refl, sym, ◌∙◌, ap, subst, Bool, true, false, cond, not, ◌&&◌, ◌||◌, arith, length}
use Rattle.std.specs.Prelude.{Option, Some, None, if◌then◌else◌, is_some, unwrap_or}
use Rattle.std.specs.FinMap.{is_sorted}
use Rattle.std.specs.FinMap.Entries.{below_all}
use Rattle.scenario_rules.proofs.Maps.{both_parts}
use Rattle.scenario_rules.proofs.Keys.{key_total}
use Rattle.std.specs.Ordering.{is_eq, is_lt, ordering_then, ordering_reverse}
use Rattle.std.specs.declared.cmp.Ordering.{Ordering}
use Rattle.std.specs.declared.cmp.Ordering.TheVariants.{Less, Equal, Greater}
use Rattle.std.specs.Map.{lookup}
use Rattle.std.specs.BTreeMap.{is_at}
use Rattle.std.specs.Cmp.{tied_itself}
use Rattle.std.proofs.lemmas.Cmp.{nat_cmp_total}
use Rattle.plan_schema.specs.declared.key.Key.{Key}
use Rattle.plan_schema.specs.declared.key.Record.{Record}
use Rattle.plan_schema.specs.declared.change.CellName.{CellName}
use Rattle.plan_schema.specs.Key.{key_cmp, cell_of}
use Rattle.plan_schema.specs.Cell.{cell_cmp, cell_eq}
use Rattle.plan_schema.specs.Base.{is_part_key, part_count}
use Rattle.plan_schema.specs.Contents.{Contents, record_at, is_ordered, cell_rows}
use Rattle.scenario_rules.specs.World.{OwnChanges, changed, laid_over}
use Rattle.scenario_rules.proofs.Maps.{lookup_insert, lookup_remove_same, lookup_remove_other, sorted_insert, sorted_remove}
use Rattle.scenario_rules.proofs.LaidOver.{ordered_changed, others_show}
use Rattle.record_versions.specs.declared.version.VersionId.{VersionId}
use Rattle.record_versions.specs.Versions.{IdList, CellList, id_at, without_id, are_ordered_ids, id_eq, cell_at}
use Rattle.record_versions.proofs.Orders.{cell_total, cell_exact}
use Rattle.record_versions.proofs.Same.{is_same}
use Rattle.version_rules.specs.Ids.{ScenarioIds, id_for, renewed, are_about, same_id, joined_ids, joins_anew}
use Rattle.version_rules.specs.Meaning.{Meaning, AreMeant, Give}
use Rattle.version_rules.proofs.CellRows.{rows_changed, rows_apart, rows_not_about, ordered_laid, row_found}
use Rattle.scenario_cells.specs.declared.held.Held.{Held}
use Rattle.scenario_cells.specs.declared.laid.Laid.{Laid}
use Rattle.scenario_cells.specs.Held.{rows_of_id, rows_in, KeepsOlder}
use Rattle.scenario_cells.specs.Rows.{renewed_ids, store_with, new_id, new_rows, IsRecounted}
use Rattle.scenario_cells.specs.Laid.{set_id, next_ids, next_cells, IsLaid, ids_of_held}
use Rattle.scenario_cells.proofs.Join.{rows_meant}
use Rattle.scenario_rules.proofs.Counts.{parts_change, length_change}
use Rattle.scenario_cells.proofs.RowLaws.{id_renewed, renewed_ordered, cell_flips, stored_other, stored_here, keeps_older}

either_none : (a : Bool) → (a || false) ≡ a
either_none true = refl
either_none false = refl

either_true : (a : Bool) → (a || true) ≡ true
either_true true = refl
either_true false = refl

either_later : (a b c : Bool) → ((a || b) || c) ≡ (a || (b || c))
either_later true b c = refl
either_later false b c = refl

pub about_more : (done : OwnChanges) (k : Key) (new : Option Record) (q : CellName) → are_about (done ++ (k, new) ∷ []) q ≡ (are_about done q || cell_eq (cell_of k) q)
about_more [] k new q = either_none (cell_eq (cell_of k) q)
about_more (d ∷ ds) k new q = ap (λ b. cell_eq (cell_of d.0) q || b) (about_more ds k new q) ∙ sym (either_later (cell_eq (cell_of d.0) q) (are_about ds q) (cell_eq (cell_of k) q))

pub laid_more : (a : Contents) (done : OwnChanges) (k : Key) (new : Option Record) → laid_over a (done ++ (k, new) ∷ []) ≡ changed (laid_over a done) k new
laid_more a [] k new = refl
laid_more a (d ∷ ds) k new = laid_more (changed a d.0 d.1) ds k new

-- a key that no change is about shows as before
pub untouched : (a : Contents) (done : OwnChanges) (k : Key) → is_ordered a ≡ true → lookup (is_at (key_cmp k)) done ≡ None → record_at (laid_over a done) k ≡ record_at a k
untouched a [] k h none = refl
untouched a (d ∷ ds) k h none = by_cases (untouched (changed a d.0 d.1) ds k (ordered_changed a d.0 d.1 h)) (is_eq (key_cmp k d.0)) refl none
  where
    by_cases : (lookup (is_at (key_cmp k)) ds ≡ None → record_at (laid_over (changed a d.0 d.1) ds) k ≡ record_at (changed a d.0 d.1) k) → (t : Bool) → is_eq (key_cmp k d.0) ≡ t
        → cond (is_eq (key_cmp k d.0)) (Some d.1) (lookup (is_at (key_cmp k)) ds) ≡ None → record_at (laid_over (changed a d.0 d.1) ds) k ≡ record_at a k
    by_cases rest true t none = absurd (let no : ⊥ = (let wrong : Some d.1 ≡ None = sym (ap (λ b. cond b (Some d.1) (lookup (is_at (key_cmp k)) ds)) t) ∙ none in cc) in no)
    by_cases rest false t none = rest (sym (ap (λ b. cond b (Some d.1) (lookup (is_at (key_cmp k)) ds)) t) ∙ none) ∙ others_show a k d.0 d.1 t

pub id_set : (ids : IdList) (n : CellName) (o : Option VersionId) (q : CellName) → are_ordered_ids ids ≡ true → id_at (set_id ids n o) q ≡ cond (cell_eq q n) o (id_at ids q)
id_set ids n (Some id) q h = lookup_insert cell_total q n id ids
id_set ids n None q h = by_cases (cell_eq q n) refl
  where
    by_cases : (t : Bool) → cell_eq q n ≡ t → id_at (without_id ids n) q ≡ cond (cell_eq q n) None (id_at ids q)
    by_cases true t =
        ap (id_at (without_id ids n)) (cell_exact q n (is_same (cell_cmp q n) t)) ∙ lookup_remove_same cell_total cell_exact n ids h ∙ sym (ap (λ b. cond b None (id_at ids q)) t)
    by_cases false t = lookup_remove_other cell_total cell_exact q n ids t ∙ sym (ap (λ b. cond b None (id_at ids q)) t)

set_ordered : (ids : IdList) (n : CellName) (o : Option VersionId) → are_ordered_ids ids ≡ true → are_ordered_ids (set_id ids n o) ≡ true
set_ordered ids n (Some id) h = sorted_insert cell_total n id ids h
set_ordered ids n None h = sorted_remove cell_cmp (is_at (cell_cmp n)) ids h

rows_of_new : (m : Meaning) (point : ℕ) (n : CellName) (rows : Contents) → (rows ≢ [] → m (record { point = point; cell = n }) ≡ Some rows) → rows_of_id m (id_for point n rows) ≡ rows
rows_of_new m point n [] h = refl
rows_of_new m point n (row ∷ rows) h = ap (λ o. unwrap_or o []) (h (λ e. let no : ⊥ = cc in no))

rows_kept : (m m' : Meaning) (o : Option VersionId) → ((id : VersionId) → o ≡ Some id → m' id ≡ m id) → rows_of_id m' o ≡ rows_of_id m o
rows_kept m m' None h = refl
rows_kept m m' (Some id) h = ap (λ o. unwrap_or o []) (h id refl)

other_id : (point : ℕ) (q n : CellName) → cell_eq q n ≡ false → id_eq (record { point = point; cell = q }) (record { point = point; cell = n }) ≡ false
other_id point q n h = ap (λ (r : Ordering). is_eq (ordering_then r (cell_cmp q n))) (tied_itself nat_cmp_total point) ∙ h

less_apart : (n p : ℕ) → n < p → n ≢ p
less_apart n p h e = omega arith

module _ (point : ℕ) (above : IdList) (child : Held) (first cells : CellList) (a : Contents) (done : OwnChanges) (laid : Laid) (k : Key) (new : Option Record) (oa : is_ordered a ≡ true)
    (meant : AreMeant (cell_at first) a (id_at above)) (older : (cell : CellName) (id : VersionId) → id_at above cell ≡ Some id → id.point < point) (keeps : KeepsOlder point first cells)
    (so_far : IsLaid point a (id_at above) (ids_of_held child) done cells laid) where
  abbrev n : CellName
  n = cell_of k

  abbrev c : Contents
  c = laid_over a done

  abbrev c' : Contents
  c' = changed c k new

  abbrev kid : ScenarioIds
  kid = ids_of_held child

  oc : is_ordered c ≡ true
  oc = ordered_laid a done oa

  in_cell : cell_eq n n ≡ true
  in_cell = ap is_eq (tied_itself cell_total n)

  -- the parent's rows are found in the store as it is now
  above_rows : (q : CellName) → rows_in (cell_at cells) above q ≡ cell_rows a q
  above_rows q = rows_kept (cell_at first) (cell_at cells) (id_at above q) (λ id is. keeps id (less_apart id.point point (older q id is))) ∙ rows_meant (cell_at first) a above q meant

  -- the rows so far of a cell that gets a new id
  rows_so_far : (q : CellName) → same_id (id_at above q) (kid.base q) ≡ false → rows_in (cell_at cells) laid.ids q ≡ cell_rows c q
  rows_so_far q s = ap (rows_of_id (cell_at cells)) (so_far.ids q) ∙ by_about (are_about done q) refl
    where
      chosen : Bool → Bool → Option VersionId
      chosen t u = if t then (if u then kid.contents q else renewed point c q) else id_at above q

      by_about : (t : Bool) → are_about done q ≡ t → rows_of_id (cell_at cells) (joined_ids point c done (id_at above) kid q) ≡ cell_rows c q
      by_about true t =
          (λ i. rows_of_id (cell_at cells) (if t i then (if s i then kid.contents q else renewed point c q) else id_at above q))
          ∙ rows_of_new (cell_at cells) point q (cell_rows c q) (so_far.gives q (λ i. t i && not (s i)))
      by_about false t =
          (λ i. rows_of_id (cell_at cells) (if t i then (if same_id (id_at above q) (kid.base q) then kid.contents q else renewed point c q) else id_at above q))
          ∙ above_rows q ∙ sym (rows_not_about a done q oa t)

  pub rows_next : same_id (id_at above n) (kid.base n) ≡ false → new_rows cells laid.ids k new ≡ cell_rows c' n
  rows_next s = ap (λ rows. changed rows k new) (rows_so_far n s) ∙ sym (rows_changed c k new n oc in_cell)

  rows_stay : (q : CellName) → cell_eq q n ≡ false → cell_rows c' q ≡ cell_rows c q
  rows_stay q t = rows_apart c k new q oc (cell_flips n q ∙ t)

  abbrev done' : OwnChanges
  done' = done ++ (k, new) ∷ []

  about_here : are_about done' n ≡ true
  about_here = about_more done k new n ∙ ap (λ b. are_about done n || b) in_cell ∙ either_true (are_about done n)

  about_other : (q : CellName) → cell_eq q n ≡ false → are_about done' q ≡ are_about done q
  about_other q t = about_more done k new q ∙ ap (λ b. are_about done q || b) (cell_flips n q ∙ t) ∙ either_none (are_about done q)

  -- the ids of the definition, after one more
  joined_next : (q : CellName) → joined_ids point c' done' (id_at above) kid q ≡ cond (cell_eq q n) (if same_id (id_at above n) (kid.base n) then kid.contents n else renewed point c' n) (joined_ids point c done (id_at above) kid q)
  joined_next q = by_cases (cell_eq q n) refl
    where
      by_cases : (t : Bool) → cell_eq q n ≡ t
          → joined_ids point c' done' (id_at above) kid q ≡ cond (cell_eq q n) (if same_id (id_at above n) (kid.base n) then kid.contents n else renewed point c' n) (joined_ids point c done (id_at above) kid q)
      by_cases true t =
          ap (joined_ids point c' done' (id_at above) kid) (cell_exact q n (is_same (cell_cmp q n) t))
          ∙ ap (λ b. if b then (if same_id (id_at above n) (kid.base n) then kid.contents n else renewed point c' n) else id_at above n) about_here
          ∙ sym (ap (λ b. cond b (if same_id (id_at above n) (kid.base n) then kid.contents n else renewed point c' n) (joined_ids point c done (id_at above) kid q)) t)
      by_cases false t =
          (λ i. if about_other q t i then (if same_id (id_at above q) (kid.base q) then kid.contents q else id_for point q (rows_stay q t i)) else id_at above q)
          ∙ sym (ap (λ b. cond b (if same_id (id_at above n) (kid.base n) then kid.contents n else renewed point c' n) (joined_ids point c done (id_at above) kid q)) t)

  abbrev ids' : IdList
  ids' = next_ids cells point above child.base child.ids laid.ids k new

  abbrev cells' : CellList
  cells' = next_cells cells point above child.base laid.ids k new

  pub ids_next : (q : CellName) → id_at ids' q ≡ joined_ids point c' done' (id_at above) kid q
  ids_next q = by_same (same_id (id_at above n) (kid.base n)) refl ∙ sym (joined_next q)
    where
      by_same : (s : Bool) → same_id (id_at above n) (kid.base n) ≡ s
          → id_at ids' q ≡ cond (cell_eq q n) (if same_id (id_at above n) (kid.base n) then kid.contents n else renewed point c' n) (joined_ids point c done (id_at above) kid q)
      by_same true s =
          ap (λ b. id_at (if b then set_id laid.ids n (kid.contents n) else renewed_ids laid.ids (new_id point k) (new_rows cells laid.ids k new)) q) s
          ∙ id_set laid.ids n (kid.contents n) q so_far.ordered
          ∙ ap (cond (cell_eq q n) (kid.contents n)) (so_far.ids q)
          ∙ sym (ap (λ b. cond (cell_eq q n) (if b then kid.contents n else renewed point c' n) (joined_ids point c done (id_at above) kid q)) s)
      by_same false s =
          ap (λ b. id_at (if b then set_id laid.ids n (kid.contents n) else renewed_ids laid.ids (new_id point k) (new_rows cells laid.ids k new)) q) s
          ∙ ap (λ rows. id_at (renewed_ids laid.ids (new_id point k) rows) q) (rows_next s)
          ∙ id_renewed laid.ids (new_id point k) (cell_rows c' n) q so_far.ordered
          ∙ ap (cond (cell_eq q n) (renewed point c' n)) (so_far.ids q)
          ∙ sym (ap (λ b. cond (cell_eq q n) (if b then kid.contents n else renewed point c' n) (joined_ids point c done (id_at above) kid q)) s)

  pub ordered_next : are_ordered_ids ids' ≡ true
  ordered_next = by_same (same_id (id_at above n) (kid.base n))
    where
      by_same : (s : Bool) → are_ordered_ids (if s then set_id laid.ids n (kid.contents n) else renewed_ids laid.ids (new_id point k) (new_rows cells laid.ids k new)) ≡ true
      by_same true = set_ordered laid.ids n (kid.contents n) so_far.ordered
      by_same false = renewed_ordered laid.ids (new_id point k) (new_rows cells laid.ids k new) so_far.ordered

  pub gives_next : Give (cell_at cells') point c' (joins_anew done' (id_at above) kid)
  gives_next q anew some = by_cases (cell_eq q n) refl
    where
      by_same : cell_eq q n ≡ false → (s : Bool) → same_id (id_at above n) (kid.base n) ≡ s → cell_at cells' (record { point = point; cell = q }) ≡ cell_at cells (record { point = point; cell = q })
      by_same t true s = ap (λ b. cell_at (if b then cells else store_with cells (new_id point k) (new_rows cells laid.ids k new)) (record { point = point; cell = q })) s
      by_same t false s =
          ap (λ b. cell_at (if b then cells else store_with cells (new_id point k) (new_rows cells laid.ids k new)) (record { point = point; cell = q })) s
          ∙ stored_other cells (new_id point k) (record { point = point; cell = q }) (new_rows cells laid.ids k new) (other_id point q n t)

      is_anew : (t u : Bool) → (t && not u) ≡ true → u ≡ false
      is_anew t true h = absurd (never t h)
        where
          never : (t : Bool) → (t && false) ≡ true → ⊥
          never true h = cc
          never false h = cc
      is_anew t false h = refl

      by_cases : (t : Bool) → cell_eq q n ≡ t → cell_at cells' (record { point = point; cell = q }) ≡ Some (cell_rows c' q)
      by_cases true t =
          let same = cell_exact q n (is_same (cell_cmp q n) t) in
          let s : same_id (id_at above n) (kid.base n) ≡ false = ap (λ m. same_id (id_at above m) (kid.base m)) (sym same) ∙ is_anew (are_about done' q) (same_id (id_at above q) (kid.base q)) anew in
          let filled = subst (λ m. cell_rows c' m ≢ []) same some in
          let P : CellName → Type 0 = λ m. cell_at cells' (record { point = point; cell = m }) ≡ Some (cell_rows c' m) in
          subst P (sym same) (
          ap (λ b. cell_at (if b then cells else store_with cells (new_id point k) (new_rows cells laid.ids k new)) (new_id point k)) s
          ∙ ap (λ rows. cell_at (store_with cells (new_id point k) rows) (new_id point k)) (rows_next s) ∙ stored_here cells (new_id point k) (cell_rows c' n) filled
          )
      by_cases false t =
          let stays = rows_stay q t in
          let was : joins_anew done (id_at above) kid q ≡ true = (λ i. sym (about_other q t) i && not (same_id (id_at above q) (kid.base q))) ∙ anew in
          by_same t (same_id (id_at above n) (kid.base n)) refl ∙ so_far.gives q was (subst (λ rows. rows ≢ []) stays some) ∙ ap Some (sym stays)

  -- the record under the key, as it is found among the parent's
  pub record_above : lookup (is_at (key_cmp k)) done ≡ None → record_at (rows_in (cell_at cells) above n) k ≡ record_at c k
  record_above none =
      ap (λ rows. record_at rows k) (above_rows n) ∙ row_found a n k ∙ ap (λ b. cond b (record_at a k) None) in_cell ∙ sym (untouched a done k oa none)

  pub laid_next : (parts records : ℕ) → parts ≡ part_count c' → records ≡ length c'
      → IsLaid point a (id_at above) kid done' cells' (record { ids = ids'; parts = parts; records = records })
  laid_next parts records ps rs =
      let more = sym (laid_more a done k new) in
      record {
        ordered = ordered_next;
        ids = λ q. ids_next q ∙ ap (λ x. joined_ids point x done' (id_at above) kid q) more;
        gives = subst (λ x. Give (cell_at cells') point x (joins_anew done' (id_at above) kid)) more gives_next;
        parts = ps ∙ ap part_count more;
        records = rs ∙ ap length more;
      }

both : (a b : Bool) → ◌≡◌ {A = ℕ} (cond a (cond b 1 0) 0) (cond (a && b) 1 0)
both true b = refl
both false b = refl

pub parts_next : (c : Contents) (k : Key) (new : Option Record) (count parts : ℕ) (had has part : Bool) → is_ordered c ≡ true → count ≡ part_count c
    → had ≡ is_some (record_at c k) → has ≡ is_some new → part ≡ is_part_key k → IsRecounted count (had && part) (has && part) parts → parts ≡ part_count (changed c k new)
parts_next c k new count parts had has part o ct is it ps e =
    let e' : parts + cond (is_some (record_at c k) && is_part_key k) 1 0 ≡ count + cond (is_some new && is_part_key k) 1 0 =
    subst (λ (q : Bool × Bool × Bool). IsRecounted count (q.0 && q.2) (q.1 && q.2) parts) (λ i. (is i, it i, ps i)) e in
    omega (arith, e', ct, parts_change c k new o, both (is_some (record_at c k)) (is_part_key k), both (is_some new) (is_part_key k))

pub records_next : (c : Contents) (k : Key) (new : Option Record) (count records : ℕ) (had has : Bool) → is_ordered c ≡ true → count ≡ length c
    → had ≡ is_some (record_at c k) → has ≡ is_some new → IsRecounted count had has records → records ≡ length (changed c k new)
records_next c k new count records had has o ct is it e =
    let e' : records + cond (is_some (record_at c k)) 1 0 ≡ count + cond (is_some new) 1 0 = subst (λ (q : Bool × Bool). IsRecounted count q.0 q.1 records) (λ i. (is i, it i)) e in
    omega (arith, e', ct, length_change c k new o)

pub cells_keep : (cells : CellList) (point : ℕ) (above base ids : IdList) (k : Key) (new : Option Record) → KeepsOlder point cells (next_cells cells point above base ids k new)
cells_keep cells point above base ids k new = by_same (same_id (id_at above (cell_of k)) (id_at base (cell_of k)))
  where
    by_same : (s : Bool) → KeepsOlder point cells (if s then cells else store_with cells (new_id point k) (new_rows cells ids k new))
    by_same true id h = refl
    by_same false id h = keeps_older cells (new_id point k) (new_rows cells ids k new) id h

-- a key is not among those before it
pub none_before : (done : OwnChanges) (k : Key) (new : Option Record) (rest : OwnChanges) → is_sorted key_cmp (done ++ (k, new) ∷ rest) ≡ true → lookup (is_at (key_cmp k)) done ≡ None
none_before [] k new rest h = refl
none_before (d ∷ ds) k new rest h =
    let two = both_parts (below_all key_cmp d.0 (ds ++ (k, new) ∷ rest)) (is_sorted key_cmp (ds ++ (k, new) ∷ rest)) h in
    let less : is_lt (key_cmp d.0 k) ≡ true = below_among ds two.0 in
    ap (λ b. cond b (Some d.1) (lookup (is_at (key_cmp k)) ds)) (ap is_eq (key_total.antisymm k d.0) ∙ apart (key_cmp d.0 k) less) ∙ none_before ds k new rest two.1
  where
    below_among : (ds : OwnChanges) → below_all key_cmp d.0 (ds ++ (k, new) ∷ rest) ≡ true → is_lt (key_cmp d.0 k) ≡ true
    below_among [] b = (both_parts (is_lt (key_cmp d.0 k)) (below_all key_cmp d.0 rest) b).0
    below_among (e ∷ es) b = below_among es (both_parts (is_lt (key_cmp d.0 e.0)) (below_all key_cmp d.0 (es ++ (k, new) ∷ rest)) b).1

    apart : (r : Ordering) → is_lt r ≡ true → is_eq (ordering_reverse r) ≡ false
    apart Less h = refl
    apart Equal h = cc
    apart Greater h = refl

-- nothing is laid at first
pub laid_first : (point : ℕ) (cells : CellList) (above child : Held) (contents : Contents) (parts records : ℕ) → are_ordered_ids above.ids ≡ true → parts ≡ part_count contents → records ≡ length contents
    → IsLaid point contents (id_at above.ids) (ids_of_held child) [] cells (record { ids = above.ids; parts = parts; records = records })
laid_first point cells above child contents parts records o ps rs = record { ordered = o; ids = λ q. refl; gives = λ q anew some. absurd (let no : ⊥ = cc in no); parts = ps; records = rs }
