-- A value from a right memo is the plan's.
use Rattle.std.proofs.Common.{◌≡◌, ℕ, ◌⊎◌, inl, inr, List, [], ◌∷◌, ◌++◌, map, refl, sym, ◌∙◌, ap, subst, Bool, true, false, cond}
use Rattle.std.proofs.lemmas.Bool.{and_parts}
use Rattle.std.proofs.lemmas.Map.Lookups.{exact_bytes}
use Rattle.std.proofs.lemmas.List.Elements.{filter-append}
use Rattle.std.specs.Prelude.{Option, Some, None, unwrap_or, option_map}
use Rattle.std.specs.List.{AllByRecursion, list_all}
use Rattle.std.specs.Ordering.{is_eq, ordering_then}
use Rattle.std.specs.declared.cmp.Ordering.{Ordering}
use Rattle.std.specs.declared.cmp.Ordering.TheVariants.{Less, Equal, Greater}
use Rattle.plan_schema.specs.declared.name.Name.{Name}
use Rattle.plan_schema.specs.declared.change.CellName.{CellName}
use Rattle.plan_schema.specs.declared.change.CellName.TheVariants as names
use Rattle.plan_schema.specs.Key.{name_eq, name_cmp, cell_of}
use Rattle.plan_schema.specs.Cell.{cell_eq, cell_name}
use Rattle.plan_schema.specs.Contents.{Contents, cell_rows}
use Rattle.planning_rules.specs.Bills.{ParentBill, bills_of}
use Rattle.planning_rules.specs.Plan.{Known, has_outcome, plan}
use Rattle.planning_rules.proofs.PlanLaws.{walk_is_plan}
use Rattle.planning_rules.proofs.LevelLaws.{one_name}
use Rattle.record_versions.specs.declared.version.VersionId.{VersionId}
use Rattle.version_rules.specs.Meaning.{Meaning}
use Rattle.walk_rules.specs.Cells.{Cells, records, held, version_in, are_own_rows, are_own_cells, Stands}
use Rattle.walk_rules.specs.Steps.{step_from, calendar_in, Agree}
use Rattle.walk_rules.specs.Memo.{key_of, part_of, calendar_rows}
use Rattle.walk_rules.specs.Walks.{Parts, known_at, learn, releases_of}
use Rattle.walk_rules.specs.Rights.{AreApart, AreMeantCells, HasCells, AreRight, HitIsStep, StepIsPlan, LearningIsRight}
use Rattle.walk_rules.proofs.Local.{step_same, step_from_its_lists}

-- the plan from what is known of the parents --------------------------------------------------------------------------------

known_right : (c : Contents) (parts : Parts) (p : Name) → AreRight c parts → has_outcome (known_at parts p) ≡ true → known_at parts p ≡ plan c p
known_right c parts p right has = by_cases (known_at parts p) refl has
  where
    by_cases : (o : Option Known) → known_at parts p ≡ o → has_outcome o ≡ true → known_at parts p ≡ plan c p
    by_cases None is h = cc
    by_cases (Some known) is h = is ∙ sym (right p known is)

pub all_right : (c : Contents) (parts : Parts) → AreRight c parts → (bills : List ParentBill) → list_all (λ p. has_outcome (known_at parts p)) (map (λ bill. bill.parent) bills) ≡ true
    → AllByRecursion (λ bill. known_at parts bill.parent ≡ plan c bill.parent) bills
all_right c parts right [] h = tt
all_right c parts right (bill ∷ bills) h =
    let two = and_parts (has_outcome (known_at parts bill.parent)) (list_all (λ p. has_outcome (known_at parts p)) (map (λ other. other.parent) bills)) h in
    (known_right c parts bill.parent right two.0, all_right c parts right bills two.1)

pub step_is_plan : StepIsPlan
step_is_plan c parts n known right all step =
    sym (walk_is_plan c (known_at parts) n (all_right c parts right (bills_of c n) all))
    ∙ step_from_its_lists (known_at parts) c n
    ∙ ap (λ b. cond b (step_from c n (releases_of c parts n)) None) all
    ∙ step

pub learning_is_right : LearningIsRight
learning_is_right c parts n known right is m value at = elim (learnt parts m value at) [ inl was ↦ right m value was | inr new ↦ ap (plan c) (sym new.0) ∙ is ∙ ap Some (sym new.1) ]
  where
    learnt : (parts : Parts) (m : Name) (value : Known) → known_at (learn parts n known) m ≡ Some value → (known_at parts m ≡ Some value) ⊎ ((n ≡ m) × (value ≡ known))
    learnt [] m value at = inl at
    learnt (part ∷ parts) m value at = by_cases (name_eq part.name n) refl (name_eq part.name m) refl (learnt parts m value) at
      where
        by_cases : (a : Bool) → name_eq part.name n ≡ a → (b : Bool) → name_eq part.name m ≡ b → (known_at (learn parts n known) m ≡ Some value → (known_at parts m ≡ Some value) ⊎ ((n ≡ m) × (value ≡ known)))
            → known_at (cond a (record { name = part.name; known = Some known } ∷ parts) (part ∷ learn parts n known)) m ≡ Some value
            → (cond b part.known (known_at parts m) ≡ Some value) ⊎ ((n ≡ m) × (value ≡ known))
        by_cases true this true that again at =
            let here : Some known ≡ Some value = ap (λ b. cond b (Some known) (known_at parts m)) (sym that) ∙ at in
            inr (sym (one_name part.name n this) ∙ one_name part.name m that, let e : known ≡ value = cc in sym e)
        by_cases true this false that again at = inl (ap (λ b. cond b (Some known) (known_at parts m)) (sym that) ∙ at)
        by_cases false this true that again at = inl (ap (λ b. cond b part.known (known_at (learn parts n known) m)) (sym that) ∙ at)
        by_cases false this false that again at = again (ap (λ b. cond b part.known (known_at (learn parts n known) m)) (sym that) ∙ at)

-- the rows of a cell that is held -------------------------------------------------------------------------------------------

equal_tells : (o : Ordering) → is_eq o ≡ true → o ≡ Equal
equal_tells Equal h = refl
equal_tells Less h = cc
equal_tells Greater h = cc

then_parts : (a b : Ordering) → ordering_then a b ≡ Equal → (a ≡ Equal) × (b ≡ Equal)
then_parts Equal b h = (refl, h)
then_parts Less b h = cc
then_parts Greater b h = cc

-- cell names that compare alike are one
pub one_cell : (a b : CellName) → cell_eq a b ≡ true → a ≡ b
one_cell names.Plan names.Plan h = refl
one_cell (names.Cal x) (names.Cal y) h = ap names.Cal (exact_bytes x y (equal_tells (name_cmp x y) h))
one_cell (names.Part x) (names.Part y) h = ap names.Part (exact_bytes x y (equal_tells (name_cmp x y) h))
one_cell _ _ h = cc

pub own_all : (rows : Contents) (name : CellName) → are_own_rows name rows ≡ true → cell_rows rows name ≡ rows
own_all [] name h = refl
own_all (row ∷ rows) name h =
    let two = and_parts (cell_eq (cell_of row.0) name) (are_own_rows name rows) h in
    λ i. cond (two.0 i) (row ∷ own_all rows name two.1 i) (own_all rows name two.1 i)

-- a cell's rows are none of another's
pub own_none : (rows : Contents) (name other : CellName) → are_own_rows name rows ≡ true → cell_eq name other ≡ false → cell_rows rows other ≡ []
own_none [] name other h e = refl
own_none (row ∷ rows) name other h e =
    let two = and_parts (cell_eq (cell_of row.0) name) (are_own_rows name rows) h in
    let not_here : cell_eq (cell_of row.0) other ≡ false = ap (λ x. cell_eq x other) (one_cell (cell_of row.0) name two.0) ∙ e in
    λ i. cond (not_here i) (row ∷ cell_rows rows other) (own_none rows name other two.1 e i)

pub rows_append : (xs ys : Contents) (name : CellName) → cell_rows (xs ++ ys) name ≡ cell_rows xs name ++ cell_rows ys name
rows_append xs ys name = filter-append (λ row. cell_eq (cell_of row.0) name) xs ys

append_none : {A : Type 0} (xs : List A) → xs ++ [] ≡ xs
append_none [] = refl
append_none (x ∷ xs) = ap (λ ys. x ∷ ys) (append_none xs)

-- where no cell has a name, no record belongs to it
pub none_of : (cells : Cells) (name : CellName) → are_own_cells cells ≡ true → AllByRecursion (λ other. cell_eq other.0.cell name ≡ false) cells → cell_rows (records cells) name ≡ []
none_of [] name own apart = refl
none_of (cell ∷ cells) name own apart =
    let two = and_parts (are_own_rows cell.0.cell cell.1) (are_own_cells cells) own in
    rows_append cell.1 (records cells) name ∙ (λ i. own_none cell.1 cell.0.cell name two.0 apart.0 i ++ none_of cells name two.1 apart.1 i)

-- the records of a cell that is held are its rows
pub held_rows : (m : Meaning) (cells : Cells) (name : CellName) (id : VersionId) (rows : Contents) → are_own_cells cells ≡ true → AreApart cells → Stands m cells → held cells name ≡ Some (id, rows)
    → (cell_rows (records cells) name ≡ rows) × (m id ≡ Some rows) × (id.cell ≡ name) × (are_own_rows name rows ≡ true)
held_rows m [] name id rows own apart stands is = absurd (let never : ⊥ = cc in never)
held_rows m (cell ∷ cells) name id rows own apart stands is = by_cases (cell_eq cell.0.cell name) refl (λ later. held_rows m cells name id rows two.1 apart.1 stands.1 later) is
  where
    two : (are_own_rows cell.0.cell cell.1 ≡ true) × (are_own_cells cells ≡ true)
    two = and_parts (are_own_rows cell.0.cell cell.1) (are_own_cells cells) own

    by_cases : (b : Bool) → cell_eq cell.0.cell name ≡ b
        → (held cells name ≡ Some (id, rows) → (cell_rows (records cells) name ≡ rows) × (m id ≡ Some rows) × (id.cell ≡ name) × (are_own_rows name rows ≡ true))
        → cond b (Some cell) (held cells name) ≡ Some (id, rows) → (cell_rows (cell.1 ++ records cells) name ≡ rows) × (m id ≡ Some rows) × (id.cell ≡ name) × (are_own_rows name rows ≡ true)
    by_cases true e again o =
        let here : cell ≡ (id, rows) = cc in
        let named : cell.0.cell ≡ name = one_cell cell.0.cell name e in
        let mine : are_own_rows name cell.1 ≡ true = ap (λ x. are_own_rows x cell.1) (sym named) ∙ two.0 in
        let rest : cell_rows (records cells) name ≡ [] = none_of cells name two.1 (subst (λ x. AllByRecursion (λ other. cell_eq other.0.cell x ≡ false) cells) named apart.0) in (
          rows_append cell.1 (records cells) name ∙ (λ i. own_all cell.1 name mine i ++ rest i) ∙ append_none cell.1 ∙ ap (λ x. x.1) here,
          ap m (ap (λ x. x.0) (sym here)) ∙ stands.0 ∙ ap (λ x. Some x.1) here,
          ap (λ x. x.0.cell) (sym here) ∙ named,
          ap (are_own_rows name) (ap (λ x. x.1) (sym here)) ∙ mine,
        )
    by_cases false e again o =
        let w = again o in
        (rows_append cell.1 (records cells) name ∙ (λ i. own_none cell.1 cell.0.cell name two.0 e i ++ w.0 i), w.1, w.2, w.3)

-- what a key means ----------------------------------------------------------------------------------------------------------

pub version_held : (cells : Cells) (name : CellName) (id : VersionId) (rows : Contents) → held cells name ≡ Some (id, rows) → version_in cells name ≡ id
version_held cells name id rows h =
    let none : VersionId × Contents = (record { point = 0; cell = name }, []) in
    ap (λ (o : Option (VersionId × Contents)). (unwrap_or {T = VersionId × Contents} o none).0) h

same_rows : (o : Option Contents) (a b : Contents) → o ≡ Some a → o ≡ Some b → a ≡ b
same_rows o a b h k = let e : Some a ≡ Some b = sym h ∙ k in cc

module _ (n : Name) (plan calendar part : Contents) (own_plan : are_own_rows names.Plan plan ≡ true) (own_part : are_own_rows (names.Part n) part ≡ true)
    (not_plan : cell_rows calendar names.Plan ≡ []) (not_part : cell_rows calendar (names.Part n) ≡ []) where
  three : (name : CellName) (a b c : Contents) → cell_rows plan name ≡ a → cell_rows calendar name ≡ b → cell_rows part name ≡ c → cell_rows (plan ++ calendar ++ part) name ≡ a ++ b ++ c
  three name a b c e f g = rows_append (plan ++ calendar) part name ∙ (λ i. rows_append plan calendar name i ++ cell_rows part name) ∙ (λ i. e i ++ f i ++ g i)

  pub joined_plan : cell_rows (plan ++ calendar ++ part) names.Plan ≡ plan
  joined_plan = three names.Plan plan [] [] (own_all plan names.Plan own_plan) not_plan (own_none part (names.Part n) names.Plan own_part refl) ∙ append_none (plan ++ []) ∙ append_none plan

  pub joined_part : cell_rows (plan ++ calendar ++ part) (names.Part n) ≡ part
  joined_part = three (names.Part n) [] [] part (own_none plan names.Plan (names.Part n) own_plan refl) not_part (own_all part (names.Part n) own_part)

  pub joined_calendar : (k : Name) → cell_rows (plan ++ calendar ++ part) (names.Cal k) ≡ cell_rows calendar (names.Cal k)
  joined_calendar k = three (names.Cal k) [] (cell_rows calendar (names.Cal k)) [] (own_none plan names.Plan (names.Cal k) own_plan refl) refl (own_none part (names.Part n) (names.Cal k) own_part refl) ∙ append_none (cell_rows calendar (names.Cal k))

-- what is known of the calendar's rows in a key
record IsCalendar (cells : Cells) (n : Name) (calendar : Contents) : Type 0 where
  not_plan : cell_rows calendar names.Plan ≡ []
  not_part : cell_rows calendar (names.Part n) ≡ []
  its_rows : (k : Name) → calendar_in (records cells) n ≡ Some k → cell_rows (records cells) (names.Cal k) ≡ cell_rows calendar (names.Cal k)

module _ (m : Meaning) (cells : Cells) (n : Name) (meant : AreMeantCells m cells) (has : HasCells cells n) where
  calendar_of_key : (calendar : Contents) (o : Option Name) → calendar_in (records cells) n ≡ o → calendar_rows m (option_map (λ k. version_in cells (names.Cal k)) o) ≡ Some calendar → IsCalendar cells n calendar
  calendar_of_key calendar None is rows =
      let none : [] ≡ calendar = same_rows (Some []) [] calendar refl rows in
      record {
        not_plan = ap (λ c. cell_rows c names.Plan) (sym none);
        not_part = ap (λ c. cell_rows c (names.Part n)) (sym none);
        its_rows = λ k h. let never : ⊥ = cc in absurd never;
      }
  calendar_of_key calendar (Some k) is rows =
      let w = has.calendar_held k is in
      let h = held_rows m cells (names.Cal k) w.0 w.1 meant.own meant.apart meant.stands w.2 in
      let same : w.1 ≡ calendar = same_rows (m w.0) w.1 calendar h.1 (ap m (sym (version_held cells (names.Cal k) w.0 w.1 w.2)) ∙ rows) in
      let own : are_own_rows (names.Cal k) calendar ≡ true = ap (are_own_rows (names.Cal k)) (sym same) ∙ h.3 in
      record {
        not_plan = own_none calendar (names.Cal k) names.Plan own refl;
        not_part = own_none calendar (names.Cal k) (names.Part n) own refl;
        its_rows = λ j e.
            let one : k ≡ j = let both : Some k ≡ Some j = sym is ∙ e in cc in
            subst (λ x. cell_rows (records cells) (names.Cal x) ≡ cell_rows calendar (names.Cal x)) one (h.0 ∙ same ∙ sym (own_all calendar (names.Cal k) own));
      }

  -- the records of a job agree with the cells that a key means
  pub key_agrees : (plan calendar part : Contents) → m (version_in cells names.Plan) ≡ Some plan → m (version_in cells (names.Part n)) ≡ Some part
      → calendar_rows m (option_map (λ k. version_in cells (names.Cal k)) (calendar_in (records cells) n)) ≡ Some calendar → Agree (records cells) (plan ++ calendar ++ part) n
  key_agrees plan calendar part plan_is part_is calendar_is =
      let p = held_rows m cells names.Plan has.plan_id has.plan meant.own meant.apart meant.stands has.plan_held in
      let q = held_rows m cells (names.Part n) has.part_id has.part meant.own meant.apart meant.stands has.part_held in
      let plan_same : has.plan ≡ plan = same_rows (m has.plan_id) has.plan plan p.1 (ap m (sym (version_held cells names.Plan has.plan_id has.plan has.plan_held)) ∙ plan_is) in
      let part_same : has.part ≡ part = same_rows (m has.part_id) has.part part q.1 (ap m (sym (version_held cells (names.Part n) has.part_id has.part has.part_held)) ∙ part_is) in
      let own_plan : are_own_rows names.Plan plan ≡ true = ap (are_own_rows names.Plan) (sym plan_same) ∙ p.3 in
      let own_part : are_own_rows (names.Part n) part ≡ true = ap (are_own_rows (names.Part n)) (sym part_same) ∙ q.3 in
      let c = calendar_of_key calendar (calendar_in (records cells) n) refl calendar_is in
      record {
        plan_cell = p.0 ∙ plan_same ∙ sym (joined_plan n plan calendar part own_plan own_part c.not_plan c.not_part);
        part_cell = q.0 ∙ part_same ∙ sym (joined_part n plan calendar part own_plan own_part c.not_plan c.not_part);
        calendar_cell = λ k h. c.its_rows k h ∙ sym (joined_calendar n plan calendar part own_plan own_part c.not_plan c.not_part k);
      }

  pub part_of_key : (lists : List (List ℕ)) → part_of (key_of cells n lists) ≡ n
  part_of_key lists =
      let q = held_rows m cells (names.Part n) has.part_id has.part meant.own meant.apart meant.stands has.part_held in
      ap (λ id. cell_name id.cell) (version_held cells (names.Part n) has.part_id has.part has.part_held) ∙ ap cell_name q.2

pub hit_is_step : HitIsStep
hit_is_step m cells n lists known meant has right =
    let agree = key_agrees m cells n meant has right.plan right.calendar right.part right.plan_is right.part_is right.calendar_is in
    step_same (records cells) (right.plan ++ right.calendar ++ right.part) n agree lists
    ∙ ap (λ p. step_from (right.plan ++ right.calendar ++ right.part) p lists) (sym (part_of_key m cells n meant has lists))
    ∙ right.value
