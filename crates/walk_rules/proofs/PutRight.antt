-- The pair of a part that was netted is right.
use Rattle.std.proofs.Common.{◌≡◌, ℕ, zero, suc, ◌≤◌, List, [], ◌∷◌, ◌++◌, length, map, refl, sym, ◌∙◌, ap, subst, arith, Bool, true, false, cond, ◌||◌}
use Rattle.std.proofs.lemmas.Bool.{and_parts}
use Rattle.std.proofs.lemmas.Bool.Decides.{nat_tests}
use Rattle.std.proofs.lemmas.List.FromFn.{length-map-range_with_len}
use Rattle.std.specs.Prelude.{Option, Some, None, nat_lt, option_map}
use Rattle.std.specs.List.{AllByRecursion, list_all, list_any}
use Rattle.plan_schema.specs.declared.name.Name.{Name}
use Rattle.plan_schema.specs.declared.change.CellName.TheVariants as names
use Rattle.plan_schema.specs.declared.key.Key.TheVariants as keys
use Rattle.plan_schema.specs.declared.key.Record.{Record}
use Rattle.plan_schema.specs.declared.key.Record.TheVariants as rows
use Rattle.plan_schema.specs.Cell.{cell_name}
use Rattle.plan_schema.specs.Contents.{Contents, record_at}
use Rattle.planning_rules.specs.Bills.{parents, bills_of}
use Rattle.planning_rules.specs.Days.{days_of}
use Rattle.planning_rules.specs.Netting.{Input, Lists, limit, exceeds, releases, planned_to, planned_of, days, outcome_from, is_too_large}
use Rattle.planning_rules.specs.Plan.{Known, Planned, Large, has_outcome, released, gross_of, gross_on, has_calendar, input_of, known_from, plan}
use Rattle.planning_rules.proofs.PlanLaws.{plan_is_step, walk_is_plan}
use Rattle.version_rules.specs.Meaning.{Meaning}
use Rattle.walk_rules.specs.Cells.{Cells, records, version_in}
use Rattle.walk_rules.specs.Steps.{step_from, calendar_in, calendar_of}
use Rattle.walk_rules.specs.Memo.{key_of, calendar_rows, IsRight}
use Rattle.walk_rules.specs.Walks.{Parts, known_at, releases_of}
use Rattle.walk_rules.specs.Rights.{AreMeantCells, HasCells, AreRight}
use Rattle.walk_rules.proofs.Local.{step_same, step_from_its_lists, part_same, bills_same, days_same}
use Rattle.walk_rules.proofs.RightLaws.{held_rows, version_held, key_agrees, part_of_key, all_right}

-- a list of releases over so many days, each number within the limit
abbrev pub IsRelease : ℕ → List ℕ → Type 0
IsRelease days list = (length list ≡ days) × AllByRecursion (λ qty. qty ≤ limit) list

length_more : {A : Type 0} (xs : List A) (x : A) → length (xs ++ x ∷ []) ≡ suc (length xs)
length_more [] x = refl
length_more (y ∷ ys) x = ap suc (length_more ys x)

planned_long : (x : Input) (t : ℕ) → length (planned_to x t) ≡ t
planned_long x zero = refl
planned_long x (suc t) = length_more (planned_to x t) _ ∙ ap suc (planned_long x t)

either_false : (a b : Bool) → (a || b) ≡ false → (a ≡ false) × (b ≡ false)
either_false true b h = cc
either_false false b h = (refl, h)

all_small : (xs : List ℕ) → exceeds xs ≡ false → AllByRecursion (λ qty. qty ≤ limit) xs
all_small [] h = tt
all_small (x ∷ xs) h =
    let two = either_false (nat_lt limit x) (list_any (λ n. nat_lt limit n) xs) h in
    (small x two.0, all_small xs two.1)
  where
    small : (x : ℕ) → nat_lt limit x ≡ false → x ≤ limit
    small x e = grind (arith, nat_tests)

-- an outcome's releases
outcome_release : (x : Input) (o : Lists) → known_from (Some x) ≡ Some (Planned o) → IsRelease (length x.gross) o.release
outcome_release x o h = by_size (is_too_large x (planned_of x)) refl h
  where
    by_size : (b : Bool) → is_too_large x (planned_of x) ≡ b → Some (cond b Large (Planned (outcome_from x (planned_of x)))) ≡ Some (Planned o) → IsRelease (length x.gross) o.release
    by_size true e k = let never : ⊥ = cc in absurd never
    by_size false e k =
        let same : outcome_from x (planned_of x) ≡ o = cc in
        let one = either_false (exceeds x.gross) (exceeds (planned_of x) || exceeds (releases x.calendar x.lead (planned_of x))) e in
        let two = either_false (exceeds (planned_of x)) (exceeds (releases x.calendar x.lead (planned_of x))) one.1 in
        let mine : IsRelease (length x.gross) (releases x.calendar x.lead (planned_of x)) =
        (length-map-range_with_len _ 0 (length (planned_of x)) ∙ planned_long x (days x), all_small (releases x.calendar x.lead (planned_of x)) two.1) in
        subst (λ (y : Lists). IsRelease (length x.gross) y.release) same mine

input_release : (c : Contents) (n : Name) (gross : List ℕ) (r : Option Record) (o : Lists) → known_from (input_of c n gross r) ≡ Some (Planned o) → IsRelease (length gross) o.release
input_release c n gross (Some (rows.Part lead lot safety calendar)) o h = by_calendar (has_calendar c calendar) _ (λ x e. ap (λ (y : Input). length y.gross) e) h
  where
    by_calendar : (b : Bool) (x : Input) → ((y : Input) → y ≡ x → length y.gross ≡ length gross) → known_from (cond b (Some x) None) ≡ Some (Planned o) → IsRelease (length gross) o.release
    by_calendar true x long k = subst (λ t. IsRelease t o.release) (long x refl) (outcome_release x o k)
    by_calendar false x long k = let never : ⊥ = cc in absurd never
input_release c n gross _ o h = let never : ⊥ = cc in absurd never

pub plan_release : (c : Contents) (n : Name) (o : Lists) → plan c n ≡ Some (Planned o) → IsRelease (days_of c) o.release
plan_release c n o h = by_parents (list_all (λ p. has_outcome (plan c p)) (parents c n)) (sym (plan_is_step c n) ∙ h)
  where
    by_parents : (b : Bool) → cond b (known_from (input_of c n (gross_of (plan c) c n) (record_at c (keys.Part n)))) None ≡ Some (Planned o) → IsRelease (days_of c) o.release
    by_parents true k = subst (λ t. IsRelease t o.release) (length-map-range_with_len (gross_on (plan c) c n) 0 (days_of c)) (input_release c n (gross_of (plan c) c n) (record_at c (keys.Part n)) o k)
    by_parents false k = let never : ⊥ = cc in absurd never

-- the release lists of parents that are known
known_release : (c : Contents) (parts : Parts) (p : Name) → AreRight c parts → has_outcome (known_at parts p) ≡ true → IsRelease (days_of c) (released (known_at parts p))
known_release c parts p right has = by_cases (known_at parts p) refl has
  where
    by_cases : (o : Option Known) → known_at parts p ≡ o → has_outcome o ≡ true → IsRelease (days_of c) (released o)
    by_cases None is h = let never : ⊥ = cc in absurd never
    by_cases (Some (Planned o)) is h = plan_release c p o (right p (Planned o) is)
    by_cases (Some Large) is h = let never : ⊥ = cc in absurd never

pub lists_release : (c : Contents) (parts : Parts) → AreRight c parts → (ps : List Name) → list_all (λ p. has_outcome (known_at parts p)) ps ≡ true
    → AllByRecursion (IsRelease (days_of c)) (map (λ p. released (known_at parts p)) ps)
lists_release c parts right [] h = tt
lists_release c parts right (p ∷ ps) h =
    let two = and_parts (has_outcome (known_at parts p)) (list_all (λ q. has_outcome (known_at parts q)) ps) h in
    (known_release c parts p right two.0, lists_release c parts right ps two.1)

-- the pair of a part ----------------------------------------------------------------------------------------------------------

map_long : {A B : Type 0} (f : A → B) (xs : List A) → length (map f xs) ≡ length xs
map_long f [] = refl
map_long f (x ∷ xs) = ap suc (map_long f xs)

module _ (m : Meaning) (cells : Cells) (n : Name) (meant : AreMeantCells m cells) (has : HasCells cells n) where
  calendar_there : (o : Option Name) → calendar_in (records cells) n ≡ o
      → (calendar : Contents) × (calendar_rows m (option_map (λ k. version_in cells (names.Cal k)) o) ≡ Some calendar) × (option_map (λ id. cell_name id.cell) (option_map (λ k. version_in cells (names.Cal k)) o) ≡ o)
  calendar_there None is = ([], refl, refl)
  calendar_there (Some k) is =
      let w = has.calendar_held k is in
      let h = held_rows m cells (names.Cal k) w.0 w.1 meant.own meant.apart meant.stands w.2 in
      let version = version_held cells (names.Cal k) w.0 w.1 w.2 in
      (w.1, ap m version ∙ h.1, ap Some (ap (λ id. cell_name id.cell) version ∙ ap cell_name h.2))

  pub put_right : (parts : Parts) (known : Known) → AreRight (records cells) parts → list_all (λ p. has_outcome (known_at parts p)) (parents (records cells) n) ≡ true → plan (records cells) n ≡ Some known
      → IsRight m (key_of cells n (releases_of (records cells) parts n)) known
  put_right parts known right all planned =
      let c = records cells in
      let lists = releases_of c parts n in
      let p = held_rows m cells names.Plan has.plan_id has.plan meant.own meant.apart meant.stands has.plan_held in
      let q = held_rows m cells (names.Part n) has.part_id has.part meant.own meant.apart meant.stands has.part_held in
      let plan_is : m (version_in cells names.Plan) ≡ Some has.plan = ap m (version_held cells names.Plan has.plan_id has.plan has.plan_held) ∙ p.1 in
      let part_is : m (version_in cells (names.Part n)) ≡ Some has.part = ap m (version_held cells (names.Part n) has.part_id has.part has.part_held) ∙ q.1 in
      let cal = calendar_there (calendar_in c n) refl in
      let d : Contents = has.plan ++ cal.0 ++ has.part in
      let agree = key_agrees m cells n meant has has.plan cal.0 has.part plan_is part_is cal.1 in
      let named = part_of_key m cells n meant has lists in
      let step : step_from c n lists ≡ Some known =
      ap (λ b. cond b (step_from c n lists) None) (sym all) ∙ sym (step_from_its_lists (known_at parts) c n) ∙ walk_is_plan c (known_at parts) n (all_right c parts right (bills_of c n) all) ∙ planned in
      record {
        part = has.part;
        calendar = cal.0;
        plan = has.plan;
        part_is = part_is;
        calendar_is = cal.1;
        plan_is = plan_is;
        named = cal.2 ∙ ap calendar_of (part_same c d n agree) ∙ ap (calendar_in d) (sym named);
        lists = map_long (λ r. released (known_at parts r)) (parents c n) ∙ ap (λ bills. length (map (λ bill. bill.parent) bills)) (bills_same c d n agree.part_cell) ∙ ap (λ r. length (parents d r)) (sym named);
        days = subst (λ t. AllByRecursion (IsRelease t) lists) (days_same c d agree.plan_cell) (lists_release c parts right (parents c n) all);
        value = ap (λ r. step_from d r lists) named ∙ sym (step_same c d n agree lists) ∙ step;
      }
