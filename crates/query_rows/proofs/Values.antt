-- Values of columns: sums row by row, and from a part's own cell.
use Rattle.std.proofs.Common.{◌≡◌, ℕ, ◌+◌, ◌*◌, ◌<◌, ◌≤◌, ◌^◌, List, [], ◌∷◌, ◌++◌, length, min, refl, sym, ◌∙◌, ap, subst, arith, not, ◌&&◌, ◌||◌, append_assoc}
use Rattle.std.specs.Prelude.{Option, Some, None, filter_map, sum_by}
use Rattle.std.specs.List.{cons_option}
use Rattle.std.proofs.lemmas.List.{length-map}
use Rattle.std.proofs.lemmas.List.Sums.{sum_by-cons, sum_by_push}
use Rattle.plan_schema.specs.declared.name.Name.{Name}
use Rattle.plan_schema.specs.declared.change.CellName.TheVariants as names
use Rattle.plan_schema.specs.declared.key.Key.{Key}
use Rattle.plan_schema.specs.declared.key.Key.TheVariants as keys
use Rattle.plan_schema.specs.declared.key.Record.{Record}
use Rattle.plan_schema.specs.declared.key.Record.TheVariants as records
use Rattle.plan_schema.specs.Contents.{Contents, cell_rows}
use Rattle.planning_rules.specs.Bills.{ParentBill, bills_of}
use Rattle.planning_rules.specs.Plan.{Known, Order, stock_in}
use Rattle.planning_rules.specs.Promise.{least_of}
use Rattle.query_language.specs.declared.column.Column.{Column}
use Rattle.query_language.specs.declared.column.Column.TheVariants as columns
use Rattle.query_language.specs.Trees.{CondTree, Compares, IsNamed, Negation, Both, Either}
use Rattle.query_rules.specs.Queries.{lead_in, safety_in, column_value, compares, meets}
use Rattle.walk_rules.proofs.Local.{record_here}
use Rattle.explosion.specs.Sums.{demand_row, receipt_row, bill_row, bill_count}
use Rattle.explosion.proofs.Own.{demands_own, receipts_own, bills_own}
use Rattle.explosion.proofs.Totals.{append_none, length_more}
use Rattle.query_rows.specs.Rows.{row_adds, demand_qty, receipt_qty, value_by, meets_with}
use Rattle.query_rows.specs.Laws.{ValueIsFromCell, MeetsFromCell}

abbrev Rows : Type 0
Rows = List (Key × Record)

-- sums over rows --------------------------------------------------------------------------------------------------------------

-- the rows up to those that are left are summed
pub record SummedRows (column : Column) (cell rest : List (Key × Record)) (sum : ℕ) : Type 0 where
  pub done : List (Key × Record)
  pub split : cell ≡ done ++ rest
  pub summed : sum ≡ sum_by (row_adds column) done
  pub small : sum ≤ length done * 18_446_744_073_709_551_616

pub rows_begin : (column : Column) (cell : Rows) → SummedRows column cell cell 0
rows_begin column cell = record { done = []; split = refl; summed = refl; small = omega arith }

more_left : (done rest : Rows) (row : Key × Record) → length done < length (done ++ row ∷ rest)
more_left [] rest row = omega arith
more_left (r ∷ done) rest row = let again = more_left done rest row in omega arith

pub rows_room : (column : Column) (cell rest : Rows) (sum : ℕ) (row : Key × Record) → SummedRows column cell (row ∷ rest) sum → length cell < 2 ^ 64 → sum ≤ 340_282_366_920_938_463_426_481_119_284_349_108_224
rows_room column cell rest sum row s most =
    let so = s.small in
    let few = subst (λ (rows : Rows). length s.done < length rows) (sym s.split) (more_left s.done rest row) in
    omega arith

pub rows_next : (column : Column) (cell rest : Rows) (sum added : ℕ) (row : Key × Record) → SummedRows column cell (row ∷ rest) sum → added ≡ row_adds column row → added < 2 ^ 64
    → SummedRows column cell rest (sum + added)
rows_next column cell rest sum added row s is fits = record {
  done = s.done ++ row ∷ [];
  split = s.split ∙ sym (append_assoc s.done (row ∷ []) rest);
  summed = (λ i. s.summed i + is i) ∙ sym (sum_by_push (row_adds column) s.done row);
  small = let so = s.small in let long = length_more s.done row in omega arith;
}

pub rows_end : (column : Column) (cell : Rows) (sum : ℕ) → SummedRows column cell [] sum → sum ≡ sum_by (row_adds column) cell
rows_end column cell sum s = s.summed ∙ ap (sum_by (row_adds column)) (sym (append_none s.done) ∙ sym s.split)

-- the least ------------------------------------------------------------------------------------------------------------------

-- one more number at the end
pub least_more : (first : ℕ) (xs : List ℕ) (x : ℕ) → least_of (first ∷ (xs ++ x ∷ [])) ≡ min (least_of (first ∷ xs)) x
least_more first [] x = refl
least_more first (y ∷ xs) x = let again = least_more y xs x in omega (arith, again)

-- the first number once more
pub least_again : (first : ℕ) (xs : List ℕ) → least_of (first ∷ first ∷ xs) ≡ least_of (first ∷ xs)
least_again first [] = omega arith
least_again first (x ∷ xs) = omega arith

-- from a part's own cell -------------------------------------------------------------------------------------------------------

value : {B : Type 0} → (B → ℕ) → Option B → ℕ
value g None = 0
value g (Some b) = g b

-- a sum over what some items give
picked : {A B : Type 0} (f : A → Option B) (g : B → ℕ) (h : A → ℕ) → ((x : A) → h x ≡ value g (f x)) → (xs : List A) → sum_by h xs ≡ sum_by g (filter_map f xs)
unfolding value
picked f g h e [] = refl
picked {A} {B} f g h e (x ∷ xs) = sum_by-cons h x xs ∙ (λ i. e x i + picked f g h e xs i) ∙ by_case (f x)
  where
    by_case : (o : Option B) → value g o + sum_by g (filter_map f xs) ≡ sum_by g (cons_option o (filter_map f xs))
    by_case None = omega arith
    by_case (Some b) = sym (sum_by-cons g b (filter_map f xs))

demand_value : (row : Key × Record) → demand_qty row ≡ value (λ (o : Order). o.qty) (demand_row row)
unfolding value
demand_value (keys.Demand part order, records.Demand day qty) = refl
demand_value row = refl

receipt_value : (row : Key × Record) → receipt_qty row ≡ value (λ (o : Order). o.qty) (receipt_row row)
unfolding value
receipt_value (keys.Receipt part order, records.Receipt day qty) = refl
receipt_value row = refl

bill_value : (row : Key × Record) → bill_count row ≡ value (λ (b : ParentBill). 1) (bill_row row)
unfolding value
bill_value (keys.Bill parent component, records.Bill per span) = refl
bill_value row = refl

ones : {A : Type 0} (xs : List A) → sum_by (λ (x : A). 1) xs ≡ length xs
ones [] = refl
ones (x ∷ xs) = sum_by-cons (λ _. 1) x xs ∙ let again = ones xs in omega (arith, again)

pub value_is_from_cell : ValueIsFromCell
value_is_from_cell plans c n columns.Lead = ap lead_in (record_here c (keys.Part n))
value_is_from_cell plans c n columns.Safety = ap safety_in (record_here c (keys.Part n))
value_is_from_cell plans c n columns.Stock = ap stock_in (record_here c (keys.Stock n))
value_is_from_cell plans c n columns.Demand =
    picked demand_row (λ (o : Order). o.qty) demand_qty demand_value (cell_rows c (names.Part n)) ∙ ap (sum_by (λ (o : Order). o.qty)) (demands_own c n)
value_is_from_cell plans c n columns.Receipt =
    picked receipt_row (λ (o : Order). o.qty) receipt_qty receipt_value (cell_rows c (names.Part n)) ∙ ap (sum_by (λ (o : Order). o.qty)) (receipts_own c n)
value_is_from_cell plans c n columns.Parents =
    picked bill_row (λ (b : ParentBill). 1) bill_count bill_value (cell_rows c (names.Part n)) ∙ ap (sum_by (λ (b : ParentBill). 1)) (bills_own c n)
    ∙ ones (bills_of c n) ∙ sym (length-map (bills_of c n) (λ bill. bill.parent))
value_is_from_cell plans c n columns.Gross = refl
value_is_from_cell plans c n columns.Planned = refl
value_is_from_cell plans c n columns.Release = refl
value_is_from_cell plans c n columns.Late = refl
value_is_from_cell plans c n columns.Low = refl
value_is_from_cell plans c n columns.Last = refl

-- where the values are the definition's, a condition is met where it is by the definition
pub meets_same : (plans : Name → Option Known) (c : Contents) (n : Name) (values : Column → ℕ) → ((column : Column) → values column ≡ column_value plans c n column)
    → (cond : CondTree) → meets_with values n cond ≡ meets plans c n cond
meets_same plans c n values e (Compares column op number) = ap (λ v. compares op v number) (e column)
meets_same plans c n values e (IsNamed name equal) = refl
meets_same plans c n values e (Negation a) = ap not (meets_same plans c n values e a)
meets_same plans c n values e (Both a b) = λ i. meets_same plans c n values e a i && meets_same plans c n values e b i
meets_same plans c n values e (Either a b) = λ i. meets_same plans c n values e a i || meets_same plans c n values e b i

pub meets_from_cell : MeetsFromCell
meets_from_cell plans c n = meets_same plans c n (value_by (cell_rows c (names.Part n)) (plans n) n) (value_is_from_cell plans c n)
