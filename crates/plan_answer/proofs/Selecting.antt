-- Where the plans of all parts are known, a query selects what the definition says.
use Rattle.std.proofs.Common.{◌≡◌, ℕ, List, [], ◌∷◌, map, refl, sym, ◌∙◌, Bool, true, false, cond, not, ◌&&◌, ◌||◌, sum}
use Rattle.std.specs.Prelude.{Option, Some, None, filter}
use Rattle.std.specs.List.{AllByRecursion}
use Rattle.plan_schema.specs.declared.name.Name.{Name}
use Rattle.plan_schema.specs.Contents.{Contents}
use Rattle.planning_rules.specs.Plan.{Known, lists_of}
use Rattle.planning_rules.specs.Promise.{least_of}
use Rattle.planning_rules.proofs.Membership.{IsIn, all_map, all_in}
use Rattle.query_language.specs.declared.column.Column.{Column}
use Rattle.query_language.specs.declared.column.Column.TheVariants as columns
use Rattle.query_language.specs.Trees.{CondTree, Compares, IsNamed, Negation, Both, Either, QueryTree}
use Rattle.query_rules.specs.Queries.{column_value, compares, meets, is_selected, parts_of, selected_from, last_of}

module _ (plans others : Name → Option Known) (c : Contents) where
  same_value : (n : Name) → plans n ≡ others n → (column : Column) → column_value plans c n column ≡ column_value others c n column
  same_value n e columns.Lead = refl
  same_value n e columns.Safety = refl
  same_value n e columns.Stock = refl
  same_value n e columns.Demand = refl
  same_value n e columns.Receipt = refl
  same_value n e columns.Parents = refl
  same_value n e columns.Gross = λ i. sum (lists_of (e i)).gross
  same_value n e columns.Planned = λ i. sum (lists_of (e i)).planned
  same_value n e columns.Release = λ i. sum (lists_of (e i)).release
  same_value n e columns.Late = λ i. (lists_of (e i)).late
  same_value n e columns.Low = λ i. least_of (lists_of (e i)).balance
  same_value n e columns.Last = λ i. last_of (lists_of (e i)).balance

  same_values : (n : Name) → plans n ≡ others n → (asked : List Column) → map (column_value plans c n) asked ≡ map (column_value others c n) asked
  same_values n e [] = refl
  same_values n e (column ∷ asked) = λ i. same_value n e column i ∷ same_values n e asked i

  same_meets : (n : Name) → plans n ≡ others n → (a : CondTree) → meets plans c n a ≡ meets others c n a
  same_meets n e (Compares column op number) = λ i. compares op (same_value n e column i) number
  same_meets n e (IsNamed name equal) = refl
  same_meets n e (Negation a) = λ i. not (same_meets n e a i)
  same_meets n e (Both a b) = λ i. same_meets n e a i && same_meets n e b i
  same_meets n e (Either a b) = λ i. same_meets n e a i || same_meets n e b i

  same_selected : (n : Name) → plans n ≡ others n → (asked : Option CondTree) → is_selected plans c asked n ≡ is_selected others c asked n
  same_selected n e None = refl
  same_selected n e (Some a) = same_meets n e a

  module _ (query : QueryTree) where
    abbrev row : (Name → Option Known) → Name → Name × List ℕ
    row known n = (n, map (column_value known c n) query.columns)

    one_more : (known : Name → Option Known) (n : Name) (ns : List Name) (b : Bool)
        → map (row known) (cond b (n ∷ filter (is_selected known c query.cond) ns) (filter (is_selected known c query.cond) ns))
        ≡ cond b (row known n ∷ map (row known) (filter (is_selected known c query.cond) ns)) (map (row known) (filter (is_selected known c query.cond) ns))
    one_more known n ns true = refl
    one_more known n ns false = refl

    same_over : (ns : List Name) → AllByRecursion (λ n. plans n ≡ others n) ns
        → map (row plans) (filter (is_selected plans c query.cond) ns) ≡ map (row others) (filter (is_selected others c query.cond) ns)
    same_over [] h = refl
    same_over (n ∷ ns) h =
        let rest = same_over ns h.1 in
        one_more plans n ns (is_selected plans c query.cond n)
        ∙ (λ i. cond (same_selected n h.0 query.cond i) ((n, same_values n h.0 query.columns i) ∷ rest i) (rest i))
        ∙ sym (one_more others n ns (is_selected others c query.cond n))

    pub same_rows : ((n : Name) → IsIn n (parts_of c) → plans n ≡ others n) → selected_from plans c query ≡ selected_from others c query
    same_rows h = same_over (parts_of c) (all_map (λ n. IsIn n (parts_of c)) (λ n. plans n ≡ others n) h (parts_of c) (all_in (parts_of c)))
