-- A query that doesn't ask for the plan selects the same whatever the plans.
use Rattle.std.proofs.Common.{◌≡◌, List, [], ◌∷◌, map, refl, Bool, true, false, not, ◌&&◌, ◌||◌}
use Rattle.std.specs.Prelude.{Option, Some, None, filter}
use Rattle.std.specs.List.{list_any}
use Rattle.plan_schema.specs.declared.name.Name.{Name}
use Rattle.plan_schema.specs.Contents.{Contents}
use Rattle.planning_rules.specs.Plan.{Known}
use Rattle.query_language.specs.declared.column.Column.{Column}
use Rattle.query_language.specs.declared.column.Column.TheVariants as columns
use Rattle.query_language.specs.Trees.{CondTree, Compares, IsNamed, Negation, Both, Either, QueryTree}
use Rattle.query_rules.specs.Queries.{column_value, compares, meets, is_selected, parts_of, selected_from, is_planned, cond_is_planned, any_cond_is_planned, asks_for_plan}

neither : (a b : Bool) → (a || b) ≡ false → (a ≡ false) × (b ≡ false)
neither false b h = (refl, h)
neither true b h = (cc, cc)

module _ (plans others : Name → Option Known) (c : Contents) where
  still_value : (n : Name) (column : Column) → is_planned column ≡ false → column_value plans c n column ≡ column_value others c n column
  still_value n columns.Lead h = refl
  still_value n columns.Safety h = refl
  still_value n columns.Stock h = refl
  still_value n columns.Demand h = refl
  still_value n columns.Receipt h = refl
  still_value n columns.Parents h = refl
  still_value n columns.Gross h = cc
  still_value n columns.Planned h = cc
  still_value n columns.Release h = cc
  still_value n columns.Late h = cc
  still_value n columns.Low h = cc
  still_value n columns.Last h = cc

  still_values : (n : Name) (asked : List Column) → list_any is_planned asked ≡ false → map (column_value plans c n) asked ≡ map (column_value others c n) asked
  still_values n [] h = refl
  still_values n (column ∷ asked) h =
      let two = neither (is_planned column) (list_any is_planned asked) h in
      λ i. still_value n column two.0 i ∷ still_values n asked two.1 i

  still_meets : (n : Name) (a : CondTree) → cond_is_planned a ≡ false → meets plans c n a ≡ meets others c n a
  still_meets n (Compares column op number) h = λ i. compares op (still_value n column h i) number
  still_meets n (IsNamed name equal) h = refl
  still_meets n (Negation a) h = λ i. not (still_meets n a h i)
  still_meets n (Both a b) h =
      let two = neither (cond_is_planned a) (cond_is_planned b) h in
      λ i. still_meets n a two.0 i && still_meets n b two.1 i
  still_meets n (Either a b) h =
      let two = neither (cond_is_planned a) (cond_is_planned b) h in
      λ i. still_meets n a two.0 i || still_meets n b two.1 i

  still_selected : (asked : Option CondTree) → any_cond_is_planned asked ≡ false → (n : Name) → is_selected plans c asked n ≡ is_selected others c asked n
  still_selected None h n = refl
  still_selected (Some a) h n = still_meets n a h

  pub still_rows : (query : QueryTree) → asks_for_plan query ≡ false → selected_from plans c query ≡ selected_from others c query
  still_rows query h =
      let two = neither (list_any is_planned query.columns) (any_cond_is_planned query.cond) h in
      λ i. map (λ n. (n, still_values n query.columns two.0 i)) (filter (λ n. still_selected query.cond two.1 n i) (parts_of c))
