-- Which parts are selected.
use Rattle.std.proofs.Common.{◌≡◌, ℕ, ◌+◌, List, [], ◌∷◌, length, map, true, refl, ap, ◌∙◌}
use Rattle.std.specs.Prelude.{filter, Some}
use Rattle.std.proofs.lemmas.List.{length-map}
use Rattle.std.proofs.lemmas.List.Elements.{All-map}
use Rattle.std.proofs.lemmas.List.Filters.{length-filter_both}
use Rattle.plan_schema.specs.declared.name.Name.{Name}
use Rattle.query_language.specs.Trees.{Negation}
use Rattle.query_rules.specs.Queries.{parts_of, column_value, is_selected}
use Rattle.query_rules.specs.Laws.{AllAreSelected, EachHasItsValues, EitherOrNot}

all_pass : (values : Name → List ℕ) (names : List Name) → map (λ (row : Name × List ℕ). row.0) (map (λ n. (n, values n)) (filter (λ n. true) names)) ≡ names
all_pass values [] = refl
all_pass values (n ∷ names) = ap (λ ns. n ∷ ns) (all_pass values names)

pub all_are_selected : AllAreSelected
all_are_selected plans c columns = all_pass (λ n. map (column_value plans c n) columns) (parts_of c)

pub each_has_its_values : EachHasItsValues
each_has_its_values plans c query =
    All-map (λ (row : Name × List ℕ). length row.1 ≡ length query.columns) (λ n. (n, map (column_value plans c n) query.columns)) (filter (is_selected plans c query.cond) (parts_of c))
    (λ k d h. length-map query.columns (column_value plans c _))

pub either_or_not : EitherOrNot
either_or_not plans c columns cond =
    let yes = is_selected plans c (Some cond) in
    let no = is_selected plans c (Some (Negation cond)) in
    let row : Name → Name × List ℕ = λ n. (n, map (column_value plans c n) columns) in
    (λ i. length-map (filter yes (parts_of c)) row i + length-map (filter no (parts_of c)) row i)
    ∙ length-filter_both yes no (λ n. refl) (parts_of c)
