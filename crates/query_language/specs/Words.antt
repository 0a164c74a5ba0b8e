-- The words that name columns.
use Rattle.std.specs.Prelude.{ℕ, nat_eq, List, [], ◌∷◌, Option, codes}
use Rattle.std.specs.List.{find}
use Rattle.std.specs.Cmp.Lexicographic.{pointwise}
use Rattle.query_language.specs.declared.column.Column.{Column}
use Rattle.query_language.specs.declared.column.Column.TheVariants as columns

abbrev pub column_word : Column → List ℕ
column_word columns.Lead = codes "lead"
column_word columns.Safety = codes "safety"
column_word columns.Stock = codes "stock"
column_word columns.Demand = codes "demand"
column_word columns.Receipt = codes "receipt"
column_word columns.Parents = codes "parents"
column_word columns.Gross = codes "gross"
column_word columns.Planned = codes "planned"
column_word columns.Release = codes "release"
column_word columns.Late = codes "late"
column_word columns.Low = codes "low"
column_word columns.Last = codes "last"

abbrev pub all_columns : List Column
all_columns =
    columns.Lead ∷ columns.Safety ∷ columns.Stock ∷ columns.Demand ∷ columns.Receipt ∷ columns.Parents ∷ columns.Gross
    ∷ columns.Planned ∷ columns.Release ∷ columns.Late ∷ columns.Low ∷ columns.Last ∷ []

-- the column that a word names, letter by letter: columns are written in lower case
unfoldable pub column_of : List ℕ → Option Column
column_of word = find (λ column. pointwise nat_eq word (column_word column)) all_columns
