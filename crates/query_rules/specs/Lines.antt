-- The lines of a query's answer.
use Rattle.std.specs.Prelude.{ℕ, List, ◌∷◌, map, decimal}
use Rattle.plan_schema.specs.declared.name.Name.{Name}
use Rattle.plan_schema.specs.Contents.{Contents}
use Rattle.query_language.specs.Trees.{QueryTree}
use Rattle.row_text.specs.Spelling.{words_text}
use Rattle.query_rules.specs.Queries.{selected}

-- the line of a selected part: its name, and the values of the columns in the order asked, parted by single spaces
abbrev pub select_line : (Name × List ℕ) → List ℕ
select_line (name, values) = words_text (name ∷ map decimal values)

-- the lines of a query over records that are planned in full
abbrev pub select_lines : Contents → QueryTree → List (List ℕ)
select_lines c query = map select_line (selected c query)
