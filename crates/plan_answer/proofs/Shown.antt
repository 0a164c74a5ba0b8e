-- Lines row by row.
use Rattle.std.proofs.Common.{◌≡◌, ℕ, List, [], ◌∷◌, ◌++◌, map, refl, sym, ◌∙◌, ap, append_assoc}
use Rattle.std.proofs.lemmas.List.{map-append}
use Rattle.plan_schema.specs.declared.key.Key.{Key}
use Rattle.plan_schema.specs.declared.key.Record.{Record}
use Rattle.row_text.specs.Spelling.{row_text}
use Rattle.plan_jobs.proofs.Rows.{append_none}

abbrev Rows : Type 0
Rows = List (Key × Record)

abbrev pub row_line : (Key × Record) → List ℕ
row_line row = row_text row.0 row.1

-- the rows up to those that are left have their lines
pub record ShownRows (cell rest : List (Key × Record)) (lines : List (List ℕ)) : Type 0 where
  pub done : List (Key × Record)
  pub split : cell ≡ done ++ rest
  pub lines_are : lines ≡ map row_line done

pub rows_begin : (cell : Rows) → ShownRows cell cell []
rows_begin cell = record { done = []; split = refl; lines_are = refl }

pub rows_next : (cell rest : Rows) (lines more : List (List ℕ)) (row : Key × Record) → ShownRows cell (row ∷ rest) lines → more ≡ lines ++ row_line row ∷ [] → ShownRows cell rest more
rows_next cell rest lines more row s grown = record {
  done = s.done ++ row ∷ [];
  split = s.split ∙ sym (append_assoc s.done (row ∷ []) rest);
  lines_are = grown ∙ ap (λ ls. ls ++ row_line row ∷ []) s.lines_are ∙ sym (map-append row_line s.done (row ∷ []));
}

pub rows_end : (cell : Rows) (lines : List (List ℕ)) → ShownRows cell [] lines → lines ≡ map row_line cell
rows_end cell lines s = s.lines_are ∙ ap (map row_line) (sym (append_none s.done) ∙ sym s.split)
