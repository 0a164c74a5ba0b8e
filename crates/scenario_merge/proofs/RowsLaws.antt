-- The rows of scenarios that are held.
use Rattle.std.proofs.Common.{◌≡◌, List, [], ◌∷◌, ◌++◌, map, length, refl, sym, ◌∙◌, ap, append_assoc}
use Rattle.std.proofs.lemmas.List.{append-nil}
use Rattle.plan_schema.specs.declared.name.Name.{Name}
use Rattle.version_rules.specs.Meaning.{Meaning}
use Rattle.scenario_cells.specs.declared.held.Held.{Held}
use Rattle.scenario_merge.specs.declared.forest.TreeRow.{TreeRow}
use Rattle.scenario_merge.specs.Grown.{world_by}
use Rattle.scenario_merge.specs.Tree.{tree_row}
use Rattle.scenario_merge.proofs.ForestLaws.{Entries}

abbrev pub row_of : Name × Held → TreeRow
row_of entry = record { name = entry.0; parent = entry.1.parent; owner = entry.1.owner; private = entry.1.private; own = length entry.1.own }

-- they are those of the scenarios, whatever the ids mean
rows_seen : (m : Meaning) (entries : Entries) → map row_of entries ≡ map tree_row (world_by m entries)
rows_seen m [] = refl
rows_seen m (entry ∷ entries) = ap (λ rows. row_of entry ∷ rows) (rows_seen m entries)

-- one more row
pub next_row : (rows new : List TreeRow) (row : TreeRow) (entry : Name × Held) (left rest all : Entries) → rows ++ map row_of left ≡ map row_of all → left ≡ entry ∷ rest → row ≡ row_of entry → new ≡ rows ++ row ∷ []
    → new ++ map row_of rest ≡ map row_of all
next_row rows new row entry left rest all so_far is here pushed =
    ap (λ xs. xs ++ map row_of rest) pushed ∙ append_assoc rows (row ∷ []) (map row_of rest) ∙ (λ i. rows ++ here i ∷ map row_of rest) ∙ ap (λ es. rows ++ map row_of es) (sym is) ∙ so_far

pub rows_done : (m : Meaning) (rows : List TreeRow) (left all : Entries) → rows ++ map row_of left ≡ map row_of all → left ≡ [] → rows ≡ map tree_row (world_by m all)
rows_done m rows left all so_far none = sym (append-nil rows) ∙ ap (λ es. rows ++ map row_of es) (sym none) ∙ so_far ∙ rows_seen m all
