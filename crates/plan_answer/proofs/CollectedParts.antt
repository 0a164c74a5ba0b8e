-- The parts of collected cells are those of the contents, in the same order.
use Rattle.std.proofs.Common.{◌≡◌, ◌⊎◌, inl, inr, refl, sym, ◌∙◌, ap, Bool, true, false}
use Rattle.std.specs.Prelude.{None, filter_map}
use Rattle.std.specs.Ordering.{is_lt, ordering_then}
use Rattle.std.specs.declared.cmp.Ordering.{Ordering}
use Rattle.std.specs.declared.cmp.Ordering.TheVariants.{Less, Equal, Greater}
use Rattle.plan_schema.specs.declared.key.Key.{Key}
use Rattle.plan_schema.specs.declared.key.Key.TheVariants as keys
use Rattle.plan_schema.specs.declared.key.Record.{Record}
use Rattle.plan_schema.specs.declared.change.CellName.{CellName}
use Rattle.plan_schema.specs.Key.{name_cmp}
use Rattle.plan_schema.specs.Contents.{Contents, is_ordered, cell_rows}
use Rattle.query_rules.specs.Queries.{part_in, parts_of}
use Rattle.walk_rules.specs.Cells.{Cells, records, are_own_cells}
use Rattle.walk_rules.proofs.Local.{kept_map}
use Rattle.plan_jobs.specs.Jobs.{are_ascending}
use Rattle.plan_answer.proofs.KeptRows.{RiseByCell, kept_rows, kept_same}

is_part_key : Key → Bool
is_part_key (keys.Part n) = true
is_part_key key = false

-- what is less is so, whatever is compared behind it
pub less_then : (a b : Ordering) → is_lt a ≡ true → is_lt (ordering_then a b) ≡ true
less_then Less b h = refl
less_then Equal b h = cc
less_then Greater b h = cc

parts_rise : RiseByCell is_part_key
unfolding is_part_key
parts_rise (keys.Part n) (keys.Part m) is also less = less_then (name_cmp n m) Equal less
parts_rise (keys.Part n) _ is also less = absurd (let never : ⊥ = cc in never)
parts_rise _ other is also less = absurd (let never : ⊥ = cc in never)

part_here : (row : Key × Record) → (part_in row ≡ None) ⊎ (is_part_key row.0 ≡ true)
unfolding is_part_key
part_here (keys.Part n, value) = inr refl
part_here (_, value) = inl refl

kept_parts : (c : Contents) → filter_map part_in (kept_rows is_part_key c) ≡ parts_of c
kept_parts = kept_map part_in (λ (row : Key × Record). is_part_key row.0) part_here

-- cells in order that have the rows of ordered contents have their parts, in the same order
pub parts_same : (c : Contents) (cells : Cells) → is_ordered c ≡ true → ((name : CellName) → cell_rows (records cells) name ≡ cell_rows c name) → are_ascending cells ≡ true → are_own_cells cells ≡ true
    → parts_of (records cells) ≡ parts_of c
parts_same c cells ordered same ascending own =
    sym (kept_parts (records cells)) ∙ ap (filter_map part_in) (kept_same c cells ordered ascending own is_part_key parts_rise (λ key is. same _)) ∙ kept_parts c
