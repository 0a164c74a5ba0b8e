use Rattle.std.proofs.Common.{rules, ◌≡◌, None, subst, sym}
use Rattle.std.proofs.lemmas.List.Sorted.{answers_always}
use Rattle.std.specs.Prelude.{slice_get}
use Rattle.std.specs.Option.{MatchOption}
use Rattle.std.specs.List.Sorted.{IsBinarySearchResult}
use Rattle.record_versions.specs.Shown.{cells_of}
use Rattle.record_versions.proofs.Orders.{same_cell_orders}
use Rattle.walk_rules.specs.Cells.{held}
use Rattle.plan_jobs.proofs.Searched.{search_ends}
use Rattle.plan_jobs.proofs.cells.place_of.Goals as goal

-- the closure gives a cell's name
pub returns : goal.returns
returns c =
    let facts = c.binary_search_by_key.ensures in
    let by_key = facts.position (λ cell. cell.0.cell) (answers_always _ _ _ (λ f a r h called. search rules)) in
    let by_name = subst (λ order. IsBinarySearchResult (λ cell. order cell.0.cell c.args.name.now) c.args.cells.now c.binary_search_by_key.result) same_cell_orders by_key in
    let ends = search_ends c.args.cells.now c.args.name.now c.requires c.binary_search_by_key.result facts.bound by_name in
    subst (λ r. MatchOption r (held (cells_of c.args.cells.now) c.args.name.now ≡ None) (λ place. slice_get (cells_of c.args.cells.now) place ≡ held (cells_of c.args.cells.now) c.args.name.now)) (sym c.ok.ensures.value) ends
