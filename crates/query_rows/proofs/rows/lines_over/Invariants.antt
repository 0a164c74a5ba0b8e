use Rattle.std.proofs.Common.{◌≡◌, map, take}
use Rattle.query_language.specs.Trees.{query_tree}
use Rattle.record_versions.specs.Shown.{cells_of}
use Rattle.query_rules.specs.Lines.{select_line}
use Rattle.query_rows.specs.Rows.{rows_over}
use Rattle.query_rows.proofs.rows.lines_over.Given as goal

abbrev pub invariant-loop-id : goal.invariant-loop-id
invariant-loop-id g l = l.lines ≡ map select_line (rows_over (g.P.Plans.plans l.plans) (query_tree l.query) (cells_of (take l.id-index l.cells)))
