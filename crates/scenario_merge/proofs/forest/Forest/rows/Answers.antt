use Rattle.std.proofs.Common.{◌≡◌, map, subst, IfOk}
use Rattle.record_versions.specs.Versions.{cell_at}
use Rattle.scenario_merge.specs.Grown.{Grown}
use Rattle.scenario_merge.specs.Tree.{tree_row}
use Rattle.scenario_merge.proofs.forest.Forest.rows.Goals as goal

pub returns : goal.returns
returns c = subst (λ (f : Grown). IfOk c.all_rows.result (λ rows. rows.items ≡ map tree_row f.world)) c.self.view_is (c.all_rows.ensures (cell_at c.self.inside.store))
