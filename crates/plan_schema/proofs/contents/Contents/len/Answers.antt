use Rattle.std.proofs.Common.{◌∙◌, sym, ap}
use Rattle.plan_schema.specs.Contents.{is_ordered}
use Rattle.plan_schema.proofs.Orders.{sorted_keys}
use Rattle.plan_schema.proofs.contents.Contents.len.Goals as goal

pub returns-clause-ordered : goal.returns-clause-ordered
returns-clause-ordered c = ap is_ordered (sym c.self.view_is) ∙ sorted_keys c.self.inside.records.entries c.len.ensures.ordered
