use Rattle.std.proofs.Common.{ap, ◌∙◌, unwrap_or, []}
use Rattle.byte_lines.specs.Rows.{slot_at}
use Rattle.byte_lines.proofs.RowSteps.{part_stays}
use Rattle.byte_lines.proofs.rows.Rows.add_read_faults.Goals as goal

pub returns-clause-holds : goal.returns-clause-holds
returns-clause-holds c = part_stays (λ slot. unwrap_or slot.held []) c.args.room.name (slot_at c.args.self.now) (slot_at c.take-slot.new.self) (slot_at c.put.new.self) c.take-slot.ensures.others c.put.ensures.others
    (ap (λ slot. unwrap_or slot.held []) c.put.ensures.here ∙ ap (λ slot. unwrap_or slot.held []) c.take-slot.ensures.taken)
