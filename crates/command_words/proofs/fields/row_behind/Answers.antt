use Rattle.command_words.proofs.Places.{row_fault_within}
use Rattle.command_words.proofs.fields.row_behind.Goals as goal

pub in_line-requires : goal.in_line-requires
in_line-requires c = row_fault_within _ _ c.in-Err.fault c.read_record.ensures.value c.in-Err.is
