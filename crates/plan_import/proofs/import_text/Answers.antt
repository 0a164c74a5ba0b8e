use Rattle.plan_import.specs.BaseFile.{base_records}
use Rattle.plan_import.proofs.Laid.{tells_limits, tells_fault}
use Rattle.plan_import.proofs.import_text.Goals as goal

pub returns-in-Ok-clause-told : goal.returns-in-Ok-clause-told
returns-in-Ok-clause-told c = tells_limits (base_records c.args.text.now) c.in-Ok.contents c.check_limits.result c.in-Ok.ensures.told c.check_limits.ensures.value

pub returns-in-Err-clause-told : goal.returns-in-Err-clause-told
returns-in-Err-clause-told c = tells_fault (base_records c.args.text.now) c.in-Err.fault c.in-Err.ensures.told
