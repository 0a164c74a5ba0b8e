use Rattle.std.proofs.Common.{subst}
use Rattle.plan_import.specs.BaseFile.{base_records, base_of_records}
use Rattle.plan_import.specs.Told.{Tells}
use Rattle.plan_import.proofs.Laid.{imported_text, imported_large}
use Rattle.plan_import.proofs.import.Goals as goal

pub returns-in-Ok : goal.returns-in-Ok
returns-in-Ok g c =
    imported_text g.S.Source.left g.S.Source.faults g.S.Source.label c.args.source.now c.read_all.new.source c.in-Ok.bytes c.import_text.result c.in-Ok.ensures
    (subst (λ text. Tells (base_of_records (base_records text)) c.import_text.result) c.as_slice.ensures c.import_text.ensures.told) c.import_text.ensures.base

pub returns-in-Err-Large : goal.returns-in-Err-Large
returns-in-Err-Large g c =
    imported_large g.S.Source.left g.S.Source.faults g.S.Source.label c.args.source.now c.read_all.new.source (rw c.in-Err-Large.field-0-is at c.in-Err-Large.ensures)
