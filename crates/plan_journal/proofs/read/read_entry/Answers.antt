use Rattle.plan_journal.proofs.EntryTold.{entry_found, entry_missed, entry_refused}
use Rattle.plan_journal.proofs.read.read_entry.Goals as goal

pub returns-in-Ok-clause-found : goal.returns-in-Ok-clause-found
returns-in-Ok-clause-found c = entry_found c.args.number c.args.text.now c.in-Ok.journal.entries c.into_last.result c.in-Ok.ensures c.into_last.ensures

pub returns-in-Ok-clause-none : goal.returns-in-Ok-clause-none
returns-in-Ok-clause-none c is = entry_missed c.args.number c.args.text.now c.in-Ok.journal.entries c.into_last.result c.ranges.number.fits c.in-Ok.ensures c.into_last.ensures (let none = is in cc)

pub returns-in-Err-Form-clause-none : goal.returns-in-Err-Form-clause-none
returns-in-Err-Form-clause-none c is = entry_refused c.args.number c.args.text.now c.in-Err-Form.field-0-0 c.ranges.number.fits (rw c.in-Err-Form.field-0-is at c.in-Err-Form.ensures)
