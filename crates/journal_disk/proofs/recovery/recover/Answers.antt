use Rattle.std.proofs.Common.{◌∙◌}
use Rattle.journal_disk.proofs.Settling.{recovered_settled}
use Rattle.journal_disk.proofs.recovery.recover.Goals as goal

pub returns-clause-settled : goal.returns-clause-settled
returns-clause-settled g c =
    let synced = g.D.Disk.moment c.sync.new.self in
    let new = g.D.Disk.moment c.read_whole.new.disk in
    let read = c.in_ok-bytes.ensures in
    recovered_settled synced new c.as_slice.result.now c.read_store.result c.in_ok-sync.ensures.durable c.read_whole.ensures.same (λ all told. c.as_slice.ensures ∙ read.whole all told)
    (rw c.as_slice.ensures read.fits) c.read_store.ensures
