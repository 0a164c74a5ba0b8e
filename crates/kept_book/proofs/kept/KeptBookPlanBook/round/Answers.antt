use Rattle.std.proofs.Common.{sym, subst}
use Rattle.journal_disk.specs.Stored.{Holds}
use Rattle.kept_book.proofs.Changing.{history_same}
use Rattle.kept_book.proofs.kept.KeptBookPlanBook.round.Goals as goal

pub invariant_of-self : goal.invariant_of-self
invariant_of-self g c =
    let told = c.round.ensures.told in
    subst (Holds g.D.Disk.moment c.self.inside.store) (sym (history_same c.self.inside.book c.round.new.self told.kept told.told)) c.self.invariant
