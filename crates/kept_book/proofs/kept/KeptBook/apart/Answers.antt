use Rattle.std.proofs.Common.{sym, subst}
use Rattle.plan_core.specs.State.{history}
use Rattle.journal_disk.specs.Images.{EachImage}
use Rattle.journal_disk.specs.Stored.{IsImageUpTo}
use Rattle.journal_disk.proofs.Held.{held_images}
use Rattle.kept_book.proofs.kept.KeptBook.apart.Goals as goal

pub returns-clause-images : goal.returns-clause-images
returns-clause-images g c =
    let kept = c.self.inside in
    let entries = history kept.book in
    let images = held_images (g.D.Disk.moment kept.store.disk) entries kept.store.end kept.store.doubted c.self.invariant in
    let here = subst (λ (d : _). EachImage (g.D.Disk.moment d) (IsImageUpTo entries kept.store.doubted)) (sym c.apart.ensures) images in
    subst (λ (k : _). EachImage (g.D.Disk.moment c.apart.result) (IsImageUpTo entries k.store.doubted)) c.self.view_is here
