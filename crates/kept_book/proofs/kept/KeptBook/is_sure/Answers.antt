use Rattle.std.proofs.Common.{◌∙◌, sym, subst}
use Rattle.plan_core.specs.State.{history}
use Rattle.journal_disk.specs.Images.{EachImage, IsImageOf}
use Rattle.kept_book.proofs.Changing.{sure_images}
use Rattle.kept_book.proofs.kept.KeptBook.is_sure.Goals as goal

pub returns-clause-whole : goal.returns-clause-whole
returns-clause-whole g c sure =
    let kept = c.self.inside in
    let images = sure_images (g.D.Disk.moment kept.store.disk) (history kept.book) kept.store.end kept.store.doubted c.self.invariant (sym c.is_sure.ensures ∙ sure) in
    subst (λ (k : _). EachImage (g.D.Disk.moment k.store.disk) (IsImageOf (history k.book))) c.self.view_is images
