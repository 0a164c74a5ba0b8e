use Rattle.journal_disk.proofs.Held.{moments_started, held_images, doubt_kept, doubt_resolved, doubt_moments}
use Rattle.journal_disk.proofs.store.Store.make_sure.Goals as goal

pub returns-in_err-open_at-clause-kept : goal.returns-in_err-open_at-clause-kept
returns-in_err-open_at-clause-kept g c entries = doubt_kept _ entries _ _ _ c.in-Some.place c.in-Some.is c.in_err-open_at.ensures.kept

pub returns-in_err-open_at-clause-any_moment : goal.returns-in_err-open_at-clause-any_moment
returns-in_err-open_at-clause-any_moment g c entries = doubt_moments _ entries c.args.self.now.end _ _ c.in-Some.place c.in-Some.is c.in_err-open_at.ensures.any_moment

pub returns-in_ok-open_at-clause-kept : goal.returns-in_ok-open_at-clause-kept
returns-in_ok-open_at-clause-kept g c entries = doubt_resolved _ entries _ _ _ c.in-Some.place c.in-Some.is c.in_ok-open_at.ensures.opened

pub returns-in_ok-open_at-clause-any_moment : goal.returns-in_ok-open_at-clause-any_moment
returns-in_ok-open_at-clause-any_moment g c entries = doubt_moments _ entries c.args.self.now.end _ _ c.in-Some.place c.in-Some.is c.in_ok-open_at.ensures.any_moment

pub returns-in_default-clause-any_moment : goal.returns-in_default-clause-any_moment
returns-in_default-clause-any_moment g c entries held =
    moments_started _ _ (g.met.D.Disk.only_now c.args.self.now.disk) (held_images _ entries c.args.self.now.end _ held)
