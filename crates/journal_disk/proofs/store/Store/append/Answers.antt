use Rattle.journal_disk.proofs.Held.{moments_weaker, moments_joined, whole_images, held_sure, sure_held, end_next}
use Rattle.journal_disk.proofs.store.Store.append.Goals as goal

pub write_behind-requires-clause-settled : goal.write_behind-requires-clause-settled
write_behind-requires-clause-settled g c =
    (c.requires.holds.0, held_sure _ _ _ _ c.in_ok-make_sure.ensures.sure (c.make_sure.ensures.kept c.requires.holds.0 c.requires.holds.1))

pub returns-in_err-write_behind-clause-kept : goal.returns-in_err-write_behind-clause-kept
returns-in_err-write_behind-clause-kept g c entries held =
    let sure = c.in_ok-make_sure.ensures.sure in
    let settled = held_sure _ entries _ _ sure (c.make_sure.ensures.kept entries held) in
    sure_held _ entries _ _ sure (c.in_err-write_behind.ensures.kept entries settled)

pub returns-in_err-write_behind-clause-any_moment : goal.returns-in_err-write_behind-clause-any_moment
returns-in_err-write_behind-clause-any_moment g c entries held bytes told =
    let settled = held_sure _ entries _ _ c.in_ok-make_sure.ensures.sure (c.make_sure.ensures.kept entries held) in
    moments_joined _ _ _ _ (c.make_sure.ensures.any_moment entries held bytes told)
    (λ now still. moments_weaker _ _ _ _ (whole_images entries c.args.self.now.doubted) (c.in_err-write_behind.ensures.any_moment entries settled now still))

pub returns-clause-kept : goal.returns-clause-kept
returns-clause-kept g c entries held =
    let sure = c.in_ok-make_sure.ensures.sure in
    let settled = held_sure _ entries _ _ sure (c.make_sure.ensures.kept entries held) in
    sure_held _ entries _ _ sure (c.in_ok-write_behind.ensures.kept entries settled)

pub returns-clause-appended : goal.returns-clause-appended
returns-clause-appended g c entries entry held next =
    let sure = c.in_ok-make_sure.ensures.sure in
    let settled = held_sure _ entries _ _ sure (c.make_sure.ensures.kept entries held) in
    record {
      sure = sure;
      appended = c.in_ok-write_behind.ensures.written entries entry settled next;
      behind_is = end_next entries entry _ _ settled.end_is next;
    }

pub returns-clause-any_moment : goal.returns-clause-any_moment
returns-clause-any_moment g c entries held bytes told =
    let settled = held_sure _ entries _ _ c.in_ok-make_sure.ensures.sure (c.make_sure.ensures.kept entries held) in
    moments_joined _ _ _ _ (c.make_sure.ensures.any_moment entries held bytes told)
    (λ now still. moments_weaker _ _ _ _ (whole_images entries c.args.self.now.doubted) (c.in_ok-write_behind.ensures.any_moment entries settled now still))
