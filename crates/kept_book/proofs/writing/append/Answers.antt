use Rattle.std.proofs.Common.{◌∙◌, ap, length, arith}
use Rattle.plan_core.specs.State.{history}
use Rattle.journal_disk.proofs.Held.{moments_started, held_images}
use Rattle.kept_book.proofs.Changing.{held_end, has_room, text_fits, block_is}
use Rattle.kept_book.proofs.writing.append.Goals as goal

pub entry_block-requires : goal.entry_block-requires
entry_block-requires g c = text_fits c.args.book.now c.args.entry.now c.point.result c.holds.ensures c.requires.sound c.point.ensures

pub returns-in_err-block-clause-any_moment : goal.returns-in_err-block-clause-any_moment
returns-in_err-block-clause-any_moment g c =
    moments_started _ _ (g.met.D.Disk.only_now c.args.store.now.disk) (held_images _ (history c.args.book.now) c.args.store.now.end c.args.store.now.doubted c.requires.kept)

pub append-requires-clause-room : goal.append-requires-clause-room
append-requires-clause-room g c =
    let end = held_end _ (history c.args.book.now) c.args.store.now.end c.args.store.now.doubted c.requires.kept in
    let room = has_room c.args.book.now c.args.entry.now c.holds.ensures c.requires.sound in
    let block = block_is c.args.book.now c.args.entry.now c.point.result c.in_ok-block.block c.point.ensures c.in_ok-block.ensures in
    omega (arith, end, room, ap length c.as_slice.ensures, ap length block)

pub returns-in-Ok-clause-kept : goal.returns-in-Ok-clause-kept
returns-in-Ok-clause-kept g c = c.append.ensures.kept (history c.args.book.now) c.requires.kept

pub returns-in-Ok-clause-appended : goal.returns-in-Ok-clause-appended
returns-in-Ok-clause-appended g c =
    let block = block_is c.args.book.now c.args.entry.now c.point.result c.in_ok-block.block c.point.ensures c.in_ok-block.ensures in
    c.in-Ok.ensures.appended (history c.args.book.now) c.args.entry.now c.requires.kept (record { sound = c.requires.sound; is = c.as_slice.ensures ∙ block })

pub returns-in-Ok-clause-any_moment : goal.returns-in-Ok-clause-any_moment
returns-in-Ok-clause-any_moment g c = c.append.ensures.any_moment (history c.args.book.now) c.requires.kept

pub returns-clause-kept : goal.returns-clause-kept
returns-clause-kept g c = c.append.ensures.kept (history c.args.book.now) c.requires.kept

pub returns-clause-any_moment : goal.returns-clause-any_moment
returns-clause-any_moment g c = c.append.ensures.any_moment (history c.args.book.now) c.requires.kept
