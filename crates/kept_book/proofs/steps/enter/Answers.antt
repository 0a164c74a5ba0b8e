use Rattle.std.proofs.Common.{sym, subst}
use Rattle.plan_core.specs.State.{history}
use Rattle.journal_disk.specs.Stored.{Holds}
use Rattle.journal_disk.proofs.Held.{moments_started, held_sure}
use Rattle.kept_book.proofs.Changing.{history_same, history_more, nothing_told, still_held, still_around}
use Rattle.kept_book.proofs.steps.enter.Goals as goal

pub returns-in_err-number-clause-kept : goal.returns-in_err-number-clause-kept
returns-in_err-number-clause-kept g c =
    let changed = c.in_err-number.ensures.changed in
    let same = history_same c.args.book.now c.change.new.self changed.kept (nothing_told _ _ _ _ _ changed.answer) in
    subst (Holds g.D.Disk.moment c.args.store.now) (sym same) (still_held g.D.Disk.moment c.args.store.now (history c.args.book.now) c.args.entry c.requires.appended)

pub returns-in_err-number-clause-any_moment : goal.returns-in_err-number-clause-any_moment
returns-in_err-number-clause-any_moment g c =
    moments_started _ _ (g.met.D.Disk.only_now c.args.store.now.disk) (still_around g.D.Disk.moment c.args.store.now (history c.args.book.now) c.args.entry c.requires.appended)

pub returns-in-Ok-clause-kept : goal.returns-in-Ok-clause-kept
returns-in-Ok-clause-kept g c =
    let changed = c.in_ok-number.ensures.changed in
    let more = history_more c.args.book.now c.change.new.self changed.kept c.args.entry changed.answer.entered in
    subst (Holds g.D.Disk.moment c.open_gate.new.self) (sym more) (c.open_gate.ensures.added (history c.args.book.now) c.args.entry c.requires.appended)

pub returns-in-Ok-clause-any_moment : goal.returns-in-Ok-clause-any_moment
returns-in-Ok-clause-any_moment g c = c.open_gate.ensures.any_moment (history c.args.book.now) c.args.entry c.requires.appended

pub returns-in-Ok-clause-durable : goal.returns-in-Ok-clause-durable
returns-in-Ok-clause-durable g c =
    let changed = c.in_ok-number.ensures.changed in
    let more = history_more c.args.book.now c.change.new.self changed.kept c.args.entry changed.answer.entered in
    let held = subst (Holds g.D.Disk.moment c.open_gate.new.self) (sym more) (c.open_gate.ensures.added (history c.args.book.now) c.args.entry c.requires.appended) in
    (held_sure (g.D.Disk.moment c.open_gate.new.self.disk) (history c.change.new.self) c.open_gate.new.self.end c.open_gate.new.self.doubted c.in-Ok.ensures.sure held).images

pub returns-in-Err-clause-kept : goal.returns-in-Err-clause-kept
returns-in-Err-clause-kept g c =
    let changed = c.in_ok-number.ensures.changed in
    let more = history_more c.args.book.now c.change.new.self changed.kept c.args.entry changed.answer.entered in
    subst (Holds g.D.Disk.moment c.open_gate.new.self) (sym more) (c.open_gate.ensures.added (history c.args.book.now) c.args.entry c.requires.appended)

pub returns-in-Err-clause-any_moment : goal.returns-in-Err-clause-any_moment
returns-in-Err-clause-any_moment g c = c.open_gate.ensures.any_moment (history c.args.book.now) c.args.entry c.requires.appended
