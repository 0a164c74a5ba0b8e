use Rattle.std.proofs.Common.{◌∙◌, ap, sym}
use Rattle.plan_core.specs.State.{history}
use Rattle.plan_core.specs.Changes.{yields_to_memory}
use Rattle.journal_disk.specs.Stored.{IsImageUpTo}
use Rattle.journal_disk.proofs.Held.{moments_started, moments_weaker, moments_joined, held_images}
use Rattle.kept_book.specs.Kept.{IsImageDuring}
use Rattle.kept_book.proofs.Changing.{one_of_nine, none_of_nine, refused_first, not_written_as, before_entry, around_entry}
use Rattle.kept_book.proofs.steps.keep.Goals as goal

pub returns-in-Some-clause-changed : goal.returns-in-Some-clause-changed
returns-in-Some-clause-changed g c =
    let first = one_of_nine c.refusal.result c.in-Some.refusal (sym c.but_for_room.ensures ∙ c.in-Some.is) in
    refused_first g.D.Disk.moment c.args.book.now c.args.store.now c.args.store.now c.args.entry c.point.result c.in-Some.refusal (sym c.refusal.ensures ∙ first) c.point.ensures

pub returns-in-Some-clause-any_moment : goal.returns-in-Some-clause-any_moment
returns-in-Some-clause-any_moment g c bytes told =
    let entries = history c.args.book.now in
    moments_weaker _ _ _ _ (before_entry entries c.args.store.now.doubted c.args.entry)
    (moments_started _ _ (g.met.D.Disk.only_now c.args.store.now.disk) (held_images _ entries c.args.store.now.end c.args.store.now.doubted c.requires.kept) bytes told)

pub returns-in_err-append-clause-changed : goal.returns-in_err-append-clause-changed
returns-in_err-append-clause-changed g c =
    let late = none_of_nine c.refusal.result c.but_for_room.result c.but_for_room.ensures c.in_default.not-Some in
    not_written_as g.D.Disk.moment c.args.book.now c.args.store.now c.append.new.store c.args.entry c.from_residual.result c.in_err-append.field-0.0 c.from_residual.ensures (ap yields_to_memory (sym c.refusal.ensures) ∙ late)
    c.append.ensures.later c.in_err-append.ensures.fault

pub returns-clause-any_moment : goal.returns-clause-any_moment
returns-clause-any_moment g c bytes told =
    let entries = history c.args.book.now in
    let doubted = c.args.store.now.doubted in
    let old = g.D.Disk.moment c.args.store.now.disk in
    let mid = g.D.Disk.moment c.append.new.store.disk in
    let new = g.D.Disk.moment c.enter.new.store.disk in
    let first = moments_weaker old mid (IsImageUpTo entries doubted) (IsImageDuring entries doubted c.args.entry) (before_entry entries doubted c.args.entry) (c.append.ensures.any_moment bytes told) in
    moments_joined old mid new (IsImageDuring entries doubted c.args.entry) first
    (λ now still. moments_weaker mid new _ (IsImageDuring entries doubted c.args.entry) (around_entry entries doubted c.args.entry) (c.enter.ensures.any_moment now still))
