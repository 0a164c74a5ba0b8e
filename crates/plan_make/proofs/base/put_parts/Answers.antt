use Rattle.std.proofs.Common.{◌++◌, ◌+◌, [], subst, sym, refl, ap, ◌∙◌, append-nil}
use Rattle.command_words.specs.Pages.{Gathered}
use Rattle.command_words.proofs.Pages.{gathered_whole, gathered_then}
use Rattle.plan_make.specs.Numbers.{after}
use Rattle.plan_make.specs.Base.{part_text, parts_text, behind_needs, behind_parts}
use Rattle.plan_make.proofs.Fronts.{parts_more, behind_more, parts_split}
use Rattle.plan_make.proofs.Gathering.{both_are, short_in}
use Rattle.plan_make.proofs.base.put_parts.Goals as goal

pub loop-place-preserved : goal.loop-place-preserved
loop-place-preserved g c =
    let parts = c.args.parts in
    let place = c.loop-place.place in
    let state = c.args.numbers.now in
    let own = ap (part_text parts (place + 1)) c.loop-place.invariant.1 in
    let gathered = both_are g.S.Sink.taken g.S.Sink.faults g.S.Sink.label _ _ _ _ _ _ (parts_text parts place state) (part_text parts (place + 1) c.loop-place.numbers) (parts_text parts (place + 1) state) tt _ _ refl c.loop-place.invariant.0 c.put_part.ensures.text (ap (λ t. parts_text parts place state ++ t) own ∙ sym (parts_more parts place state)) in (
      subst (λ r. Gathered g.S.Sink.taken g.S.Sink.faults g.S.Sink.label c.args.sink.now c.put_part.new.sink c.args.page.now.items c.put_part.new.page.items (parts_text parts (place + 1) state) r) c.in_default.is gathered,
      c.in_default.ensures.state ∙ ap (λ s. behind_needs parts (place + 1) (after 4 s)) c.loop-place.invariant.1 ∙ sym (behind_more parts place state),
    )

pub returns-in-Err-clause-text : goal.returns-in-Err-clause-text
returns-in-Err-clause-text g c =
    let parts = c.args.parts in
    let place = c.loop-place.place in
    let state = c.args.numbers.now in
    let own = ap (part_text parts (place + 1)) c.loop-place.invariant.1 in
    let split = parts_split parts place state c.loop-place-test.true in
    let both = gathered_then g.S.Sink.taken g.S.Sink.faults g.S.Sink.label _ _ _ _ _ _ (parts_text parts place state) (part_text parts (place + 1) c.loop-place.numbers) tt _ _ refl c.loop-place.invariant.0 c.put_part.ensures.text in
    short_in g.S.Sink.taken g.S.Sink.faults g.S.Sink.label _ _ _ _ _ (parts_text parts place state ++ part_text parts (place + 1) c.loop-place.numbers) split.0 _ _ c.in-Err.fault c.in-Err.is both
    (ap (λ t. (parts_text parts place state ++ t) ++ split.0) own ∙ split.1)

pub loop-place-init : goal.loop-place-init
unfolding parts_text behind_parts
loop-place-init g c =
    (gathered_whole g.S.Sink.taken g.S.Sink.faults g.S.Sink.label c.args.sink.now c.args.page.now.items c.args.page.now.items [] tt (sym (append-nil c.args.page.now.items)), refl)
