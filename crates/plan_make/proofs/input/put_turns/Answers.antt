use Rattle.std.proofs.Common.{◌++◌, ◌+◌, [], subst, sym, refl, ap, ◌∙◌, append-nil}
use Rattle.command_words.specs.Pages.{Gathered}
use Rattle.command_words.proofs.Pages.{gathered_whole, gathered_then}
use Rattle.plan_make.specs.Numbers.{after}
use Rattle.plan_make.specs.Input.{turn_text, turns_text, behind_turns}
use Rattle.plan_make.proofs.Fronts.{turns_more, turns_behind_more, turns_split}
use Rattle.plan_make.proofs.Gathering.{both_are, short_in}
use Rattle.plan_make.proofs.input.put_turns.Goals as goal

pub loop-turn-preserved : goal.loop-turn-preserved
loop-turn-preserved g c =
    let parts = c.args.parts in
    let turns = c.loop-turn.turn in
    let state = c.args.numbers.now in
    let own = ap (turn_text parts) c.loop-turn.invariant.1 in
    let gathered = both_are g.S.Sink.taken g.S.Sink.faults g.S.Sink.label _ _ _ _ _ _ (turns_text parts turns state) (turn_text parts c.loop-turn.numbers) (turns_text parts (turns + 1) state) tt _ _ refl c.loop-turn.invariant.0 c.put_turn.ensures.text (ap (λ t. turns_text parts turns state ++ t) own ∙ sym (turns_more parts turns state)) in (
      subst (λ r. Gathered g.S.Sink.taken g.S.Sink.faults g.S.Sink.label c.args.sink.now c.put_turn.new.sink c.args.page.now.items c.put_turn.new.page.items (turns_text parts (turns + 1) state) r) c.in_default.is gathered,
      c.in_default.ensures.state ∙ ap (after 3) c.loop-turn.invariant.1 ∙ sym (turns_behind_more turns state),
    )

pub returns-in-Err : goal.returns-in-Err
returns-in-Err g c =
    let parts = c.args.parts in
    let turns = c.loop-turn.turn in
    let state = c.args.numbers.now in
    let own = ap (turn_text parts) c.loop-turn.invariant.1 in
    let split = turns_split parts 20 turns state c.loop-turn-test.true in
    let both = gathered_then g.S.Sink.taken g.S.Sink.faults g.S.Sink.label _ _ _ _ _ _ (turns_text parts turns state) (turn_text parts c.loop-turn.numbers) tt _ _ refl c.loop-turn.invariant.0 c.put_turn.ensures.text in
    short_in g.S.Sink.taken g.S.Sink.faults g.S.Sink.label _ _ _ _ _ (turns_text parts turns state ++ turn_text parts c.loop-turn.numbers) split.0 _ _ c.in-Err.fault c.in-Err.is both
    (ap (λ t. (turns_text parts turns state ++ t) ++ split.0) own ∙ split.1)

pub loop-turn-init : goal.loop-turn-init
unfolding turns_text behind_turns
loop-turn-init g c =
    (gathered_whole g.S.Sink.taken g.S.Sink.faults g.S.Sink.label c.args.sink.now c.args.page.now.items c.args.page.now.items [] tt (sym (append-nil c.args.page.now.items)), refl)
