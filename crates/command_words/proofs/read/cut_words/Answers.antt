use Rattle.std.proofs.Common.{◌≡◌, ◌<◌, ◌∙◌, ◌++◌, ◌∷◌, [], ap, length, take, true, arith, rules, tests}
use Rattle.std.specs.Prelude.{filter}
use Rattle.std.specs.List.{slice_split}
use Rattle.std.proofs.lemmas.Bool.Decides.{nat_tests}
use Rattle.std.proofs.lemmas.Grind.{common_steps}
use Rattle.std.proofs.lemmas.Iterator.Splits.{YieldsList-from_slice_split}
use Rattle.std.proofs.lemmas.Iterator.Consumers.{YieldsList-at, YieldsList-end, YieldsList-so_far}
use Rattle.row_text.specs.Texts.{texts}
use Rattle.command_words.specs.Words.{is_space, words_of, first_words}
use Rattle.command_words.proofs.FirstWords.{some, one_more, enough}
use Rattle.command_words.proofs.read.cut_words.Goals as goal

pub loop-word-preserved : goal.loop-word-preserved
loop-word-preserved c =
    let one : some c.in-Some.word.now ≡ true = grind (arith, nat_tests) in
    let room : length c.loop-word.words.items < 10 = grind (arith, common_steps) in
    let pushed : c.try_push.new.self.items ≡ c.loop-word.words.items ++ c.in-Some.word ∷ [] = grind (arith, common_steps) in
    ap texts pushed ∙ one_more c.loop-word.words.items c.loop-word.yielded c.in-Some.word c.loop-word.invariant room one

pub returns : goal.returns
unfolding first_words words_of
returns c =
    let seen = YieldsList-end
    (YieldsList-at c.into_iter-word-iterator.ensures.into_iter_gives
    (YieldsList-from_slice_split _ is_space c.args.line.now c.split-word-items.ensures.rest c.split-word-items.ensures.done c.split-word-items.ensures.closure (λ x r q k. search (rules, tests))))
    c.loop-word.yielded _ c.loop-word.yielded_by _ _ c.in-None.is c.next.ensures.steps in
    c.loop-word.invariant ∙ ap (λ pieces. take 10 (filter some pieces)) seen.0

pub returns-then-is_err : goal.returns-then-is_err
unfolding first_words words_of
returns-then-is_err c =
    let so_far = YieldsList-so_far
    (YieldsList-at c.into_iter-word-iterator.ensures.into_iter_gives
    (YieldsList-from_slice_split _ is_space c.args.line.now c.split-word-items.ensures.rest c.split-word-items.ensures.done c.split-word-items.ensures.closure (λ x r q k. search (rules, tests))))
    c.loop-word.yielded _ c.loop-word.yielded_by in
    let full : length c.loop-word.words.items ≡ 10 = grind (arith, common_steps) in
    let kept : c.try_push.new.self.items ≡ c.loop-word.words.items = grind (arith, common_steps) in
    ap texts kept ∙ enough c.loop-word.words.items c.loop-word.yielded (slice_split is_space c.args.line.now) (length c.loop-word.yielded) c.loop-word.invariant full so_far
