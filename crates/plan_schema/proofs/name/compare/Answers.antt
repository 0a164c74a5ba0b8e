use Rattle.std.proofs.Common.{◌≡◌, ◌∙◌, ap, sym}
use Rattle.std.specs.Ordering.{nat_cmp, ordering_then}
use Rattle.plan_schema.proofs.Compared.{at_word, behind_first, by_words, decided, undecided}
use Rattle.plan_schema.proofs.name.compare.Goals as goal

pub returns-then-ne : goal.returns-then-ne
returns-then-ne c =
    let first : c.cmp-first.result ≡ at_word 0 c.args.ours.now c.args.theirs.now = c.cmp-first.ensures ∙ (λ i. nat_cmp (c.word.ensures i) (c.word-2.ensures i)) in
    sym (by_words c.args.ours.now c.args.theirs.now c.told-ours c.told-theirs c.fits-ours c.fits-theirs
    ∙ ap (λ o. ordering_then o (behind_first c.args.ours.now c.args.theirs.now)) (sym first)
    ∙ decided c.cmp-first.result (behind_first c.args.ours.now c.args.theirs.now) (sym c.ne.ensures ∙ c.if-ne.true))

pub returns : goal.returns
returns c =
    let first : c.cmp-first.result ≡ at_word 0 c.args.ours.now c.args.theirs.now = c.cmp-first.ensures ∙ (λ i. nat_cmp (c.word.ensures i) (c.word-2.ensures i)) in
    let second : c.cmp-second.result ≡ at_word 8 c.args.ours.now c.args.theirs.now = c.cmp-second.ensures ∙ (λ i. nat_cmp (c.word-3.ensures i) (c.word-4.ensures i)) in
    let third : c.cmp-third.result ≡ at_word 16 c.args.ours.now c.args.theirs.now = c.cmp-third.ensures ∙ (λ i. nat_cmp (c.word-5.ensures i) (c.word-6.ensures i)) in
    let fourth : c.cmp.result ≡ at_word 24 c.args.ours.now c.args.theirs.now = c.cmp.ensures ∙ (λ i. nat_cmp (c.word-7.ensures i) (c.word-8.ensures i)) in
    let both : c.then-2.result ≡ ordering_then (ordering_then c.cmp-second.result c.cmp-third.result) c.cmp.result = c.then-2.ensures ∙ ap (λ o. ordering_then o c.cmp.result) c.then.ensures in
    sym (by_words c.args.ours.now c.args.theirs.now c.told-ours c.told-theirs c.fits-ours c.fits-theirs
    ∙ ap (λ o. ordering_then o (behind_first c.args.ours.now c.args.theirs.now)) (sym first)
    ∙ undecided c.cmp-first.result (behind_first c.args.ours.now c.args.theirs.now) (sym c.ne.ensures ∙ c.if-ne.false)
    ∙ (λ i. ordering_then (ordering_then (sym second i) (sym third i)) (sym fourth i))
    ∙ sym both)
