-- One round of some was run: its desks are as they were left, and the other rounds as they were.
use Rattle.std.proofs.Common.{◌≡◌, ℕ, zero, suc, ◌+◌, true, false, List, [], ◌∷◌, ◌++◌, length, take, drop, Option, Some, refl, sym, ap, subst, ◌∙◌, arith, add-one}
use Rattle.std.specs.Prelude.{MatchBool, slice_set}
use Rattle.std.specs.List.{slice_get, slice_index_or}
use Rattle.std.proofs.lemmas.List.Sums.{sum_by-cons}
use Rattle.byte_lines.specs.declared.rounds.Desk.{Desk}
use Rattle.byte_lines.specs.Desks.{desk_count, with_front}
use Rattle.turn_table.specs.Story.{Begins}
use Rattle.turn_table.specs.Passes.{TurnId}
use Rattle.plan_book.specs.Books.{Story}
use Rattle.plan_office.specs.Turns.{Known}
use Rattle.desk_rounds.specs.Four.{EachFour}
use Rattle.desk_rounds.specs.RoundsRun.{all_ended, IsDeskRun}
use Rattle.desk_rounds.specs.RunFrom.{AreRunFrom}

-- lists --------------------------------------------------------------------------------------------------------------------------------

pub front_left : {D : Type 0} (xs left : List D) → length left ≡ length xs → with_front xs left ≡ left
front_left [] [] same = refl
front_left [] (y ∷ ys) same = absurd (omega arith)
front_left (x ∷ xs) [] same = absurd (omega arith)
front_left (x ∷ xs) (y ∷ ys) same = ap (λ more. y ∷ more) (front_left xs ys (omega arith))

module _ {X : Type 0} where
  index_is : (all : List X) (at : ℕ) (x d : X) → slice_get all at ≡ Some x → slice_index_or all at d ≡ x
  index_is [] at x d h = cc
  index_is (y ∷ all) zero x d h = cc
  index_is (y ∷ all) (suc at) x d h = index_is all at x d h

  drop_at : (all : List X) (at : ℕ) (x : X) → slice_get all at ≡ Some x → drop at all ≡ x ∷ drop (suc at) all
  drop_at [] at x h = cc
  drop_at (y ∷ all) zero x h = ap (λ z. z ∷ all) (let is : y ≡ x = cc in is)
  drop_at (y ∷ all) (suc at) x h = drop_at all at x h

  get_set : (all : List X) (at : ℕ) (x y : X) → slice_get all at ≡ Some x → slice_get (slice_set all at y) at ≡ Some y
  get_set [] at x y h = cc
  get_set (z ∷ all) zero x y h = refl
  get_set (z ∷ all) (suc at) x y h = get_set all at x y h

  take_set : (all : List X) (at : ℕ) (y : X) → take at (slice_set all at y) ≡ take at all
  take_set [] zero y = refl
  take_set [] (suc at) y = refl
  take_set (z ∷ all) zero y = refl
  take_set (z ∷ all) (suc at) y = ap (λ more. z ∷ more) (take_set all at y)

  past_set : (all : List X) (at : ℕ) (y : X) → drop (suc at) (slice_set all at y) ≡ drop (suc at) all
  past_set [] at y = refl
  past_set (z ∷ all) zero y = refl
  past_set (z ∷ all) (suc at) y = past_set all at y

  fewer : (all : List X) (at : ℕ) → take at (take (suc at) all) ≡ take at all
  fewer [] zero = refl
  fewer [] (suc at) = refl
  fewer (x ∷ all) zero = refl
  fewer (x ∷ all) (suc at) = ap (λ more. x ∷ more) (fewer all at)

  get_taken : (as' bs : List X) (at : ℕ) (x : X) → take (suc at) as' ≡ take (suc at) bs → slice_get bs at ≡ Some x → slice_get as' at ≡ Some x
  get_taken [] [] at x same h = h
  get_taken [] (b ∷ bs) at x same h = cc
  get_taken (a ∷ as') [] at x same h = cc
  get_taken (a ∷ as') (b ∷ bs) zero x same h = cc
  get_taken (a ∷ as') (b ∷ bs) (suc at) x same h = get_taken as' bs at x (tails a b (take (suc at) as') (take (suc at) bs) same) h
    where
      tails : (a b : X) (as' bs : List X) → a ∷ as' ≡ b ∷ bs → as' ≡ bs
      tails a b as' bs same = cc

-- the rounds ---------------------------------------------------------------------------------------------------------------------------

module _ {D : Type 0} (olds : List (List D)) (at : ℕ) (desks left : List D) (is : slice_get olds at ≡ Some desks) where
  -- the rounds with the desks of one as they were left
  abbrev mids : List (List D)
  mids = slice_set olds at (with_front (slice_index_or olds at []) left)

  pub count_is : desk_count (drop at olds) ≡ length desks + desk_count (drop (at + 1) olds)
  count_is = ap desk_count (drop_at olds at desks is) ∙ sum_by-cons length desks (drop (suc at) olds) ∙ ap (λ k. length desks + desk_count (drop k olds)) (sym (add-one at))

  module _ (long : length left ≡ length desks) where
    mids_is : mids ≡ slice_set olds at left
    mids_is = ap (slice_set olds at) (ap (λ ds. with_front ds left) (index_is olds at desks [] is) ∙ front_left desks left long)

    pub later_same : drop (at + 1) mids ≡ drop (at + 1) olds
    later_same = ap (λ k. drop k mids) (add-one at) ∙ ap (drop (suc at)) mids_is ∙ past_set olds at left ∙ ap (λ k. drop k olds) (sym (add-one at))

    pub left_at : drop at mids ≡ left ∷ drop (at + 1) olds
    left_at = ap (drop at) mids_is ∙ drop_at (slice_set olds at left) at left (get_set olds at desks left is) ∙ ap (λ more. left ∷ more) (past_set olds at left ∙ ap (λ k. drop k olds) (sym (add-one at)))

    -- where the further rounds became others
    module _ (news : List (List D)) (same : take (at + 1) news ≡ take (at + 1) mids) where
      same_front : take (suc at) news ≡ take (suc at) (slice_set olds at left)
      same_front = ap (λ k. take k news) (sym (add-one at)) ∙ same ∙ ap (λ k. take k mids) (add-one at) ∙ ap (take (suc at)) mids_is

      pub earlier_same : take at news ≡ take at olds
      earlier_same = sym (fewer news at) ∙ ap (take at) same_front ∙ fewer (slice_set olds at left) at ∙ take_set olds at left

      pub news_at : drop at news ≡ left ∷ drop (at + 1) news
      news_at = drop_at news at left (get_taken news (slice_set olds at left) at left same_front (get_set olds at desks left is)) ∙ ap (λ k. left ∷ drop k news) (sym (add-one at))

module _ {S K : Type 0} (left : S → Option (List ℕ)) (reads : S → ℕ) (source_label : S → List ℕ) (taken : K → Option (List ℕ)) (writes : K → ℕ) (sink_label : K → List ℕ) (turn : TurnId) where
  abbrev AreFrom : Story → Story → List (List (Desk S K)) → List (List (Desk S K)) → List Known → List Known → Type 0
  AreFrom before last olds news passes passes_then = AreRunFrom left reads source_label taken writes sink_label turn before last olds news passes passes_then

  module _ (before after : Story) (grows : Begins before after) (desks desks_then : List (Desk S K)) (passes here later here_then : List Known) (parts : here ++ later ≡ passes)
      (fours : EachFour (IsDeskRun left reads source_label taken writes sink_label turn before after) desks here desks_then here_then) (olds : List (List (Desk S K))) (at : ℕ) (is : slice_get olds at ≡ Some desks) (long : length desks_then ≡ length desks) where
    pub run_on : (last : Story) (news : List (List (Desk S K))) (later_then : List Known) → all_ended desks_then ≡ true → take (at + 1) news ≡ take (at + 1) (mids olds at desks desks_then is)
        → AreFrom after last (drop (at + 1) (mids olds at desks desks_then is)) (drop (at + 1) news) later later_then → AreFrom before last (drop at olds) (drop at news) passes (here_then ++ later_then)
    run_on last news later_then ended same rest =
        let rest_is : AreFrom after last (drop (at + 1) olds) (drop (at + 1) news) later later_then = subst (λ rs. AreFrom after last rs (drop (at + 1) news) later later_then) (later_same olds at desks desks_then is long) rest in
        let first : drop at olds ≡ desks ∷ drop (at + 1) olds = drop_at olds at desks is ∙ ap (λ k. desks ∷ drop k olds) (sym (add-one at)) in
        let then : drop at news ≡ desks_then ∷ drop (at + 1) news = news_at olds at desks desks_then is long news same in
        subst (λ rs. AreFrom before last rs (drop at news) passes (here_then ++ later_then)) (sym first)
        (subst (λ rs. AreFrom before last (desks ∷ drop (at + 1) olds) rs passes (here_then ++ later_then)) (sym then) (
          after,
          here,
          later,
          here_then,
          later_then,
          grows,
          sym parts,
          refl,
          fours,
          subst (λ b. MatchBool b (AreFrom after last (drop (at + 1) olds) (drop (at + 1) news) later later_then) ((drop (at + 1) news ≡ drop (at + 1) olds) × (later_then ≡ later) × Begins after last)) (sym ended) rest_is,
        ))

    pub run_out : Begins after after → all_ended desks_then ≡ false → AreFrom before after (drop at olds) (drop at (mids olds at desks desks_then is)) passes (here_then ++ later)
    run_out itself ended =
        let first : drop at olds ≡ desks ∷ drop (at + 1) olds = drop_at olds at desks is ∙ ap (λ k. desks ∷ drop k olds) (sym (add-one at)) in
        let then : drop at (mids olds at desks desks_then is) ≡ desks_then ∷ drop (at + 1) olds = left_at olds at desks desks_then is long in
        subst (λ rs. AreFrom before after rs (drop at (mids olds at desks desks_then is)) passes (here_then ++ later)) (sym first)
        (subst (λ rs. AreFrom before after (desks ∷ drop (at + 1) olds) rs passes (here_then ++ later)) (sym then) (
          after,
          here,
          later,
          here_then,
          later,
          grows,
          sym parts,
          refl,
          fours,
          subst (λ b. MatchBool b (AreFrom after after (drop (at + 1) olds) (drop (at + 1) olds) later later) ((drop (at + 1) olds ≡ drop (at + 1) olds) × (later ≡ later) × Begins after after)) (sym ended) (refl, refl, itself),
        ))
