-- Rounds that were run with the pass that the office began with, into which all others were joined.
use Rattle.std.proofs.Common.{◌≡◌, ℕ, ◌+◌, ◌≤◌, ◌<◌, cond, Bool, true, false, List, [], ◌∷◌, ◌++◌, length, take, drop, min, map, Option, None, sym, ap, subst, ◌∙◌, arith, length-append}
use Rattle.std.specs.Prelude.{◌==◌, MatchBool, reverse}
use Rattle.std.specs.List.{AllByRecursion}
use Rattle.std.proofs.lemmas.Bool.Decides.{nat_tests}
use Rattle.std.proofs.lemmas.List.{length-map, length-reverse}
use Rattle.byte_lines.specs.declared.rounds.Desk.{Desk}
use Rattle.byte_lines.specs.Desks.{all_desks}
use Rattle.turn_table.specs.Story.{Begins, entries_of, AreKept}
use Rattle.turn_table.specs.Rule.{times}
use Rattle.turn_table.specs.Rule.{greatest}
use Rattle.turn_table.specs.Passes.{TurnId, IsFree, IsWhole, IsStoryOf, HasOwn}
use Rattle.plan_book.specs.declared.ground.Ground.{Ground}
use Rattle.plan_book.specs.Books.{Story}
use Rattle.sessions.specs.InTurns.{IsReady}
use Rattle.sessions.proofs.Seen.{begins_on}
use Rattle.plan_office.specs.Turns.{Known}
use Rattle.desk_rounds.specs.PassLists.{after_splits, split_passes, AreJoined, SawMore}
use Rattle.desk_rounds.specs.RoundsRun.{all_ended, IsDeskRun}
use Rattle.desk_rounds.specs.RunFrom.{AreRunFrom}
use Rattle.desk_rounds.specs.RunOver.{IsBegun, HasNoneFrom, AreRunOver, AreRun}
use Rattle.desk_rounds.proofs.Alls.{all_turned, all_unturned}
use Rattle.desk_rounds.proofs.OneRound.{fours_long}
use Rattle.desk_rounds.proofs.RunSteps.{front_left}
use Rattle.desk_rounds.proofs.Splits.{IsFresh, splits_long, splits_numbered, splits_fresh, fresh_ready}
use Rattle.desk_rounds.proofs.AllJoined.{IsLone, IsSum, kept_of, all_sum, kept_each, times_none}
use Rattle.desk_rounds.proofs.RunsOver.{passes_each, runs_over, runs_failed}

module _ {S K : Type 0} (left : S → Option (List ℕ)) (reads : S → ℕ) (source_label : S → List ℕ) (taken : K → Option (List ℕ)) (writes : K → ℕ) (sink_label : K → List ℕ) (turn : TurnId) where
  abbrev AreFrom : Story → Story → List (List (Desk S K)) → List (List (Desk S K)) → List Known → List Known → Type 0
  AreFrom before last olds news passes passes_then = AreRunFrom left reads source_label taken writes sink_label turn before last olds news passes passes_then

  passes_long : (before last : Story) (olds news : List (List (Desk S K))) (xs ys : List Known) → AreFrom before last olds news xs ys → length ys ≡ length xs
  passes_long before last [] [] xs ys h = ap length h.0
  passes_long before last (ds ∷ olds) (ts ∷ news) xs ys h =
      let long = fours_long (IsDeskRun left reads source_label taken writes sink_label turn before h.0) ds h.1 ts h.3 h.8 in
      let rest = by_end (all_ended ts) h.0 h.2 h.4 h.9 (λ more. passes_long h.0 last olds news h.2 h.4 more) in
      let whole = ap length h.6 ∙ length-append h.1 h.2 in
      let whole_then = ap length h.7 ∙ length-append h.3 h.4 in
      let one = long.0 in
      let two = long.2 in
      omega (arith, rest, whole, whole_then, one, two)
    where
      by_end : (b : Bool) (after : Story) (later later_then : List Known) → MatchBool b (AreFrom after last olds news later later_then) ((news ≡ olds) × (later_then ≡ later) × Begins after last) → (AreFrom after last olds news later later_then → length later_then ≡ length later)
          → length later_then ≡ length later
      by_end true after later later_then h rest = rest h
      by_end false after later later_then h rest = ap length h.1
  passes_long before last [] (ts ∷ news) xs ys h = absurd h
  passes_long before last (ds ∷ olds) [] xs ys h = absurd h

  -- passes that were run with are of this turn, and hold nothing
  pub passes_free : (basis : Option Ground) (most : ℕ) (before last : Story) (olds news : List (List (Desk S K))) (xs ys : List Known) → AreFrom before last olds news xs ys → AllByRecursion (IsFresh turn basis most) xs → AllByRecursion (IsFree turn) ys
  passes_free basis most before last olds news xs ys h fresh =
      passes_each left reads source_label taken writes sink_label turn (IsFresh turn basis most) (IsFree turn) (λ x f. f.free)
      (λ before after d x t y run f. (ap (λ k. k.turn) run.met ∙ run.served.ready.free.0, ap (λ k. k.held) run.met ∙ run.served.ready.free.1)) before last olds news xs ys h fresh

  module _ (p m q : Known) (n : ℕ) (olds news : List (List (Desk S K))) (ys : List Known) (begun : IsBegun turn p) (saw : SawMore turn (after_splits p n) m) (run : AreFrom p.seen m.seen olds news (split_passes p n) ys)
      (joined : AreJoined turn m q (reverse ys)) where
    fresh : AllByRecursion (IsFresh turn p.basis n) (split_passes p n)
    fresh = splits_fresh turn p n n begun (omega arith)

    lone : AllByRecursion (IsLone n) ys
    lone =
        passes_each left reads source_label taken writes sink_label turn (IsFresh turn p.basis n) (IsLone n) (λ x f. record { lone = f.lone; unsplit = f.unsplit; within = f.within })
        (λ before after d x t y h f. record {
          lone = ap (λ k. k.joined) h.met ∙ ap (λ k. k.joined) h.served.pass_is.kept ∙ ap (λ k. k.joined) h.brought ∙ f.lone;
          unsplit = ap (λ k. k.splits) h.met ∙ ap (λ k. k.splits) h.served.pass_is.kept ∙ ap (λ k. k.splits) h.brought ∙ f.unsplit;
          within = subst (λ k. k ≤ n) (sym (ap (λ k. k.number) h.met ∙ ap (λ k. k.number) h.served.pass_is.kept ∙ ap (λ k. k.number) h.brought)) f.within;
        }) p.seen m.seen olds news (split_passes p n) ys run fresh

    sum : IsSum m q (reverse ys)
    sum = subst (λ k. IsSum m k (reverse ys)) (sym joined.pass) (all_sum n m (reverse ys) (all_turned (IsLone n) ys lone))

    number_is : q.number ≡ 0
    number_is = sum.number ∙ ap (λ k. k.number) saw.same ∙ ap (λ k. k.number) begun.is

    own_is : q.own ≡ []
    own_is = sum.own ∙ ap (λ k. k.own) saw.same ∙ ap (λ k. k.own) begun.is

    joined_is : q.joined ≡ kept_of (reverse ys)
    joined_is = sum.joined ∙ ap (λ js. js ++ kept_of (reverse ys)) (ap (λ k. k.joined) saw.same ∙ ap (λ k. k.joined) begun.is)

    splits_is : q.splits ≡ n
    splits_is = sum.splits ∙ ap (λ k. k.splits) saw.same ∙ ap (λ k. k + n) (ap (λ k. k.splits) begun.is) ∙ (let same : 0 + n ≡ n = omega arith in same)

    many : length ys ≡ n
    many = passes_long p.seen m.seen olds news (split_passes p n) ys run ∙ splits_long p n

    is_whole : IsWhole q
    is_whole =
        let first : (q.number == 0) ≡ true = (let z = number_is in grind (arith, nat_tests, z)) in
        let all = ap (λ b. cond b 1 0 + times 0 (map (λ j. j.0) q.joined)) first in
        let long = ap length joined_is ∙ length-map (reverse ys) (λ o. (o.number, o.own)) ∙ length-reverse ys ∙ many in
        (omega (arith, all), long ∙ sym splits_is)

    none_above : (story : Story) → IsStoryOf q story → HasNoneFrom (1 + length (split_passes p n)) story
    none_above story is k low =
        let size = splits_long p n in
        let above : n < k = omega (arith, low, size) in
        let other : (q.number == k) ≡ false = (let z = number_is in grind (arith, nat_tests, z, above)) in
        is.others is_whole k
        (ap (λ b. cond b 1 0 + times k (map (λ j. j.0) q.joined)) other ∙ ap (λ js. 0 + times k (map (λ j. j.0) js)) joined_is
        ∙ ap (λ t. 0 + t) (times_none n k (reverse ys) (all_turned (IsLone n) ys lone) above))

    over : (story : Story) → IsStoryOf q story → AreRunOver left reads source_label taken writes sink_label turn p.basis story 1 [] olds news
    over story is =
        subst (λ s. AreRunOver left reads source_label taken writes sink_label turn p.basis story 1 s olds news) (ap (λ k. k.seen) begun.is)
        (runs_over left reads source_label taken writes sink_label turn p.basis n story 1 p.seen m.seen olds news (split_passes p n) ys run
        (record {
          are = splits_numbered p n (ap (λ k. k.splits) begun.is);
          fresh = fresh;
          kept = all_unturned (λ o. entries_of o.number story ≡ o.own) ys (kept_each story (reverse ys) (subst (AreKept story) joined_is is.joined));
          none = none_above story is;
        })
        (begins_on m.seen q.seen story joined.grows is.grows))

    pub are_run : AllByRecursion (λ desk. desk.served ≡ None) (all_desks olds) → AreRun left reads source_label taken writes sink_label turn p q olds news
    are_run unserved =
        record {
          free = joined.free;
          whole = is_whole;
          basis = sum.basis ∙ ap (λ k. k.basis) saw.same;
          first = sum.first ∙ ap (λ k. k.first) saw.same;
          begun = sum.begun ∙ ap (λ k. k.begun) saw.same;
          over = λ story is. (ap (λ k. entries_of k story) (sym number_is) ∙ is.own ∙ own_is, over story is);
          failed = runs_failed left reads source_label taken writes sink_label turn q.faults p.seen m.seen olds news (split_passes p n) ys run unserved (all_unturned (λ o. o.faults ≤ q.faults) ys sum.each);
        }

  -- the calls of a run, one after the other ---------------------------------------------------------------------------------------------

  module _ (p p' : Known) (n len : ℕ) (items xs : List Known) (begun : IsBegun turn p) (split : p' ≡ after_splits p n) (items_are : items ≡ split_passes p n) (same : xs ≡ items) where
    pub count_is : (count : ℕ) → n ≡ min count greatest → count ≤ 16 → length xs ≡ count
    count_is count is few = ap length (same ∙ items_are) ∙ splits_long p n ∙ is ∙ (let least : min count greatest ≡ count = omega arith in least)

    pub are_ready : n ≤ 16 → AllByRecursion HasOwn items → AllByRecursion (IsReady turn) xs
    are_ready few own =
        subst (AllByRecursion (IsReady turn)) (sym same)
        (fresh_ready turn p.basis begun.ground items (ap (λ k. k.basis) begun.is) (subst (AllByRecursion (IsFresh turn p.basis 16)) (sym items_are) (splits_fresh turn p 16 n begun few)) own)

    module _ (m : Known) (olds news : List (List (Desk S K))) (ys : List Known) (size : len ≡ length items) (run : AreFrom p'.seen m.seen olds news xs ys) where
      is_run : AreFrom p.seen m.seen olds news (split_passes p n) ys
      is_run = subst (λ zs. AreFrom p.seen m.seen olds news zs ys) (same ∙ items_are) (subst (λ s. AreFrom s m.seen olds news xs ys) (ap (λ k. k.seen) split) run)

      left_is : take len (ys ++ drop (length ys) items) ≡ ys
      left_is = ap (λ k. take k (ys ++ drop (length ys) items)) size ∙ front_left items ys (passes_long p'.seen m.seen olds news xs ys run ∙ ap length same)

      pub left_free : AllByRecursion (IsFree turn) (take len (ys ++ drop (length ys) items))
      left_free = subst (AllByRecursion (IsFree turn)) (sym left_is) (passes_free p.basis n p.seen m.seen olds news (split_passes p n) ys is_run (splits_fresh turn p n n begun (omega arith)))

      pub rounds_run : (q : Known) → SawMore turn p' m → AreJoined turn m q (reverse (take len (ys ++ drop (length ys) items))) → AllByRecursion (λ desk. desk.served ≡ None) (all_desks olds)
          → AreRun left reads source_label taken writes sink_label turn p q olds news
      rounds_run q saw joined unserved = are_run p m q n olds news ys begun (subst (λ k. SawMore turn k m) split saw) is_run (subst (λ zs. AreJoined turn m q (reverse zs)) left_is joined) unserved
