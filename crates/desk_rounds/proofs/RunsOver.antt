-- Rounds that were run with passes, over a story that the book may have at the end.
use Rattle.std.proofs.Common.{◌≡◌, ℕ, suc, ◌+◌, ◌≤◌, ◌<◌, Bool, true, false, List, [], ◌∷◌, ◌++◌, length, Option, Some, None, sym, ap, subst, ◌∙◌, arith, length-append, inl, inr}
use Rattle.std.specs.Prelude.{◌⊎◌, ◌==◌, MatchBool}
use Rattle.std.specs.List.{AllByRecursion}
use Rattle.std.proofs.lemmas.Bool.{cases_Bool}
use Rattle.std.proofs.lemmas.Bool.Decides.{nat_tests}
use Rattle.byte_lines.specs.declared.rounds.Desk.{Desk}
use Rattle.byte_lines.specs.declared.rounds.Served.TheVariants as ends
use Rattle.byte_lines.specs.Desks.{all_desks}
use Rattle.turn_table.specs.Story.{Begins, entries_of}
use Rattle.turn_table.specs.Passes.{TurnId}
use Rattle.plan_book.specs.declared.ground.Ground.{Ground}
use Rattle.plan_book.specs.Books.{Story}
use Rattle.sessions.proofs.Seen.{begins_on}
use Rattle.plan_office.specs.Turns.{Known}
use Rattle.desk_rounds.specs.Four.{EachFour}
use Rattle.desk_rounds.specs.RoundsRun.{all_ended, IsDeskRun}
use Rattle.desk_rounds.specs.RunFrom.{AreRunFrom}
use Rattle.desk_rounds.specs.RunOver.{HasNoneFrom, IsDeskOf, AreDesksOf, AreRunOver}
use Rattle.desk_rounds.proofs.Alls.{all_both, all_first, all_second, all_weaker}
use Rattle.desk_rounds.proofs.OneRound.{fours_long}
use Rattle.desk_rounds.proofs.Splits.{IsFresh, AreNumbered, numbered_first, numbered_second}

pub first_or_more : (k n : ℕ) → n ≤ k → (k ≡ n) ⊎ (n + 1 ≤ k)
first_or_more k n h = elim (cases_Bool (k == n)) [ inl a ↦ inl (grind (arith, nat_tests)) | inr b ↦ inr (grind (arith, nat_tests)) ]

module _ {S K : Type 0} (left : S → Option (List ℕ)) (reads : S → ℕ) (source_label : S → List ℕ) (taken : K → Option (List ℕ)) (writes : K → ℕ) (sink_label : K → List ℕ) (turn : TurnId) where
  abbrev IsRunAt : Story → Story → Desk S K → Known → Desk S K → Known → Type 0
  IsRunAt before after desk pass desk_then pass_then = IsDeskRun left reads source_label taken writes sink_label turn before after desk pass desk_then pass_then

  abbrev AreFours : Story → Story → List (Desk S K) → List Known → List (Desk S K) → List Known → Type 0
  AreFours before after desks here desks_then here_then = EachFour (IsDeskRun left reads source_label taken writes sink_label turn before after) desks here desks_then here_then

  abbrev AreFrom : Story → Story → List (List (Desk S K)) → List (List (Desk S K)) → List Known → List Known → Type 0
  AreFrom before last olds news passes passes_then = AreRunFrom left reads source_label taken writes sink_label turn before last olds news passes passes_then

  -- a fact of each pass at the end, where it holds of those that were served with and of those that weren't -----------------------------

  module _ (P Q : Known → Type 0) (stays : (x : Known) → P x → Q x) (comes : (before after : Story) (d : Desk S K) (x : Known) (t : Desk S K) (y : Known) → IsRunAt before after d x t y → P x → Q y) where
    round_each : (before after : Story) (ds : List (Desk S K)) (xs : List Known) (ts : List (Desk S K)) (ys : List Known) → AreFours before after ds xs ts ys → AllByRecursion P xs → AllByRecursion Q ys
    round_each before after [] [] [] [] h p = tt
    round_each before after (d ∷ ds) (x ∷ xs) (t ∷ ts) (y ∷ ys) h p = (comes before after d x t y h.0 p.0, round_each before after ds xs ts ys h.1 p.1)
    round_each before after [] [] [] (y ∷ ys) h p = absurd h
    round_each before after [] [] (t ∷ ts) ys h p = absurd h
    round_each before after [] (x ∷ xs) ts ys h p = absurd h
    round_each before after (d ∷ ds) [] ts ys h p = absurd h
    round_each before after (d ∷ ds) (x ∷ xs) [] ys h p = absurd h
    round_each before after (d ∷ ds) (x ∷ xs) (t ∷ ts) [] h p = absurd h

    pub passes_each : (before last : Story) (olds news : List (List (Desk S K))) (xs ys : List Known) → AreFrom before last olds news xs ys → AllByRecursion P xs → AllByRecursion Q ys
    passes_each before last [] [] xs ys h p = subst (AllByRecursion Q) (sym h.0) (all_weaker P Q stays xs p)
    passes_each before last (ds ∷ olds) (ts ∷ news) xs ys h p =
        let both : AllByRecursion P (h.1 ++ h.2) = subst (AllByRecursion P) h.6 p in
        subst (AllByRecursion Q) (sym h.7)
        (all_both Q h.3 h.4 (round_each before h.0 ds h.1 ts h.3 h.8 (all_first P h.1 h.2 both))
        (by_end (all_ended ts) h.0 last olds news h.2 h.4 h.9 (all_second P h.1 h.2 both) (λ rest q. passes_each h.0 last olds news h.2 h.4 rest q)))
      where
        by_end : (b : Bool) (after last : Story) (olds news : List (List (Desk S K))) (later later_then : List Known) → MatchBool b (AreFrom after last olds news later later_then) ((news ≡ olds) × (later_then ≡ later) × Begins after last)
            → AllByRecursion P later → (AreFrom after last olds news later later_then → AllByRecursion P later → AllByRecursion Q later_then) → AllByRecursion Q later_then
        by_end true after last olds news later later_then h q next = next h q
        by_end false after last olds news later later_then h q next = subst (AllByRecursion Q) (sym h.1) (all_weaker P Q stays later q)
    passes_each before last [] (ts ∷ news) xs ys h p = absurd h
    passes_each before last (ds ∷ olds) [] xs ys h p = absurd h

  -- no entries of passes that weren't served with ---------------------------------------------------------------------------------------

  module _ (basis : Option Ground) (most : ℕ) (whole : Story) where
    none_from : (number : ℕ) (xs : List Known) → AreNumbered number xs → AllByRecursion (IsFresh turn basis most) xs → AllByRecursion (λ o. entries_of o.number whole ≡ o.own) xs → HasNoneFrom (number + length xs) whole → HasNoneFrom number whole
    none_from number [] are fresh kept none k low = none k (omega (arith, low))
    none_from number (x ∷ xs) are fresh kept none k low = by_first (first_or_more k number low)
        (none_from (number + 1) xs are.1 fresh.1 kept.1 (subst (λ n. HasNoneFrom n whole) (let same : number + suc (length xs) ≡ number + 1 + length xs = omega arith in same) none))
      where
        by_first : (k ≡ number) ⊎ (number + 1 ≤ k) → HasNoneFrom (number + 1) whole → entries_of k whole ≡ []
        by_first (inl here) rest = ap (λ n. entries_of n whole) (here ∙ sym are.0) ∙ kept.0 ∙ fresh.0.unused
        by_first (inr more) rest = rest k more

    -- the desks ---------------------------------------------------------------------------------------------------------------------------

    abbrev IsOf : ℕ → Story → Story → Desk S K → Desk S K → Type 0
    IsOf number before after d t = IsDeskOf left reads source_label taken writes sink_label turn basis whole number before after d t

    abbrev AreOf : ℕ → Story → Story → List (Desk S K) → List (Desk S K) → Type 0
    AreOf number before after ds ts = AreDesksOf left reads source_label taken writes sink_label turn basis whole number before after ds ts

    abbrev AreOver : ℕ → Story → List (List (Desk S K)) → List (List (Desk S K)) → Type 0
    AreOver number before olds news = AreRunOver left reads source_label taken writes sink_label turn basis whole number before olds news

    desk_of : (number : ℕ) (before after : Story) (d : Desk S K) (x : Known) (t : Desk S K) (y : Known) → IsRunAt before after d x t y → x.number ≡ number → IsFresh turn basis most x → entries_of y.number whole ≡ y.own → IsOf number before after d t
    desk_of number before after d x t y h numbered fresh kept =
        let begun_is : h.begun.number ≡ number = ap (λ k. k.number) h.brought ∙ numbered in
        let ended_is : h.ended.number ≡ number = ap (λ k. k.number) h.served.pass_is.kept ∙ begun_is in
        let last_is : y.number ≡ number = ap (λ k. k.number) h.met ∙ ended_is in
        record {
          begun = h.begun;
          number_is = begun_is;
          basis_is = ap (λ k. k.basis) h.brought ∙ fresh.basis_is;
          unused = ap (λ k. k.own) h.brought ∙ fresh.unused;
          own = h.own;
          ahead = h.ahead;
          ended = h.ended;
          served = h.served;
          told = h.told;
          kept = ap (λ n. entries_of n whole) (sym last_is) ∙ kept ∙ ap (λ k. k.own) h.met;
        }

    desks_of : (number : ℕ) (before after : Story) (ds : List (Desk S K)) (xs : List Known) (ts : List (Desk S K)) (ys : List Known) → AreFours before after ds xs ts ys → AreNumbered number xs → AllByRecursion (IsFresh turn basis most) xs
        → AllByRecursion (λ o. entries_of o.number whole ≡ o.own) ys → AreOf number before after ds ts
    desks_of number before after [] [] [] [] h are fresh kept = tt
    desks_of number before after (d ∷ ds) (x ∷ xs) (t ∷ ts) (y ∷ ys) h are fresh kept =
        (desk_of number before after d x t y h.0 are.0 fresh.0 kept.0, desks_of (number + 1) before after ds xs ts ys h.1 are.1 fresh.1 kept.1)
    desks_of number before after [] [] [] (y ∷ ys) h are fresh kept = absurd h
    desks_of number before after [] [] (t ∷ ts) ys h are fresh kept = absurd h
    desks_of number before after [] (x ∷ xs) ts ys h are fresh kept = absurd h
    desks_of number before after (d ∷ ds) [] ts ys h are fresh kept = absurd h
    desks_of number before after (d ∷ ds) (x ∷ xs) [] ys h are fresh kept = absurd h
    desks_of number before after (d ∷ ds) (x ∷ xs) (t ∷ ts) [] h are fresh kept = absurd h

    -- the rounds --------------------------------------------------------------------------------------------------------------------------

    abbrev IsKept : Known → Type 0
    IsKept o = entries_of o.number whole ≡ o.own

    -- what is needed of the passes of some rounds
    pub record Passes (number : ℕ) (xs ys : List Known) : Type 0 where
      pub are : AreNumbered number xs
      pub fresh : AllByRecursion (IsFresh turn basis most) xs
      pub kept : AllByRecursion (λ o. entries_of o.number whole ≡ o.own) ys
      pub none : HasNoneFrom (number + length xs) whole

    passes_later : (number : ℕ) (xs ys here later here_then later_then : List Known) → Passes number xs ys → xs ≡ here ++ later → ys ≡ here_then ++ later_then → Passes (number + length here) later later_then
    passes_later number xs ys here later here_then later_then p parts parts_then =
        record {
          are = numbered_second number here later (subst (AreNumbered number) parts p.are);
          fresh = all_second (IsFresh turn basis most) here later (subst (AllByRecursion (IsFresh turn basis most)) parts p.fresh);
          kept = all_second IsKept here_then later_then (subst (AllByRecursion IsKept) parts_then p.kept);
          none = subst (λ n. HasNoneFrom n whole) (ap (λ xs. number + length xs) parts ∙ (let l = length-append here later in let same : number + length (here ++ later) ≡ number + length here + length later = omega (arith, l) in same)) p.none;
        }

    pub runs_over : (number : ℕ) (before last : Story) (olds news : List (List (Desk S K))) (xs ys : List Known) → AreFrom before last olds news xs ys → Passes number xs ys → Begins last whole → AreOver number before olds news
    runs_over number before last [] [] xs ys h p ends = (begins_on before last whole h.1 ends, none_from number xs p.are p.fresh (subst (AllByRecursion IsKept) h.0 p.kept) p.none)
    runs_over number before last (ds ∷ olds) (ts ∷ news) xs ys h p ends =
        let later = passes_later number xs ys h.1 h.2 h.3 h.4 p h.6 h.7 in
        let long = fours_long (IsRunAt before h.0) ds h.1 ts h.3 h.8 in
        let next : number + length h.1 ≡ number + length ds = ap (λ n. number + n) long.0 in (
          h.0,
          h.5,
          desks_of number before h.0 ds h.1 ts h.3 h.8 (numbered_first number h.1 h.2 (subst (AreNumbered number) h.6 p.are)) (all_first (IsFresh turn basis most) h.1 h.2 (subst (AllByRecursion (IsFresh turn basis most)) h.6 p.fresh))
              (all_first IsKept h.3 h.4 (subst (AllByRecursion IsKept) h.7 p.kept)),
          by_end (all_ended ts) h.0 (number + length h.1) (number + length ds) h.2 h.4 next h.9 later (λ rest. runs_over (number + length h.1) h.0 last olds news h.2 h.4 rest later ends),
        )
      where
        by_end : (b : Bool) (after : Story) (n m : ℕ) (later later_then : List Known) → n ≡ m → MatchBool b (AreFrom after last olds news later later_then) ((news ≡ olds) × (later_then ≡ later) × Begins after last) → Passes n later later_then
            → (AreFrom after last olds news later later_then → AreOver n after olds news) → MatchBool b (AreOver m after olds news) ((news ≡ olds) × Begins after whole × HasNoneFrom m whole)
        by_end true after n m later later_then next h p rest = subst (λ k. AreOver k after olds news) next (rest h)
        by_end false after n m later later_then next h p rest =
            (h.0, begins_on after last whole h.2 ends, subst (λ k. HasNoneFrom k whole) next (none_from n later p.are p.fresh (subst (AllByRecursion IsKept) h.1 p.kept) p.none))
    runs_over number before last [] (ts ∷ news) xs ys h p ends = absurd h
    runs_over number before last (ds ∷ olds) [] xs ys h p ends = absurd h

  -- faults of the book --------------------------------------------------------------------------------------------------------------------

  module _ (faults : ℕ) where
    abbrev IsTold : Desk S K → Type 0
    IsTold desk = desk.served ≡ Some ends.BookFault → 0 < faults

    round_failed : (before after : Story) (ds : List (Desk S K)) (xs : List Known) (ts : List (Desk S K)) (ys : List Known) → AreFours before after ds xs ts ys → AllByRecursion (λ o. o.faults ≤ faults) ys → AllByRecursion IsTold ts
    round_failed before after [] [] [] [] h few = tt
    round_failed before after (d ∷ ds) (x ∷ xs) (t ∷ ts) (y ∷ ys) h few = (one h.0 few.0, round_failed before after ds xs ts ys h.1 few.1)
      where
        one : IsRunAt before after d x t y → y.faults ≤ faults → t.served ≡ Some ends.BookFault → 0 < faults
        one h few told =
            let is : h.served.served ≡ ends.BookFault = (let same : Some h.served.served ≡ Some ends.BookFault = sym h.served.told ∙ told in cc) in
            let rose = h.served.pass_is.failed is in
            let met = ap (λ k. k.faults) h.met in
            omega (arith, rose, met, few)
    round_failed before after [] [] [] (y ∷ ys) h few = absurd h
    round_failed before after [] [] (t ∷ ts) ys h few = absurd h
    round_failed before after [] (x ∷ xs) ts ys h few = absurd h
    round_failed before after (d ∷ ds) [] ts ys h few = absurd h
    round_failed before after (d ∷ ds) (x ∷ xs) [] ys h few = absurd h
    round_failed before after (d ∷ ds) (x ∷ xs) (t ∷ ts) [] h few = absurd h

    untold : (desks : List (Desk S K)) → AllByRecursion (λ desk. desk.served ≡ None) desks → AllByRecursion IsTold desks
    untold desks h = all_weaker (λ desk. desk.served ≡ None) IsTold (λ desk none told. (let never : None ≡ Some ends.BookFault = sym none ∙ told in cc)) desks h

    pub runs_failed : (before last : Story) (olds news : List (List (Desk S K))) (xs ys : List Known) → AreFrom before last olds news xs ys → AllByRecursion (λ desk. desk.served ≡ None) (all_desks olds) → AllByRecursion (λ o. o.faults ≤ faults) ys
        → AllByRecursion IsTold (all_desks news)
    runs_failed before last [] [] xs ys h unserved few = tt
    runs_failed before last (ds ∷ olds) (ts ∷ news) xs ys h unserved few =
        let both : AllByRecursion (λ o. o.faults ≤ faults) (h.3 ++ h.4) = subst (AllByRecursion (λ o. o.faults ≤ faults)) h.7 few in
        all_both IsTold ts (all_desks news) (round_failed before h.0 ds h.1 ts h.3 h.8 (all_first (λ o. o.faults ≤ faults) h.3 h.4 both))
        (by_end (all_ended ts) h.0 h.2 h.4 h.9 (all_second (λ desk. desk.served ≡ None) ds (all_desks olds) unserved)
        (λ rest. runs_failed h.0 last olds news h.2 h.4 rest (all_second (λ desk. desk.served ≡ None) ds (all_desks olds) unserved) (all_second (λ o. o.faults ≤ faults) h.3 h.4 both)))
      where
        by_end : (b : Bool) (after : Story) (later later_then : List Known) → MatchBool b (AreFrom after last olds news later later_then) ((news ≡ olds) × (later_then ≡ later) × Begins after last) → AllByRecursion (λ desk. desk.served ≡ None) (all_desks olds)
            → (AreFrom after last olds news later later_then → AllByRecursion IsTold (all_desks news)) → AllByRecursion IsTold (all_desks news)
        by_end true after later later_then h unserved rest = rest h
        by_end false after later later_then h unserved rest = subst (λ rs. AllByRecursion IsTold (all_desks rs)) (sym h.0) (untold (all_desks olds) unserved)
    runs_failed before last [] (ts ∷ news) xs ys h unserved few = absurd h
    runs_failed before last (ds ∷ olds) [] xs ys h unserved few = absurd h
