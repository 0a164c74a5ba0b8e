-- Lines and replies, byte by byte.
use Rattle.std.proofs.Common.{◌≡◌, ℕ, suc, ◌+◌, ◌-◌, ◌<◌, ◌≤◌, eqb, ltb, leb, Bool, true, false, List, [], ◌∷◌, ◌++◌, Option, Some, None, take, drop, length, get_or, refl, sym, ap, ◌∙◌, arith, append_assoc, append-nil, length-drop, length-append, lt-ltb, le-leb, eq-eqb, ne_eqb, le-ltb, below_more, inl, inr}
use Rattle.std.proofs.lemmas.Bool.{cases_lt}
use Rattle.std.proofs.lemmas.Bool.Decides.{nat_tests}
use Rattle.std.specs.Prelude.{◌&&◌, if◌then◌else◌}
use Rattle.std.proofs.Math.Seq.{drop-cons}
use Rattle.std.proofs.lemmas.List.{take_more, take-append-drop, get_or-take, length-take-le}
use Rattle.std.proofs.lemmas.List.Sums.{position_or_len_is, passes_at_first}
use Rattle.command_words.specs.Forms.{line_cut, lines_cut, longest_line, place_of, if_read_on}
use Rattle.command_words.specs.Replies.{ended}
use Rattle.plan_audit.specs.Ahead.{still, TellsEnd, GivesByte, TookLine, TookLines}
use Rattle.plan_audit.proofs.Values.{some_is}

-- what follows the first byte of a list
first_is : (b c : ℕ) (xs ys : List ℕ) → b ∷ xs ≡ c ∷ ys → b ≡ c
first_is b c xs ys e = ap (λ t. get_or t 0 0) e

rest_is : (b c : ℕ) (xs ys : List ℕ) → b ∷ xs ≡ c ∷ ys → xs ≡ ys
rest_is b c xs ys e = ap (λ t. drop 1 t) e

-- the buffer ---------------------------------------------------------------------------------------------------------------

pub ahead_step : (piece : List ℕ) (from to : ℕ) → from < to → to ≤ length piece → drop from (take to piece) ≡ get_or piece from 0 ∷ drop (from + 1) (take to piece)
ahead_step piece from to below within =
    let all : length (take to piece) ≡ to = length-take-le to piece within in
    let inside : from < length (take to piece) = omega arith in
    let next : suc from ≡ from + 1 = omega arith in
    drop-cons (take to piece) from 0 inside ∙ ap (λ b. b ∷ drop (suc from) (take to piece)) (get_or-take to piece from 0 below)
    ∙ ap (λ n. get_or piece from 0 ∷ drop n (take to piece)) next

pub more_ahead : (piece : List ℕ) (from to : ℕ) (left : Option (List ℕ)) → from < to → to ≤ length piece → TellsEnd false (still (drop from (take to piece)) left)
more_ahead piece from to None below within all is none = let other = is in cc
more_ahead piece from to (Some rest) below within all is none =
    let front = ahead_step piece from to below within in
    let whole : (get_or piece from 0 ∷ drop (from + 1) (take to piece)) ++ rest ≡ [] = ap (λ t. t ++ rest) (sym front) ∙ some_is is ∙ none in
    cc

pub gives_byte : (byte : ℕ) (ahead rest_ahead : List ℕ) (left : Option (List ℕ)) → ahead ≡ byte ∷ rest_ahead → GivesByte (Some byte) (still ahead left) (still rest_ahead left)
gives_byte byte ahead rest_ahead None is = refl
gives_byte byte ahead rest_ahead (Some rest) is = ap (λ t. Some (t ++ rest)) is

-- lines --------------------------------------------------------------------------------------------------------------------

-- so many bytes were taken of these, and none of them is a line feed
pub record IsNoLine (count : ℕ) (all : List ℕ) (after : Option (List ℕ)) (text text_then : List ℕ) : Type 0 where
  pub within : count ≤ length all
  pub none : (k : ℕ) → k < count → eqb (get_or all k 0) 10 ≡ false
  pub left : after ≡ Some (drop count all)
  pub taken : text_then ≡ text ++ take count all

below_zero : (k : ℕ) → k < 0 → ⊥
below_zero k h = omega arith

pub no_line_yet : (all : List ℕ) (after : Option (List ℕ)) (text : List ℕ) → after ≡ Some all → IsNoLine 0 all after text text
no_line_yet all after text is = record { within = omega arith; none = λ k h. absurd (below_zero k h); left = is; taken = sym (append-nil text) }

-- a byte was taken of what is left
record IsTaken (count byte : ℕ) (all : List ℕ) (after : Option (List ℕ)) : Type 0 where
  inside : count < length all
  here : get_or all count 0 ≡ byte
  left : after ≡ Some (drop (count + 1) all)

is_taken : (count byte : ℕ) (all : List ℕ) (before after : Option (List ℕ)) → count ≤ length all → before ≡ Some (drop count all) → GivesByte (Some byte) before after → IsTaken count byte all after
is_taken count byte all before None within is gives = let none = sym gives ∙ is in cc
is_taken count byte all before (Some rest) within is gives =
    let front : byte ∷ rest ≡ drop count all = some_is (sym gives ∙ is) in
    let long : suc (length rest) ≡ length all - count = ap length front ∙ length-drop count all in
    let inside : count < length all = omega arith in
    let next : suc count ≡ count + 1 = omega arith in
    let both : byte ∷ rest ≡ get_or all count 0 ∷ drop (count + 1) all = front ∙ drop-cons all count 0 inside ∙ ap (λ n. get_or all count 0 ∷ drop n all) next in
    record { inside = inside; here = sym (first_is byte (get_or all count 0) rest (drop (count + 1) all) both); left = ap Some (rest_is byte (get_or all count 0) rest (drop (count + 1) all) both) }

-- one byte more that is no line feed
pub no_line_more : (count byte : ℕ) (all : List ℕ) (before after : Option (List ℕ)) (text mid text_then : List ℕ) → IsNoLine count all before text mid → GivesByte (Some byte) before after → (byte ≡ 10 → ⊥) → text_then ≡ mid ++ byte ∷ [] → IsNoLine (count + 1) all after text text_then
no_line_more count byte all before after text mid text_then h gives other taken =
    let t = is_taken count byte all before after h.within h.left gives in
    let inside = t.inside in
    record {
      within = omega arith;
      none = below_more (λ k. eqb (get_or all k 0) 10 ≡ false) count h.none (ap (λ b. eqb b 10) t.here ∙ ne_eqb byte 10 other);
      left = t.left;
      taken =
          taken ∙ ap (λ s. s ++ byte ∷ []) h.taken ∙ append_assoc text (take count all) (byte ∷ [])
          ∙ ap (λ s. text ++ s) (ap (λ b. take count all ++ b ∷ []) (sym t.here) ∙ sym (take_more all count 0 t.inside));
    }

line_cut_at : (all : List ℕ) (n : ℕ) → place_of 10 all ≡ n → n < length all → n ≤ longest_line → line_cut all ≡ Some (take n all, drop (n + 1) all)
line_cut_at all n is inside short =
    ap (λ p. if ltb p (length all) && leb p longest_line then Some (take p all, drop (p + 1) all) else None) is
    ∙ ap (λ b. if b && leb n longest_line then Some (take n all, drop (n + 1) all) else None) (lt-ltb n (length all) inside)
    ∙ ap (λ b. if true && b then Some (take n all, drop (n + 1) all) else None) (le-leb n longest_line short)

no_cut : (all : List ℕ) → ((k : ℕ) → k < 1025 → k < length all → eqb (get_or all k 0) 10 ≡ false) → line_cut all ≡ None
no_cut all none =
    let p = place_of 10 all in
    let test : (ltb p (length all) && leb p longest_line) ≡ false =
    elim (cases_lt p (length all)) [
      | inl inside ↦ elim (cases_lt p 1025) [
        | inl short ↦ let yes = passes_at_first (λ b. eqb b 10) all 0 inside in let no = none p short inside in cc
        | inr long ↦ ap (λ b. ltb p (length all) && b) (let above : longest_line < p = omega arith in lt_leb p longest_line above) ∙ and_false (ltb p (length all))
      ]
      | inr outside ↦ ap (λ b. b && leb p longest_line) (le-ltb p (length all) outside)
    ] in
    ap (λ b. if b then Some (take p all, drop (p + 1) all) else None) test
  where
    and_false : (b : Bool) → (b && false) ≡ false
    and_false true = refl
    and_false false = refl

    lt_leb : (a b : ℕ) → b < a → leb a b ≡ false
    lt_leb a b above = grind (arith, nat_tests)

-- the line feed
pub line_ends : (count byte : ℕ) (all : List ℕ) (before after : Option (List ℕ)) (text mid text_then : List ℕ) → count < 1025 → IsNoLine count all before text mid → GivesByte (Some byte) before after → byte ≡ 10 → text_then ≡ mid ++ byte ∷ [] → TookLine all after text text_then
line_ends count byte all before after text mid text_then short h gives feed taken =
    let t = is_taken count byte all before after h.within h.left gives in
    let here : get_or all count 0 ≡ 10 = t.here ∙ feed in
    let place : place_of 10 all ≡ count = position_or_len_is (λ b. eqb b 10) all count 0 h.within h.none (λ inside. eq-eqb (get_or all count 0) 10 here) in
    let more : take (count + 1) all ≡ ended (take count all) = take_more all count 0 t.inside ∙ ap (λ b. take count all ++ b ∷ []) here in
    record {
      line = take count all;
      behind = drop (count + 1) all;
      cut = line_cut_at all count place t.inside (omega (arith, short));
      whole = sym (take-append-drop (count + 1) all) ∙ ap (λ s. s ++ drop (count + 1) all) more;
      left = t.left;
      taken = taken ∙ ap (λ b. mid ++ b ∷ []) feed ∙ ap (λ s. s ++ 10 ∷ []) h.taken ∙ append_assoc text (take count all) (10 ∷ []);
    }

-- the end, before a line feed
pub line_lacks : (count : ℕ) (all : List ℕ) (before after : Option (List ℕ)) (text mid : List ℕ) → IsNoLine count all before text mid → GivesByte None before after → line_cut all ≡ None
line_lacks count all before after text mid h gives =
    let none : drop count all ≡ [] = gives (drop count all) h.left in
    let short : 0 ≡ length all - count = ap length (sym none) ∙ length-drop count all in
    no_cut all (λ k few inside. h.none k (omega (arith, short, inside)))

-- too many bytes before a line feed
pub line_is_long : (count : ℕ) (all : List ℕ) (before : Option (List ℕ)) (text mid : List ℕ) → 1025 ≤ count → IsNoLine count all before text mid → line_cut all ≡ None
line_is_long count all before text mid long h = no_cut all (λ k few inside. h.none k (omega (arith, long, few)))

-- more lines ---------------------------------------------------------------------------------------------------------------

-- so many lines were taken of these, and what follows decides on the rest
pub record IsLinesSoFar (line count : ℕ) (all : List ℕ) (after : Option (List ℕ)) (text text_then : List ℕ) : Type 0 where
  pub lines : List ℕ
  pub behind : List ℕ
  pub cut : lines_cut count all ≡ lines_cut (count - line) behind
  pub whole : all ≡ lines ++ behind
  pub left : after ≡ Some behind
  pub taken : text_then ≡ text ++ lines

pub no_lines_yet : (count : ℕ) (all : List ℕ) (after : Option (List ℕ)) (text : List ℕ) → after ≡ Some all → IsLinesSoFar 0 count all after text text
no_lines_yet count all after text is =
    let same : count ≡ count - 0 = omega arith in
    record { lines = []; behind = all; cut = ap (λ n. lines_cut n all) same; whole = refl; left = is; taken = sym (append-nil text) }

next_cut : (line count : ℕ) (behind : List ℕ) → line < count → lines_cut (count - line) behind ≡ if_read_on (line_cut behind) (λ cut. lines_cut (count - (line + 1)) cut.1)
next_cut line count behind below =
    let next : count - line ≡ suc (count - (line + 1)) = omega arith in
    ap (λ n. lines_cut n behind) next

pub one_line_more : (line count : ℕ) (all : List ℕ) (before after : Option (List ℕ)) (text mid text_then : List ℕ) → line < count → (h : IsLinesSoFar line count all before text mid) → TookLine h.behind after mid text_then → IsLinesSoFar (line + 1) count all after text text_then
one_line_more line count all before after text mid text_then below h k =
    record {
      lines = h.lines ++ ended k.line;
      behind = k.behind;
      cut = h.cut ∙ next_cut line count h.behind below ∙ ap (λ o. if_read_on o (λ cut. lines_cut (count - (line + 1)) cut.1)) k.cut;
      whole = h.whole ∙ ap (λ s. h.lines ++ s) k.whole ∙ sym (append_assoc h.lines (ended k.line) k.behind);
      left = k.left;
      taken = k.taken ∙ ap (λ s. s ++ ended k.line) h.taken ∙ append_assoc text h.lines (ended k.line);
    }

pub lines_lack : (line count : ℕ) (all : List ℕ) (before : Option (List ℕ)) (text mid : List ℕ) → line < count → (h : IsLinesSoFar line count all before text mid) → line_cut h.behind ≡ None → lines_cut count all ≡ None
lines_lack line count all before text mid below h none =
    h.cut ∙ next_cut line count h.behind below ∙ ap (λ o. if_read_on o (λ cut. lines_cut (count - (line + 1)) cut.1)) none

pub lines_are_taken : (line count : ℕ) (all : List ℕ) (before : Option (List ℕ)) (text mid : List ℕ) → count ≤ line → IsLinesSoFar line count all before text mid → TookLines count all before text mid
lines_are_taken line count all before text mid past h =
    let none : count - line ≡ 0 = omega arith in
    record { lines = h.lines; behind = h.behind; cut = h.cut ∙ ap (λ n. lines_cut n h.behind) none; whole = h.whole; left = h.left; taken = h.taken }

-- what a list holds once an item was put behind it
pub pushed : (b : Bool) (now with_it without : List ℕ) → now ≡ (if b then with_it else without) → b ≡ true → now ≡ with_it
pushed b now with_it without is there = is ∙ ap (λ v. if v then with_it else without) there

pub pushed_some : (now xs : List ℕ) (b : ℕ) → now ≡ xs ++ b ∷ [] → 1 ≤ length now
pushed_some now xs b is = let n : length now ≡ length xs + 1 = ap length is ∙ length-append xs (b ∷ []) in omega arith
