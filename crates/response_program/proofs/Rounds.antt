-- Sessions one after the other are a legal run.
use Rattle.std.proofs.Common.{◌≡◌, ℕ, zero, suc, ◌+◌, ◌<◌, ◌≤◌, cond, List, [], ◌∷◌, ◌++◌, length, append-nil, refl, sym, ap, subst, ◌∙◌, arith}
use Rattle.std.specs.Prelude.{true, false, Bool, ◌&&◌, ◌==◌, nat_le, nat_lt, filter, count_by, map}
use Rattle.std.proofs.lemmas.Bool.Decides.{nat_tests}
use Rattle.std.proofs.lemmas.List.{append_assoc, length-append}
use Rattle.std.proofs.lemmas.List.Sums.{length-filter}
use Rattle.std.specs.List.{AllByRecursion, flat_map, range_with_len}
use Rattle.plan_schema.specs.declared.name.Name.{Name}
use Rattle.plan_schema.specs.declared.change.Entry.{Entry}
use Rattle.plan_schema.specs.Contents.{Contents}
use Rattle.command_words.specs.declared.reply.Reply.{Reply}
use Rattle.command_words.specs.declared.reply.Reply.TheVariants as replies
use Rattle.command_words.specs.Replies.{reply_text}
use Rattle.scenario_rules.specs.Journal.{IsLegal}
use Rattle.session_rules.specs.Requests.{Request, Wish, Makes, Asks, IsBad, user_after, guest, requests_of}
use Rattle.session_rules.specs.Sessions.{AreReplies, point_after}
use Rattle.session_rules.specs.Runs.{Desk, IsDesk, AreRounds, IsRun, entries_of, accepted_entry, accepted_entries, accepted_points, accepted_in}
use Rattle.session_rules.proofs.SessionLaws.{are_within, stay}
use Rattle.sessions.specs.Serving.{HasAnswered}
use Rattle.response_program.specs.Desks.{session_of}
use Rattle.response_program.proofs.Whole as chains
use Rattle.response_program.proofs.Whole.{Chain}

-- points and ceilings ---------------------------------------------------------------------------------------------------------

-- a point within the history is one, counted from 0 where none is printed
from_zero : (last most : ℕ) (reply : Reply) → point_after last reply ≤ most → point_after 0 reply ≤ most
from_zero last most (replies.Ok point) h = h
from_zero last most (replies.Rows point lines) h = h
from_zero last most (replies.No point refusal) h = h
from_zero last most (replies.Bad bad) h = omega arith
from_zero last most replies.Mem h = omega arith

below : (base : Contents) (entries : List Entry) (session floor last : ℕ) (user : Name) (requests : List Request) (given : List Reply) → AreReplies true base entries session floor last user requests given
    → last ≤ length entries → AllByRecursion (λ reply. point_after 0 reply ≤ length entries) given
below base entries session floor last user [] [] h here = tt
below base entries session floor last user (request ∷ requests) (reply ∷ given) h here =
    let point = are_within true base entries session floor last user (request ∷ []) (reply ∷ []) (h.0, tt) here in
    (from_zero last (length entries) reply point, below base entries session floor (point_after last reply) (user_after user request.wish) requests given h.1 point)
below base entries session floor last user [] (reply ∷ given) h here = absurd h
below base entries session floor last user (request ∷ requests) [] h here = absurd h

-- whose entries they are --------------------------------------------------------------------------------------------------------

count_cons : {A : Type 0} (p : A → Bool) (x : A) (xs : List A) → count_by p (x ∷ xs) ≡ cond (p x) (suc (count_by p xs)) (count_by p xs)
count_cons p x xs =
    sym (length-filter p (x ∷ xs))
    ∙ elim (p x) as (λ b. length (cond b (x ∷ filter p xs) (filter p xs)) ≡ cond b (suc (count_by p xs)) (count_by p xs)) [ true ↦ ap suc (length-filter p xs) | false ↦ length-filter p xs ]

-- each entry is of a session from `first` on, and before `end`
abbrev pub AreOf : ℕ → ℕ → List Entry → Type 0
AreOf first end entries = AllByRecursion (λ (entry : Entry). (first ≤ entry.session) × (entry.session < end)) entries

abbrev is_before : ℕ → Entry → Bool
is_before end entry = nat_le 0 entry.session && nat_lt entry.session end

all_before : (first end : ℕ) (entries : List Entry) → AreOf first end entries → entries_of entries 0 end ≡ length entries
all_before first end [] h = refl
all_before first end (entry ∷ entries) h =
    let less = h.0.1 in
    let test : is_before end entry ≡ true = grind (arith, nat_tests) in
    count_cons (is_before end) entry entries ∙ ap (λ b. cond b (suc (count_by (is_before end) entries)) (count_by (is_before end) entries)) test ∙ ap suc (all_before first end entries h.1)

none_before : (first end : ℕ) (entries : List Entry) → AreOf first end entries → entries_of entries 0 first ≡ 0
none_before first end [] h = refl
none_before first end (entry ∷ entries) h =
    let more = h.0.0 in
    let test : is_before first entry ≡ false = grind (arith, nat_tests) in
    count_cons (is_before first) entry entries ∙ ap (λ b. cond b (suc (count_by (is_before first) entries)) (count_by (is_before first) entries)) test ∙ none_before first end entries h.1

count_append : {A : Type 0} (p : A → Bool) (xs ys : List A) → count_by p (xs ++ ys) ≡ count_by p xs + count_by p ys
count_append p [] ys = (let none : count_by p ys ≡ 0 + count_by p ys = omega arith in none)
count_append p (x ∷ xs) ys =
    count_cons p x (xs ++ ys) ∙ by_test (count_append p xs ys) (p x) ∙ ap (λ n. n + count_by p ys) (sym (count_cons p x xs))
  where
    by_test : count_by p (xs ++ ys) ≡ count_by p xs + count_by p ys → (b : Bool) → cond b (suc (count_by p (xs ++ ys))) (count_by p (xs ++ ys)) ≡ cond b (suc (count_by p xs)) (count_by p xs) + count_by p ys
    by_test rest true = (let more : suc (count_by p (xs ++ ys)) ≡ suc (count_by p xs) + count_by p ys = omega (arith, rest) in more)
    by_test rest false = rest

of_append : (first end : ℕ) (xs ys : List Entry) → AreOf first end xs → AreOf first end ys → AreOf first end (xs ++ ys)
of_append first end [] ys h k = k
of_append first end (x ∷ xs) ys h k = (h.0, of_append first end xs ys h.1 k)

of_wider : (first end less more : ℕ) (entries : List Entry) → less ≤ first → end ≤ more → AreOf first end entries → AreOf less more entries
of_wider first end less more [] low high h = tt
of_wider first end less more (entry ∷ entries) low high h =
    let from = h.0.0 in
    let to = h.0.1 in
    ((omega (arith, from, low), omega (arith, to, high)), of_wider first end less more entries low high h.1)

-- the entries of one session's accepted changes are its own
own_are : (session : ℕ) (user : Name) (requests : List Request) (given : List Reply) → AreOf session (session + 1) (accepted_entries session user requests given)
own_are session user [] given = tt
own_are session user (request ∷ requests) [] = tt
own_are session user (request ∷ requests) (reply ∷ given) =
    of_append session (session + 1) (accepted_entry session request.line user request.wish reply) (accepted_entries session (user_after user request.wish) requests given)
    (one request.wish reply) (own_are session (user_after user request.wish) requests given)
  where
    one : (wish : Wish) (reply : Reply) → AreOf session (session + 1) (accepted_entry session request.line user wish reply)
    one (Makes change) (replies.Ok point) = ((omega arith, omega arith), tt)
    one (Makes change) (replies.Rows point lines) = tt
    one (Makes change) (replies.No point refusal) = tt
    one (Makes change) (replies.Bad bad) = tt
    one (Makes change) replies.Mem = tt
    one (Asks command) reply = tt
    one (IsBad bad) reply = tt

-- what a chain leaves: the earlier entries, and then those of its sessions, whose accepted points number them
pub record Left (session : ℕ) (earlier entries : List Entry) (desks : List Desk) : Type 0 where
  pub more : List Entry
  pub entries_are : entries ≡ earlier ++ more
  pub whose : AreOf session (session + length desks) more
  pub numbers : accepted_in (map (λ desk. desk ∷ []) desks) ≡ range_with_len (length earlier + 1) (length more)

range_append : (a n m : ℕ) → range_with_len a n ++ range_with_len (a + n) m ≡ range_with_len a (n + m)
range_append a zero m =
    let start : a + zero ≡ a = omega arith in
    let size : m ≡ zero + m = omega arith in
    ap (λ k. range_with_len k m) start ∙ ap (range_with_len a) size
range_append a (suc n) m =
    let start : a + suc n ≡ a + 1 + n = omega arith in
    let size : suc (n + m) ≡ suc n + m = omega arith in
    ap (λ ns. a ∷ ns) (ap (λ k. range_with_len (a + 1) n ++ range_with_len k m) start ∙ range_append (a + 1) n m) ∙ ap (range_with_len a) size

pub left_by : (contents : Contents) (session : ℕ) (earlier entries : List Entry) (desks : List Desk) → Chain contents session earlier desks entries → Left session earlier entries desks
left_by contents _ _ _ _ (chains.none session entries) = record { more = []; entries_are = sym (append-nil entries); whose = tt; numbers = refl }
left_by contents _ _ _ _ (chains.more session earlier between entries desk desks answered text rest) =
    let own = accepted_entries session guest (requests_of desk.input) desk.replies_given in
    let later = left_by contents (session + 1) between entries desks rest in
    record {
      more = own ++ later.more;
      entries_are = later.entries_are ∙ ap (λ es. es ++ later.more) answered.entered ∙ append_assoc earlier own later.more;
      whose = of_append session (session + suc (length desks)) own later.more
          (of_wider session (session + 1) session (session + suc (length desks)) own (omega arith) (omega arith) (own_are session guest (requests_of desk.input) desk.replies_given))
          (of_wider (session + 1) (session + 1 + length desks) session (session + suc (length desks)) later.more (omega arith) (omega arith) later.whose);
      numbers =
          ap (λ ns. ns ++ accepted_in (map (λ d. d ∷ []) desks)) (append-nil (accepted_points (requests_of desk.input) desk.replies_given) ∙ answered.numbered)
          ∙ ap (λ ns. range_with_len (length earlier + 1) (length own) ++ ns) (later.numbers ∙ ap (λ n. range_with_len n (length later.more)) (behind earlier own between answered.entered))
          ∙ range_append (length earlier + 1) (length own) (length later.more)
          ∙ ap (range_with_len (length earlier + 1)) (sym (length-append own later.more));
    }
  where
    behind : (earlier own between : List Entry) → between ≡ earlier ++ own → length between + 1 ≡ length earlier + 1 + length own
    behind earlier own between is = let n = ap length is ∙ length-append earlier own in omega (arith, n)

-- a chain over all entries: its desks are legal rounds of one desk each
module _ (contents : Contents) (entries : List Entry) where
  legal_desk : (session : ℕ) (earlier between later : List Entry) (desk : Desk) → HasAnswered (session_of contents session earlier) between (requests_of desk.input) desk.replies_given
      → desk.output ≡ flat_map reply_text desk.replies_given → entries ≡ between ++ later → (ceiling : ℕ) → length between ≡ ceiling → IsDesk contents entries session (length earlier) ceiling desk
  legal_desk session earlier between later desk answered text is ceiling most =
      record {
        legal = record {
          legal = subst (λ es. AreReplies true contents es session (length earlier) (length earlier) guest (requests_of desk.input) desk.replies_given) (sym is)
              (stay true contents between later session (length earlier) (length earlier) guest (requests_of desk.input) desk.replies_given answered.legal);
          text = text;
        };
        below = subst (λ n. AllByRecursion (λ reply. point_after 0 reply ≤ n) desk.replies_given) most
            (below contents between session (length earlier) (length earlier) guest (requests_of desk.input) desk.replies_given answered.legal (no_more (accepted_entries session guest (requests_of desk.input) desk.replies_given) answered.entered));
      }
    where
      no_more : (own : List Entry) → between ≡ earlier ++ own → length earlier ≤ length between
      no_more own is = let n = ap length is ∙ length-append earlier own in omega (arith, n)

  -- so many entries are of earlier sessions
  floor_is : (session end : ℕ) (earlier more : List Entry) → entries ≡ earlier ++ more → AreOf 0 session earlier → AreOf session end more → 0 + entries_of entries 0 session ≡ length earlier
  floor_is session end earlier more is low high =
      let all = all_before 0 session earlier low in
      let none = none_before session end more high in
      let sum : entries_of entries 0 session ≡ entries_of earlier 0 session + entries_of more 0 session = ap (λ es. entries_of es 0 session) is ∙ count_append (is_before session) earlier more in
      omega (arith, all, none, sum)

  pub are_rounds : (session : ℕ) (earlier : List Entry) (desks : List Desk) (left : List Entry) → left ≡ entries → AreOf 0 session earlier → Chain contents session earlier desks left
      → AreRounds contents [] entries session (map (λ desk. desk ∷ []) desks)
  are_rounds _ _ _ _ same low (chains.none session rest) = tt
  are_rounds _ _ _ _ same low (chains.more session earlier between rest desk desks answered text chain) =
      let own = accepted_entries session guest (requests_of desk.input) desk.replies_given in
      let later = left_by contents (session + 1) between rest desks chain in
      let mine = own_are session guest (requests_of desk.input) desk.replies_given in
      let low_then : AreOf 0 (session + 1) between = subst (AreOf 0 (session + 1)) (sym answered.entered)
      (of_append 0 (session + 1) earlier own (of_wider 0 session 0 (session + 1) earlier (omega arith) (omega arith) low) (of_wider session (session + 1) 0 (session + 1) own (omega arith) (omega arith) mine)) in
      let all_here : entries ≡ between ++ later.more = sym same ∙ later.entries_are in
      let from_here : entries ≡ earlier ++ (own ++ later.more) = all_here ∙ ap (λ es. es ++ later.more) answered.entered ∙ append_assoc earlier own later.more in
      let high = of_append session (session + 1 + length desks) own later.more (of_wider session (session + 1) session (session + 1 + length desks) own (omega arith) (omega arith) mine)
      (of_wider (session + 1) (session + 1 + length desks) session (session + 1 + length desks) later.more (omega arith) (omega arith) later.whose) in
      let floor = floor_is session (session + 1 + length desks) earlier (own ++ later.more) from_here low high in
      let ceiling = floor_is (session + 1) (session + 1 + length desks) between later.more all_here low_then later.whose in (
        (
          subst (λ n. IsDesk contents entries session n (0 + entries_of entries 0 (session + 1)) desk) (sym floor)
              (legal_desk session earlier between later.more desk answered text all_here (0 + entries_of entries 0 (session + 1)) (sym ceiling)),
          tt,
        ),
        are_rounds (session + 1) between desks rest same low_then chain,
      )

-- each number of a range stands in it once
before_range : (a n point : ℕ) → point < a → count_by (λ p. p == point) (range_with_len a n) ≡ 0
before_range a zero point less = refl
before_range a (suc n) point less =
    let other : (a == point) ≡ false = grind (arith, nat_tests) in
    count_cons (λ p. p == point) a (range_with_len (a + 1) n)
    ∙ ap (λ b. cond b (suc (count_by (λ p. p == point) (range_with_len (a + 1) n))) (count_by (λ p. p == point) (range_with_len (a + 1) n))) other
    ∙ before_range (a + 1) n point (omega (arith, less))

once_in : (a n point : ℕ) → a ≤ point → point < a + n → count_by (λ p. p == point) (range_with_len a n) ≡ 1
once_in a zero point least most = absurd (omega (arith, least, most))
once_in a (suc n) point least most =
    count_cons (λ p. p == point) a (range_with_len (a + 1) n) ∙ by_test (λ more. once_in (a + 1) n point more (omega (arith, most))) (a == point) refl
  where
    by_test : (a + 1 ≤ point → count_by (λ p. p == point) (range_with_len (a + 1) n) ≡ 1) → (b : Bool) → (a == point) ≡ b
        → cond b (suc (count_by (λ p. p == point) (range_with_len (a + 1) n))) (count_by (λ p. p == point) (range_with_len (a + 1) n)) ≡ 1
    by_test later true is = (let same : point < a + 1 = grind (arith, nat_tests) in ap suc (before_range (a + 1) n point same))
    by_test later false is = (let more : a + 1 ≤ point = grind (arith, nat_tests) in later more)

-- all of it
pub is_run : (contents : Contents) (entries : List Entry) (desks : List Desk) → IsLegal contents entries → Chain contents 1 [] desks entries → IsRun contents [] entries (map (λ desk. desk ∷ []) desks)
is_run contents entries desks legal chain =
    let left = left_by contents 1 [] entries desks chain in
    record {
      history_is = legal;
      sessions = are_rounds contents entries 1 [] desks entries refl tt chain;
      once = λ point some few.
          (let many : length entries ≡ length left.more = ap length left.entries_are in
          ap (count_by (λ p. p == point)) left.numbers ∙ once_in 1 (length left.more) point (omega (arith, some)) (omega (arith, few, many)));
    }
