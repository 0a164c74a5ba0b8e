-- The limits of an input: a QUIT among its first lines stays one, whatever stands behind them.
use Rattle.std.proofs.Common.{◌≡◌, ℕ, ◌+◌, ◌-◌, ◌≤◌, ◌<◌, min, List, [], ◌∷◌, ◌++◌, length, take, drop, Bool, true, false, not, ◌&&◌, ◌||◌, nat_lt, nat_le, cond, Option, Some, None, Result, Ok, Err, refl, sym, ap, ◌∙◌, arith, append_assoc, length-append}
use Rattle.std.specs.Prelude.{filter, map}
use Rattle.std.specs.List.{enumerate_from, filter_map}
use Rattle.std.specs.Result.{result_ok}
use Rattle.std.proofs.lemmas.Bool.Decides.{nat_tests}
use Rattle.std.proofs.Math.Seq.{take-append_seam, take-append-le, take-append-add}
use Rattle.std.proofs.lemmas.List.{length-take, take-append-drop}
use Rattle.std.proofs.lemmas.List.Elements.{filter-append}
use Rattle.byte_lines.specs.Lines.{lines_of, lines_from, lines_after}
use Rattle.byte_lines.proofs.Streams.{lines_after-nothing, lines_after-append, lines_after-end, lines_after-no_bytes, lines_from-append}
use Rattle.plan_schema.specs.declared.name.Name.{Name}
use Rattle.plan_schema.specs.declared.key.Key.{Key}
use Rattle.plan_schema.specs.declared.key.Record.{Record}
use Rattle.plan_schema.specs.declared.change.Change.TheVariants as changes
use Rattle.command_words.specs.declared.command.Command.{Command}
use Rattle.command_words.specs.declared.command.Command.TheVariants as commands
use Rattle.command_words.specs.declared.reply.Bad.{Bad}
use Rattle.command_words.specs.declared.reply.Bad.TheVariants as bads
use Rattle.session_rules.specs.Requests.{Line, is_blank_line, Request, Makes, IsBad, reading, read_wish, wish_of, is_quit, load_wish, load_of, first_fault, row_reading}
use Rattle.request_loop.specs.Reading.{Rows, begun_rows, with_row, settled_by, begun, counted_lines, requests_from, stepped, is_end, left_over, requests_ending}
use Rattle.request_loop.specs.Serving.{byte_limit, line_limit, lines_within, is_quit_wish, has_quit, is_past_limit}

-- QUIT among requests -------------------------------------------------------------------------------------------------------

pub or_false : (b : Bool) → (b || false) ≡ b
or_false true = refl
or_false false = refl

or_true : (b : Bool) → (b || true) ≡ true
or_true true = refl
or_true false = refl

or_assoc : (a b c : Bool) → (a || (b || c)) ≡ ((a || b) || c)
or_assoc true b c = refl
or_assoc false b c = refl

pub quit_both : (xs ys : List Request) → has_quit (xs ++ ys) ≡ (has_quit xs || has_quit ys)
quit_both [] ys = refl
quit_both (x ∷ xs) ys = ap (λ b. is_quit_wish x.wish || b) (quit_both xs ys) ∙ or_assoc (is_quit_wish x.wish) (has_quit xs) (has_quit ys)

-- a LOAD is no QUIT
load_goes_on : (scenario : Name) (count : ℕ) (rows : List (Result (Key × Record) Bad)) (fault : Option Bad) → is_quit_wish (load_of scenario count rows fault) ≡ false
load_goes_on scenario count rows (Some bad) = refl
load_goes_on scenario count rows None = elim (nat_lt (length rows) count) as (λ b. is_quit_wish (cond b (IsBad bads.Short) (Makes (changes.Load scenario (filter_map result_ok rows)))) ≡ false) [ true ↦ refl | false ↦ refl ]

pub no_quit_left : (kept : Option Rows) → has_quit (left_over kept) ≡ false
no_quit_left None = refl
no_quit_left (Some r) =
    let rows = map (λ (row : ℕ × Line). row_reading row.0 row.1) (enumerate_from 1 r.rows) in
    or_false (is_quit_wish (load_wish r.scenario r.count r.rows)) ∙ load_goes_on r.scenario r.count rows (first_fault rows)

-- what a line completes has a QUIT only where the line ends the session
settled_goes_on : (r : Rows) (b : Bool) → has_quit (settled_by r b).0 ≡ false
settled_goes_on r true = no_quit_left (Some r)
settled_goes_on r false = refl

is_quit_is : (read : Result Command Bad) → is_quit_wish (read_wish read) ≡ is_quit read
is_quit_is (Ok commands.Quit) = refl
is_quit_is (Ok command) = refl
is_quit_is (Err bad) = refl

quit_begun : (number : ℕ) (read : Result Command Bad) → has_quit (begun number read).0 ≡ is_quit read
quit_begun number (Ok (commands.Load scenario count)) = settled_goes_on (begun_rows number scenario count) (nat_le count 0)
quit_begun number (Ok commands.Quit) = refl
quit_begun number (Ok command) = or_false (is_quit_wish (wish_of command)) ∙ is_quit_is (Ok command)
quit_begun number (Err bad) = refl

pub quit_stepped : (kept : Option Rows) (line : Line) → has_quit (stepped kept line).0 ≡ is_end kept line
quit_stepped None line = quit_begun line.0 (reading line)
quit_stepped (Some r) line = settled_goes_on (with_row r line) (nat_le r.count (length (r.rows ++ line ∷ [])))

-- what some lines ask for has a QUIT where their first lines have one
by_first : (c first more : Bool) → (first ≡ true → more ≡ true) → (c || first) ≡ true → (c || more) ≡ true
by_first true first more then h = refl
by_first false first more then h = then h

by_end : (b : Bool) (requests first more : List Request) → (has_quit first ≡ true → has_quit more ≡ true) → has_quit (requests ++ cond b [] first) ≡ true → has_quit (requests ++ cond b [] more) ≡ true
by_end true requests first more then h = h
by_end false requests first more then h = quit_both requests more ∙ by_first (has_quit requests) (has_quit first) (has_quit more) then (sym (quit_both requests first) ∙ h)

quit_stays : (lines more : List Line) (kept : Option Rows) → has_quit (requests_from lines kept) ≡ true → has_quit (requests_from (lines ++ more) kept) ≡ true
unfolding requests_ending
quit_stays [] more kept has = let never : false ≡ true = sym (no_quit_left kept) ∙ has in cc
quit_stays (line ∷ lines) more kept has =
    by_end (is_end kept line) (stepped kept line).0 (requests_from lines (stepped kept line).1) (requests_from (lines ++ more) (stepped kept line).1) (quit_stays lines more (stepped kept line).1) has

-- lines in two parts ---------------------------------------------------------------------------------------------------------

abbrev numbered : {A : Type 0} → A → ℕ → ℕ × A
numbered x k = (k, x)

from_lines : (n : ℕ) (a b : List (Option (List ℕ))) → enumerate_from n (a ++ b) ≡ enumerate_from n a ++ enumerate_from (n + length a) b
from_lines n [] b = let here : n ≡ n + 0 = omega arith in ap (λ k. enumerate_from k b) here
from_lines n (x ∷ a) b =
    let next : n + 1 + length a ≡ n + length (x ∷ a) = omega arith in
    ap (λ more. numbered x n ∷ more) (from_lines (n + 1) a b ∙ ap (λ k. enumerate_from (n + 1) a ++ enumerate_from k b) next)

pub counted_both : (a b : List (Option (List ℕ))) → counted_lines 1 (a ++ b) ≡ counted_lines 1 a ++ counted_lines (1 + length a) b
counted_both a b = ap (filter (λ line. not (is_blank_line line))) (from_lines 1 a b) ∙ filter-append (λ line. not (is_blank_line line)) (enumerate_from 1 a) (enumerate_from (1 + length a) b)

-- the requests of some first lines
abbrev pub asked_in : List (Option (List ℕ)) → List Request
asked_in lines = requests_from (counted_lines 1 lines) None

front_has_none : (front more : List (Option (List ℕ))) → has_quit (asked_in (front ++ more)) ≡ false → has_quit (asked_in front) ≡ false
front_has_none front more none = by_front (has_quit (asked_in front)) refl
  where
    by_front : (b : Bool) → has_quit (asked_in front) ≡ b → has_quit (asked_in front) ≡ false
    by_front false is = is
    by_front true is =
        let stays = quit_stays (counted_lines 1 front) (counted_lines (1 + length front) more) None is in
        let never : true ≡ false = sym stays ∙ sym (ap (λ ls. has_quit (requests_from ls None)) (counted_both front more)) ∙ none in
        cc

-- limits -----------------------------------------------------------------------------------------------------------------------

-- the lines within the limits begin the lines of the input
within_front : (input : List ℕ) → (behind : List (Option (List ℕ))) × (lines_of input ≡ lines_within input ++ behind)
unfolding lines_within
within_front input =
    let first = take byte_limit input in
    let rest = drop byte_limit input in
    let complete = (lines_from (Some []) first).0 in
    let later = lines_after (lines_from (Some []) first).1 rest in (
      drop line_limit complete ++ later,
      sym (lines_after-nothing input) ∙ ap (lines_after (Some [])) (sym (take-append-drop byte_limit input)) ∙ lines_after-append (Some []) first rest
          ∙ ap (λ ls. ls ++ later) (sym (take-append-drop line_limit complete)) ∙ append_assoc (take line_limit complete) (drop line_limit complete) later,
    )

few_of : {A : Type 0} (n : ℕ) (xs : List A) → length (take n xs) ≤ n
few_of n xs = let long = length-take n xs in omega (arith, long)

within_few : (input : List ℕ) → length (lines_within input) ≤ line_limit
unfolding lines_within
within_few input = few_of line_limit (lines_from (Some []) (take byte_limit input)).0

no_more : {A : Type 0} (n : ℕ) (xs : List A) → length (take n xs) ≤ length xs
no_more n xs = let long = length-take n xs in omega (arith, long)

within_complete : (input : List ℕ) → length (lines_within input) ≤ length (lines_from (Some []) (take byte_limit input)).0
unfolding lines_within
within_complete input = no_more line_limit (lines_from (Some []) (take byte_limit input)).0

-- the lines within the limits have no QUIT, where they are among lines without one
within_none : (input : List ℕ) (read left : List (Option (List ℕ))) → lines_of input ≡ read ++ left → length (lines_within input) ≤ length read → has_quit (asked_in read) ≡ false → has_quit (asked_in (lines_within input)) ≡ false
within_none input read left parts few none =
    let front = lines_within input in
    let behind = within_front input in
    let same : front ≡ take (length front) read = sym (take-append_seam front behind.0) ∙ ap (take (length front)) (sym behind.1 ∙ parts) ∙ take-append-le (length front) read left few in
    let apart : read ≡ front ++ drop (length front) read = sym (take-append-drop (length front) read) ∙ ap (λ l. l ++ drop (length front) read) (sym same) in
    front_has_none front (drop (length front) read) (ap (λ ls. has_quit (asked_in ls)) (sym apart) ∙ none)

-- they begin with lines that end within the limits
pub within_begins : (input : List ℕ) (read left : List (Option (List ℕ))) → lines_of input ≡ read ++ left → length read ≤ length (lines_within input) → lines_within input ≡ read ++ drop (length read) (lines_within input)
within_begins input read left parts few =
    let front = lines_within input in
    let behind = within_front input in
    let same : read ≡ take (length read) front = sym (take-append_seam read left) ∙ ap (take (length read)) (sym parts ∙ behind.1) ∙ take-append-le (length read) front behind.0 few in
    sym (take-append-drop (length read) front) ∙ ap (λ l. l ++ drop (length read) front) (sym same)

-- they have one, where they begin with lines that have one, whatever stands behind
within_some : (input : List ℕ) (read left : List (Option (List ℕ))) → lines_of input ≡ read ++ left → length read ≤ length (lines_within input) → ((more : List (Option (List ℕ))) → has_quit (asked_in (read ++ more)) ≡ true)
    → has_quit (asked_in (lines_within input)) ≡ true
within_some input read left parts few some = ap (λ ls. has_quit (asked_in ls)) (within_begins input read left parts few) ∙ some (drop (length read) (lines_within input))

all_of : (taken limit all : ℕ) → taken ≡ min limit all → limit ≤ all → taken ≡ limit
all_of taken limit all is many = omega (arith, is, many)

none_over : (taken limit all lines : ℕ) → taken ≡ min limit all → all ≡ lines → lines ≤ limit → taken ≡ lines
none_over taken limit all lines is same few = omega (arith, is, same, few)

fits_both : (lines taken all limit : ℕ) → taken ≡ min limit all → lines ≤ all → lines ≤ limit → lines ≤ taken
fits_both lines taken all limit is many few = omega (arith, is, many, few)

-- as many lines as those within the limits, from the left, are these
pub all_within : (input : List ℕ) (read left : List (Option (List ℕ))) → lines_of input ≡ read ++ left → length read ≡ length (lines_within input) → lines_within input ≡ read
all_within input read left parts long =
    let front = lines_within input in
    let behind = within_front input in
    sym (take-append_seam front behind.0) ∙ ap (take (length front)) (sym behind.1 ∙ parts) ∙ ap (λ n. take n (read ++ left)) (sym long) ∙ take-append_seam read left

-- there are as many as there may be, where so many end within the first bytes
pub within_full : (input : List ℕ) → line_limit ≤ length (lines_from (Some []) (take byte_limit input)).0 → length (lines_within input) ≡ line_limit
unfolding lines_within
within_full input many = all_of _ line_limit _ (length-take line_limit (lines_from (Some []) (take byte_limit input)).0) many

-- so many lines are among them that end within the first bytes, and of which there may be so many
pub within_long : (input : List ℕ) (lines : ℕ) → lines ≤ length (lines_from (Some []) (take byte_limit input)).0 → lines ≤ line_limit → lines ≤ length (lines_within input)
unfolding lines_within
within_long input lines many few = fits_both lines _ _ line_limit (length-take line_limit (lines_from (Some []) (take byte_limit input)).0) many few

-- an input past a limit, without a QUIT within the limits
is_past : (input : List ℕ) → (nat_lt byte_limit (length input) || nat_lt line_limit (length (lines_of input))) ≡ true → has_quit (asked_in (lines_within input)) ≡ false → is_past_limit input ≡ true
unfolding is_past_limit
is_past input over none = λ i. over i && not (none i)

-- one within them, and one with a QUIT
pub is_within : (input : List ℕ) → length input ≤ byte_limit → length (lines_of input) ≤ line_limit → is_past_limit input ≡ false
unfolding is_past_limit
is_within input few_bytes few_lines =
    let some_bytes : nat_lt byte_limit (length input) ≡ false = grind (arith, nat_tests) in
    let some_lines : nat_lt line_limit (length (lines_of input)) ≡ false = grind (arith, nat_tests) in
    λ i. (some_bytes i || some_lines i) && not (has_quit (asked_in (lines_within input)))

has_ended : (input : List ℕ) → has_quit (asked_in (lines_within input)) ≡ true → is_past_limit input ≡ false
unfolding is_past_limit
has_ended input some = ap (λ b. (nat_lt byte_limit (length input) || nat_lt line_limit (length (lines_of input))) && not b) some ∙ and_false (nat_lt byte_limit (length input) || nat_lt line_limit (length (lines_of input)))
  where
    and_false : (b : Bool) → (b && false) ≡ false
    and_false true = refl
    and_false false = refl

-- a line past the last that may be
pub past_lines : (input : List ℕ) (read left : List (Option (List ℕ))) → lines_of input ≡ read ++ left → line_limit ≤ length read → 0 < length left → has_quit (asked_in read) ≡ false → is_past_limit input ≡ true
past_lines input read left parts most some none =
    let all : length (lines_of input) ≡ length read + length left = ap length parts ∙ length-append read left in
    let long : nat_lt line_limit (length (lines_of input)) ≡ true = grind (arith, nat_tests) in
    let few = within_few input in
    is_past input (ap (λ b. nat_lt byte_limit (length input) || b) long ∙ or_true (nat_lt byte_limit (length input))) (within_none input read left parts (omega (arith, few, most)) none)

fits : (read front more all taken limit : ℕ) → taken ≡ min limit all → all ≡ front + more → read ≤ front → read ≤ limit → read ≤ taken
fits read front more all taken limit taken_is all_is few within = omega (arith, taken_is, all_is, few, within)

in_parts : (n k : ℕ) → k ≤ n → n ≡ k + (n - k)
in_parts n k few = omega arith

-- the lines that end in the first bytes
module _ (input front rest : List ℕ) (whole : input ≡ front ++ rest) where
  first_of : length front ≡ byte_limit → take byte_limit input ≡ front
  first_of all = ap (λ n. take n input) (sym all) ∙ ap (take (length front)) whole ∙ take-append_seam front rest

  -- a byte past the last that may be
  pub past_bytes : (read left : List (Option (List ℕ))) → lines_of input ≡ read ++ left → length front ≡ byte_limit → 0 < length rest → length (lines_from (Some []) front).0 ≡ length read → has_quit (asked_in read) ≡ false → is_past_limit input ≡ true
  past_bytes read left parts all some counted none =
      let both : length input ≡ length front + length rest = ap length whole ∙ length-append front rest in
      let long : nat_lt byte_limit (length input) ≡ true = grind (arith, nat_tests) in
      let few = within_complete input in
      let same = ap (λ bytes. length (lines_from (Some []) bytes).0) (first_of all) in
      is_past input (ap (λ b. b || nat_lt line_limit (length (lines_of input))) long) (within_none input read left parts (omega (arith, few, same, counted)) none)

  -- those within the limits, where the first bytes are all that may be
  pub within_bytes : length front ≡ byte_limit → (lines : ℕ) → length (lines_from (Some []) front).0 ≡ lines → lines ≤ line_limit → length (lines_within input) ≡ lines
  unfolding lines_within
  within_bytes all lines counted few =
      let same = ap (λ bytes. length (lines_from (Some []) bytes).0) (first_of all) in
      none_over _ line_limit _ lines (length-take line_limit (lines_from (Some []) (take byte_limit input)).0) (same ∙ counted) few

  -- lines that end in the first bytes do within the limit of bytes
  pub lines_in_time : (n : ℕ) → length front ≤ byte_limit → n ≤ length (lines_from (Some []) front).0 → n ≤ length (lines_from (Some []) (take byte_limit input)).0
  lines_in_time n few_bytes many =
      let more = take (byte_limit - length front) rest in
      let first : take byte_limit input ≡ front ++ more = ap (take byte_limit) whole ∙ (ap (λ n. take n (front ++ rest)) (in_parts byte_limit (length front) few_bytes)) ∙ take-append-add front rest (byte_limit - length front) in
      let lines = ap (λ bytes. length (lines_from (Some []) bytes).0) first ∙ ap (λ p. length p.0) (lines_from-append (Some []) front more) ∙ length-append (lines_from (Some []) front).0 (lines_from (lines_from (Some []) front).1 more).0 in
      omega (arith, lines, many)

  -- QUIT stands in the lines that end in the first bytes, of which there aren't too many
  pub quit_in_time : (read left : List (Option (List ℕ))) → lines_of input ≡ read ++ left → length front ≤ byte_limit → length read ≤ length (lines_from (Some []) front).0 → length read ≤ line_limit
      → ((more : List (Option (List ℕ))) → has_quit (asked_in (read ++ more)) ≡ true) → is_past_limit input ≡ false
  unfolding lines_within
  quit_in_time read left parts few_bytes counted few some =
      let more = take (byte_limit - length front) rest in
      let first : take byte_limit input ≡ front ++ more = ap (take byte_limit) whole ∙ (ap (λ n. take n (front ++ rest)) (in_parts byte_limit (length front) few_bytes)) ∙ take-append-add front rest (byte_limit - length front) in
      let lines = ap (λ bytes. length (lines_from (Some []) bytes).0) first ∙ ap (λ p. length p.0) (lines_from-append (Some []) front more) ∙ length-append (lines_from (Some []) front).0 (lines_from (lines_from (Some []) front).1 more).0 in
      let taken = length-take line_limit (lines_from (Some []) (take byte_limit input)).0 in
      has_ended input (within_some input read left parts (fits (length read) _ _ _ _ line_limit taken lines counted few) some)

-- the lines that are left behind a last line feed
pub one_left : (kept : Option (List ℕ)) → length (lines_after kept []) ≤ 1
one_left None = let e = ap length (lines_after-end None (λ is. (let never : None ≡ Some [] = is in cc))) in omega (arith, e)
one_left (Some []) = let e = ap length lines_after-no_bytes in omega (arith, e)
one_left (Some (b ∷ bytes)) = let e = ap length (lines_after-end (Some (b ∷ bytes)) (λ is. (let never : Some (b ∷ bytes) ≡ Some [] = is in cc))) in omega (arith, e)
