-- The requests that are read from the left are those of the input.
use Rattle.std.proofs.Common.{◌≡◌, ℕ, zero, suc, ◌+◌, ◌≤◌, List, [], ◌∷◌, ◌++◌, length, take, drop, true, false, not, cond, nat_le, Option, Some, None, Result, Ok, Err, refl, sym, ap, ◌∙◌, arith, append_assoc, append-nil, length-append}
use Rattle.std.proofs.lemmas.Bool.Decides.{nat_tests}
use Rattle.std.proofs.lemmas.List.{length-drop}
use Rattle.command_words.specs.declared.command.Command.{Command}
use Rattle.command_words.specs.declared.command.Command.TheVariants as commands
use Rattle.command_words.specs.declared.reply.Bad.{Bad}
use Rattle.session_rules.specs.Requests.{Line, Request, is_blank_line, reading, read_wish, load_wish, is_quit, request_of, taken_by, requests_within, requests_of}
use Rattle.byte_lines.specs.Lines.{lines_of}
use Rattle.request_loop.specs.Reading.{Rows, begun_rows, with_row, settled_by, begun, stepped, is_end, requests_from, counted_lines, requests_ending}

with_rows : Rows → List Line → Rows
with_rows r more = record r { rows = r.rows ++ more }

-- the rows that are still to come
loading : (lines : List Line) (r : Rows) (k : ℕ) → r.count ≡ length r.rows + suc k
    → requests_from lines (Some r) ≡ record { line = r.line; wish = load_wish r.scenario r.count (r.rows ++ take (suc k) lines) } ∷ requests_from (drop (suc k) lines) None
unfolding requests_ending
loading [] r k many = ap (λ rows. record { line = r.line; wish = load_wish r.scenario r.count rows } ∷ []) (sym (append-nil r.rows))
loading (line ∷ lines) r zero many =
    let full : nat_le r.count (length (r.rows ++ line ∷ [])) ≡ true = grind (arith, nat_tests, length-append r.rows (line ∷ [])) in
    ap (λ b. (settled_by (with_row r line) b).0 ++ requests_from lines (settled_by (with_row r line) b).1) full
loading (line ∷ lines) r (suc k) many =
    let short : nat_le r.count (length (r.rows ++ line ∷ [])) ≡ false = grind (arith, nat_tests, length-append r.rows (line ∷ [])) in
    let next : r.count ≡ length (r.rows ++ line ∷ []) + suc k = omega (arith, length-append r.rows (line ∷ [])) in
    ap (λ b. (settled_by (with_row r line) b).0 ++ requests_from lines (settled_by (with_row r line) b).1) short
    ∙ loading lines (with_row r line) k next
    ∙ ap (λ rows. record { line = r.line; wish = load_wish r.scenario r.count rows } ∷ requests_from (drop (suc k) lines) None) (append_assoc r.rows (line ∷ []) (take (suc k) lines))

by_reading : (steps number : ℕ) (read : Result Command Bad) (lines : List Line) → ((ls : List Line) → length ls ≤ steps → requests_from ls None ≡ requests_within steps ls) → length lines ≤ steps
    → (begun number read).0 ++ cond (is_quit read) [] (requests_from lines (begun number read).1) ≡ request_of number read lines ∷ cond (is_quit read) [] (requests_within steps (drop (taken_by read) lines))
by_reading steps number (Ok (commands.Load scenario zero)) lines rest few = ap (λ rs. record { line = number; wish = load_wish scenario zero [] } ∷ rs) (rest lines few)
by_reading steps number (Ok (commands.Load scenario (suc k))) lines rest few =
    let short : nat_le (suc k) 0 ≡ false = grind (arith, nat_tests) in
    ap (λ b. (settled_by (begun_rows number scenario (suc k)) b).0 ++ requests_from lines (settled_by (begun_rows number scenario (suc k)) b).1) short
    ∙ loading lines (begun_rows number scenario (suc k)) k (let e : suc k ≡ 0 + suc k = omega arith in e)
    ∙ ap (λ rs. record { line = number; wish = load_wish scenario (suc k) (take (suc k) lines) } ∷ rs) (rest (drop (suc k) lines) (omega (arith, length-drop (suc k) lines, few)))
by_reading steps number (Ok commands.Quit) lines rest few = refl
by_reading steps number (Ok (commands.Hello name)) lines rest few = ap (λ rs. record { line = number; wish = read_wish (Ok (commands.Hello name)) } ∷ rs) (rest lines few)
by_reading steps number (Ok commands.Point) lines rest few = ap (λ rs. record { line = number; wish = read_wish (Ok commands.Point) } ∷ rs) (rest lines few)
by_reading steps number (Err bad) lines rest few = ap (λ rs. record { line = number; wish = read_wish (Err bad) } ∷ rs) (rest lines few)
by_reading steps number (Ok command) lines rest few = ap (λ rs. record { line = number; wish = read_wish (Ok command) } ∷ rs) (rest lines few)

from_left : (steps : ℕ) (lines : List Line) → length lines ≤ steps → requests_from lines None ≡ requests_within steps lines
unfolding requests_ending requests_within
from_left zero [] few = refl
from_left zero (line ∷ lines) few = absurd (omega arith)
from_left (suc steps) [] few = refl
from_left (suc steps) (line ∷ lines) few = by_reading steps line.0 (reading line) lines (from_left steps) (omega (arith, few))

pub requests_are : (input : List ℕ) → requests_from (counted_lines 1 (lines_of input)) None ≡ requests_of input
requests_are input = from_left (length (counted_lines 1 (lines_of input))) (counted_lines 1 (lines_of input)) (omega arith)

-- one line ------------------------------------------------------------------------------------------------------------------

pub one_blank : (n : ℕ) (line : Option (List ℕ)) (more : List (Option (List ℕ))) → is_blank_line (n, line) ≡ true → counted_lines n (line ∷ more) ≡ counted_lines (n + 1) more
one_blank n line more blank = ap (λ b. cond (not b) ((n, line) ∷ counted_lines (n + 1) more) (counted_lines (n + 1) more)) blank

pub one_counted : (n : ℕ) (line : Option (List ℕ)) (more : List (Option (List ℕ))) → is_blank_line (n, line) ≡ false → counted_lines n (line ∷ more) ≡ (n, line) ∷ counted_lines (n + 1) more
one_counted n line more some = ap (λ b. cond (not b) ((n, line) ∷ counted_lines (n + 1) more) (counted_lines (n + 1) more)) some

-- a line that counts completes what it does, and the requests of the lines behind it follow, unless it ends the session
pub one_step : (ending : Option Rows → List Request) (n : ℕ) (line : Option (List ℕ)) (more : List (Option (List ℕ))) (kept : Option Rows) → is_blank_line (n, line) ≡ false
    → requests_ending ending (counted_lines n (line ∷ more)) kept ≡ (stepped kept (n, line)).0 ++ cond (is_end kept (n, line)) [] (requests_ending ending (counted_lines (n + 1) more) (stepped kept (n, line)).1)
unfolding requests_ending
one_step ending n line more kept some = ap (λ ls. requests_ending ending ls kept) (one_counted n line more some)
