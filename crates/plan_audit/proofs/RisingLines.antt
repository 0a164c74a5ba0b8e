-- The requests of an input stand in lines that rise.
use Rattle.std.proofs.Common.{◌≡◌, ℕ, zero, suc, ◌+◌, ◌<◌, ◌≤◌, Bool, true, false, not, cond, List, [], ◌∷◌, length, drop, Option, Result, Ok, refl, sym, subst, arith}
use Rattle.std.specs.Prelude.{filter, if◌then◌else◌}
use Rattle.std.specs.List.{enumerate_from}
use Rattle.byte_lines.specs.Lines.{lines_of}
use Rattle.command_words.specs.declared.command.Command.{Command}
use Rattle.command_words.specs.declared.command.Command.TheVariants as commands
use Rattle.command_words.specs.declared.reply.Bad.{Bad}
use Rattle.session_rules.specs.Requests.{Line, Request, is_blank_line, reading, request_of, taken_by, is_quit, requests_within, requests_of}

-- lines whose numbers rise above a number
abbrev AreAbove : ℕ → List Line → Type 0
AreAbove low [] = Unit {0}
AreAbove low (line ∷ lines) = (low < line.0) × AreAbove line.0 lines

-- the same of requests
abbrev pub RequestsRise : ℕ → List Request → Type 0
RequestsRise low [] = Unit {0}
RequestsRise low (request ∷ requests) = (low < request.line) × RequestsRise request.line requests

lower : (low high : ℕ) (lines : List Line) → low ≤ high → AreAbove high lines → AreAbove low lines
lower low high [] less h = tt
lower low high (line ∷ lines) less h = (omega (arith, less, h.0), h.1)

numbered : (low first : ℕ) (texts : List (Option (List ℕ))) → low < first → AreAbove low (enumerate_from first texts)
numbered low first [] below = tt
numbered low first (text ∷ texts) below = (below, numbered first (first + 1) texts (omega arith))

either : (low : ℕ) (b : Bool) (line : Line) (lines : List Line) → low < line.0 → AreAbove line.0 lines → AreAbove low lines → AreAbove low (cond b (line ∷ lines) lines)
either low true line lines below h k = (below, h)
either low false line lines below h k = k

kept : (test : Line → Bool) (low : ℕ) (lines : List Line) → AreAbove low lines → AreAbove low (filter test lines)
kept test low [] h = tt
kept test low (line ∷ lines) h =
    let before : low ≤ line.0 = omega (arith, h.0) in
    either low (test line) line (filter test lines) h.0 (kept test line.0 lines h.1) (kept test low lines (lower low line.0 lines before h.1))

dropped : (n low : ℕ) (lines : List Line) → AreAbove low lines → AreAbove low (drop n lines)
dropped zero low lines h = h
dropped (suc n) low [] h = tt
dropped (suc n) low (line ∷ lines) h = let before : low ≤ line.0 = omega (arith, h.0) in dropped n low lines (lower low line.0 lines before h.1)

stands_in : (number : ℕ) (read : Result Command Bad) (lines : List Line) → (request_of number read lines).line ≡ number
stands_in number (Ok (commands.Load scenario count)) lines = refl
stands_in number read lines = refl

or_none : (low : ℕ) (b : Bool) (requests : List Request) → RequestsRise low requests → RequestsRise low (if b then [] else requests)
or_none low true requests h = tt
or_none low false requests h = h

risen : (steps low : ℕ) (lines : List Line) → AreAbove low lines → RequestsRise low (requests_within steps lines)
unfolding requests_within
risen zero low lines h = tt
risen (suc steps) low [] h = tt
risen (suc steps) low (line ∷ lines) h =
    let is = stands_in line.0 (reading line) lines in
    let behind = drop (taken_by (reading line)) lines in
    let rest = risen steps line.0 behind (dropped (taken_by (reading line)) line.0 lines h.1) in (
      subst (λ n. low < n) (sym is) h.0,
      subst (λ n. RequestsRise n (if is_quit (reading line) then [] else requests_within steps behind)) (sym is) (or_none line.0 (is_quit (reading line)) (requests_within steps behind) rest),
    )

pub requests_rise : (input : List ℕ) → RequestsRise 0 (requests_of input)
requests_rise input =
    let lines = filter (λ line. not (is_blank_line line)) (enumerate_from 1 (lines_of input)) in
    let one : 0 < 1 = omega arith in
    risen (length lines) 0 lines (kept (λ line. not (is_blank_line line)) 0 (enumerate_from 1 (lines_of input)) (numbered 0 1 (lines_of input) one))
