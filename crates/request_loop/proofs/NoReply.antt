-- What becomes of a line and of the request that it completes.
use Rattle.std.proofs.Common.{◌≡◌, ℕ, ◌≤◌, List, [], ◌∷◌, Bool, false, nat_le, Option, Some, None, Result, Ok, Err, refl, sym, ap, subst, ◌∙◌, inr, arith}
use Rattle.std.proofs.lemmas.Bool.Decides.{nat_tests}
use Rattle.plan_schema.specs.declared.name.Name.{Name}
use Rattle.command_words.specs.declared.reply.Reply.{Reply}
use Rattle.command_words.specs.declared.reply.Bad.{Bad}
use Rattle.command_words.specs.declared.reply.Bad.TheVariants as bads
use Rattle.command_words.specs.declared.command.Command.{Command}
use Rattle.command_words.specs.declared.command.Command.TheVariants as commands
use Rattle.session_rules.specs.Requests.{Line, Request, reading, is_blank_line, is_quit, user_after, wish_of}
use Rattle.request_loop.specs.Exchanges.{to_tell}
use Rattle.request_loop.specs.declared.answers.Why.{Why}
use Rattle.request_loop.specs.declared.gathering.Gathering.{Gathering}
use Rattle.request_loop.specs.declared.hear.Stop.{Stop}
use Rattle.request_loop.specs.declared.hear.Stop.TheVariants as stop
use Rattle.request_loop.specs.declared.hear.Heard.{Heard}
use Rattle.request_loop.specs.declared.hear.Heard.TheVariants as heard
use Rattle.request_loop.specs.Reading.{Rows, begun_rows, settled_by, begun, is_end}
use Rattle.request_loop.specs.Heard.{Completes, IsAnswered, IsTaken, HasCome, IsHeard, heard_of}

-- what a request comes to that is handed on
module _ {S K : Type 0} (gives : S → Name → Request → Reply → S → Type 0) (stops : S → Name → Request → Why → S → Type 0) (taken : K → Option (List ℕ)) (old new : S) (user then : Name) (page page_then : List ℕ) (sink sink_then : K) where
  -- it was answered, and its reply is put out
  pub put_out : (request : Request) (result : Result (Unit {0}) Stop) → IsAnswered gives stops taken old new user request page page_then sink sink_then result → IsTaken gives stops taken old new user request page page_then sink sink_then result
  put_out request (Ok done) it = it
  put_out request (Err (stop.Sink fault)) it = inr it
  put_out request (Err (stop.Kept why)) it = absurd it.put
  put_out request (Err stop.Limit) it = absurd it.put
  put_out request (Err stop.Quit) it = absurd it.put

  -- the session goes on behind it
  pub goes_on_behind : (request : Request) (is_last : Bool) (result : Result (Unit {0}) Stop) → IsTaken gives stops taken old new user request page page_then sink sink_then result → then ≡ user_after user request.wish → is_last ≡ false
      → HasCome gives stops taken old new user then request is_last page page_then sink sink_then (heard_of result)
  goes_on_behind request is_last (Ok done) it speaks more = (it, speaks, more)
  goes_on_behind request is_last (Err (stop.Sink fault)) it speaks more = it
  goes_on_behind request is_last (Err (stop.Kept why)) it speaks more = it
  goes_on_behind request is_last (Err stop.Limit) it speaks more = absurd it
  goes_on_behind request is_last (Err stop.Quit) it speaks more = absurd it

  -- it was completed by a line
  pub by_line : (kept : Option Rows) (rows_then : Option Gathering) (line : Line) (request : Request) (is_last : Bool) (came : Result Heard Stop) → Completes kept line request → rows_then ≡ None → is_last ≡ is_end kept line
      → HasCome gives stops taken old new user then request is_last page page_then sink sink_then came → IsHeard gives stops taken old new user then kept rows_then line page page_then sink sink_then came
  by_line kept rows_then line request is_last (Ok heard.Nothing) done none last it = absurd it
  by_line kept rows_then line request is_last (Ok heard.Answered) done none last it = record { request = request; completes = done; none_left = none; came = (it.0, it.1, sym last ∙ it.2) }
  by_line kept rows_then line request is_last (Err found) done none last it =
      record { request = request; completes = done; none_left = none; came = subst (λ b. HasCome gives stops taken old new user then request b page page_then sink sink_then (Err found)) last it }

  -- and the session goes on behind it
  pub heard_by_line : (kept : Option Rows) (rows_then : Option Gathering) (line : Line) (request : Request) (result : Result (Unit {0}) Stop) (came : Result Heard Stop) → came ≡ heard_of result → Completes kept line request → rows_then ≡ None
      → IsTaken gives stops taken old new user request page page_then sink sink_then result → then ≡ user_after user request.wish → is_end kept line ≡ false
      → IsHeard gives stops taken old new user then kept rows_then line page page_then sink sink_then came
  heard_by_line kept rows_then line request result came is done none it speaks more =
      subst (λ c. IsHeard gives stops taken old new user then kept rows_then line page page_then sink sink_then c) (sym is)
      (by_line kept rows_then line request (is_end kept line) (heard_of result) done none refl (goes_on_behind request (is_end kept line) result it speaks more))

  -- at a line nothing is told of a limit
  pub no_limit : (kept : Option Rows) (rows_then : Option Gathering) (line : Line) (found : Stop) → IsHeard gives stops taken old new user then kept rows_then line page page_then sink sink_then (Err found) → found ≡ stop.Limit → ⊥
  no_limit kept rows_then line (stop.Sink fault) it is = cc
  no_limit kept rows_then line (stop.Kept why) it is = cc
  no_limit kept rows_then line stop.Limit it is = it.came
  no_limit kept rows_then line stop.Quit it is = cc

-- a line that isn't in the grammar
pub told : {S K : Type 0} (gives : S → Name → Request → Reply → S → Type 0) (stops : S → Name → Request → Why → S → Type 0) (taken : K → Option (List ℕ)) (old new : S) (user : Name) (page page_then : List ℕ) (sink sink_then : K) (rows : Option Gathering) (number : ℕ) (line : Option (List ℕ)) (bad : Bad)
    (result : Result (Unit {0}) Stop) (came : Result Heard Stop) → came ≡ heard_of result → reading (number, line) ≡ Err bad → is_blank_line (number, line) ≡ false → rows ≡ None
    → IsTaken gives stops taken old new user (to_tell number bad) page page_then sink sink_then result
    → IsHeard gives stops taken old new user user None rows (number, line) page page_then sink sink_then came
told gives stops taken old new user page page_then sink sink_then rows number line bad result came comes is some none it =
    heard_by_line gives stops taken old new user user page page_then sink sink_then None rows (number, line) (to_tell number bad) result came comes (record { some = some; all = ap (begun number) is }) none it refl (ap is_quit is)

-- a line that is too long
pub long_line : (number : ℕ) (line : Option (List ℕ)) → line ≡ None → reading (number, line) ≡ Err bads.Long
unfolding reading
long_line number line is = ap (λ l. reading (number, l)) is

-- a LOAD begins
pub load_begins : (number : ℕ) (read : Result Command Bad) (scenario : Name) (count : ℕ) → read ≡ Ok (commands.Load scenario count) → 1 ≤ count → begun number read ≡ ([], Some (begun_rows number scenario count))
load_begins number read scenario count is some =
    let short : nat_le count 0 ≡ false = grind (arith, nat_tests) in
    ap (begun number) is ∙ ap (settled_by (begun_rows number scenario count)) short

-- another command is whole with its line
pub other_begins : (number : ℕ) (command : Command) → ((scenario : Name) (count : ℕ) → command ≡ commands.Load scenario count → ⊥) → begun number (Ok command) ≡ (record { line = number; wish = wish_of command } ∷ [], None)
other_begins number (commands.Load scenario count) other = absurd (other scenario count refl)
other_begins number command other = refl
