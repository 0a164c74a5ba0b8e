-- What the last line came to.
use Rattle.std.proofs.Common.{◌≡◌, ℕ, ◌+◌, List, [], length, Option, Err, refl, ap, ◌∙◌, length-append, arith}
use Rattle.plan_schema.specs.declared.name.Name.{Name}
use Rattle.command_words.specs.declared.reply.Reply.{Reply}
use Rattle.session_rules.specs.Requests.{Request}
use Rattle.byte_lines.specs.Lines.{lines_after}
use Rattle.request_loop.specs.declared.answers.Why.{Why}
use Rattle.request_loop.specs.declared.gathering.Gathering.{Gathering}
use Rattle.request_loop.specs.declared.hear.Stop.{Stop}
use Rattle.request_loop.specs.declared.hear.Stop.TheVariants as stop
use Rattle.request_loop.specs.Serving.{SoFar, ServedMore, ServedLast}
use Rattle.request_loop.proofs.Limits.{one_left}

module _ {S : Type 0} (gives : S → Name → Request → Reply → S → Type 0) (stops : S → Name → Request → Why → S → Type 0) (old now new : S) (input : List ℕ) (kept : Option (List ℕ)) (lines requests : ℕ) (user : Name) (rows : Option Gathering) (page : List ℕ) (before taken : Option (List ℕ))
    (so_far : SoFar gives stops old now input (lines_after kept []) lines requests user rows page before taken) where
  -- all lines were read
  pub as_last : (lines_then requests_then : ℕ) (user_then : Name) (rows_then : Option Gathering) (page_then : List ℕ) (then : Option (List ℕ)) (found : Stop) → ((why : Why) → found ≡ stop.Kept why → lines_then ≡ lines + 1)
      → ServedMore gives stops old new input [] lines_then requests_then user_then rows_then page_then before then (Err found) → ServedLast gives stops old new input lines_then requests_then user_then page_then before then (Err found)
  as_last lines_then requests_then user_then rows_then page_then then (stop.Sink fault) one h = h
  as_last lines_then requests_then user_then rows_then page_then then (stop.Kept why) one h =
      record {
        short = h.short;
        few =
            let all = ap length so_far.whole ∙ length-append so_far.read (lines_after kept []) in
            let counted = so_far.counted in let left = one_left kept in let few = h.few in let more = one why refl in
            omega (arith, all, counted, left, few, more);
      }
  as_last lines_then requests_then user_then rows_then page_then then stop.Limit one h = h
  as_last lines_then requests_then user_then rows_then page_then then stop.Quit one h = h
