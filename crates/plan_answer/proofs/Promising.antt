-- What can be promised, day by day.
use Rattle.std.proofs.Common.{◌≡◌, ℕ, ◌+◌, List, [], ◌∷◌, map}
use Rattle.std.specs.Prelude.{slice_index, decimal}
use Rattle.std.specs.List.{range_with_len}
use Rattle.plan_schema.specs.Day.{day_text}
use Rattle.planning_rules.specs.Netting.{Lists}
use Rattle.planning_rules.specs.Promise.{promise_on}
use Rattle.row_text.specs.Spelling.{words_text}
use Rattle.session_rules.specs.Answers.{promise_line}
use Rattle.plan_answer.specs.Replies.{promised_line}

pub promised_same : (start days : ℕ) (promised : List ℕ) (lists : Lists) → ((day : ℕ) → slice_index promised day ≡ promise_on lists day)
    → map (promised_line start promised) (range_with_len 0 days) ≡ map (promise_line start lists) (range_with_len 0 days)
promised_same start days promised lists each = λ i. map (λ day. words_text (day_text (start + day) ∷ decimal (each day i) ∷ [])) (range_with_len 0 days)
