-- What a question is answered over records that are planned in full.
use Rattle.std.specs.Prelude.{ℕ, ◌+◌, ◌-◌, slice_index, decimal, List, [], ◌∷◌, Option, None, map}
use Rattle.std.specs.List.{range_with_len}
use Rattle.plan_schema.specs.declared.refusal.Refusal.{Refusal}
use Rattle.plan_schema.specs.Contents.{Contents, cell_rows}
use Rattle.plan_schema.specs.Refusals.{first_of}
use Rattle.plan_schema.specs.Day.{day_text}
use Rattle.row_text.specs.Spelling.{row_text, words_text}
use Rattle.planning_rules.specs.Bills.{level}
use Rattle.planning_rules.specs.Days.{start_of, days_of}
use Rattle.planning_rules.specs.Pegs.{pegs, no_day}
use Rattle.planning_rules.specs.Plan.{plan}
use Rattle.planning_rules.specs.Refused.{plan_refusal, level_refusal}
use Rattle.planning_rules.specs.Trace.{trace}
use Rattle.query_rules.specs.Lines.{select_lines}
use Rattle.query_rules.specs.Queries.{query_refusal}
use Rattle.command_words.specs.declared.reply.Reply.{Reply}
use Rattle.session_rules.specs.Answers.{lists_of, plan_lines, level_line, peg_line, share_line, promise_line, costs_refusal, costs_lines, query_reply}
use Rattle.plan_answer.specs.Asks.{Question, ShowsCell, TellsLevel, TellsPlan, Pegs, Traces, Promises, TellsCosts, Selects}

-- why a question is refused, where its scenario may be used
abbrev pub question_refusal : Contents → Question → Option Refusal
question_refusal c (ShowsCell cell) = None
question_refusal c (TellsLevel part) = level_refusal c part
question_refusal c (TellsPlan part) = plan_refusal c (part ∷ [])
question_refusal c (Pegs part day) = first_of (plan_refusal c (part ∷ []) ∷ no_day c day ∷ [])
question_refusal c (Traces part day) = first_of (plan_refusal c (part ∷ []) ∷ no_day c day ∷ [])
question_refusal c (Promises part) = plan_refusal c (part ∷ [])
question_refusal c (TellsCosts part) = first_of (plan_refusal c (part ∷ []) ∷ costs_refusal c part ∷ [])
question_refusal c (Selects query) = query_refusal c query

-- the lines of its answer
abbrev pub question_lines : Contents → Question → List (List ℕ)
question_lines c (ShowsCell cell) = map (λ row. row_text row.0 row.1) (cell_rows c cell)
question_lines c (TellsLevel part) = level_line part (level c part) ∷ []
question_lines c (TellsPlan part) = plan_lines (start_of c) (days_of c) (lists_of (plan c part))
question_lines c (Pegs part day) = map peg_line (pegs c part (day - start_of c))
question_lines c (Traces part day) = map share_line (trace c part (day - start_of c))
question_lines c (Promises part) = map (promise_line (start_of c) (lists_of (plan c part))) (range_with_len 0 (days_of c))
question_lines c (TellsCosts part) = costs_lines c part
question_lines c (Selects query) = select_lines c query

-- the reply at a point
abbrev pub reply_of : ℕ → Contents → Question → Reply
reply_of point c question = query_reply point (question_refusal c question) (question_lines c question)

-- the line of a day with what of a list can be promised on it
abbrev pub promised_line : ℕ → List ℕ → ℕ → List ℕ
promised_line start promised day = words_text (day_text (start + day) ∷ decimal (slice_index promised day) ∷ [])
