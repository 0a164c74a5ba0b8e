-- Worked examples, by computation: verdicts on small runs.
use Rattle.std.specs.Prelude.{◌≡◌, ℕ, List, [], ◌∷◌, ◌++◌, map, None, codes}
use Rattle.std.proofs.Common.{refl}
use Rattle.std.specs.Fmt.{digits}
use Rattle.plan_schema.specs.declared.key.Key.TheVariants as keys
use Rattle.plan_schema.specs.declared.key.Record.TheVariants as records
use Rattle.plan_schema.specs.declared.key.Lot.TheVariants as lots
use Rattle.plan_schema.specs.declared.change.Change.TheVariants as changes
use Rattle.plan_schema.specs.declared.change.Entry.{Entry}
use Rattle.plan_schema.specs.Contents.{Contents}
use Rattle.plan_schema.specs.Name.{is_name}
use Rattle.row_text.specs.Number.{number_of}
use Rattle.row_text.specs.Row.{name_at, name_in, text_at, end_at, row_of, row_of_table}
use Rattle.row_text.specs.Row as row_words
use Rattle.scenario_rules.specs.World.{root}
use Rattle.byte_lines.specs.Lines.{lines_of, text_of_line, lines_from}
use Rattle.command_words.specs.Words.{words_of}
use Rattle.command_words.specs.Commands.{command_of, command_of_verb, hello_of, point_of, put_of, only_name}
use Rattle.command_words.specs.Verbs.{verb_of}
use Rattle.command_words.specs.Forms.{whole_reply}
use Rattle.command_words.specs.Replies.{reply_text, head_words, bad_words, refusal_words}
use Rattle.session_rules.specs.Requests.{requests_within, reading}
use Rattle.session_rules.specs.Answers.{answer}
use Rattle.request_loop.specs.Reading.{requests_ending}
use Rattle.request_loop.specs.Serving.{lines_within, is_past_limit}
use Rattle.plan_audit.specs.declared.verdict.AuditRule.{AuditRule}
use Rattle.plan_audit.specs.declared.verdict.AuditRule.TheVariants as rules
use Rattle.plan_audit.specs.declared.verdict.Verdict.TheVariants as verdicts
use Rattle.plan_audit.specs.Inputs.{heard}
use Rattle.plan_audit.specs.Judging.{seen_after, all_seen}
use Rattle.plan_audit.specs.Verdicts.{Pair, Finding, Judges, session_seen, round_seen, rounds_seen, first_refused, first_lost, audited}

-- part A with 30 on hand, in a horizon of five days from 2025-03-03
abbrev one_part : Contents
one_part =
    (keys.Plan, records.Plan 9193 5) ∷ (keys.Part (codes "A"), records.Part 2 lots.Exact 0 None) ∷ (keys.Stock (codes "A"), records.Stock 30) ∷ []

-- the stock of A is put by a user in the second line of a session
abbrev restock : ℕ → List ℕ → Entry
restock session user = record { session = session; line = 2; user = user; change = changes.Put root (keys.Stock (codes "A")) (records.Stock 40) }

-- a planner's session
abbrev input : List ℕ
input = codes "HELLO ann\nPUT Baseline STOCK A 40\n\nFOO\nPOINT\n"

abbrev one_session : List ℕ → List (List Pair)
one_session output = (record { input = input; output = output } ∷ []) ∷ []

-- what this session may have written, where the change was entered
abbrev right_output : List ℕ
right_output = codes "OK @0\nOK @1\nBAD word\nOK @1\n"

abbrev broken : ℕ → ℕ → AuditRule → Finding
broken session line rule = Judges (verdicts.NotLegal session line rule)

-- the verdicts on what it may have written: the change was passed over, nothing was written, a reply isn't in form, a point is above the
-- ceiling, points go back, a request that isn't in the grammar got no memory, a change was refused for nothing, a line stands behind
each_output_has_its_verdict : map (λ output. audited one_part (restock 1 (codes "ann") ∷ []) (one_session output))
    (right_output
    ∷ codes "OK @0\nMEM\nBAD word\nOK @0\n"
    ∷ []
    ∷ codes "OK @0\nOK @1\nBAD\n"
    ∷ codes "OK @0\nOK @2\nBAD word\nOK @2\n"
    ∷ codes "OK @1\nOK @0\nBAD word\nOK @0\n"
    ∷ codes "OK @0\nOK @1\nMEM\nOK @1\n"
    ∷ codes "OK @0\nNO @0 full journal\nBAD word\nOK @1\n"
    ∷ (right_output ++ codes "MEM\n")
    ∷ [])
    ≡ Judges verdicts.Legal
    ∷ broken 1 2 rules.Lost
    ∷ broken 1 1 rules.Short
    ∷ broken 1 4 rules.Form
    ∷ broken 1 2 rules.Point
    ∷ broken 1 2 rules.Point
    ∷ broken 1 4 rules.Answer
    ∷ broken 1 2 rules.Answer
    ∷ broken 1 5 rules.Extra
    ∷ []
unfolding audited first_refused first_lost rounds_seen round_seen session_seen all_seen seen_after heard is_past_limit lines_within lines_from requests_ending requests_within reading words_of command_of command_of_verb verb_of hello_of point_of put_of only_name lines_of text_of_line name_at text_at end_at name_in is_name row_of row_of_table row_words.number_at row_words.stock_of whole_reply number_of answer reply_text head_words bad_words refusal_words digits
each_output_has_its_verdict = refl

-- the verdicts on the right output by the journal: the entry is another user's, an entry is of a session that the run doesn't have, an
-- entry takes a record away that isn't there
each_journal_has_its_verdict : map (λ entries. audited one_part entries (one_session right_output))
    ((restock 1 (codes "bob") ∷ [])
    ∷ (restock 1 (codes "ann") ∷ restock 3 (codes "bob") ∷ [])
    ∷ (record { session = 1; line = 2; user = codes "ann"; change = changes.Del root (keys.Stock (codes "B")) } ∷ [])
    ∷ [])
    ≡ broken 1 2 rules.Entry
    ∷ broken 3 2 rules.Lost
    ∷ Judges (verdicts.Journal 1)
    ∷ []
unfolding audited first_refused first_lost rounds_seen round_seen session_seen all_seen seen_after heard is_past_limit lines_within lines_from requests_ending requests_within reading words_of command_of command_of_verb verb_of hello_of point_of put_of only_name lines_of text_of_line name_at text_at end_at name_in is_name row_of row_of_table row_words.number_at row_words.stock_of whole_reply number_of answer reply_text head_words bad_words refusal_words digits
each_journal_has_its_verdict = refl

-- a session that looks, in the same round or behind: there it must know the change; before it, the planner comes too late for his entry
abbrev looking : List ℕ → Pair
looking output = record { input = codes "POINT\n"; output = output }

abbrev planning : Pair
planning = record { input = input; output = right_output }

each_round_has_its_floor : map (λ rounds. audited one_part (restock 1 (codes "ann") ∷ []) rounds)
    (((planning ∷ looking (codes "OK @0\n") ∷ []) ∷ [])
    ∷ ((planning ∷ []) ∷ (looking (codes "OK @0\n") ∷ []) ∷ [])
    ∷ ((planning ∷ []) ∷ (looking (codes "OK @1\n") ∷ []) ∷ [])
    ∷ ((looking (codes "OK @1\n") ∷ []) ∷ (planning ∷ []) ∷ [])
    ∷ [])
    ≡ Judges verdicts.Legal
    ∷ broken 2 1 rules.Point
    ∷ Judges verdicts.Legal
    ∷ broken 2 1 rules.Point
    ∷ []
unfolding audited first_refused first_lost rounds_seen round_seen session_seen all_seen seen_after heard is_past_limit lines_within lines_from requests_ending requests_within reading words_of command_of command_of_verb verb_of hello_of point_of put_of only_name lines_of text_of_line name_at text_at end_at name_in is_name row_of row_of_table row_words.number_at row_words.stock_of whole_reply number_of answer reply_text head_words bad_words refusal_words digits
each_round_has_its_floor = refl
