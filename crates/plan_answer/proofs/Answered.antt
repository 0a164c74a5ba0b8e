-- Commands that are questions, and their answers in sessions.
use Rattle.std.proofs.Common.{◌≡◌, ℕ, List, length, refl, ap, true, ◌&&◌}
use Rattle.std.proofs.lemmas.Bool.{and_parts}
use Rattle.std.specs.Prelude.{Option, Some, None, Result, Ok, Err, is_ok, is_some, option_map}
use Rattle.std.specs.Result.{result_ok}
use Rattle.plan_schema.specs.declared.name.Name.{Name}
use Rattle.scenario_rules.specs.World.{World, contents_in}
use Rattle.scenario_rules.specs.Steps.{world_after}
use Rattle.query_language.specs.Trees.{QueryTree}
use Rattle.query_language.specs.declared.fault.QueryFault.{QueryFault}
use Rattle.query_language.specs.Growing.{query_of}
use Rattle.query_language.specs.Reading.{check_of}
use Rattle.query_language.proofs.Readings.{query_is_checked, query_is_read}
use Rattle.plan_schema.specs.Name.{is_name}
use Rattle.command_words.specs.Spelling.{is_query_text, is_query}
use Rattle.command_words.specs.declared.command.Command.TheVariants as commands
use Rattle.plan_jobs.specs.declared.job.Wanted.TheVariants as wants
use Rattle.session_rules.specs.Answers.{answer, select_answer}
use Rattle.plan_answer.specs.Asks.{Selects}
use Rattle.plan_answer.specs.Laws.{AsksWhereItWants, QuestionIsAnswered, reply_in}

checked : (r : Result (Unit {0}) QueryFault) → is_ok r ≡ true → r ≡ Ok tt
checked (Ok _) h = refl
checked (Err fault) h = absurd (let never : ⊥ = cc in never)

-- a text of the language of queries is read as one
read : (text : List ℕ) → is_query text ≡ true → is_some (option_map Selects (result_ok (query_of text))) ≡ true
read text h =
    let tree = (query_is_checked text).0 (checked (check_of text) h) in
    ap (λ (r : Result QueryTree QueryFault). is_some (option_map Selects (result_ok r))) (query_is_read text tree.0 tree.1)

pub asks_where_it_wants : AsksWhereItWants
asks_where_it_wants (commands.Select scenario text) sound =
    let two = and_parts (is_name scenario) (is_query_text text && is_query text) sound in
    read text (and_parts (is_query_text text) (is_query text) two.1).1
asks_where_it_wants _ sound = refl

selected : (world : World) (point : ℕ) (user scenario : Name) (query : Option QueryTree)
    → select_answer world point user scenario (contents_in world scenario) query ≡ reply_in world point user (Some (scenario, wants.All)) (option_map Selects query)
selected world point user scenario None = refl
selected world point user scenario (Some query) = refl

pub answered : QuestionIsAnswered
unfolding answer
answered base history user (commands.Show scenario cell) some = refl
answered base history user (commands.Level scenario part) some = refl
answered base history user (commands.Plan scenario part) some = refl
answered base history user (commands.Peg scenario part day) some = refl
answered base history user (commands.Trace scenario part day) some = refl
answered base history user (commands.Atp scenario part) some = refl
answered base history user (commands.Cost scenario part) some = refl
answered base history user (commands.Select scenario text) some = selected (world_after base history) (length history) user scenario (result_ok (query_of text))
answered base history user _ some = cc
