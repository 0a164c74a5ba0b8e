-- What an answer prints: the number of entries it stands behind.
use Rattle.std.proofs.Common.{◌≡◌, ℕ, List, length, Option, Some, None, refl}
use Rattle.std.specs.Prelude.{IfSome}
use Rattle.std.specs.Result.{result_ok}
use Rattle.plan_schema.specs.declared.name.Name.{Name}
use Rattle.plan_schema.specs.declared.refusal.Refusal.{Refusal}
use Rattle.plan_schema.specs.declared.change.Entry.{Entry}
use Rattle.plan_schema.specs.Contents.{Contents}
use Rattle.query_language.specs.Trees.{QueryTree}
use Rattle.query_language.specs.Growing.{query_of}
use Rattle.scenario_rules.specs.World.{World, contents_in}
use Rattle.scenario_rules.specs.Steps.{world_after}
use Rattle.command_words.specs.declared.command.Command.{Command}
use Rattle.command_words.specs.declared.command.Command.TheVariants as commands
use Rattle.command_words.specs.declared.reply.Reply.{Reply}
use Rattle.command_words.specs.declared.reply.Reply.TheVariants as replies
use Rattle.session_rules.specs.Answers.{answer, query_reply, select_answer}

-- a reply that prints this point
abbrev pub Prints : ℕ → Reply → Type 0
Prints n (replies.Ok point) = point ≡ n
Prints n (replies.Rows point lines) = point ≡ n
Prints n (replies.No point refusal) = point ≡ n
Prints n (replies.Bad bad) = ⊥
Prints n replies.Mem = ⊥

query_prints : (n : ℕ) (refusal : Option Refusal) (lines : List (List ℕ)) → Prints n (query_reply n refusal lines)
query_prints n None lines = refl
query_prints n (Some refusal) lines = refl

select_prints : (world : World) (n : ℕ) (user scenario : Name) (c : Contents) (query : Option QueryTree) → IfSome (select_answer world n user scenario c query) (Prints n)
select_prints world n user scenario c None = tt
select_prints world n user scenario c (Some query) = query_prints n _ _

-- each answer prints the number of entries
pub answer_prints : (base : Contents) (entries : List Entry) (user : Name) (command : Command) → IfSome (answer base entries user command) (Prints (length entries))
unfolding answer
answer_prints base entries user (commands.Hello name) = refl
answer_prints base entries user commands.Point = refl
answer_prints base entries user commands.Reclaim = refl
answer_prints base entries user commands.Quit = refl
answer_prints base entries user commands.Tree = refl
answer_prints base entries user (commands.Show scenario cell) = query_prints (length entries) _ _
answer_prints base entries user (commands.Level scenario part) = query_prints (length entries) _ _
answer_prints base entries user (commands.Plan scenario part) = query_prints (length entries) _ _
answer_prints base entries user (commands.Peg scenario part day) = query_prints (length entries) _ _
answer_prints base entries user (commands.Trace scenario part day) = query_prints (length entries) _ _
answer_prints base entries user (commands.Atp scenario part) = query_prints (length entries) _ _
answer_prints base entries user (commands.Cost scenario part) = query_prints (length entries) _ _
answer_prints base entries user (commands.Select scenario text) =
    let world = world_after base entries in
    select_prints world (length entries) user scenario (contents_in world scenario) (result_ok (query_of text))
answer_prints base entries user _ = tt
