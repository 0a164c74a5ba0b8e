-- What stands behind the first sixteen words of a line is not looked at.
use Rattle.std.proofs.Common.{◌≡◌, ℕ, List, [], ◌∷◌, take, drop, cond, nat_eq, Option, Some, None, Result, Ok, Err, refl, ap, ◌∙◌, arith}
use Rattle.std.specs.Prelude.{codes}
use Rattle.std.specs.Cmp.Lexicographic.{pointwise}
use Rattle.plan_schema.specs.declared.fault.Rule.TheVariants.{Shape}
use Rattle.plan_schema.specs.declared.fault.FieldFault.{FieldFault}
use Rattle.plan_schema.specs.declared.change.CellName.TheVariants as cells
use Rattle.row_text.specs.Row as rows
use Rattle.row_text.specs.Row.{◌>>=◌, text_at}
use Rattle.row_text.proofs.Fewer.{text_few, end_few, name_few, number_few, day_few, row_few, key_few}
use Rattle.command_words.specs.Words.{words_of, first_words, query_of}
use Rattle.command_words.specs.Verbs.{verb_of}
use Rattle.command_words.specs.Commands.{only_name, two_names, behind_scenario, hello_of, point_of, put_of, del_of, load_of, branch_of, share_of, update_of, commit_of, drop_of, tree_of, plan_cell_of, cal_cell_of, part_cell_of, cell_of_word, show_of, level_of, plan_of, peg_of, trace_of, atp_of, cost_of, select_of, reclaim_of, quit_of, command_of_verb, in_fields, with_verb, with_word, command_of, row_of}
use Rattle.command_words.specs.declared.verb.Verb.{Verb}
use Rattle.command_words.specs.declared.verb.Verb.TheVariants as verbs
use Rattle.command_words.specs.declared.command.Command.TheVariants as commands

only_few : (ws : List (List ℕ)) → only_name (take 10 ws) ≡ only_name ws
unfolding only_name
only_few ws = λ i. do
  name ← name_few 10 1 ws (omega arith) i
  _ ← end_few 10 2 ws (omega arith) i
  Ok name

two_few : (ws : List (List ℕ)) → two_names (take 10 ws) ≡ two_names ws
unfolding two_names
two_few ws = λ i. do
  first ← name_few 10 1 ws (omega arith) i
  second ← name_few 10 2 ws (omega arith) i
  _ ← end_few 10 3 ws (omega arith) i
  Ok (first, second)

-- behind the scenario
behind_few : (ws : List (List ℕ)) → drop 2 (take 10 ws) ≡ take 8 (drop 2 ws)
behind_few [] = refl
behind_few (_ ∷ []) = refl
behind_few (_ ∷ _ ∷ ws) = refl

put_few : (ws : List (List ℕ)) → put_of (take 10 ws) ≡ put_of ws
unfolding put_of
put_few ws =
    let row : rows.row_of (drop 2 (take 10 ws)) ≡ rows.row_of (drop 2 ws) = ap rows.row_of (behind_few ws) ∙ row_few 8 (drop 2 ws) (omega arith) in
    λ i. do
      scenario ← name_few 10 1 ws (omega arith) i
      row ← behind_scenario (row i)
      Ok (commands.Put scenario row.0 row.1)

del_few : (ws : List (List ℕ)) → del_of (take 10 ws) ≡ del_of ws
unfolding del_of
del_few ws =
    let key : rows.key_of (drop 2 (take 10 ws)) ≡ rows.key_of (drop 2 ws) = ap rows.key_of (behind_few ws) ∙ key_few 8 (drop 2 ws) (omega arith) in
    λ i. do
      scenario ← name_few 10 1 ws (omega arith) i
      key ← behind_scenario (key i)
      Ok (commands.Del scenario key)

load_few : (ws : List (List ℕ)) → load_of (take 10 ws) ≡ load_of ws
unfolding load_of
load_few ws = λ i. do
  scenario ← name_few 10 1 ws (omega arith) i
  count ← number_few 10 2 1 1_000 ws (omega arith) i
  _ ← end_few 10 3 ws (omega arith) i
  Ok (commands.Load scenario count)

plan_cell_few : (ws : List (List ℕ)) → plan_cell_of (take 10 ws) ≡ plan_cell_of ws
unfolding plan_cell_of
plan_cell_few ws = λ i. do
  _ ← end_few 10 3 ws (omega arith) i
  Ok cells.Plan

cal_cell_few : (ws : List (List ℕ)) → cal_cell_of (take 10 ws) ≡ cal_cell_of ws
unfolding cal_cell_of
cal_cell_few ws = λ i. do
  name ← name_few 10 3 ws (omega arith) i
  _ ← end_few 10 4 ws (omega arith) i
  Ok (cells.Cal name)

part_cell_few : (ws : List (List ℕ)) → part_cell_of (take 10 ws) ≡ part_cell_of ws
unfolding part_cell_of
part_cell_few ws = λ i. do
  name ← name_few 10 3 ws (omega arith) i
  _ ← end_few 10 4 ws (omega arith) i
  Ok (cells.Part name)

cell_few : (word : List ℕ) (ws : List (List ℕ)) → cell_of_word word (take 10 ws) ≡ cell_of_word word ws
unfolding cell_of_word
cell_few word ws = λ i.
    cond (pointwise nat_eq word (codes "PLAN")) (plan_cell_few ws i)
    (cond (pointwise nat_eq word (codes "CAL")) (cal_cell_few ws i)
    (cond (pointwise nat_eq word (codes "PART")) (part_cell_few ws i) (Err (record { field = 2; rule = Shape }))))

show_few : (ws : List (List ℕ)) → show_of (take 10 ws) ≡ show_of ws
unfolding show_of
show_few ws = λ i. do
  scenario ← name_few 10 1 ws (omega arith) i
  word ← text_few 10 2 ws (omega arith) i
  cell ← cell_few word ws i
  Ok (commands.Show scenario cell)

peg_few : (ws : List (List ℕ)) → peg_of (take 10 ws) ≡ peg_of ws
unfolding peg_of
peg_few ws = λ i. do
  scenario ← name_few 10 1 ws (omega arith) i
  part ← name_few 10 2 ws (omega arith) i
  day ← day_few 10 3 ws (omega arith) i
  _ ← end_few 10 4 ws (omega arith) i
  Ok (commands.Peg scenario part day)

trace_few : (ws : List (List ℕ)) → trace_of (take 10 ws) ≡ trace_of ws
unfolding trace_of
trace_few ws = λ i. do
  scenario ← name_few 10 1 ws (omega arith) i
  part ← name_few 10 2 ws (omega arith) i
  day ← day_few 10 3 ws (omega arith) i
  _ ← end_few 10 4 ws (omega arith) i
  Ok (commands.Trace scenario part day)

select_few : (line : List ℕ) (ws : List (List ℕ)) → select_of line (take 10 ws) ≡ select_of line ws
unfolding select_of
select_few line ws = λ i. do
  scenario ← name_few 10 1 ws (omega arith) i
  _ ← text_few 10 2 ws (omega arith) i
  Ok (commands.Select scenario (query_of line))

verb_few : (verb : Verb) (line : List ℕ) (ws : List (List ℕ)) → command_of_verb verb line (take 10 ws) ≡ command_of_verb verb line ws
unfolding command_of_verb hello_of point_of branch_of share_of update_of commit_of drop_of tree_of level_of plan_of atp_of cost_of reclaim_of quit_of
verb_few verbs.Hello line ws = λ i. only_few ws i >>= (λ user. Ok (commands.Hello user))
verb_few verbs.Point line ws = λ i. end_few 10 1 ws (omega arith) i >>= (λ _. Ok commands.Point)
verb_few verbs.Put line ws = put_few ws
verb_few verbs.Del line ws = del_few ws
verb_few verbs.Load line ws = load_few ws
verb_few verbs.Branch line ws = λ i. two_few ws i >>= (λ names. Ok (commands.Branch names.0 names.1))
verb_few verbs.Share line ws = λ i. only_few ws i >>= (λ scenario. Ok (commands.Share scenario))
verb_few verbs.Update line ws = λ i. only_few ws i >>= (λ scenario. Ok (commands.Update scenario))
verb_few verbs.Commit line ws = λ i. only_few ws i >>= (λ scenario. Ok (commands.Commit scenario))
verb_few verbs.Drop line ws = λ i. only_few ws i >>= (λ scenario. Ok (commands.Drop scenario))
verb_few verbs.Tree line ws = λ i. end_few 10 1 ws (omega arith) i >>= (λ _. Ok commands.Tree)
verb_few verbs.Show line ws = show_few ws
verb_few verbs.Level line ws = λ i. two_few ws i >>= (λ names. Ok (commands.Level names.0 names.1))
verb_few verbs.Plan line ws = λ i. two_few ws i >>= (λ names. Ok (commands.Plan names.0 names.1))
verb_few verbs.Peg line ws = peg_few ws
verb_few verbs.Trace line ws = trace_few ws
verb_few verbs.Atp line ws = λ i. two_few ws i >>= (λ names. Ok (commands.Atp names.0 names.1))
verb_few verbs.Cost line ws = λ i. two_few ws i >>= (λ names. Ok (commands.Cost names.0 names.1))
verb_few verbs.Select line ws = select_few line ws
verb_few verbs.Reclaim line ws = λ i. end_few 10 1 ws (omega arith) i >>= (λ _. Ok commands.Reclaim)
verb_few verbs.Quit line ws = λ i. end_few 10 1 ws (omega arith) i >>= (λ _. Ok commands.Quit)

word_few : (word : List ℕ) (line : List ℕ) (ws : List (List ℕ)) → with_verb (verb_of word) line (take 10 ws) ≡ with_verb (verb_of word) line ws
word_few word line ws = by_verb (verb_of word)
  where
    by_verb : (o : Option Verb) → with_verb o line (take 10 ws) ≡ with_verb o line ws
    by_verb (Some verb) = ap in_fields (verb_few verb line ws)
    by_verb None = refl

-- a line is the command that its first words tell
pub line_few : (line : List ℕ) (ws : List (List ℕ)) → ws ≡ first_words line → with_word (text_at ws 0) line ws ≡ command_of line
unfolding first_words command_of
line_few line ws is = ap (λ some. with_word (text_at some 0) line some) is ∙ by_first (text_at (take 10 (words_of line)) 0) (text_at (words_of line) 0) (text_few 10 0 (words_of line) (omega arith))
  where
    all : List (List ℕ)
    all = words_of line

    by_first : (few first : Result (List ℕ) FieldFault) → few ≡ first → with_word few line (take 10 all) ≡ with_word first line all
    by_first few (Ok word) e = ap (λ r. with_word r line (take 10 all)) e ∙ word_few word line all
    by_first few (Err fault) e = ap (λ r. with_word r line (take 10 all)) e

-- and the row that they tell
pub row_line_few : (line : List ℕ) (ws : List (List ℕ)) → ws ≡ first_words line → rows.row_of ws ≡ row_of line
unfolding first_words row_of
row_line_few line ws is = ap rows.row_of is ∙ row_few 10 (words_of line) (omega arith)
