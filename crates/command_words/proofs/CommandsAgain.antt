-- A sound command is read from its spelling.
use Rattle.std.proofs.Common.{◌≡◌, ℕ, ◌<◌, ◌≤◌, ◌^◌, true, not, ◌&&◌, nat_le, List, [], ◌∷◌, reverse, Result, Ok, Err, refl, ap, ◌∙◌, append-nil, arith}
use Rattle.std.specs.Prelude.{decimal, is_ok}
use Rattle.std.specs.List.{list_all}
use Rattle.std.proofs.lemmas.Bool.{and_parts}
use Rattle.std.proofs.lemmas.Bool.Decides.{nat_tests}
use Rattle.plan_schema.specs.declared.key.Key.TheVariants as keys
use Rattle.plan_schema.specs.declared.change.CellName.{CellName}
use Rattle.plan_schema.specs.declared.change.CellName.TheVariants as cells
use Rattle.plan_schema.specs.Name.{is_name}
use Rattle.plan_schema.specs.Day.{is_day, day_text}
use Rattle.plan_schema.specs.Key.{key_eq}
use Rattle.plan_schema.specs.Sound.{is_sound_key, is_sound_row, key_has_names, are_apart}
use Rattle.plan_schema.proofs.DayLaws.{day_read_again}
use Rattle.row_text.specs.Row.{name_in, name_at, number_at, day_at, text_at, end_at}
use Rattle.row_text.specs.Spelling.{words_text, key_fields, row_fields}
use Rattle.row_text.proofs.Fields.{and_true, number_again}
use Rattle.row_text.proofs.Rows.{row_again}
use Rattle.row_text.proofs.KeyForms.{key_again}
use Rattle.query_language.specs.Reading.{check_of}
use Rattle.query_language.specs.declared.fault.QueryFault.{QueryFault}
use Rattle.command_words.specs.Words.{is_word, words_of, query_of}
use Rattle.command_words.specs.Verbs.{verb_word, verb_of}
use Rattle.command_words.specs.Commands.{only_name, two_names, hello_of, point_of, put_of, del_of, load_of, branch_of, share_of, update_of, commit_of, drop_of, tree_of, plan_cell_of, cal_cell_of, part_cell_of, cell_of_word, show_of, level_of, plan_of, peg_of, trace_of, atp_of, cost_of, select_of, reclaim_of, quit_of, command_of_verb, with_word, command_of}
use Rattle.command_words.specs.Spelling.{cell_fields, cell_has_name, words_of_command, command_text, begins_with_word, is_query_text, is_query, is_sound_command}
use Rattle.command_words.specs.declared.verb.Verb.TheVariants as verbs
use Rattle.command_words.specs.declared.command.Command.{Command}
use Rattle.command_words.specs.declared.command.Command.TheVariants as commands
use Rattle.command_words.proofs.Again.{is_not, words_again}
use Rattle.command_words.proofs.Queries.{line_of, query_words, words_of_line, query_of_line}
use Rattle.command_words.proofs.Seen.{is_seen_word, seen_word, seen_words, name_seen, number_seen, day_seen, one_seen}
use Rattle.command_words.proofs.ShortWords.{key_seen, row_seen}

up_to_seen : (n most : ℕ) → most < 2 ^ 32 → nat_le n most ≡ true → is_seen_word (decimal n) ≡ true
up_to_seen n most big h = number_seen n (let below : n ≤ most = grind (arith, nat_tests) in omega (arith, below))

-- commands but SELECT ---------------------------------------------------------------------------------------------------------

-- a line is read by its words
by_words : (line : List ℕ) (words : List (List ℕ)) (command : Command) → words_of line ≡ words → with_word (text_at words 0) line words ≡ Ok command → command_of line ≡ Ok command
unfolding command_of
by_words line words command e h = ap (λ ws. with_word (text_at ws 0) line ws) e ∙ h

-- words that are seen, parted by single spaces
by_spelling : (words : List (List ℕ)) (command : Command) → list_all is_seen_word words ≡ true → with_word (text_at words 0) (words_text words) words ≡ Ok command → command_of (words_text words) ≡ Ok command
by_spelling words command seen h = by_words (words_text words) words command (words_again words (seen_words words seen)) h

one_again : (verb : List ℕ) (name : List ℕ) (command : Command) → is_seen_word verb ≡ true → is_name name ≡ true → with_word (text_at (verb ∷ name ∷ []) 0) (words_text (verb ∷ name ∷ [])) (verb ∷ name ∷ []) ≡ Ok command → command_of (words_text (verb ∷ name ∷ [])) ≡ Ok command
one_again verb name command seen h = by_spelling (verb ∷ name ∷ []) command (and_true seen (one_seen name (name_seen name h)))

two_again : (verb a b : List ℕ) (command : Command) → is_seen_word verb ≡ true → is_name a ≡ true → is_name b ≡ true → with_word (text_at (verb ∷ a ∷ b ∷ []) 0) (words_text (verb ∷ a ∷ b ∷ [])) (verb ∷ a ∷ b ∷ []) ≡ Ok command → command_of (words_text (verb ∷ a ∷ b ∷ [])) ≡ Ok command
two_again verb a b command seen h k = by_spelling (verb ∷ a ∷ b ∷ []) command (and_true seen (and_true (name_seen a h) (one_seen b (name_seen b k))))

cell_seen : (cell : CellName) → cell_has_name cell ≡ true → list_all is_seen_word (cell_fields cell) ≡ true
cell_seen cells.Plan h = refl
cell_seen (cells.Cal name) h = and_true refl (one_seen name (name_seen name h))
cell_seen (cells.Part name) h = and_true refl (one_seen name (name_seen name h))

show_again : (line scenario : List ℕ) (cell : CellName) → is_name scenario ≡ true → cell_has_name cell ≡ true → with_word (text_at (verb_word verbs.Show ∷ scenario ∷ cell_fields cell) 0) line (verb_word verbs.Show ∷ scenario ∷ cell_fields cell) ≡ Ok (commands.Show scenario cell)
unfolding text_at verb_of command_of_verb show_of cell_of_word plan_cell_of cal_cell_of part_cell_of name_at name_in end_at
show_again line scenario cells.Plan h k = rw h
show_again line scenario (cells.Cal name) h k = rw (h, k)
show_again line scenario (cells.Part name) h k = rw (h, k)

passed : (r : Result (Unit {0}) QueryFault) → is_ok r ≡ true → r ≡ Ok tt
passed (Ok _) h = refl
passed (Err fault) h = cc

select_again : (scenario query : List ℕ) → is_name scenario ≡ true → is_query_text query ≡ true → is_query query ≡ true → command_of (words_text (verb_word verbs.Select ∷ scenario ∷ query ∷ [])) ≡ Ok (commands.Select scenario query)
unfolding text_at verb_of command_of_verb select_of name_at name_in
select_again scenario query h q asked =
    let p = and_parts (begins_with_word query) (begins_with_word (reverse query)) q in
    let some = query_words query p.0 in
    let verb : is_word (verb_word verbs.Select) ≡ true = refl in
    let name : is_word scenario ≡ true = seen_word scenario (name_seen scenario h) in
    let line = line_of (verb_word verbs.Select) scenario query in
    let spelled : words_text (verb_word verbs.Select ∷ scenario ∷ query ∷ []) ≡ line = ap (line_of (verb_word verbs.Select) scenario) (append-nil query) in
    let words : words_of line ≡ verb_word verbs.Select ∷ scenario ∷ some.0 ∷ some.1 = words_of_line (verb_word verbs.Select) scenario query verb name ∙ ap (λ ws. verb_word verbs.Select ∷ scenario ∷ ws) some.2 in
    let kept : query_of line ≡ query = query_of_line (verb_word verbs.Select) scenario query verb name q in
    ap command_of spelled ∙ by_words line (verb_word verbs.Select ∷ scenario ∷ some.0 ∷ some.1) (commands.Select scenario query) words (rw (h, kept, passed (check_of query) asked))

pub command_again : (command : Command) → is_sound_command command ≡ true → command_of (command_text command) ≡ Ok command
unfolding words_of_command text_at verb_of command_of_verb hello_of point_of put_of del_of load_of branch_of share_of update_of commit_of drop_of tree_of level_of plan_of peg_of trace_of atp_of cost_of reclaim_of quit_of only_name two_names name_at name_in number_at day_at end_at
command_again (commands.Hello user) h = one_again (verb_word verbs.Hello) user (commands.Hello user) refl h (rw h)
command_again commands.Point h = by_spelling (verb_word verbs.Point ∷ []) commands.Point refl refl
command_again (commands.Put scenario key value) h =
    let p = and_parts (is_name scenario) (is_sound_row key value) h in
    by_spelling (verb_word verbs.Put ∷ scenario ∷ row_fields key value) (commands.Put scenario key value) (and_true refl (and_true (name_seen scenario p.0) (row_seen key value p.1))) (rw (p.0, row_again key value p.1))
command_again (commands.Del scenario key) h =
    let p = and_parts (is_name scenario) (is_sound_key key && not (key_eq key keys.Plan)) h in
    let q = and_parts (is_sound_key key) (not (key_eq key keys.Plan)) p.1 in
    let k = and_parts (key_has_names key) (are_apart key) q.0 in
    by_spelling (verb_word verbs.Del ∷ scenario ∷ key_fields key) (commands.Del scenario key) (and_true refl (and_true (name_seen scenario p.0) (key_seen key k.0))) (rw (p.0, key_again key q.0 (is_not (key_eq key keys.Plan) q.1)))
command_again (commands.Load scenario count) h =
    let p = and_parts (is_name scenario) (nat_le 1 count && nat_le count 1_000) h in
    let q = and_parts (nat_le 1 count) (nat_le count 1_000) p.1 in
    let least : 1 ≤ count = let e = q.0 in grind (arith, nat_tests) in
    let most : count ≤ 1_000 = let e = q.1 in grind (arith, nat_tests) in
    by_spelling (verb_word verbs.Load ∷ scenario ∷ decimal count ∷ []) (commands.Load scenario count)
    (and_true refl (and_true (name_seen scenario p.0) (one_seen (decimal count) (up_to_seen count 1_000 (omega arith) q.1)))) (rw (p.0, number_again 1 1_000 count (omega arith) least most))
command_again (commands.Branch parent child) h = let p = and_parts (is_name parent) (is_name child) h in two_again (verb_word verbs.Branch) parent child (commands.Branch parent child) refl p.0 p.1 (rw (p.0, p.1))
command_again (commands.Share scenario) h = one_again (verb_word verbs.Share) scenario (commands.Share scenario) refl h (rw h)
command_again (commands.Update scenario) h = one_again (verb_word verbs.Update) scenario (commands.Update scenario) refl h (rw h)
command_again (commands.Commit scenario) h = one_again (verb_word verbs.Commit) scenario (commands.Commit scenario) refl h (rw h)
command_again (commands.Drop scenario) h = one_again (verb_word verbs.Drop) scenario (commands.Drop scenario) refl h (rw h)
command_again commands.Tree h = by_spelling (verb_word verbs.Tree ∷ []) commands.Tree refl refl
command_again (commands.Show scenario cell) h =
    let p = and_parts (is_name scenario) (cell_has_name cell) h in
    by_spelling (verb_word verbs.Show ∷ scenario ∷ cell_fields cell) (commands.Show scenario cell) (and_true refl (and_true (name_seen scenario p.0) (cell_seen cell p.1))) (show_again (words_text (verb_word verbs.Show ∷ scenario ∷ cell_fields cell)) scenario cell p.0 p.1)
command_again (commands.Level scenario part) h = let p = and_parts (is_name scenario) (is_name part) h in two_again (verb_word verbs.Level) scenario part (commands.Level scenario part) refl p.0 p.1 (rw (p.0, p.1))
command_again (commands.Plan scenario part) h = let p = and_parts (is_name scenario) (is_name part) h in two_again (verb_word verbs.Plan) scenario part (commands.Plan scenario part) refl p.0 p.1 (rw (p.0, p.1))
command_again (commands.Peg scenario part day) h =
    let p = and_parts (is_name scenario) (is_name part && is_day day) h in
    let q = and_parts (is_name part) (is_day day) p.1 in
    by_spelling (verb_word verbs.Peg ∷ scenario ∷ part ∷ day_text day ∷ []) (commands.Peg scenario part day)
    (and_true refl (and_true (name_seen scenario p.0) (and_true (name_seen part q.0) (one_seen (day_text day) (day_seen day))))) (rw (p.0, q.0, day_read_again day q.1))
command_again (commands.Trace scenario part day) h =
    let p = and_parts (is_name scenario) (is_name part && is_day day) h in
    let q = and_parts (is_name part) (is_day day) p.1 in
    by_spelling (verb_word verbs.Trace ∷ scenario ∷ part ∷ day_text day ∷ []) (commands.Trace scenario part day)
    (and_true refl (and_true (name_seen scenario p.0) (and_true (name_seen part q.0) (one_seen (day_text day) (day_seen day))))) (rw (p.0, q.0, day_read_again day q.1))
command_again (commands.Atp scenario part) h = let p = and_parts (is_name scenario) (is_name part) h in two_again (verb_word verbs.Atp) scenario part (commands.Atp scenario part) refl p.0 p.1 (rw (p.0, p.1))
command_again (commands.Cost scenario part) h = let p = and_parts (is_name scenario) (is_name part) h in two_again (verb_word verbs.Cost) scenario part (commands.Cost scenario part) refl p.0 p.1 (rw (p.0, p.1))
command_again (commands.Select scenario query) h =
    let p = and_parts (is_name scenario) (is_query_text query && is_query query) h in
    let q = and_parts (is_query_text query) (is_query query) p.1 in
    select_again scenario query p.0 q.0 q.1
command_again commands.Reclaim h = by_spelling (verb_word verbs.Reclaim ∷ []) commands.Reclaim refl refl
command_again commands.Quit h = by_spelling (verb_word verbs.Quit ∷ []) commands.Quit refl refl
