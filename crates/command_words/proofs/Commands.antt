-- What is read as a command is spelled so, and is sound.
use Rattle.std.proofs.Common.{◌≡◌, ℕ, Bool, true, false, not, ◌&&◌, cond, nat_eq, List, [], ◌∷◌, drop, Option, Some, None, Result, Ok, Err, refl, sym, ap, ◌∙◌, subst, arith}
use Rattle.std.specs.Prelude.{codes, decimal, IfOk, is_ok}
use Rattle.std.specs.List.{slice_get, find}
use Rattle.std.specs.Cmp.Lexicographic.{pointwise, bytes_decides}
use Rattle.plan_schema.specs.declared.fault.FieldFault.{FieldFault}
use Rattle.plan_schema.specs.declared.change.CellName.{CellName}
use Rattle.plan_schema.specs.Name.{is_name}
use Rattle.plan_schema.specs.Day.{day_text}
use Rattle.row_text.specs.Row as rows
use Rattle.row_text.specs.Row.{◌>>=◌, text_at, name_at, number_at, day_at, end_at}
use Rattle.row_text.proofs.Fields.{and_true, le_true, bind_ok, text_at_ok, name_at_takes, number_at_takes, day_at_takes, end_at_takes, fields_are}
use Rattle.row_text.proofs.Lots.{chosen_from}
use Rattle.row_text.proofs.Rows.{row_alone}
use Rattle.row_text.proofs.KeyForms.{key_alone}
use Rattle.query_language.specs.Reading.{check_of}
use Rattle.query_language.specs.declared.fault.QueryFault.{QueryFault}
use Rattle.command_words.specs.Words.{words_of, query_of}
use Rattle.command_words.specs.Verbs.{verb_word, all_verbs, verb_of}
use Rattle.command_words.specs.Commands.{only_name, two_names, behind_scenario, hello_of, point_of, put_of, del_of, load_of, branch_of, share_of, update_of, commit_of, drop_of, tree_of, plan_cell_of, cal_cell_of, part_cell_of, cell_of_word, show_of, level_of, plan_of, peg_of, trace_of, atp_of, cost_of, select_of, reclaim_of, quit_of, command_of_verb, with_query, in_query, in_fields, with_verb, with_word, command_of}
use Rattle.command_words.specs.Spelling.{cell_fields, cell_has_name, words_of_command, is_sound_command}
use Rattle.command_words.specs.declared.verb.Verb.{Verb}
use Rattle.command_words.specs.declared.verb.Verb.TheVariants as verbs
use Rattle.command_words.specs.declared.command.Command.{Command}
use Rattle.command_words.specs.declared.command.Command.TheVariants as commands
use Rattle.command_words.specs.declared.reply.Bad.{Bad}
use Rattle.command_words.proofs.Queries.{words_of_query, query_is_text}

-- the words are those of the command, which is sound
abbrev pub IsCommandOf : List (List ℕ) → Command → Type 0
IsCommandOf words command = (words ≡ words_of_command command) × (is_sound_command command ≡ true)

-- the first word of a line
abbrev Heads : List (List ℕ) → List ℕ → Type 0
Heads words word = slice_get words 0 ≡ Some word

abbrev read : Command → Result Command FieldFault
read command = Ok command

same_command : (a b : Command) → read a ≡ read b → a ≡ b
same_command a b h = cc

read_as : (words : List (List ℕ)) (a b : Command) → read a ≡ read b → words ≡ words_of_command a → is_sound_command a ≡ true → IsCommandOf words b
read_as words a b is w s = subst (IsCommandOf words) (same_command a b is) (w, s)

alone_takes : (words : List (List ℕ)) (word : List ℕ) (a b : Command) → Heads words word → words_of_command a ≡ word ∷ [] → is_sound_command a ≡ true → (end_at words 1 >>= (λ _. read a)) ≡ read b → IsCommandOf words b
alone_takes words word a b first spelled sound h =
    let e = bind_ok (end_at words 1) (λ _. read a) b h in
    read_as words a b e.2 (fields_are words (word ∷ []) (end_at_takes words 1 e.0 e.1) (first, tt) ∙ sym spelled) sound

only_takes : (words : List (List ℕ)) (word name : List ℕ) → Heads words word → only_name words ≡ Ok name → (words ≡ word ∷ name ∷ []) × (is_name name ≡ true)
unfolding only_name
only_takes words word name first h =
    let a = bind_ok (name_at words 1) _ name h in
    let b = bind_ok (end_at words 2) _ name a.2 in
    let taken = name_at_takes words 1 a.0 a.1 in
    let same : a.0 ≡ name = let e = b.2 in cc in
    subst (λ n. (words ≡ word ∷ n ∷ []) × (is_name n ≡ true)) same (fields_are words (word ∷ a.0 ∷ []) (end_at_takes words 2 b.0 b.1) (first, (taken.0, tt)), taken.1)

abbrev ArePair : List (List ℕ) → List ℕ → List ℕ × List ℕ → Type 0
ArePair words word names = (words ≡ word ∷ names.0 ∷ names.1 ∷ []) × ((is_name names.0 && is_name names.1) ≡ true)

two_take : (words : List (List ℕ)) (word : List ℕ) (names : List ℕ × List ℕ) → Heads words word → two_names words ≡ Ok names → ArePair words word names
unfolding two_names
two_take words word names first h =
    let a = bind_ok (name_at words 1) _ names h in
    let b = bind_ok (name_at words 2) _ names a.2 in
    let c = bind_ok (end_at words 3) _ names b.2 in
    let one = name_at_takes words 1 a.0 a.1 in
    let two = name_at_takes words 2 b.0 b.1 in
    let pair : List ℕ × List ℕ = (a.0, b.0) in
    let same : pair ≡ names = let e = c.2 in cc in
    subst (ArePair words word) same (fields_are words (word ∷ a.0 ∷ b.0 ∷ []) (end_at_takes words 3 c.0 c.1) (first, (one.0, (two.0, tt))), and_true one.1 two.1)

-- a command with one name
one_takes : (words : List (List ℕ)) (word : List ℕ) (make : List ℕ → Command) (b : Command) → Heads words word → ((n : List ℕ) → words_of_command (make n) ≡ word ∷ n ∷ []) → ((n : List ℕ) → is_sound_command (make n) ≡ is_name n) → (only_name words >>= (λ n. read (make n))) ≡ read b → IsCommandOf words b
one_takes words word make b first spelled sound h =
    let e = bind_ok (only_name words) (λ n. read (make n)) b h in
    let taken = only_takes words word e.0 first e.1 in
    read_as words (make e.0) b e.2 (taken.0 ∙ sym (spelled e.0)) (sound e.0 ∙ taken.1)

-- a command with two names
pair_takes : (words : List (List ℕ)) (word : List ℕ) (make : List ℕ → List ℕ → Command) (b : Command) → Heads words word → ((m n : List ℕ) → words_of_command (make m n) ≡ word ∷ m ∷ n ∷ []) → ((m n : List ℕ) → is_sound_command (make m n) ≡ (is_name m && is_name n)) → (two_names words >>= (λ names. read (make names.0 names.1))) ≡ read b → IsCommandOf words b
pair_takes words word make b first spelled sound h =
    let e = bind_ok (two_names words) (λ names. read (make names.0 names.1)) b h in
    let taken = two_take words word e.0 first e.1 in
    read_as words (make e.0.0 e.0.1) b e.2 (taken.0 ∙ sym (spelled e.0.0 e.0.1)) (sound e.0.0 e.0.1 ∙ taken.1)

-- the words of a line by the first two and those behind them
by_two : (words : List (List ℕ)) (a b : List ℕ) → slice_get words 0 ≡ Some a → slice_get words 1 ≡ Some b → words ≡ a ∷ b ∷ drop 2 words
by_two [] a b h k = cc
by_two (x ∷ []) a b h k = cc
by_two (x ∷ y ∷ words) a b h k = let e : x ≡ a = cc in let f : y ≡ b = cc in λ i. e i ∷ f i ∷ words

behind_ok : {A : Type 0} (r : Result A FieldFault) (x : A) → behind_scenario r ≡ Ok x → r ≡ Ok x
behind_ok (Ok y) x h = cc
behind_ok (Err fault) x h = cc

put_takes : (words : List (List ℕ)) (b : Command) → Heads words (verb_word verbs.Put) → put_of words ≡ read b → IsCommandOf words b
unfolding put_of words_of_command
put_takes words b first h =
    let s = bind_ok (name_at words 1) _ b h in
    let r = bind_ok (behind_scenario (rows.row_of (drop 2 words))) _ b s.2 in
    let name = name_at_takes words 1 s.0 s.1 in
    let row = row_alone (drop 2 words) r.0 (behind_ok (rows.row_of (drop 2 words)) r.0 r.1) in
    read_as words (commands.Put s.0 r.0.0 r.0.1) b r.2
    (by_two words (verb_word verbs.Put) s.0 first name.0 ∙ ap (λ t. verb_word verbs.Put ∷ s.0 ∷ t) row.0) (and_true name.1 row.1)

del_takes : (words : List (List ℕ)) (b : Command) → Heads words (verb_word verbs.Del) → del_of words ≡ read b → IsCommandOf words b
unfolding del_of words_of_command
del_takes words b first h =
    let s = bind_ok (name_at words 1) _ b h in
    let k = bind_ok (behind_scenario (rows.key_of (drop 2 words))) _ b s.2 in
    let name = name_at_takes words 1 s.0 s.1 in
    let key = key_alone (drop 2 words) k.0 (behind_ok (rows.key_of (drop 2 words)) k.0 k.1) in
    read_as words (commands.Del s.0 k.0) b k.2
    (by_two words (verb_word verbs.Del) s.0 first name.0 ∙ ap (λ t. verb_word verbs.Del ∷ s.0 ∷ t) key.0) (and_true name.1 (and_true key.1 (ap not key.2)))

load_takes : (words : List (List ℕ)) (b : Command) → Heads words (verb_word verbs.Load) → load_of words ≡ read b → IsCommandOf words b
unfolding load_of words_of_command
load_takes words b first h =
    let s = bind_ok (name_at words 1) _ b h in
    let n = bind_ok (number_at words 2 1 1_000) _ b s.2 in
    let e = bind_ok (end_at words 3) _ b n.2 in
    let name = name_at_takes words 1 s.0 s.1 in
    let count = number_at_takes words 2 1 1_000 n.0 (omega arith) n.1 in
    read_as words (commands.Load s.0 n.0) b e.2
    (fields_are words (verb_word verbs.Load ∷ s.0 ∷ decimal n.0 ∷ []) (end_at_takes words 3 e.0 e.1) (first, (name.0, (count.0, tt))))
    (and_true name.1 (and_true (le_true 1 n.0 count.1) (le_true n.0 1_000 count.2)))

-- a cell, behind the scenario
abbrev IsCellOf : List (List ℕ) → CellName → Type 0
IsCellOf words cell = (drop 2 words ≡ cell_fields cell) × (cell_has_name cell ≡ true)

abbrev read_cell : CellName → Result CellName FieldFault
read_cell cell = Ok cell

same_cell : (a b : CellName) → read_cell a ≡ read_cell b → a ≡ b
same_cell a b h = cc

behind_two : (words : List (List ℕ)) (a b : List ℕ) (more : List (List ℕ)) → words ≡ a ∷ b ∷ more → drop 2 words ≡ more
behind_two words a b more e = ap (drop 2) e

plan_cell_takes : (words : List (List ℕ)) (a b : List ℕ) (cell : CellName) → slice_get words 0 ≡ Some a → slice_get words 1 ≡ Some b → slice_get words 2 ≡ Some (codes "PLAN") → plan_cell_of words ≡ Ok cell → IsCellOf words cell
unfolding plan_cell_of
plan_cell_takes words a b cell f g w h =
    let e = bind_ok (end_at words 3) _ cell h in
    subst (IsCellOf words) (same_cell _ cell e.2) (behind_two words a b (codes "PLAN" ∷ []) (fields_are words (a ∷ b ∷ codes "PLAN" ∷ []) (end_at_takes words 3 e.0 e.1) (f, (g, (w, tt)))), refl)

cal_cell_takes : (words : List (List ℕ)) (a b : List ℕ) (cell : CellName) → slice_get words 0 ≡ Some a → slice_get words 1 ≡ Some b → slice_get words 2 ≡ Some (codes "CAL") → cal_cell_of words ≡ Ok cell → IsCellOf words cell
unfolding cal_cell_of
cal_cell_takes words a b cell f g w h =
    let n = bind_ok (name_at words 3) _ cell h in
    let e = bind_ok (end_at words 4) _ cell n.2 in
    let name = name_at_takes words 3 n.0 n.1 in
    subst (IsCellOf words) (same_cell _ cell e.2) (behind_two words a b (codes "CAL" ∷ n.0 ∷ []) (fields_are words (a ∷ b ∷ codes "CAL" ∷ n.0 ∷ []) (end_at_takes words 4 e.0 e.1) (f, (g, (w, (name.0, tt))))), name.1)

part_cell_takes : (words : List (List ℕ)) (a b : List ℕ) (cell : CellName) → slice_get words 0 ≡ Some a → slice_get words 1 ≡ Some b → slice_get words 2 ≡ Some (codes "PART") → part_cell_of words ≡ Ok cell → IsCellOf words cell
unfolding part_cell_of
part_cell_takes words a b cell f g w h =
    let n = bind_ok (name_at words 3) _ cell h in
    let e = bind_ok (end_at words 4) _ cell n.2 in
    let name = name_at_takes words 3 n.0 n.1 in
    subst (IsCellOf words) (same_cell _ cell e.2) (behind_two words a b (codes "PART" ∷ n.0 ∷ []) (fields_are words (a ∷ b ∷ codes "PART" ∷ n.0 ∷ []) (end_at_takes words 4 e.0 e.1) (f, (g, (w, (name.0, tt))))), name.1)

cell_takes : (words : List (List ℕ)) (a b word : List ℕ) (cell : CellName) → slice_get words 0 ≡ Some a → slice_get words 1 ≡ Some b → slice_get words 2 ≡ Some word → cell_of_word word words ≡ Ok cell → IsCellOf words cell
unfolding cell_of_word
cell_takes words a b word cell f g w h =
    chosen_from (IsCellOf words cell) _ _ _ _ (λ is e. plan_cell_takes words a b cell f g (w ∙ ap Some ((bytes_decides word (codes "PLAN")).0 is)) e) (λ _.
    chosen_from (IsCellOf words cell) _ _ _ _ (λ is e. cal_cell_takes words a b cell f g (w ∙ ap Some ((bytes_decides word (codes "CAL")).0 is)) e) (λ _.
    chosen_from (IsCellOf words cell) _ _ _ _ (λ is e. part_cell_takes words a b cell f g (w ∙ ap Some ((bytes_decides word (codes "PART")).0 is)) e) (λ _ e. cc))) h

show_takes : (words : List (List ℕ)) (b : Command) → Heads words (verb_word verbs.Show) → show_of words ≡ read b → IsCommandOf words b
unfolding show_of words_of_command
show_takes words b first h =
    let s = bind_ok (name_at words 1) _ b h in
    let w = bind_ok (text_at words 2) _ b s.2 in
    let c = bind_ok (cell_of_word w.0 words) _ b w.2 in
    let name = name_at_takes words 1 s.0 s.1 in
    let cell = cell_takes words (verb_word verbs.Show) s.0 w.0 c.0 first name.0 (text_at_ok words 2 w.0 w.1) c.1 in
    read_as words (commands.Show s.0 c.0) b c.2
    (by_two words (verb_word verbs.Show) s.0 first name.0 ∙ ap (λ t. verb_word verbs.Show ∷ s.0 ∷ t) cell.0) (and_true name.1 cell.1)

peg_takes : (words : List (List ℕ)) (b : Command) → Heads words (verb_word verbs.Peg) → peg_of words ≡ read b → IsCommandOf words b
unfolding peg_of words_of_command
peg_takes words b first h =
    let s = bind_ok (name_at words 1) _ b h in
    let p = bind_ok (name_at words 2) _ b s.2 in
    let d = bind_ok (day_at words 3) _ b p.2 in
    let e = bind_ok (end_at words 4) _ b d.2 in
    let name = name_at_takes words 1 s.0 s.1 in
    let part = name_at_takes words 2 p.0 p.1 in
    let day = day_at_takes words 3 d.0 d.1 in
    read_as words (commands.Peg s.0 p.0 d.0) b e.2
    (fields_are words (verb_word verbs.Peg ∷ s.0 ∷ p.0 ∷ day_text d.0 ∷ []) (end_at_takes words 4 e.0 e.1) (first, (name.0, (part.0, (day.0, tt)))))
    (and_true name.1 (and_true part.1 day.1))

trace_takes : (words : List (List ℕ)) (b : Command) → Heads words (verb_word verbs.Trace) → trace_of words ≡ read b → IsCommandOf words b
unfolding trace_of words_of_command
trace_takes words b first h =
    let s = bind_ok (name_at words 1) _ b h in
    let p = bind_ok (name_at words 2) _ b s.2 in
    let d = bind_ok (day_at words 3) _ b p.2 in
    let e = bind_ok (end_at words 4) _ b d.2 in
    let name = name_at_takes words 1 s.0 s.1 in
    let part = name_at_takes words 2 p.0 p.1 in
    let day = day_at_takes words 3 d.0 d.1 in
    read_as words (commands.Trace s.0 p.0 d.0) b e.2
    (fields_are words (verb_word verbs.Trace ∷ s.0 ∷ p.0 ∷ day_text d.0 ∷ []) (end_at_takes words 4 e.0 e.1) (first, (name.0, (part.0, (day.0, tt)))))
    (and_true name.1 (and_true part.1 day.1))

third : (words : List (List ℕ)) (a b c : List ℕ) (more : List (List ℕ)) → words ≡ a ∷ b ∷ more → slice_get words 2 ≡ Some c → (rest : List (List ℕ)) × (more ≡ c ∷ rest)
third words a b c [] e h = let none : slice_get (a ∷ b ∷ []) 2 ≡ Some c = ap (λ t. slice_get t 2) (sym e) ∙ h in absurd (let no : ⊥ = cc in no)
third words a b c (x ∷ rest) e h = let some : slice_get (a ∷ b ∷ x ∷ rest) 2 ≡ Some c = ap (λ t. slice_get t 2) (sym e) ∙ h in (rest, let same : x ≡ c = cc in ap (λ t. t ∷ rest) same)

-- a query that the command asks is one of the language
abbrev AsksQuery : Command → Type 0
AsksQuery command = in_query command ≡ Ok command

query_passes : (scenario query : List ℕ) (r : Result (Unit {0}) QueryFault) → with_query r (commands.Select scenario query) ≡ Ok (commands.Select scenario query) → is_ok r ≡ true
query_passes scenario query (Ok _) h = refl
query_passes scenario query (Err fault) h = cc

select_takes : (line : List ℕ) (b : Command) → AsksQuery b → Heads (words_of line) (verb_word verbs.Select) → select_of line (words_of line) ≡ read b → IsCommandOf (words_of line) b
unfolding select_of words_of_command
select_takes line b asks first h =
    let s = bind_ok (name_at (words_of line) 1) _ b h in
    let t = bind_ok (text_at (words_of line) 2) _ b s.2 in
    let name = name_at_takes (words_of line) 1 s.0 s.1 in
    let two = by_two (words_of line) (verb_word verbs.Select) s.0 first name.0 in
    let query : words_of (query_of line) ≡ drop 2 (words_of line) = words_of_query line (verb_word verbs.Select) s.0 (drop 2 (words_of line)) two in
    let more = third (words_of line) (verb_word verbs.Select) s.0 t.0 (drop 2 (words_of line)) two (text_at_ok (words_of line) 2 t.0 t.1) in
    read_as (words_of line) (commands.Select s.0 (query_of line)) b t.2
    (two ∙ ap (λ ws. verb_word verbs.Select ∷ s.0 ∷ ws) (sym query))
    (and_true name.1 (and_true (query_is_text line t.0 more.0 (query ∙ more.1))
    (query_passes s.0 (query_of line) (check_of (query_of line)) (subst AsksQuery (sym (same_command _ b t.2)) asks))))

verb_takes : (verb : Verb) (line : List ℕ) (b : Command) → AsksQuery b → Heads (words_of line) (verb_word verb) → command_of_verb verb line (words_of line) ≡ read b → IsCommandOf (words_of line) b
unfolding command_of_verb words_of_command hello_of point_of branch_of share_of update_of commit_of drop_of tree_of level_of plan_of atp_of cost_of reclaim_of quit_of
verb_takes verbs.Hello line b asks first h = one_takes (words_of line) (verb_word verbs.Hello) commands.Hello b first (λ n. refl) (λ n. refl) h
verb_takes verbs.Point line b asks first h = alone_takes (words_of line) (verb_word verbs.Point) commands.Point b first refl refl h
verb_takes verbs.Put line b asks first h = put_takes (words_of line) b first h
verb_takes verbs.Del line b asks first h = del_takes (words_of line) b first h
verb_takes verbs.Load line b asks first h = load_takes (words_of line) b first h
verb_takes verbs.Branch line b asks first h = pair_takes (words_of line) (verb_word verbs.Branch) commands.Branch b first (λ m n. refl) (λ m n. refl) h
verb_takes verbs.Share line b asks first h = one_takes (words_of line) (verb_word verbs.Share) commands.Share b first (λ n. refl) (λ n. refl) h
verb_takes verbs.Update line b asks first h = one_takes (words_of line) (verb_word verbs.Update) commands.Update b first (λ n. refl) (λ n. refl) h
verb_takes verbs.Commit line b asks first h = one_takes (words_of line) (verb_word verbs.Commit) commands.Commit b first (λ n. refl) (λ n. refl) h
verb_takes verbs.Drop line b asks first h = one_takes (words_of line) (verb_word verbs.Drop) commands.Drop b first (λ n. refl) (λ n. refl) h
verb_takes verbs.Tree line b asks first h = alone_takes (words_of line) (verb_word verbs.Tree) commands.Tree b first refl refl h
verb_takes verbs.Show line b asks first h = show_takes (words_of line) b first h
verb_takes verbs.Level line b asks first h = pair_takes (words_of line) (verb_word verbs.Level) commands.Level b first (λ m n. refl) (λ m n. refl) h
verb_takes verbs.Plan line b asks first h = pair_takes (words_of line) (verb_word verbs.Plan) commands.Plan b first (λ m n. refl) (λ m n. refl) h
verb_takes verbs.Peg line b asks first h = peg_takes (words_of line) b first h
verb_takes verbs.Trace line b asks first h = trace_takes (words_of line) b first h
verb_takes verbs.Cost line b asks first h = pair_takes (words_of line) (verb_word verbs.Cost) commands.Cost b first (λ m n. refl) (λ m n. refl) h
verb_takes verbs.Atp line b asks first h = pair_takes (words_of line) (verb_word verbs.Atp) commands.Atp b first (λ m n. refl) (λ m n. refl) h
verb_takes verbs.Select line b asks first h = select_takes line b asks first h
verb_takes verbs.Reclaim line b asks first h = alone_takes (words_of line) (verb_word verbs.Reclaim) commands.Reclaim b first refl refl h
verb_takes verbs.Quit line b asks first h = alone_takes (words_of line) (verb_word verbs.Quit) commands.Quit b first refl refl h

-- the verb that is found has the word
found : (word : List ℕ) (choices : List Verb) (verb : Verb) → find (λ v. pointwise nat_eq word (verb_word v)) choices ≡ Some verb → word ≡ verb_word verb
found word [] verb h = cc
found word (choice ∷ choices) verb h = by_test (pointwise nat_eq word (verb_word choice)) refl (found word choices verb) h
  where
    by_test : (t : Bool) → pointwise nat_eq word (verb_word choice) ≡ t → (find (λ v. pointwise nat_eq word (verb_word v)) choices ≡ Some verb → word ≡ verb_word verb)
        → cond t (Some choice) (find (λ v. pointwise nat_eq word (verb_word v)) choices) ≡ Some verb → word ≡ verb_word verb
    by_test true is later e = (bytes_decides word (verb_word choice)).0 is ∙ ap verb_word (let same : choice ≡ verb = cc in same)
    by_test false is later e = later e

word_takes : (word line : List ℕ) (o : Option Verb) (b : Command) → Heads (words_of line) word → verb_of word ≡ o → with_verb o line (words_of line) ≡ Ok b → IsCommandOf (words_of line) b
unfolding verb_of
word_takes word line (Some verb) b first is h =
    let read = fields_ok (command_of_verb verb line (words_of line)) b h in
    verb_takes verb line b read.1 (first ∙ ap Some (found word all_verbs verb is)) read.0
  where
    same_query : (c : Command) (r : Result (Unit {0}) QueryFault) (d : Command) → with_query r c ≡ Ok d → c ≡ d
    same_query c (Ok _) d e = cc
    same_query c (Err fault) d e = cc

    same_asked : (c d : Command) → in_query c ≡ Ok d → c ≡ d
    same_asked (commands.Select scenario query) d e = same_query (commands.Select scenario query) (check_of query) d e
    same_asked c d e = cc

    fields_ok : (r : Result Command FieldFault) (c : Command) → in_fields r ≡ Ok c → (r ≡ Ok c) × AsksQuery c
    fields_ok (Ok c) d e = let same = same_asked c d e in (ap Ok same, subst (λ a. in_query a ≡ Ok d) same e)
    fields_ok (Err fault) d e = cc
word_takes word line None b first is h = cc

-- what is read is spelled so, and is sound
pub command_alone : (line : List ℕ) (b : Command) → command_of line ≡ Ok b → IsCommandOf (words_of line) b
unfolding command_of
command_alone line b h = by_word (text_at (words_of line) 0) refl h
  where
    by_word : (r : Result (List ℕ) FieldFault) → text_at (words_of line) 0 ≡ r → with_word r line (words_of line) ≡ Ok b → IsCommandOf (words_of line) b
    by_word (Ok word) is e = word_takes word line (verb_of word) b (text_at_ok (words_of line) 0 word is) refl e
    by_word (Err fault) is e = cc

pub sound_if_read : (line : List ℕ) (r : Result Command Bad) → r ≡ command_of line → IfOk r (λ command. is_sound_command command ≡ true)
sound_if_read line (Ok command) is = (command_alone line command (sym is)).1
sound_if_read line (Err fault) is = tt
