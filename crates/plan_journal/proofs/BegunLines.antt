-- The line of an entry: what is read is spelled so, and what is spelled so is read.
use Rattle.std.proofs.Common.{◌≡◌, ℕ, ◌^◌, ◌<◌, ◌≤◌, Bool, true, false, not, ◌&&◌, cond, nat_eq, nat_le, nat_lt, List, [], ◌∷◌, ◌++◌, length, Option, Some, None, Ok, refl, sym, ap, ◌∙◌, subst, arith}
use Rattle.std.specs.Prelude.{◌==◌, codes, decimal}
use Rattle.std.specs.List.{list_all}
use Rattle.std.specs.Cmp.Lexicographic.{pointwise, bytes_decides}
use Rattle.std.proofs.lemmas.Bool.{and_parts}
use Rattle.std.proofs.lemmas.Bool.Decides.{nat_tests}
use Rattle.plan_schema.specs.declared.key.Key.TheVariants as keys
use Rattle.plan_schema.specs.declared.change.Change.{Change}
use Rattle.plan_schema.specs.declared.change.Change.TheVariants as changes
use Rattle.plan_schema.specs.declared.change.Entry.{Entry}
use Rattle.plan_schema.specs.Name.{is_name, name_of}
use Rattle.plan_schema.specs.Key.{key_eq}
use Rattle.plan_schema.specs.Sound.{is_sound_key, key_has_names, are_apart, is_sound_row, are_sound_rows, is_sound_change, is_sound_entry}
use Rattle.row_text.specs.Number.{number_of}
use Rattle.row_text.specs.Spelling.{words_text, key_fields, row_fields}
use Rattle.row_text.proofs.Fields.{and_true, le_true, number_takes, number_again}
use Rattle.command_words.specs.Commands.{command_of}
use Rattle.command_words.specs.Spelling.{words_of_command}
use Rattle.command_words.specs.declared.command.Command.{Command}
use Rattle.command_words.specs.declared.command.Command.TheVariants as commands
use Rattle.command_words.proofs.CommandsAgain.{command_again}
use Rattle.command_words.proofs.Seen.{is_seen, is_seen_word, name_seen, number_seen}
use Rattle.plan_journal.specs.Entries.{command_for, change_words, entry_line}
use Rattle.plan_journal.specs.Cuts.{onto_first, cut_at}
use Rattle.plan_journal.specs.Versions.{line_is_of, change_is_of}
use Rattle.plan_journal.specs.Begun.{◌>>=◌, if_read, where_so, may_be_spelled, asked_of, change_in, behind_number, number_before, begun_of}
use Rattle.plan_journal.specs.declared.begun.Begun.{Begun}
use Rattle.plan_journal.specs.declared.frame.Version.{Version}
use Rattle.plan_journal.proofs.Pieces.{cut_is}
use Rattle.command_words.proofs.ShortWords.{AreShort, name_short, number_short, row_short, key_short, two_short, three_short, more_short, both_short}
use Rattle.plan_journal.proofs.EntryLines.{bind_some, so_some, read_some, same_some, short_may, command_with, change_holds, change_takes}

-- what is read ----------------------------------------------------------------------------------------------------------------

number_cut : (low high : ℕ) (text : List ℕ) (parts : ℕ × List ℕ) → high < 2 ^ 64 → number_before low high text ≡ Some parts → (text ≡ decimal parts.0 ++ 32 ∷ parts.1) × (low ≤ parts.0) × (parts.0 ≤ high)
unfolding number_before
number_cut low high text parts big h =
    let a = bind_some (cut_at 32 text) _ parts h in
    let b = bind_some (if_read (number_of low high a.0.0)) _ parts a.2 in
    let number = number_takes low high a.0.0 b.0 big (read_some (number_of low high a.0.0) b.0 b.1) in
    subst (λ (p : ℕ × List ℕ). (text ≡ decimal p.0 ++ 32 ∷ p.1) × (low ≤ p.0) × (p.0 ≤ high)) (same_some (b.0, a.0.1) parts b.2)
    (cut_is 32 text a.0.0 a.0.1 a.1 ∙ ap (λ word. word ++ 32 ∷ a.0.1) number.0, number.1, number.2)

own_number_cut : (number : ℕ) (line behind : List ℕ) → behind_number number line ≡ Some behind → line ≡ decimal number ++ 32 ∷ behind
unfolding behind_number
own_number_cut number line behind h =
    let a = bind_some (cut_at 32 line) _ behind h in
    let b = so_some (pointwise nat_eq a.0.0 (decimal number)) a.0.1 behind a.2 in
    cut_is 32 line a.0.0 a.0.1 a.1 ∙ ap (λ word. word ++ 32 ∷ a.0.1) ((bytes_decides a.0.0 (decimal number)).0 b.0) ∙ ap (λ rest. decimal number ++ 32 ∷ rest) b.1

named : (text name : List ℕ) → name_of text ≡ Some name → (text ≡ name) × (is_name text ≡ true)
named text name h = by_test (is_name text) refl h
  where
    by_test : (b : Bool) → is_name text ≡ b → cond b (Some text) None ≡ Some name → (text ≡ name) × (is_name text ≡ true)
    by_test true is e = (same_some text name e, is)
    by_test false is e = cc

-- each command has a word
pub command_begins : (command : Command) → (word : List ℕ) × (words : List (List ℕ)) × (words_of_command command ≡ word ∷ words)
unfolding words_of_command
command_begins (commands.Hello user) = (_, _, refl)
command_begins commands.Point = (_, _, refl)
command_begins (commands.Put scenario key value) = (_, _, refl)
command_begins (commands.Del scenario key) = (_, _, refl)
command_begins (commands.Load scenario count) = (_, _, refl)
command_begins (commands.Branch parent child) = (_, _, refl)
command_begins (commands.Share scenario) = (_, _, refl)
command_begins (commands.Update scenario) = (_, _, refl)
command_begins (commands.Commit scenario) = (_, _, refl)
command_begins (commands.Drop scenario) = (_, _, refl)
command_begins commands.Tree = (_, _, refl)
command_begins (commands.Show scenario cell) = (_, _, refl)
command_begins (commands.Level scenario part) = (_, _, refl)
command_begins (commands.Plan scenario part) = (_, _, refl)
command_begins (commands.Peg scenario part day) = (_, _, refl)
command_begins (commands.Trace scenario part day) = (_, _, refl)
command_begins (commands.Atp scenario part) = (_, _, refl)
command_begins (commands.Cost scenario part) = (_, _, refl)
command_begins (commands.Select scenario query) = (_, _, refl)
command_begins commands.Reclaim = (_, _, refl)
command_begins commands.Quit = (_, _, refl)

-- the line of an entry of which so many rows are still to come
abbrev pub line_with : ℕ → Entry → ℕ → List ℕ
line_with number entry left = words_text (decimal number ∷ decimal entry.session ∷ decimal entry.line ∷ entry.user ∷ words_of_command (command_with left entry.change))

-- four words before those of a command
abbrev behind_four : List ℕ → List ℕ → List ℕ → List ℕ → List ℕ → List ℕ
behind_four a b c d text = a ++ 32 ∷ (b ++ 32 ∷ (c ++ 32 ∷ (d ++ 32 ∷ text)))

four_words : (a b c d : List ℕ) (command : Command) → words_text (a ∷ b ∷ c ∷ d ∷ words_of_command command) ≡ behind_four a b c d (words_text (words_of_command command))
four_words a b c d command =
    let begins = command_begins command in
    ap (λ words. words_text (a ∷ b ∷ c ∷ d ∷ words)) begins.2 ∙ sym (ap (λ words. behind_four a b c d (words_text words)) begins.2)

-- session, line and user of an entry are within their limits
abbrev pub head_holds : Entry → Bool
head_holds entry = nat_le 1 entry.session && nat_le entry.session 16 && nat_le 1 entry.line && nat_le entry.line 1_000_000 && is_name entry.user

-- an entry that is begun is sound but for the rows that are still to come, and all its rows are of the version
pub record IsBegun (version : Version) (begun : Begun) : Type 0 where
  pub head : head_holds begun.entry ≡ true
  pub change : change_holds version begun.left begun.entry.change ≡ true

pub record IsLineOf (version : Version) (number : ℕ) (line : List ℕ) (begun : Begun) : Type 0 where
  pub is : line ≡ line_with number begun.entry begun.left
  pub sound : IsBegun version begun

pub begun_takes : (version : Version) (number : ℕ) (line : List ℕ) (begun : Begun) → begun_of version number line ≡ Some begun → IsLineOf version number line begun
unfolding begun_of
begun_takes version number line begun h =
    let a = bind_some (behind_number number line) _ begun h in
    let b = bind_some (number_before 1 16 a.0) _ begun a.2 in
    let c = bind_some (number_before 1 1_000_000 b.0.1) _ begun b.2 in
    let d = bind_some (cut_at 32 c.0.1) _ begun c.2 in
    let e = bind_some (name_of d.0.0) _ begun d.2 in
    let f = bind_some (change_in version d.0.1) _ begun e.2 in
    let session = number_cut 1 16 a.0 b.0 (omega arith) b.1 in
    let place = number_cut 1 1_000_000 b.0.1 c.0 (omega arith) c.1 in
    let user = named d.0.0 e.0 e.1 in
    let change = change_takes version d.0.1 f.0 f.1 in
    let entry : Entry = record { session = b.0.0; line = c.0.0; user = e.0; change = f.0.0 } in
    let made : Begun = record { entry = entry; left = f.0.1 } in
    let text : line ≡ behind_four (decimal number) (decimal b.0.0) (decimal c.0.0) e.0 (words_text (words_of_command (command_with f.0.1 f.0.0))) =
    own_number_cut number line a.0 a.1 ∙ ap (λ t. decimal number ++ 32 ∷ t) (session.0 ∙ ap (λ t. decimal b.0.0 ++ 32 ∷ t) (place.0 ∙ ap (λ t. decimal c.0.0 ++ 32 ∷ t)
    (cut_is 32 c.0.1 d.0.0 d.0.1 d.1 ∙ ap (λ t. t ++ 32 ∷ d.0.1) user.0 ∙ ap (λ t. e.0 ++ 32 ∷ t) change.0))) in
    subst (IsLineOf version number line) (same_some made begun f.2) (record {
      is = text ∙ sym (four_words (decimal number) (decimal b.0.0) (decimal c.0.0) e.0 (command_with f.0.1 f.0.0));
      sound = record {
        head = and_true (and_true (and_true (and_true (le_true 1 b.0.0 session.1) (le_true b.0.0 16 session.2)) (le_true 1 c.0.0 place.1)) (le_true c.0.0 1_000_000 place.2)) (ap is_name (sym user.0) ∙ user.1);
        change = change.1;
      };
    })

-- what is spelled -------------------------------------------------------------------------------------------------------------

-- a change without the rows of a LOAD, and how many rows those are
abbrev pub without_rows : Change → Change
without_rows (changes.Load scenario rows) = changes.Load scenario []
without_rows change = change

abbrev pub row_count : Change → ℕ
row_count (changes.Load scenario rows) = length rows
row_count change = 0

cut_seen : (word rest : List ℕ) → list_all is_seen word ≡ true → cut_at 32 (word ++ 32 ∷ rest) ≡ Some (word, rest)
unfolding cut_at
cut_seen [] rest h = refl
cut_seen (byte ∷ word) rest h =
    let p = and_parts (is_seen byte) (list_all is_seen word) h in
    let other : (byte == 32) ≡ false = let e = p.0 in grind (arith, nat_tests) in
    ap (λ t. cond t (Some ([], word ++ 32 ∷ rest)) (onto_first byte (cut_at 32 (word ++ 32 ∷ rest)))) other ∙ ap (onto_first byte) (cut_seen word rest p.1)

cut_word : (word rest : List ℕ) → is_seen_word word ≡ true → cut_at 32 (word ++ 32 ∷ rest) ≡ Some (word, rest)
cut_word word rest h = let p = and_parts (nat_lt 0 (length word)) (list_all is_seen word) h in cut_seen word rest p.1

number_read : (low high n : ℕ) (rest : List ℕ) → high < 2 ^ 64 → low ≤ n → n ≤ high → number_before low high (decimal n ++ 32 ∷ rest) ≡ Some (n, rest)
unfolding number_before
number_read low high n rest big least most =
    ap (λ o. o >>= (λ parts. if_read (number_of low high parts.0) >>= (λ number. Some (number, parts.1)))) (cut_word (decimal n) rest (number_seen n (omega arith)))
    ∙ ap (λ r. if_read r >>= (λ number. Some (number, rest))) (number_again low high n big least most)

own_number_read : (number : ℕ) (rest : List ℕ) → number < 2 ^ 64 → behind_number number (decimal number ++ 32 ∷ rest) ≡ Some rest
unfolding behind_number
own_number_read number rest big =
    ap (λ o. o >>= (λ parts. where_so (pointwise nat_eq parts.0 (decimal number)) parts.1)) (cut_word (decimal number) rest (number_seen number big))
    ∙ ap (λ b. where_so b rest) ((bytes_decides (decimal number) (decimal number)).1 refl)

change_by : (version : Version) (text : List ℕ) (command : Command) (change : Change) (left : ℕ) → may_be_spelled text ≡ true → command_of text ≡ Ok command → asked_of command ≡ Some (change, left) → line_is_of version change ≡ true → change_in version text ≡ Some (change, left)
unfolding change_in
change_by version text command change left may read asked own =
    ap (λ b. where_so b text >>= (λ t. if_read (command_of t) >>= (λ c. asked_of c >>= (λ a. where_so (line_is_of version a.0) a)))) may
    ∙ ap (λ r. if_read r >>= (λ c. asked_of c >>= (λ a. where_so (line_is_of version a.0) a))) read
    ∙ ap (λ o. o >>= (λ a. where_so (line_is_of version a.0) a)) asked ∙ ap (λ b. where_so b (change, left)) own

pub change_short : (change : Change) → is_sound_change change ≡ true → AreShort (words_of_command (command_for change)) 20
unfolding words_of_command
change_short (changes.Put scenario key value) h =
    let p = and_parts (is_name scenario) (is_sound_row key value) h in
    more_short _ 9 20 (omega arith) (both_short (codes "PUT" ∷ scenario ∷ []) (row_fields key value) 2 7 (two_short (codes "PUT") scenario refl (name_short scenario p.0)) (row_short key value p.1))
change_short (changes.Del scenario key) h =
    let p = and_parts (is_name scenario) (is_sound_key key && not (key_eq key keys.Plan)) h in
    let q = and_parts (is_sound_key key) (not (key_eq key keys.Plan)) p.1 in
    let k = and_parts (key_has_names key) (are_apart key) q.0 in
    more_short _ 5 20 (omega arith) (both_short (codes "DEL" ∷ scenario ∷ []) (key_fields key) 2 3 (two_short (codes "DEL") scenario refl (name_short scenario p.0)) (key_short key k.0))
change_short (changes.Load scenario rows) h =
    let p = and_parts (is_name scenario) (nat_le 1 (length rows) && nat_le (length rows) 1_000 && are_sound_rows rows) h in
    let q = and_parts (nat_le 1 (length rows) && nat_le (length rows) 1_000) (are_sound_rows rows) p.1 in
    let r = and_parts (nat_le 1 (length rows)) (nat_le (length rows) 1_000) q.0 in
    let few : length rows ≤ 1_000 = let e = r.1 in grind (arith, nat_tests) in
    more_short _ 3 20 (omega arith) (three_short (codes "LOAD") scenario (decimal (length rows)) refl (name_short scenario p.0) (number_short (length rows) (omega arith)))
change_short (changes.Branch parent child) h =
    let p = and_parts (is_name parent && is_name child) true h in
    let q = and_parts (is_name parent) (is_name child) p.0 in
    more_short _ 3 20 (omega arith) (three_short (codes "BRANCH") parent child refl (name_short parent q.0) (name_short child q.1))
change_short (changes.Share scenario) h = let p = and_parts (is_name scenario) true h in more_short _ 2 20 (omega arith) (two_short (codes "SHARE") scenario refl (name_short scenario p.0))
change_short (changes.Update scenario) h = let p = and_parts (is_name scenario) true h in more_short _ 2 20 (omega arith) (two_short (codes "UPDATE") scenario refl (name_short scenario p.0))
change_short (changes.Commit scenario) h = let p = and_parts (is_name scenario) true h in more_short _ 2 20 (omega arith) (two_short (codes "COMMIT") scenario refl (name_short scenario p.0))
change_short (changes.Drop scenario) h = let p = and_parts (is_name scenario) true h in more_short _ 2 20 (omega arith) (two_short (codes "DROP") scenario refl (name_short scenario p.0))

change_may : (change : Change) → is_sound_change change ≡ true → may_be_spelled (words_text (words_of_command (command_for change))) ≡ true
change_may change h =
    let begins = command_begins (command_for change) in
    subst (λ words. may_be_spelled (words_text words) ≡ true) (sym begins.2) (short_may begins.0 begins.1 (subst (λ words. AreShort words 20) begins.2 (change_short change h)))

pub change_read : (version : Version) (change : Change) → is_sound_change change ≡ true → change_is_of version change ≡ true → change_in version (words_text (words_of_command (command_for change))) ≡ Some (without_rows change, row_count change)
change_read version (changes.Put scenario key value) h own =
    change_by version _ (commands.Put scenario key value) (changes.Put scenario key value) 0 (change_may (changes.Put scenario key value) h) (command_again (commands.Put scenario key value) h) refl own
change_read version (changes.Del scenario key) h own =
    change_by version _ (commands.Del scenario key) (changes.Del scenario key) 0 (change_may (changes.Del scenario key) h) (command_again (commands.Del scenario key) h) refl refl
change_read version (changes.Load scenario rows) h own =
    let p = and_parts (is_name scenario) (nat_le 1 (length rows) && nat_le (length rows) 1_000 && are_sound_rows rows) h in
    let q = and_parts (nat_le 1 (length rows) && nat_le (length rows) 1_000) (are_sound_rows rows) p.1 in
    change_by version _ (commands.Load scenario (length rows)) (changes.Load scenario []) (length rows) (change_may (changes.Load scenario rows) h) (command_again (commands.Load scenario (length rows)) (and_true p.0 q.0)) refl refl
change_read version (changes.Branch parent child) h own =
    let p = and_parts (is_name parent && is_name child) true h in
    change_by version _ (commands.Branch parent child) (changes.Branch parent child) 0 (change_may (changes.Branch parent child) h) (command_again (commands.Branch parent child) p.0) refl refl
change_read version (changes.Share scenario) h own = let p = and_parts (is_name scenario) true h in change_by version _ (commands.Share scenario) (changes.Share scenario) 0 (change_may (changes.Share scenario) h) (command_again (commands.Share scenario) p.0) refl refl
change_read version (changes.Update scenario) h own = let p = and_parts (is_name scenario) true h in change_by version _ (commands.Update scenario) (changes.Update scenario) 0 (change_may (changes.Update scenario) h) (command_again (commands.Update scenario) p.0) refl refl
change_read version (changes.Commit scenario) h own = let p = and_parts (is_name scenario) true h in change_by version _ (commands.Commit scenario) (changes.Commit scenario) 0 (change_may (changes.Commit scenario) h) (command_again (commands.Commit scenario) p.0) refl refl
change_read version (changes.Drop scenario) h own = let p = and_parts (is_name scenario) true h in change_by version _ (commands.Drop scenario) (changes.Drop scenario) 0 (change_may (changes.Drop scenario) h) (command_again (commands.Drop scenario) p.0) refl refl

-- an entry as its line begins it
abbrev pub begun_with : Entry → Begun
begun_with entry = record { entry = record entry { change = without_rows entry.change }; left = row_count entry.change }

named_again : (name : List ℕ) → is_name name ≡ true → name_of name ≡ Some name
named_again name h = ap (λ b. cond b (Some name) None) h

pub begun_read : (version : Version) (number : ℕ) (entry : Entry) → number < 2 ^ 64 → is_sound_entry entry ≡ true → change_is_of version entry.change ≡ true → begun_of version number (entry_line number entry) ≡ Some (begun_with entry)
unfolding begun_of entry_line change_words
begun_read version number entry big h own =
    let p = and_parts (head_holds entry) (is_sound_change entry.change) h in
    let user = and_parts (nat_le 1 entry.session && nat_le entry.session 16 && nat_le 1 entry.line && nat_le entry.line 1_000_000) (is_name entry.user) p.0 in
    let most = and_parts (nat_le 1 entry.session && nat_le entry.session 16 && nat_le 1 entry.line) (nat_le entry.line 1_000_000) user.0 in
    let least = and_parts (nat_le 1 entry.session && nat_le entry.session 16) (nat_le 1 entry.line) most.0 in
    let session = and_parts (nat_le 1 entry.session) (nat_le entry.session 16) least.0 in
    let s1 : 1 ≤ entry.session = let e = session.0 in grind (arith, nat_tests) in
    let s2 : entry.session ≤ 16 = let e = session.1 in grind (arith, nat_tests) in
    let l1 : 1 ≤ entry.line = let e = least.1 in grind (arith, nat_tests) in
    let l2 : entry.line ≤ 1_000_000 = let e = most.1 in grind (arith, nat_tests) in
    let text = words_text (words_of_command (command_for entry.change)) in
    let t3 = entry.user ++ 32 ∷ text in
    let t2 = decimal entry.line ++ 32 ∷ t3 in
    let t1 = decimal entry.session ++ 32 ∷ t2 in
    ap (begun_of version number) (four_words (decimal number) (decimal entry.session) (decimal entry.line) entry.user (command_for entry.change))
    ∙ ap (λ o. o >>= (λ behind. number_before 1 16 behind >>= (λ s. number_before 1 1_000_000 s.1 >>= (λ l. cut_at 32 l.1 >>= (λ u. name_of u.0 >>= (λ n. change_in version u.1 >>= (λ a. made s.0 l.0 n a))))))) (own_number_read number t1 big)
    ∙ ap (λ o. o >>= (λ s. number_before 1 1_000_000 s.1 >>= (λ l. cut_at 32 l.1 >>= (λ u. name_of u.0 >>= (λ n. change_in version u.1 >>= (λ a. made s.0 l.0 n a)))))) (number_read 1 16 entry.session t2 (omega arith) s1 s2)
    ∙ ap (λ o. o >>= (λ l. cut_at 32 l.1 >>= (λ u. name_of u.0 >>= (λ n. change_in version u.1 >>= (λ a. made entry.session l.0 n a))))) (number_read 1 1_000_000 entry.line t3 (omega arith) l1 l2)
    ∙ ap (λ o. o >>= (λ u. name_of u.0 >>= (λ n. change_in version u.1 >>= (λ a. made entry.session entry.line n a)))) (cut_word entry.user text (name_seen entry.user user.1))
    ∙ ap (λ o. o >>= (λ n. change_in version text >>= (λ a. made entry.session entry.line n a))) (named_again entry.user user.1)
    ∙ ap (λ o. o >>= (λ a. made entry.session entry.line entry.user a)) (change_read version entry.change p.1 own)
  where
    made : ℕ → ℕ → List ℕ → Change × ℕ → Option Begun
    made s l n a = Some (record { entry = record { session = s; line = l; user = n; change = a.0 }; left = a.1 })
