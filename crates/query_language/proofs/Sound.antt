-- Each token that fits goes on with the front of a query.
use Rattle.std.proofs.Common.{◌≡◌, ℕ, zero, suc, ◌+◌, ◌-◌, ◌==◌, ◌≤◌, ◌<◌, Bool, true, false, cond, nat_eq, nat_lt, List, [], ◌∷◌, ◌++◌, length, Option, Some, None, Result, Ok, Err, refl, sym, ap, ◌∙◌, subst, arith, length-append}
use Rattle.std.specs.Prelude.{codes, decimal}
use Rattle.std.specs.List.{find}
use Rattle.std.specs.Cmp.Lexicographic.{pointwise, bytes_decides}
use Rattle.std.proofs.lemmas.List.{append_assoc}
use Rattle.std.proofs.lemmas.Bool.Decides.{nat_tests}
use Rattle.plan_schema.specs.Name.{is_name, name_of}
use Rattle.plan_schema.specs.declared.fault.Rule.{Rule}
use Rattle.row_text.specs.Number.{number_of}
use Rattle.row_text.proofs.Fields.{number_takes}
use Rattle.query_language.specs.Grammar.{Factor, equals, Derives, a_comparison, a_naming, column_tokens}
use Rattle.query_language.specs.Growing.{PendingTree, LevelTree, Negated, Inside, GrowthTree, grow, nothing_pending, behind_or, either_with, both_with, negated, behind_nots, pending_with}
use Rattle.query_language.specs.Reading.{Step, step, opened, open_with, behind_factor, at_listed, at_tested, at_factor_word, with_number, with_name, close, go, no_fit, at_column, at_more_columns, at_factor, at_op, at_number, at_equals, at_name, at_more_factors, most_number}
use Rattle.query_language.specs.Trees.{CondTree, Compares, IsNamed}
use Rattle.query_language.specs.Words.{column_word, all_columns, column_of}
use Rattle.query_language.specs.declared.column.Column.{Column}
use Rattle.query_language.specs.declared.column.Op.{Op}
use Rattle.query_language.specs.declared.column.Op.TheVariants as ops
use Rattle.query_language.specs.declared.fault.QueryRule.TheVariants as rule
use Rattle.query_language.specs.declared.nest.Opener.{Opener}
use Rattle.query_language.specs.declared.nest.Opener.TheVariants as opener
use Rattle.query_language.specs.declared.progress.Awaits.{Awaits}
use Rattle.query_language.specs.declared.progress.Awaits.TheVariants as awaits
use Rattle.query_language.specs.declared.progress.Piece.TheVariants as piece
use Rattle.query_language.specs.declared.progress.Progress.{Progress}
use Rattle.query_language.specs.declared.token.Token.{Token}
use Rattle.query_language.specs.declared.token.Token.TheVariants as token
use Rattle.query_language.proofs.Complete.{at, pending_of, grown_of}
use Rattle.query_language.proofs.Fronts.{Before, BeforeNext, Behind, nothing_front, room_left, factor_done, next_and, next_or, next_close}

-- what a word was ------------------------------------------------------------------------------------------------------------

found : (word : List ℕ) (choices : List Column) (column : Column) → find (λ c. pointwise nat_eq word (column_word c)) choices ≡ Some column → word ≡ column_word column
found word [] column h = cc
found word (choice ∷ choices) column h = by_test (pointwise nat_eq word (column_word choice)) refl (found word choices column) h
  where
    by_test : (t : Bool) → pointwise nat_eq word (column_word choice) ≡ t → (find (λ c. pointwise nat_eq word (column_word c)) choices ≡ Some column → word ≡ column_word column)
        → cond t (Some choice) (find (λ c. pointwise nat_eq word (column_word c)) choices) ≡ Some column → word ≡ column_word column
    by_test true is later e = (bytes_decides word (column_word choice)).0 is ∙ ap column_word (let same : choice ≡ column = cc in same)
    by_test false is later e = later e

column_alone : (word : List ℕ) (column : Column) → column_of word ≡ Some column → word ≡ column_word column
unfolding column_of
column_alone word column h = found word all_columns column h

name_alone : (word name : List ℕ) → name_of word ≡ Some name → (word ≡ name) × (is_name name ≡ true)
name_alone word name h = by_test (is_name word) refl h
  where
    by_test : (b : Bool) → is_name word ≡ b → cond b (Some word) None ≡ Some name → (word ≡ name) × (is_name name ≡ true)
    by_test true is e = let same : word ≡ name = cc in (same, ap is_name (sym same) ∙ is)
    by_test false is e = cc

-- fronts -----------------------------------------------------------------------------------------------------------------------

-- the columns, each with a comma behind it
abbrev pub begun : List Column → List Token
begun [] = []
begun (column ∷ more) = token.Word (column_word column) ∷ token.Comma ∷ begun more

one_column : (listed : List Column) (column : Column) → begun listed ++ token.Word (column_word column) ∷ [] ≡ column_tokens (listed ++ column ∷ [])
one_column [] column = refl
one_column (first ∷ []) column = refl
one_column (first ∷ next ∷ more) column = ap (λ t. token.Word (column_word first) ∷ token.Comma ∷ t) (one_column (next ∷ more) column)

one_comma : (listed : List Column) → 0 < length listed → column_tokens listed ++ token.Comma ∷ [] ≡ begun listed
one_comma [] h = absurd (omega arith)
one_comma (first ∷ []) h = refl
one_comma (first ∷ next ∷ more) h = ap (λ t. token.Word (column_word first) ∷ token.Comma ∷ t) (one_comma (next ∷ more) (omega arith))

-- the words of what is in force
abbrev pub kinds : List LevelTree → List Opener
kinds [] = []
kinds (Negated ∷ levels) = opener.Not ∷ kinds levels
kinds (Inside around ∷ levels) = opener.Paren ∷ kinds levels

kinds_behind : (levels : List LevelTree) → behind_factor (kinds levels) ≡ kinds (behind_nots levels)
kinds_behind [] = refl
kinds_behind (Negated ∷ levels) = kinds_behind levels
kinds_behind (Inside around ∷ levels) = refl

pub length-kinds : (levels : List LevelTree) → length (kinds levels) ≡ length levels
length-kinds [] = refl
length-kinds (Negated ∷ levels) = ap suc (length-kinds levels)
length-kinds (Inside around ∷ levels) = ap suc (length-kinds levels)

-- behind the columns and `WHERE`
abbrev pub InCondition : ℕ → List Column → List Token → List Token → Type 0
InCondition columns listed tokens front = (tokens ≡ column_tokens listed ++ token.Word (codes "WHERE") ∷ front) × (0 < length listed) × (length listed ≤ columns)

more_in : (columns : ℕ) (listed : List Column) (tokens front more : List Token) → InCondition columns listed tokens front → InCondition columns listed (tokens ++ more) (front ++ more)
more_in columns listed tokens front more h = (ap (λ t. t ++ more) h.0 ∙ append_assoc (column_tokens listed) (token.Word (codes "WHERE") ∷ front) more, h.1, h.2)

-- what the tokens up to here are, by what may come next
abbrev pub FrontAt : ℕ → ℕ → Awaits → List Opener → List Column → PendingTree → List LevelTree → List Token → Type 0
FrontAt columns depth (awaits.Column room) nest listed pending levels tokens =
    (nest ≡ []) × (pending ≡ nothing_pending) × (levels ≡ []) × (length listed + suc room ≡ columns) × (tokens ≡ begun listed)
FrontAt columns depth (awaits.MoreColumns room) nest listed pending levels tokens =
    (nest ≡ []) × (pending ≡ nothing_pending) × (levels ≡ []) × (length listed + room ≡ columns) × (0 < length listed) × (tokens ≡ column_tokens listed)
FrontAt columns depth awaits.Factor nest listed pending levels tokens =
    (front : List Token) × InCondition columns listed tokens front × (nest ≡ kinds levels) × BeforeNext depth levels pending front
FrontAt columns depth (awaits.Op column) nest listed pending levels tokens =
    (front : List Token) × InCondition columns listed tokens (front ++ token.Word (column_word column) ∷ []) × (nest ≡ kinds levels) × BeforeNext depth levels pending front
FrontAt columns depth (awaits.Number column op) nest listed pending levels tokens =
    (front : List Token) × InCondition columns listed tokens (front ++ token.Word (column_word column) ∷ token.Compare op ∷ []) × (nest ≡ kinds levels) × BeforeNext depth levels pending front
FrontAt columns depth awaits.Equals nest listed pending levels tokens =
    (front : List Token) × InCondition columns listed tokens (front ++ token.Word (codes "part") ∷ []) × (nest ≡ kinds levels) × BeforeNext depth levels pending front
FrontAt columns depth (awaits.Name equal) nest listed pending levels tokens =
    (front : List Token) × InCondition columns listed tokens (front ++ token.Word (codes "part") ∷ token.Compare (equals equal) ∷ []) × (nest ≡ kinds levels) × BeforeNext depth levels pending front
FrontAt columns depth awaits.MoreFactors nest listed pending levels tokens =
    (front : List Token) × InCondition columns listed tokens front × (nest ≡ kinds levels) × (term : CondTree) × (pending ≡ pending_of pending.either (Some term)) × Behind depth levels pending.either term front

abbrev pub Front : ℕ → ℕ → Progress → GrowthTree → List Token → Type 0
Front columns depth progress grown tokens = FrontAt columns depth progress.awaits progress.nest grown.columns grown.pending grown.levels tokens

-- a token that doesn't fit has nothing to keep
abbrev pub Kept : ℕ → ℕ → GrowthTree → List Token → Step → Type 0
Kept columns depth grown tokens (Ok next) = Front columns depth next.0 (grow grown next.1) tokens
Kept columns depth grown tokens (Err why) = Unit {0}

-- columns -----------------------------------------------------------------------------------------------------------------------

keep_listed : (columns depth room : ℕ) (nest : List Opener) (listed : List Column) (pending : PendingTree) (levels : List LevelTree) (tokens : List Token) (word : List ℕ) (o : Option Column) → column_of word ≡ o → FrontAt columns depth (awaits.Column room) nest listed pending levels tokens → Kept columns depth (grown_of listed pending levels) (tokens ++ token.Word word ∷ []) (at_listed room nest o)
keep_listed columns depth room nest listed pending levels tokens word None is h = tt
keep_listed columns depth room nest listed pending levels tokens word (Some column) is h =
    let long : length (listed ++ column ∷ []) ≡ length listed + 1 = length-append listed (column ∷ []) in
    (h.0, h.1, h.2, omega (arith, h.3, long), omega (arith, long), (λ i. h.4 i ++ token.Word (column_alone word column is i) ∷ []) ∙ one_column listed column)

keep_column : (columns depth room : ℕ) (nest : List Opener) (listed : List Column) (pending : PendingTree) (levels : List LevelTree) (tokens : List Token) (one : Token) → FrontAt columns depth (awaits.Column room) nest listed pending levels tokens → Kept columns depth (grown_of listed pending levels) (tokens ++ one ∷ []) (at_column room nest one)
unfolding at_column
keep_column columns depth room nest listed pending levels tokens (token.Word word) h = keep_listed columns depth room nest listed pending levels tokens word (column_of word) refl h
keep_column columns depth room nest listed pending levels tokens token.Comma h = tt
keep_column columns depth room nest listed pending levels tokens token.Open h = tt
keep_column columns depth room nest listed pending levels tokens token.Close h = tt
keep_column columns depth room nest listed pending levels tokens (token.Compare op) h = tt
keep_column columns depth room nest listed pending levels tokens token.Other h = tt

keep_where : (columns depth room : ℕ) (nest : List Opener) (listed : List Column) (pending : PendingTree) (levels : List LevelTree) (tokens : List Token) (word : List ℕ) (b : Bool) → pointwise nat_eq word (codes "WHERE") ≡ b → FrontAt columns depth (awaits.MoreColumns room) nest listed pending levels tokens
    → Kept columns depth (grown_of listed pending levels) (tokens ++ token.Word word ∷ []) (cond b (go awaits.Factor nest piece.Nothing) no_fit)
keep_where columns depth room nest listed pending levels tokens word false is h = tt
keep_where columns depth room nest listed pending levels tokens word true is h =
    let none : BeforeNext depth [] nothing_pending [] = (depth, (refl, nothing_front depth)) in (
      [],
      ((λ i. h.5 i ++ token.Word ((bytes_decides word (codes "WHERE")).0 is i) ∷ []), h.4, omega (arith, h.3)),
      h.0 ∙ ap kinds (sym h.2),
      subst (λ l. BeforeNext depth l pending []) (sym h.2) (subst (λ p. BeforeNext depth [] p []) (sym h.1) none),
    )

keep_comma : (columns depth room : ℕ) (nest : List Opener) (listed : List Column) (pending : PendingTree) (levels : List LevelTree) (tokens : List Token) (b : Bool) → (room == 0) ≡ b → FrontAt columns depth (awaits.MoreColumns room) nest listed pending levels tokens
    → Kept columns depth (grown_of listed pending levels) (tokens ++ token.Comma ∷ []) (cond b (Err rule.Many) (go (awaits.Column (room - 1)) nest piece.Nothing))
keep_comma columns depth room nest listed pending levels tokens true is h = tt
keep_comma columns depth room nest listed pending levels tokens false is h =
    let some : 0 < room = grind (arith, nat_tests) in
    (h.0, h.1, h.2, omega (arith, h.3, some), ap (λ t. t ++ token.Comma ∷ []) h.5 ∙ one_comma listed h.4)

keep_more : (columns depth room : ℕ) (nest : List Opener) (listed : List Column) (pending : PendingTree) (levels : List LevelTree) (tokens : List Token) (one : Token) → FrontAt columns depth (awaits.MoreColumns room) nest listed pending levels tokens → Kept columns depth (grown_of listed pending levels) (tokens ++ one ∷ []) (at_more_columns room nest one)
unfolding at_more_columns
keep_more columns depth room nest listed pending levels tokens (token.Word word) h = keep_where columns depth room nest listed pending levels tokens word (pointwise nat_eq word (codes "WHERE")) refl h
keep_more columns depth room nest listed pending levels tokens token.Comma h = keep_comma columns depth room nest listed pending levels tokens (room == 0) refl h
keep_more columns depth room nest listed pending levels tokens token.Open h = tt
keep_more columns depth room nest listed pending levels tokens token.Close h = tt
keep_more columns depth room nest listed pending levels tokens (token.Compare op) h = tt
keep_more columns depth room nest listed pending levels tokens token.Other h = tt

-- factors ----------------------------------------------------------------------------------------------------------------------

-- room for one more
open_room : (depth : ℕ) (nest : List Opener) (levels : List LevelTree) (room : ℕ) (pending : PendingTree) (front : List Token) → nest ≡ kinds levels → Before depth levels room pending front → nat_lt (length nest) depth ≡ true → (less : ℕ) × Before depth levels (suc less) pending front
open_room depth nest levels zero pending front n h b =
    absurd (let long : length nest ≡ length levels = ap length n ∙ length-kinds levels in let all = room_left depth levels zero pending front h in let more : length nest < depth = grind (arith, nat_tests) in omega (arith, long, all, more))
open_room depth nest levels (suc less) pending front n h b = (less, h)

keep_open : (columns depth : ℕ) (nest : List Opener) (listed : List Column) (pending : PendingTree) (levels : List LevelTree) (tokens : List Token) (b : Bool) → nat_lt (length nest) depth ≡ b → FrontAt columns depth awaits.Factor nest listed pending levels tokens
    → Kept columns depth (grown_of listed pending levels) (tokens ++ token.Open ∷ []) (opened opener.Paren (cond b (Some (opener.Paren ∷ nest)) None))
keep_open columns depth nest listed pending levels tokens false is h = tt
keep_open columns depth nest listed pending levels tokens true is h =
    let e = open_room depth nest levels h.3.0 pending h.0 h.2 h.3.1 is in
    (h.0 ++ token.Open ∷ [], more_in columns listed tokens h.0 (token.Open ∷ []) h.1, ap (λ t. opener.Paren ∷ t) h.2, (e.0, (h.0, [], refl, e.1, nothing_front e.0)))

keep_not : (columns depth : ℕ) (nest : List Opener) (listed : List Column) (pending : PendingTree) (levels : List LevelTree) (tokens : List Token) (word : List ℕ) (b : Bool) → word ≡ codes "NOT" → nat_lt (length nest) depth ≡ b → FrontAt columns depth awaits.Factor nest listed pending levels tokens
    → Kept columns depth (grown_of listed pending levels) (tokens ++ token.Word word ∷ []) (opened opener.Not (cond b (Some (opener.Not ∷ nest)) None))
keep_not columns depth nest listed pending levels tokens word false w is h = tt
keep_not columns depth nest listed pending levels tokens word true w is h =
    let e = open_room depth nest levels h.3.0 pending h.0 h.2 h.3.1 is in
    (h.0 ++ token.Word word ∷ [], more_in columns listed tokens h.0 (token.Word word ∷ []) h.1, ap (λ t. opener.Not ∷ t) h.2, (e.0, (h.0, ap (λ t. h.0 ++ token.Word t ∷ []) w, e.1)))

keep_tested : (columns depth : ℕ) (nest : List Opener) (listed : List Column) (pending : PendingTree) (levels : List LevelTree) (tokens : List Token) (word : List ℕ) (o : Option Column) → column_of word ≡ o → FrontAt columns depth awaits.Factor nest listed pending levels tokens
    → Kept columns depth (grown_of listed pending levels) (tokens ++ token.Word word ∷ []) (at_tested nest o)
keep_tested columns depth nest listed pending levels tokens word None is h = tt
keep_tested columns depth nest listed pending levels tokens word (Some column) is h =
    (h.0, subst (λ w. InCondition columns listed (tokens ++ token.Word word ∷ []) (h.0 ++ token.Word w ∷ [])) (column_alone word column is) (more_in columns listed tokens h.0 (token.Word word ∷ []) h.1), h.2, h.3)

keep_factor_word : (columns depth : ℕ) (nest : List Opener) (listed : List Column) (pending : PendingTree) (levels : List LevelTree) (tokens : List Token) (word : List ℕ) (b c : Bool) → pointwise nat_eq word (codes "NOT") ≡ b → pointwise nat_eq word (codes "part") ≡ c → FrontAt columns depth awaits.Factor nest listed pending levels tokens
    → Kept columns depth (grown_of listed pending levels) (tokens ++ token.Word word ∷ []) (cond b (open_with depth opener.Not nest) (cond c (go awaits.Equals nest piece.Nothing) (at_tested nest (column_of word))))
keep_factor_word columns depth nest listed pending levels tokens word true c is other h = keep_not columns depth nest listed pending levels tokens word (nat_lt (length nest) depth) ((bytes_decides word (codes "NOT")).0 is) refl h
keep_factor_word columns depth nest listed pending levels tokens word false true is other h =
    (h.0, subst (λ w. InCondition columns listed (tokens ++ token.Word word ∷ []) (h.0 ++ token.Word w ∷ [])) ((bytes_decides word (codes "part")).0 other) (more_in columns listed tokens h.0 (token.Word word ∷ []) h.1), h.2, h.3)
keep_factor_word columns depth nest listed pending levels tokens word false false is other h = keep_tested columns depth nest listed pending levels tokens word (column_of word) refl h

keep_factor : (columns depth : ℕ) (nest : List Opener) (listed : List Column) (pending : PendingTree) (levels : List LevelTree) (tokens : List Token) (one : Token) → FrontAt columns depth awaits.Factor nest listed pending levels tokens → Kept columns depth (grown_of listed pending levels) (tokens ++ one ∷ []) (at_factor depth nest one)
unfolding at_factor at_factor_word
keep_factor columns depth nest listed pending levels tokens (token.Word word) h = keep_factor_word columns depth nest listed pending levels tokens word (pointwise nat_eq word (codes "NOT")) (pointwise nat_eq word (codes "part")) refl refl h
keep_factor columns depth nest listed pending levels tokens token.Comma h = tt
keep_factor columns depth nest listed pending levels tokens token.Open h = keep_open columns depth nest listed pending levels tokens (nat_lt (length nest) depth) refl h
keep_factor columns depth nest listed pending levels tokens token.Close h = tt
keep_factor columns depth nest listed pending levels tokens (token.Compare op) h = tt
keep_factor columns depth nest listed pending levels tokens token.Other h = tt

-- tests -------------------------------------------------------------------------------------------------------------------------

-- one more token of a test
test_more : (columns : ℕ) (listed : List Column) (tokens front test : List Token) (one : Token) → InCondition columns listed tokens (front ++ test) → InCondition columns listed (tokens ++ one ∷ []) (front ++ (test ++ one ∷ []))
test_more columns listed tokens front test one h =
    let e = more_in columns listed tokens (front ++ test) (one ∷ []) h in
    (e.0 ∙ ap (λ t. column_tokens listed ++ token.Word (codes "WHERE") ∷ t) (append_assoc front test (one ∷ [])), e.1, e.2)

keep_op : (columns depth : ℕ) (column : Column) (nest : List Opener) (listed : List Column) (pending : PendingTree) (levels : List LevelTree) (tokens : List Token) (one : Token) → FrontAt columns depth (awaits.Op column) nest listed pending levels tokens → Kept columns depth (grown_of listed pending levels) (tokens ++ one ∷ []) (at_op column nest one)
unfolding at_op
keep_op columns depth column nest listed pending levels tokens (token.Word word) h = tt
keep_op columns depth column nest listed pending levels tokens token.Comma h = tt
keep_op columns depth column nest listed pending levels tokens token.Open h = tt
keep_op columns depth column nest listed pending levels tokens token.Close h = tt
keep_op columns depth column nest listed pending levels tokens (token.Compare op) h = (h.0, test_more columns listed tokens h.0 (token.Word (column_word column) ∷ []) (token.Compare op) h.1, h.2, h.3)
keep_op columns depth column nest listed pending levels tokens token.Other h = tt

-- the end of a test
keep_test : (columns depth : ℕ) (nest : List Opener) (listed : List Column) (pending : PendingTree) (levels : List LevelTree) (tokens front test : List Token) (tree : CondTree) → InCondition columns listed tokens (front ++ test) → nest ≡ kinds levels → BeforeNext depth levels pending front → ((room : ℕ) → Derives room Factor test tree)
    → FrontAt columns depth awaits.MoreFactors (behind_factor nest) listed (pending_with pending (negated levels tree)) (behind_nots levels) tokens
keep_test columns depth nest listed pending levels tokens front test tree h n b d =
    (front ++ test, h, ap behind_factor n ∙ kinds_behind levels, both_with pending.both (negated levels tree), refl, factor_done depth levels b.0 pending front test tree b.1 (d b.0))

keep_digits : (columns depth : ℕ) (column : Column) (op : Op) (nest : List Opener) (listed : List Column) (pending : PendingTree) (levels : List LevelTree) (tokens : List Token) (word : List ℕ) (r : Result ℕ Rule) → number_of 0 most_number word ≡ r → FrontAt columns depth (awaits.Number column op) nest listed pending levels tokens
    → Kept columns depth (grown_of listed pending levels) (tokens ++ token.Word word ∷ []) (with_number column op nest r)
keep_digits columns depth column op nest listed pending levels tokens word (Err why) is h = tt
keep_digits columns depth column op nest listed pending levels tokens word (Ok number) is h =
    let e = number_takes 0 most_number word number (omega arith) is in
    keep_test columns depth nest listed pending levels (tokens ++ token.Word word ∷ []) h.0 (token.Word (column_word column) ∷ token.Compare op ∷ token.Word (decimal number) ∷ []) (Compares column op number)
    (subst (λ w. InCondition columns listed (tokens ++ token.Word word ∷ []) (h.0 ++ token.Word (column_word column) ∷ token.Compare op ∷ token.Word w ∷ [])) e.0 (test_more columns listed tokens h.0 (token.Word (column_word column) ∷ token.Compare op ∷ []) (token.Word word) h.1))
    h.2 h.3 (λ room. a_comparison column op number e.2)

keep_number : (columns depth : ℕ) (column : Column) (op : Op) (nest : List Opener) (listed : List Column) (pending : PendingTree) (levels : List LevelTree) (tokens : List Token) (one : Token) → FrontAt columns depth (awaits.Number column op) nest listed pending levels tokens → Kept columns depth (grown_of listed pending levels) (tokens ++ one ∷ []) (at_number column op nest one)
unfolding at_number
keep_number columns depth column op nest listed pending levels tokens (token.Word word) h = keep_digits columns depth column op nest listed pending levels tokens word (number_of 0 most_number word) refl h
keep_number columns depth column op nest listed pending levels tokens token.Comma h = tt
keep_number columns depth column op nest listed pending levels tokens token.Open h = tt
keep_number columns depth column op nest listed pending levels tokens token.Close h = tt
keep_number columns depth column op nest listed pending levels tokens (token.Compare sign) h = tt
keep_number columns depth column op nest listed pending levels tokens token.Other h = tt

keep_equals : (columns depth : ℕ) (nest : List Opener) (listed : List Column) (pending : PendingTree) (levels : List LevelTree) (tokens : List Token) (one : Token) → FrontAt columns depth awaits.Equals nest listed pending levels tokens → Kept columns depth (grown_of listed pending levels) (tokens ++ one ∷ []) (at_equals nest one)
unfolding at_equals
keep_equals columns depth nest listed pending levels tokens (token.Word word) h = tt
keep_equals columns depth nest listed pending levels tokens token.Comma h = tt
keep_equals columns depth nest listed pending levels tokens token.Open h = tt
keep_equals columns depth nest listed pending levels tokens token.Close h = tt
keep_equals columns depth nest listed pending levels tokens (token.Compare ops.Eq) h = (h.0, test_more columns listed tokens h.0 (token.Word (codes "part") ∷ []) (token.Compare ops.Eq) h.1, h.2, h.3)
keep_equals columns depth nest listed pending levels tokens (token.Compare ops.Ne) h = (h.0, test_more columns listed tokens h.0 (token.Word (codes "part") ∷ []) (token.Compare ops.Ne) h.1, h.2, h.3)
keep_equals columns depth nest listed pending levels tokens (token.Compare ops.Lt) h = tt
keep_equals columns depth nest listed pending levels tokens (token.Compare ops.Le) h = tt
keep_equals columns depth nest listed pending levels tokens (token.Compare ops.Gt) h = tt
keep_equals columns depth nest listed pending levels tokens (token.Compare ops.Ge) h = tt
keep_equals columns depth nest listed pending levels tokens token.Other h = tt

keep_named : (columns depth : ℕ) (equal : Bool) (nest : List Opener) (listed : List Column) (pending : PendingTree) (levels : List LevelTree) (tokens : List Token) (word : List ℕ) (o : Option (List ℕ)) → name_of word ≡ o → FrontAt columns depth (awaits.Name equal) nest listed pending levels tokens
    → Kept columns depth (grown_of listed pending levels) (tokens ++ token.Word word ∷ []) (with_name equal nest o)
keep_named columns depth equal nest listed pending levels tokens word None is h = tt
keep_named columns depth equal nest listed pending levels tokens word (Some name) is h =
    let e = name_alone word name is in
    keep_test columns depth nest listed pending levels (tokens ++ token.Word word ∷ []) h.0 (token.Word (codes "part") ∷ token.Compare (equals equal) ∷ token.Word name ∷ []) (IsNamed name equal)
    (subst (λ w. InCondition columns listed (tokens ++ token.Word word ∷ []) (h.0 ++ token.Word (codes "part") ∷ token.Compare (equals equal) ∷ token.Word w ∷ [])) e.0 (test_more columns listed tokens h.0 (token.Word (codes "part") ∷ token.Compare (equals equal) ∷ []) (token.Word word) h.1))
    h.2 h.3 (λ room. a_naming name equal e.1)

keep_name : (columns depth : ℕ) (equal : Bool) (nest : List Opener) (listed : List Column) (pending : PendingTree) (levels : List LevelTree) (tokens : List Token) (one : Token) → FrontAt columns depth (awaits.Name equal) nest listed pending levels tokens → Kept columns depth (grown_of listed pending levels) (tokens ++ one ∷ []) (at_name equal nest one)
unfolding at_name
keep_name columns depth equal nest listed pending levels tokens (token.Word word) h = keep_named columns depth equal nest listed pending levels tokens word (name_of word) refl h
keep_name columns depth equal nest listed pending levels tokens token.Comma h = tt
keep_name columns depth equal nest listed pending levels tokens token.Open h = tt
keep_name columns depth equal nest listed pending levels tokens token.Close h = tt
keep_name columns depth equal nest listed pending levels tokens (token.Compare sign) h = tt
keep_name columns depth equal nest listed pending levels tokens token.Other h = tt

-- behind factors ------------------------------------------------------------------------------------------------------------------

keep_joint : (columns depth : ℕ) (nest : List Opener) (listed : List Column) (pending : PendingTree) (levels : List LevelTree) (tokens : List Token) (word : List ℕ) (b c : Bool) → pointwise nat_eq word (codes "AND") ≡ b → pointwise nat_eq word (codes "OR") ≡ c → FrontAt columns depth awaits.MoreFactors nest listed pending levels tokens
    → Kept columns depth (grown_of listed pending levels) (tokens ++ token.Word word ∷ []) (cond b (go awaits.Factor nest piece.Nothing) (cond c (go awaits.Factor nest piece.Or) no_fit))
keep_joint columns depth nest listed pending levels tokens word true c is other h =
    let same : word ≡ codes "AND" = (bytes_decides word (codes "AND")).0 is in (
      h.0 ++ token.Word word ∷ [],
      more_in columns listed tokens h.0 (token.Word word ∷ []) h.1,
      h.2,
      subst (λ p. BeforeNext depth levels p (h.0 ++ token.Word word ∷ [])) (sym h.4) (subst (λ w. BeforeNext depth levels (pending_of pending.either (Some h.3)) (h.0 ++ token.Word w ∷ [])) (sym same) (next_and depth levels pending.either h.3 h.0 h.5)),
    )
keep_joint columns depth nest listed pending levels tokens word false true is other h =
    let same : word ≡ codes "OR" = (bytes_decides word (codes "OR")).0 other in (
      h.0 ++ token.Word word ∷ [],
      more_in columns listed tokens h.0 (token.Word word ∷ []) h.1,
      h.2,
      subst (λ p. BeforeNext depth levels p (h.0 ++ token.Word word ∷ [])) (sym (ap behind_or h.4)) (subst (λ w. BeforeNext depth levels (pending_of (Some (either_with pending.either h.3)) None) (h.0 ++ token.Word w ∷ [])) (sym same) (next_or depth levels pending.either h.3 h.0 h.5)),
    )
keep_joint columns depth nest listed pending levels tokens word false false is other h = tt

keep_close : (columns depth : ℕ) (listed : List Column) (pending : PendingTree) (levels : List LevelTree) (tokens front : List Token) (term : CondTree) → InCondition columns listed tokens front → pending ≡ pending_of pending.either (Some term) → Behind depth levels pending.either term front
    → Kept columns depth (grown_of listed pending levels) (tokens ++ token.Close ∷ []) (close (kinds levels))
keep_close columns depth listed pending [] tokens front term h p b = tt
keep_close columns depth listed pending (Negated ∷ levels) tokens front term h p b = tt
keep_close columns depth listed pending (Inside around ∷ levels) tokens front term h p b =
    subst (λ q. Kept columns depth (grown_of listed q (Inside around ∷ levels)) (tokens ++ token.Close ∷ []) (close (kinds (Inside around ∷ levels)))) (sym p)
    (front ++ token.Close ∷ [], more_in columns listed tokens front (token.Close ∷ []) h, kinds_behind levels, both_with around.both (negated levels (either_with pending.either term)), refl, next_close depth around levels pending.either term front b)

keep_factors : (columns depth : ℕ) (nest : List Opener) (listed : List Column) (pending : PendingTree) (levels : List LevelTree) (tokens : List Token) (one : Token) → FrontAt columns depth awaits.MoreFactors nest listed pending levels tokens → Kept columns depth (grown_of listed pending levels) (tokens ++ one ∷ []) (at_more_factors nest one)
unfolding at_more_factors
keep_factors columns depth nest listed pending levels tokens (token.Word word) h = keep_joint columns depth nest listed pending levels tokens word (pointwise nat_eq word (codes "AND")) (pointwise nat_eq word (codes "OR")) refl refl h
keep_factors columns depth nest listed pending levels tokens token.Comma h = tt
keep_factors columns depth nest listed pending levels tokens token.Open h = tt
keep_factors columns depth nest listed pending levels tokens token.Close h = subst (λ n. Kept columns depth (grown_of listed pending levels) (tokens ++ token.Close ∷ []) (close n)) (sym h.2) (keep_close columns depth listed pending levels tokens h.0 h.3 h.1 h.4 h.5)
keep_factors columns depth nest listed pending levels tokens (token.Compare op) h = tt
keep_factors columns depth nest listed pending levels tokens token.Other h = tt

-- one more token
pub keeps : (columns depth : ℕ) (next : Awaits) (nest : List Opener) (grown : GrowthTree) (tokens : List Token) (one : Token) → Front columns depth (at next nest) grown tokens → Kept columns depth grown (tokens ++ one ∷ []) (step depth (at next nest) one)
unfolding step
keeps columns depth (awaits.Column room) nest grown tokens one h = keep_column columns depth room nest grown.columns grown.pending grown.levels tokens one h
keeps columns depth (awaits.MoreColumns room) nest grown tokens one h = keep_more columns depth room nest grown.columns grown.pending grown.levels tokens one h
keeps columns depth awaits.Factor nest grown tokens one h = keep_factor columns depth nest grown.columns grown.pending grown.levels tokens one h
keeps columns depth (awaits.Op column) nest grown tokens one h = keep_op columns depth column nest grown.columns grown.pending grown.levels tokens one h
keeps columns depth (awaits.Number column op) nest grown tokens one h = keep_number columns depth column op nest grown.columns grown.pending grown.levels tokens one h
keeps columns depth awaits.Equals nest grown tokens one h = keep_equals columns depth nest grown.columns grown.pending grown.levels tokens one h
keeps columns depth (awaits.Name equal) nest grown tokens one h = keep_name columns depth equal nest grown.columns grown.pending grown.levels tokens one h
keeps columns depth awaits.MoreFactors nest grown tokens one h = keep_factors columns depth nest grown.columns grown.pending grown.levels tokens one h
