-- What the limits have to do with the tokens that fit.
use Rattle.std.proofs.Common.{◌≡◌, ℕ, suc, ◌+◌, ◌-◌, ◌==◌, ◌<◌, Bool, true, false, cond, nat_eq, nat_lt, List, [], ◌∷◌, length, Option, Some, None, Result, Ok, Err, refl, ap, ◌∙◌, subst, arith}
use Rattle.std.specs.Prelude.{codes}
use Rattle.std.specs.Cmp.Lexicographic.{pointwise}
use Rattle.std.proofs.lemmas.Bool.Decides.{nat_tests}
use Rattle.plan_schema.specs.Name.{name_of}
use Rattle.plan_schema.specs.declared.fault.Rule.{Rule}
use Rattle.row_text.specs.Number.{number_of}
use Rattle.query_language.specs.Growing.{GrowthTree, grow, nothing_grown}
use Rattle.query_language.specs.Reading.{Step, step, step_at, before_query, go, no_fit, opened, open_with, at_listed, at_comma, at_tested, with_number, with_name, closed, behind_close, at_column, at_more_columns, at_factor, at_factor_word, at_op, at_number, at_equals, at_name, at_more_factors, most_number}
use Rattle.query_language.specs.Words.{column_of}
use Rattle.query_language.specs.declared.column.Column.{Column}
use Rattle.query_language.specs.declared.column.Op.{Op}
use Rattle.query_language.specs.declared.column.Op.TheVariants as ops
use Rattle.query_language.specs.declared.fault.QueryRule.TheVariants as rule
use Rattle.query_language.specs.declared.nest.Opener.{Opener}
use Rattle.query_language.specs.declared.nest.Opener.TheVariants as opener
use Rattle.query_language.specs.declared.progress.Awaits.{Awaits}
use Rattle.query_language.specs.declared.progress.Awaits.TheVariants as awaits
use Rattle.query_language.specs.declared.progress.Piece.{Piece}
use Rattle.query_language.specs.declared.progress.Piece.TheVariants as piece
use Rattle.query_language.specs.declared.progress.Progress.{Progress}
use Rattle.query_language.specs.declared.token.Token.{Token}
use Rattle.query_language.specs.declared.token.Token.TheVariants as token
use Rattle.query_language.proofs.Complete.{at}
use Rattle.query_language.proofs.Runs.{State, run, onward}

-- the same with room for so many columns more
abbrev pub wider : ℕ → Awaits → Awaits
wider more (awaits.Column room) = awaits.Column (room + more)
wider more (awaits.MoreColumns room) = awaits.MoreColumns (room + more)
wider more awaits.Factor = awaits.Factor
wider more (awaits.Op column) = awaits.Op column
wider more (awaits.Number column op) = awaits.Number column op
wider more awaits.Equals = awaits.Equals
wider more (awaits.Name equal) = awaits.Name equal
wider more awaits.MoreFactors = awaits.MoreFactors

abbrev pub wider_at : ℕ → Progress → Progress
wider_at more progress = at (wider more progress.awaits) progress.nest

-- what wider limits make of a step: a token that fits still fits, one that doesn't fit still doesn't, and one that is past a limit fits
-- where the limit is one more
abbrev pub Judged : (ℕ → ℕ → Step) → Bool → Step → Type 0
Judged others within (Ok next) = (deeper more : ℕ) → others deeper more ≡ Ok (wider_at more next.0, next.1)
Judged others within (Err rule.Word) = (deeper more : ℕ) → others deeper more ≡ Err rule.Word
Judged others within (Err rule.Many) = (next : Progress × Piece) × (others 0 1 ≡ Ok next)
Judged others within (Err rule.Deep) = within ≡ true → (next : Progress × Piece) × (others 1 0 ≡ Ok next)
Judged others within (Err rule.End) = ⊥

-- no more are in force than may be
abbrev pub is_within : ℕ → List Opener → Bool
is_within depth nest = nat_lt (length nest) (suc depth)

judge_listed : (nest : List Opener) (b : Bool) (room : ℕ) (o : Option Column) → Judged (λ deeper more. at_listed (room + more) nest o) b (at_listed room nest o)
judge_listed nest b room (Some column) = λ deeper more. refl
judge_listed nest b room None = λ deeper more. refl

judge_where : (nest : List Opener) (b c : Bool) → Judged (λ deeper more. cond c (go awaits.Factor nest piece.Nothing) no_fit) b (cond c (go awaits.Factor nest piece.Nothing) no_fit)
judge_where nest b true = λ deeper more. refl
judge_where nest b false = λ deeper more. refl

wide : (room more : ℕ) → (room == 0) ≡ false → ((room + more) == 0) ≡ false
wide room more h = grind (arith, nat_tests)

later : (room more : ℕ) → (room == 0) ≡ false → (room + more) - 1 ≡ (room - 1) + more
later room more h = let some : 0 < room = grind (arith, nat_tests) in omega (arith, some)

one_more : (room : ℕ) → ((room + 1) == 0) ≡ false
one_more room = grind (arith, nat_tests)

judge_comma : (nest : List Opener) (b : Bool) (room : ℕ) (c : Bool) → (room == 0) ≡ c → Judged (λ deeper more. at_comma (room + more) nest) b (cond c (Err rule.Many) (go (awaits.Column (room - 1)) nest piece.Nothing))
judge_comma nest b room true is = ((at (awaits.Column ((room + 1) - 1)) nest, piece.Nothing), ap (λ c. cond c (Err rule.Many) (go (awaits.Column ((room + 1) - 1)) nest piece.Nothing)) (one_more room))
judge_comma nest b room false is = λ deeper more.
    ap (λ c. cond c (Err rule.Many) (go (awaits.Column ((room + more) - 1)) nest piece.Nothing)) (wide room more is) ∙ ap (λ n. go (awaits.Column n) nest piece.Nothing) (later room more is)

deep : (depth deeper : ℕ) (nest : List Opener) → nat_lt (length nest) depth ≡ true → nat_lt (length nest) (depth + deeper) ≡ true
deep depth deeper nest h = grind (arith, nat_tests)

one_deeper : (depth : ℕ) (nest : List Opener) → is_within depth nest ≡ true → nat_lt (length nest) (depth + 1) ≡ true
one_deeper depth nest h = grind (arith, nat_tests)

judge_open : (depth : ℕ) (nest : List Opener) (one : Opener) (c : Bool) → nat_lt (length nest) depth ≡ c → Judged (λ deeper more. open_with (depth + deeper) one nest) (is_within depth nest) (opened one (cond c (Some (one ∷ nest)) None))
judge_open depth nest one true is = λ deeper more. ap (λ c. opened one (cond c (Some (one ∷ nest)) None)) (deep depth deeper nest is)
judge_open depth nest one false is = λ within. ((at awaits.Factor (one ∷ nest), piece.Opener one), ap (λ c. opened one (cond c (Some (one ∷ nest)) None)) (one_deeper depth nest within))

judge_tested : (nest : List Opener) (b : Bool) (o : Option Column) → Judged (λ deeper more. at_tested nest o) b (at_tested nest o)
judge_tested nest b (Some column) = λ deeper more. refl
judge_tested nest b None = λ deeper more. refl

judge_factor_word : (depth : ℕ) (nest : List Opener) (word : List ℕ) (c d : Bool)
    → Judged (λ deeper more. cond c (open_with (depth + deeper) opener.Not nest) (cond d (go awaits.Equals nest piece.Nothing) (at_tested nest (column_of word)))) (is_within depth nest)
    (cond c (open_with depth opener.Not nest) (cond d (go awaits.Equals nest piece.Nothing) (at_tested nest (column_of word))))
judge_factor_word depth nest word true d = judge_open depth nest opener.Not (nat_lt (length nest) depth) refl
judge_factor_word depth nest word false true = λ deeper more. refl
judge_factor_word depth nest word false false = judge_tested nest (is_within depth nest) (column_of word)

judge_number : (column : Column) (op : Op) (nest : List Opener) (b : Bool) (r : Result ℕ Rule) → Judged (λ deeper more. with_number column op nest r) b (with_number column op nest r)
judge_number column op nest b (Ok number) = λ deeper more. refl
judge_number column op nest b (Err why) = λ deeper more. refl

judge_name : (equal : Bool) (nest : List Opener) (b : Bool) (o : Option (List ℕ)) → Judged (λ deeper more. with_name equal nest o) b (with_name equal nest o)
judge_name equal nest b (Some name) = λ deeper more. refl
judge_name equal nest b None = λ deeper more. refl

judge_joint : (nest : List Opener) (b c d : Bool) → Judged (λ deeper more. cond c (go awaits.Factor nest piece.Nothing) (cond d (go awaits.Factor nest piece.Or) no_fit)) b (cond c (go awaits.Factor nest piece.Nothing) (cond d (go awaits.Factor nest piece.Or) no_fit))
judge_joint nest b true d = λ deeper more. refl
judge_joint nest b false true = λ deeper more. refl
judge_joint nest b false false = λ deeper more. refl

judge_close : (b : Bool) (o : Option (List Opener)) → Judged (λ deeper more. closed o) b (closed o)
judge_close b (Some nest) = λ deeper more. refl
judge_close b None = λ deeper more. refl

abbrev JudgedAt : ℕ → Awaits → List Opener → Token → Type 0
JudgedAt depth next nest one = Judged (λ deeper more. step_at (depth + deeper) (wider more next) nest one) (is_within depth nest) (step_at depth next nest one)

judge_column : (depth room : ℕ) (nest : List Opener) (one : Token) → JudgedAt depth (awaits.Column room) nest one
unfolding at_column
judge_column depth room nest (token.Word word) = judge_listed nest (is_within depth nest) room (column_of word)
judge_column depth room nest token.Comma = λ deeper more. refl
judge_column depth room nest token.Open = λ deeper more. refl
judge_column depth room nest token.Close = λ deeper more. refl
judge_column depth room nest (token.Compare op) = λ deeper more. refl
judge_column depth room nest token.Other = λ deeper more. refl

judge_more : (depth room : ℕ) (nest : List Opener) (one : Token) → JudgedAt depth (awaits.MoreColumns room) nest one
unfolding at_more_columns
judge_more depth room nest (token.Word word) = judge_where nest (is_within depth nest) (pointwise nat_eq word (codes "WHERE"))
judge_more depth room nest token.Comma = judge_comma nest (is_within depth nest) room (room == 0) refl
judge_more depth room nest token.Open = λ deeper more. refl
judge_more depth room nest token.Close = λ deeper more. refl
judge_more depth room nest (token.Compare op) = λ deeper more. refl
judge_more depth room nest token.Other = λ deeper more. refl

judge_factor : (depth : ℕ) (nest : List Opener) (one : Token) → JudgedAt depth awaits.Factor nest one
unfolding at_factor at_factor_word
judge_factor depth nest (token.Word word) = judge_factor_word depth nest word (pointwise nat_eq word (codes "NOT")) (pointwise nat_eq word (codes "part"))
judge_factor depth nest token.Comma = λ deeper more. refl
judge_factor depth nest token.Open = judge_open depth nest opener.Paren (nat_lt (length nest) depth) refl
judge_factor depth nest token.Close = λ deeper more. refl
judge_factor depth nest (token.Compare op) = λ deeper more. refl
judge_factor depth nest token.Other = λ deeper more. refl

judge_op : (depth : ℕ) (column : Column) (nest : List Opener) (one : Token) → JudgedAt depth (awaits.Op column) nest one
unfolding at_op
judge_op depth column nest (token.Word word) = λ deeper more. refl
judge_op depth column nest token.Comma = λ deeper more. refl
judge_op depth column nest token.Open = λ deeper more. refl
judge_op depth column nest token.Close = λ deeper more. refl
judge_op depth column nest (token.Compare op) = λ deeper more. refl
judge_op depth column nest token.Other = λ deeper more. refl

judge_digits : (depth : ℕ) (column : Column) (op : Op) (nest : List Opener) (one : Token) → JudgedAt depth (awaits.Number column op) nest one
unfolding at_number
judge_digits depth column op nest (token.Word word) = judge_number column op nest (is_within depth nest) (number_of 0 most_number word)
judge_digits depth column op nest token.Comma = λ deeper more. refl
judge_digits depth column op nest token.Open = λ deeper more. refl
judge_digits depth column op nest token.Close = λ deeper more. refl
judge_digits depth column op nest (token.Compare sign) = λ deeper more. refl
judge_digits depth column op nest token.Other = λ deeper more. refl

judge_equals : (depth : ℕ) (nest : List Opener) (one : Token) → JudgedAt depth awaits.Equals nest one
unfolding at_equals
judge_equals depth nest (token.Word word) = λ deeper more. refl
judge_equals depth nest token.Comma = λ deeper more. refl
judge_equals depth nest token.Open = λ deeper more. refl
judge_equals depth nest token.Close = λ deeper more. refl
judge_equals depth nest (token.Compare ops.Eq) = λ deeper more. refl
judge_equals depth nest (token.Compare ops.Ne) = λ deeper more. refl
judge_equals depth nest (token.Compare ops.Lt) = λ deeper more. refl
judge_equals depth nest (token.Compare ops.Le) = λ deeper more. refl
judge_equals depth nest (token.Compare ops.Gt) = λ deeper more. refl
judge_equals depth nest (token.Compare ops.Ge) = λ deeper more. refl
judge_equals depth nest token.Other = λ deeper more. refl

judge_named : (depth : ℕ) (equal : Bool) (nest : List Opener) (one : Token) → JudgedAt depth (awaits.Name equal) nest one
unfolding at_name
judge_named depth equal nest (token.Word word) = judge_name equal nest (is_within depth nest) (name_of word)
judge_named depth equal nest token.Comma = λ deeper more. refl
judge_named depth equal nest token.Open = λ deeper more. refl
judge_named depth equal nest token.Close = λ deeper more. refl
judge_named depth equal nest (token.Compare sign) = λ deeper more. refl
judge_named depth equal nest token.Other = λ deeper more. refl

judge_factors : (depth : ℕ) (nest : List Opener) (one : Token) → JudgedAt depth awaits.MoreFactors nest one
unfolding at_more_factors
judge_factors depth nest (token.Word word) = judge_joint nest (is_within depth nest) (pointwise nat_eq word (codes "AND")) (pointwise nat_eq word (codes "OR"))
judge_factors depth nest token.Comma = λ deeper more. refl
judge_factors depth nest token.Open = λ deeper more. refl
judge_factors depth nest token.Close = judge_close (is_within depth nest) (behind_close nest)
judge_factors depth nest (token.Compare op) = λ deeper more. refl
judge_factors depth nest token.Other = λ deeper more. refl

pub judge_at : (depth : ℕ) (next : Awaits) (nest : List Opener) (one : Token) → JudgedAt depth next nest one
judge_at depth (awaits.Column room) nest one = judge_column depth room nest one
judge_at depth (awaits.MoreColumns room) nest one = judge_more depth room nest one
judge_at depth awaits.Factor nest one = judge_factor depth nest one
judge_at depth (awaits.Op column) nest one = judge_op depth column nest one
judge_at depth (awaits.Number column op) nest one = judge_digits depth column op nest one
judge_at depth awaits.Equals nest one = judge_equals depth nest one
judge_at depth (awaits.Name equal) nest one = judge_named depth equal nest one
judge_at depth awaits.MoreFactors nest one = judge_factors depth nest one

pub judge : (depth : ℕ) (progress : Progress) (one : Token) → Judged (λ deeper more. step (depth + deeper) (wider_at more progress) one) (is_within depth progress.nest) (step depth progress one)
unfolding step
judge depth progress one = judge_at depth progress.awaits progress.nest one

-- runs --------------------------------------------------------------------------------------------------------------------------

abbrev pub wider_state : ℕ → State → State
wider_state more state = (wider_at more state.0, state.1)

wider_step : (deeper more : ℕ) (depth : ℕ) (grown : GrowthTree) (tokens : List Token) (others : ℕ → ℕ → Step) (b : Bool) (s : Step) (state : State) → Judged others b s
    → ((p : Progress) (g : GrowthTree) → run depth p g tokens ≡ Some state → run (depth + deeper) (wider_at more p) g tokens ≡ Some (wider_state more state))
    → onward s grown (λ p g. run depth p g tokens) ≡ Some state → onward (others deeper more) grown (λ p g. run (depth + deeper) p g tokens) ≡ Some (wider_state more state)
wider_step deeper more depth grown tokens others b (Ok next) state j by h = ap (λ s. onward s grown (λ p g. run (depth + deeper) p g tokens)) (j deeper more) ∙ by next.0 (grow grown next.1) h
wider_step deeper more depth grown tokens others b (Err why) state j by h = cc

-- a run within narrow limits is one within wider limits
pub wider_run : (deeper more depth : ℕ) (progress : Progress) (grown : GrowthTree) (tokens : List Token) (state : State) → run depth progress grown tokens ≡ Some state → run (depth + deeper) (wider_at more progress) grown tokens ≡ Some (wider_state more state)
wider_run deeper more depth progress grown [] state h = ap Some (let same : (progress, grown) ≡ state = cc in ap (wider_state more) same)
wider_run deeper more depth progress grown (one ∷ tokens) state h =
    wider_step deeper more depth grown tokens (λ d m. step (depth + d) (wider_at m progress) one) (is_within depth progress.nest) (step depth progress one) state (judge depth progress one) (λ p g r. wider_run deeper more depth p g tokens state r) h

pub wider_start : (columns more : ℕ) → 0 < columns → wider_at more (before_query columns) ≡ before_query (columns + more)
wider_start columns more h = let same : (columns - 1) + more ≡ (columns + more) - 1 = omega arith in ap (λ n. at (awaits.Column n) []) same

pub wider_query : (deeper more depth columns : ℕ) (tokens : List Token) (state : State) → 0 < columns → run depth (before_query columns) nothing_grown tokens ≡ Some state → run (depth + deeper) (before_query (columns + more)) nothing_grown tokens ≡ Some (wider_state more state)
wider_query deeper more depth columns tokens state some h =
    subst (λ p. run (depth + deeper) p nothing_grown tokens ≡ Some (wider_state more state)) (wider_start columns more some) (wider_run deeper more depth (before_query columns) nothing_grown tokens state h)
