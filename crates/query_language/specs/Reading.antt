-- A query read token by token. What may come next, and what is in force there, decide whether a token fits; so the first token that
-- doesn't fit is the first that no query continues.
use Rattle.std.specs.Prelude.{ℕ, ◌-◌, Bool, true, false, ◌==◌, nat_eq, nat_lt, List, [], ◌∷◌, length, Option, Some, None, Result, Ok, Err, if◌then◌else◌, codes}
use Rattle.std.specs.Cmp.Lexicographic.{pointwise}
use Rattle.plan_schema.specs.declared.fault.Rule.{Rule}
use Rattle.plan_schema.specs.Name.{name_of}
use Rattle.row_text.specs.Number.{number_of}
use Rattle.query_language.specs.Words.{column_of}
use Rattle.query_language.specs.Tokens.{tokens_of}
use Rattle.query_language.specs.declared.column.Column.{Column}
use Rattle.query_language.specs.declared.column.Op.{Op}
use Rattle.query_language.specs.declared.column.Op.TheVariants as ops
use Rattle.query_language.specs.declared.fault.QueryFault.{QueryFault}
use Rattle.query_language.specs.declared.fault.QueryRule.{QueryRule}
use Rattle.query_language.specs.declared.fault.QueryRule.TheVariants as rule
use Rattle.query_language.specs.declared.nest.Opener.{Opener}
use Rattle.query_language.specs.declared.nest.Opener.TheVariants as opener
use Rattle.query_language.specs.declared.progress.Awaits.{Awaits}
use Rattle.query_language.specs.declared.progress.Awaits.TheVariants as awaits
use Rattle.query_language.specs.declared.progress.Piece.{Piece}
use Rattle.query_language.specs.declared.progress.Piece.TheVariants as piece
use Rattle.query_language.specs.declared.progress.Progress.{Progress}
use Rattle.query_language.specs.declared.token.Token.{Token}
use Rattle.query_language.specs.declared.token.Token.TheVariants as token

-- what is in force ----------------------------------------------------------------------------------------------------------

-- one more inside the others, unless there are as many as may be
abbrev pub nest_with : ℕ → Opener → List Opener → Option (List Opener)
nest_with depth one nest = if nat_lt (length nest) depth then Some (one ∷ nest) else None

-- the end of a factor is the end of every `NOT` right before it
abbrev pub behind_factor : List Opener → List Opener
behind_factor [] = []
behind_factor (opener.Not ∷ nest) = behind_factor nest
behind_factor (opener.Paren ∷ nest) = opener.Paren ∷ nest

-- a `)` ends the `(` that stands innermost, and so a factor
abbrev pub behind_close : List Opener → Option (List Opener)
behind_close [] = None
behind_close (opener.Not ∷ nest) = None
behind_close (opener.Paren ∷ nest) = Some (behind_factor nest)

-- one token ------------------------------------------------------------------------------------------------------------------

-- what a token leads to, and what it adds to the query; or why it doesn't fit
abbrev pub Step : Type 0
Step = Result (Progress × Piece) QueryRule

abbrev pub no_fit : Step
no_fit = Err rule.Word

abbrev pub go : Awaits → List Opener → Piece → Step
go next nest added = Ok (record { awaits = next; nest = nest }, added)

-- the list of columns: a column, with room for so many more
abbrev pub at_listed : ℕ → List Opener → Option Column → Step
at_listed room nest (Some column) = go (awaits.MoreColumns room) nest (piece.Column column)
at_listed room nest None = no_fit

unfoldable pub at_column : ℕ → List Opener → Token → Step
at_column room nest (token.Word word) = at_listed room nest (column_of word)
at_column room nest _ = no_fit

-- behind a column: a comma, where there is room, or the condition
abbrev pub at_where : List Opener → List ℕ → Step
at_where nest word = if pointwise nat_eq word (codes "WHERE") then go awaits.Factor nest piece.Nothing else no_fit

abbrev pub at_comma : ℕ → List Opener → Step
at_comma room nest = if room == 0 then Err rule.Many else go (awaits.Column (room - 1)) nest piece.Nothing

unfoldable pub at_more_columns : ℕ → List Opener → Token → Step
at_more_columns room nest (token.Word word) = at_where nest word
at_more_columns room nest token.Comma = at_comma room nest
at_more_columns room nest _ = no_fit

-- a factor: `NOT` and `(` come into force, where they aren't too deep; `part` or a column begins a test
abbrev pub opened : Opener → Option (List Opener) → Step
opened one (Some nest) = go awaits.Factor nest (piece.Opener one)
opened one None = Err rule.Deep

abbrev pub open_with : ℕ → Opener → List Opener → Step
open_with depth one nest = opened one (nest_with depth one nest)

abbrev pub at_tested : List Opener → Option Column → Step
at_tested nest (Some column) = go (awaits.Op column) nest piece.Nothing
at_tested nest None = no_fit

unfoldable pub at_factor_word : ℕ → List Opener → List ℕ → Step
at_factor_word depth nest word =
    if pointwise nat_eq word (codes "NOT") then open_with depth opener.Not nest
    else (if pointwise nat_eq word (codes "part") then go awaits.Equals nest piece.Nothing
    else at_tested nest (column_of word))

unfoldable pub at_factor : ℕ → List Opener → Token → Step
at_factor depth nest (token.Word word) = at_factor_word depth nest word
at_factor depth nest token.Open = open_with depth opener.Paren nest
at_factor depth nest _ = no_fit

-- a test: a column, a comparison, and a number of at most 18 digits
abbrev pub end_factor : List Opener → Piece → Step
end_factor nest added = go awaits.MoreFactors (behind_factor nest) added

unfoldable pub at_op : Column → List Opener → Token → Step
at_op column nest (token.Compare op) = go (awaits.Number column op) nest piece.Nothing
at_op column nest _ = no_fit

-- the greatest number of 18 digits
abbrev pub most_number : ℕ
most_number = 999_999_999_999_999_999

abbrev pub with_number : Column → Op → List Opener → Result ℕ Rule → Step
with_number column op nest (Ok number) = end_factor nest (piece.Is column op number)
with_number column op nest (Err why) = no_fit

unfoldable pub at_number : Column → Op → List Opener → Token → Step
at_number column op nest (token.Word word) = with_number column op nest (number_of 0 most_number word)
at_number column op nest _ = no_fit

-- a test: `part`, `=` or `!=`, and a name, which may be any word that is a name
unfoldable pub at_equals : List Opener → Token → Step
at_equals nest (token.Compare ops.Eq) = go (awaits.Name true) nest piece.Nothing
at_equals nest (token.Compare ops.Ne) = go (awaits.Name false) nest piece.Nothing
at_equals nest _ = no_fit

abbrev pub with_name : Bool → List Opener → Option (List ℕ) → Step
with_name equal nest (Some name) = end_factor nest (piece.Named name equal)
with_name equal nest None = no_fit

unfoldable pub at_name : Bool → List Opener → Token → Step
at_name equal nest (token.Word word) = with_name equal nest (name_of word)
at_name equal nest _ = no_fit

-- behind a factor: `AND`, `OR` or a `)`
abbrev pub at_joint : List Opener → List ℕ → Step
at_joint nest word =
    if pointwise nat_eq word (codes "AND") then go awaits.Factor nest piece.Nothing
    else (if pointwise nat_eq word (codes "OR") then go awaits.Factor nest piece.Or else no_fit)

abbrev pub closed : Option (List Opener) → Step
closed (Some nest) = go awaits.MoreFactors nest piece.Close
closed None = no_fit

abbrev pub close : List Opener → Step
close nest = closed (behind_close nest)

unfoldable pub at_more_factors : List Opener → Token → Step
at_more_factors nest (token.Word word) = at_joint nest word
at_more_factors nest token.Close = close nest
at_more_factors nest _ = no_fit

abbrev pub step_at : ℕ → Awaits → List Opener → Token → Step
step_at depth (awaits.Column room) nest one = at_column room nest one
step_at depth (awaits.MoreColumns room) nest one = at_more_columns room nest one
step_at depth awaits.Factor nest one = at_factor depth nest one
step_at depth (awaits.Op column) nest one = at_op column nest one
step_at depth (awaits.Number column op) nest one = at_number column op nest one
step_at depth awaits.Equals nest one = at_equals nest one
step_at depth (awaits.Name equal) nest one = at_name equal nest one
step_at depth awaits.MoreFactors nest one = at_more_factors nest one

-- one more token, where at most `depth` may be in force
unfoldable pub step : ℕ → Progress → Token → Step
step depth progress one = step_at depth progress.awaits progress.nest one

-- a text ---------------------------------------------------------------------------------------------------------------------

-- before a query of at most so many columns
abbrev pub before_query : ℕ → Progress
before_query columns = record { awaits = awaits.Column (columns - 1); nest = [] }

abbrev pub is_whole_at : Awaits → List Opener → Bool
is_whole_at (awaits.MoreColumns room) nest = true
is_whole_at awaits.MoreFactors nest = length nest == 0
is_whole_at _ nest = false

-- a query may end behind its columns, and behind a factor where no `(` is in force
abbrev pub is_whole : Progress → Bool
is_whole progress = is_whole_at progress.awaits progress.nest

abbrev pub fault_at : ℕ → QueryRule → Result (Unit {0}) QueryFault
fault_at place why = Err (record { place = place; rule = why })

abbrev pub behind : ℕ → Step → (Progress → Result (Unit {0}) QueryFault) → Result (Unit {0}) QueryFault
behind place (Ok next) more = more next.0
behind place (Err why) more = fault_at place why

-- the first token that doesn't fit, or the end of the text, whose place is its length
abbrev pub check_from : ℕ → ℕ → Progress → List (ℕ × Token) → Result (Unit {0}) QueryFault
check_from depth end progress [] = if is_whole progress then Ok tt else fault_at end rule.End
check_from depth end progress (one ∷ tokens) = behind one.0 (step depth progress one.1) (λ next. check_from depth end next tokens)

-- whether a text is a query: at most 16 columns, and at most 32 in force
unfoldable pub check_of : List ℕ → Result (Unit {0}) QueryFault
check_of text = check_from 32 (length text) (before_query 16) (tokens_of text)
