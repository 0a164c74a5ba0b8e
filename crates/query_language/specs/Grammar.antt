-- The grammar of queries, by productions over tokens:
--
--     query  = column { "," column } [ "WHERE" whole ]
--     whole  = term | whole "OR" term
--     term   = factor | term "AND" factor
--     factor = "NOT" factor | "(" whole ")" | column op number | "part" ("=" | "!=") name
use Rattle.std.specs.Prelude.{◌≡◌, ◌<◌, ◌≤◌, ℕ, suc, Bool, true, false, List, [], ◌∷◌, ◌++◌, length, map, Option, Some, None, codes, decimal}
use Rattle.plan_schema.specs.Name.{is_name}
use Rattle.query_language.specs.Reading.{most_number}
use Rattle.query_language.specs.Tokens.{tokens_of}
use Rattle.query_language.specs.Trees.{CondTree, Compares, IsNamed, Negation, Both, Either, QueryTree}
use Rattle.query_language.specs.Words.{column_word}
use Rattle.query_language.specs.declared.column.Column.{Column}
use Rattle.query_language.specs.declared.column.Op.{Op}
use Rattle.query_language.specs.declared.column.Op.TheVariants as ops
use Rattle.query_language.specs.declared.token.Token.{Token}
use Rattle.query_language.specs.declared.token.Token.TheVariants as token

-- conditions ------------------------------------------------------------------------------------------------------------------

pub data Sort : Type 0 where
  Whole : Sort
  Term : Sort
  Factor : Sort

-- the `=` or `!=` of a test of the part's name
abbrev pub equals : Bool → Op
equals true = ops.Eq
equals false = ops.Ne

-- the tokens are a whole condition, a term or a factor with this tree, in which at most so many `NOT` and `(` are inside one another: a
-- `(` is in force up to its `)`, a `NOT` up to the end of its factor. Both words group to the left
pub data Derives : ℕ → Sort → List Token → CondTree → Type 0 where
  a_term : {depth : ℕ} {tokens : List Token} {tree : CondTree} → Derives depth Term tokens tree → Derives depth Whole tokens tree
  an_or : {depth : ℕ} {before behind : List Token} {left right : CondTree} → Derives depth Whole before left → Derives depth Term behind right → Derives depth Whole (before ++ token.Word (codes "OR") ∷ behind) (Either left right)
  a_factor : {depth : ℕ} {tokens : List Token} {tree : CondTree} → Derives depth Factor tokens tree → Derives depth Term tokens tree
  an_and : {depth : ℕ} {before behind : List Token} {left right : CondTree} → Derives depth Term before left → Derives depth Factor behind right → Derives depth Term (before ++ token.Word (codes "AND") ∷ behind) (Both left right)
  a_not : {depth : ℕ} {tokens : List Token} {tree : CondTree} → Derives depth Factor tokens tree → Derives (suc depth) Factor (token.Word (codes "NOT") ∷ tokens) (Negation tree)
  a_paren : {depth : ℕ} {tokens : List Token} {tree : CondTree} → Derives depth Whole tokens tree → Derives (suc depth) Factor (token.Open ∷ tokens ++ token.Close ∷ []) tree
  a_comparison : {depth : ℕ} (column : Column) (op : Op) (number : ℕ) → number ≤ most_number → Derives depth Factor (token.Word (column_word column) ∷ token.Compare op ∷ token.Word (decimal number) ∷ []) (Compares column op number)
  a_naming : {depth : ℕ} (name : List ℕ) (equal : Bool) → is_name name ≡ true → Derives depth Factor (token.Word (codes "part") ∷ token.Compare (equals equal) ∷ token.Word name ∷ []) (IsNamed name equal)

-- queries ---------------------------------------------------------------------------------------------------------------------

-- the columns with commas between them
abbrev pub column_tokens : List Column → List Token
column_tokens [] = []
column_tokens (column ∷ []) = token.Word (column_word column) ∷ []
column_tokens (column ∷ next ∷ more) = token.Word (column_word column) ∷ token.Comma ∷ column_tokens (next ∷ more)

-- the columns, and `WHERE` before the condition, if there is one
abbrev pub HasTokens : ℕ → List Column → Option CondTree → List Token → Type 0
HasTokens depth columns None tokens = tokens ≡ column_tokens columns
HasTokens depth columns (Some tree) tokens = (behind : List Token) × (tokens ≡ column_tokens columns ++ token.Word (codes "WHERE") ∷ behind) × Derives depth Whole behind tree

-- the tokens are a query with this tree, of at least one and at most so many columns, and at most so many inside one another
pub record IsQuery (columns depth : ℕ) (tokens : List Token) (tree : QueryTree) : Type 0 where
  pub some : 0 < length tree.columns
  pub few : length tree.columns ≤ columns
  pub spelled : HasTokens depth tree.columns tree.cond tokens

-- the tokens of a text without their places
abbrev pub bare : List (ℕ × Token) → List Token
bare tokens = map (λ one. one.1) tokens

-- a text is a query with this tree, within the limits: 16 columns, and 32 inside one another
abbrev pub IsQueryText : List ℕ → QueryTree → Type 0
IsQueryText text tree = IsQuery 16 32 (bare (tokens_of text)) tree
