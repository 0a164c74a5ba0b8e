-- What the reading of queries has to do with their grammar.
use Rattle.std.specs.Prelude.{◌≡◌, ◌↔◌, ◌+◌, ℕ, List, [], ◌∷◌, ◌++◌, length, Ok, Err}
use Rattle.query_language.specs.Grammar.{IsQuery, bare, IsQueryText}
use Rattle.query_language.specs.Growing.{query_of}
use Rattle.query_language.specs.Reading.{check_of}
use Rattle.query_language.specs.Tokens.{tokens_of}
use Rattle.query_language.specs.Trees.{QueryTree}
use Rattle.query_language.specs.declared.fault.QueryFault.{QueryFault}
use Rattle.query_language.specs.declared.fault.QueryRule.{QueryRule}
use Rattle.query_language.specs.declared.fault.QueryRule.TheVariants as rule
use Rattle.query_language.specs.declared.token.Token.{Token}

-- a text that is read as a tree is a query with this tree
abbrev pub QueryIsDerived : Type 0
QueryIsDerived = (text : List ℕ) (tree : QueryTree) → query_of text ≡ Ok tree → IsQueryText text tree

-- a query with a tree is read as this tree
abbrev pub QueryIsRead : Type 0
QueryIsRead = (text : List ℕ) (tree : QueryTree) → IsQueryText text tree → query_of text ≡ Ok tree

-- a text is checked without a fault exactly where it is a query with some tree
abbrev pub QueryIsChecked : Type 0
QueryIsChecked = (text : List ℕ) → (check_of text ≡ Ok tt) ↔ ((tree : QueryTree) × IsQueryText text tree)

-- a query has one tree
abbrev pub QueryHasOneTree : Type 0
QueryHasOneTree = (text : List ℕ) (one other : QueryTree) → IsQueryText text one → IsQueryText text other → one ≡ other

-- faults ----------------------------------------------------------------------------------------------------------------------

-- some query within the limits begins with these tokens
abbrev pub Continues : ℕ → ℕ → List Token → Type 0
Continues columns depth front = (rest : List Token) × (tree : QueryTree) × IsQuery columns depth (front ++ rest) tree

-- why no query within the limits begins with these tokens: with one column more, or one more inside one another, some query does, or
-- none does whatever the limits are
abbrev pub HasRule : ℕ → ℕ → List Token → QueryRule → Type 0
HasRule columns depth front rule.Many = Continues (columns + 1) depth front
HasRule columns depth front rule.Deep = Continues columns (depth + 1) front
HasRule columns depth front rule.Word = (any_columns any_depth : ℕ) → Continues any_columns any_depth front → ⊥
HasRule columns depth front rule.End = ⊥

-- the token at the fault's place is the first from the left that no query continues
pub record IsFirstToken (columns depth : ℕ) (tokens : List (ℕ × Token)) (fault : QueryFault) : Type 0 where
  pub before : List (ℕ × Token)
  pub one : ℕ × Token
  pub after : List (ℕ × Token)
  pub is : tokens ≡ before ++ one ∷ after
  pub place : fault.place ≡ one.0
  pub continued : Continues columns depth (bare before)
  pub refused : Continues columns depth (bare before ++ one.1 ∷ []) → ⊥
  pub why : HasRule columns depth (bare before ++ one.1 ∷ []) fault.rule

-- some query begins with all tokens of a text, but they are none; the place is the text's length
pub record IsCutShort (columns depth : ℕ) (tokens : List (ℕ × Token)) (end : ℕ) (fault : QueryFault) : Type 0 where
  pub place : fault.place ≡ end
  pub why : fault.rule ≡ rule.End
  pub continued : Continues columns depth (bare tokens)
  pub refused : (tree : QueryTree) → IsQuery columns depth (bare tokens) tree → ⊥

pub data IsFault (columns depth : ℕ) (tokens : List (ℕ × Token)) (end : ℕ) (fault : QueryFault) : Type 0 where
  AtToken : IsFirstToken columns depth tokens fault → IsFault columns depth tokens end fault
  AtEnd : IsCutShort columns depth tokens end fault → IsFault columns depth tokens end fault

-- the fault of a text is its first token that no query within the limits continues, or its end
abbrev pub FaultIsFirst : Type 0
FaultIsFirst = (text : List ℕ) (fault : QueryFault) → check_of text ≡ Err fault → IsFault 16 32 (tokens_of text) (length text) fault
