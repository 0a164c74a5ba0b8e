-- Queries as trees.
use Rattle.std.specs.Prelude.{ℕ, Bool, List, Option, option_map}
use Rattle.query_language.specs.declared.column.Column.{Column}
use Rattle.query_language.specs.declared.column.Op.{Op}
use Rattle.query_language.specs.declared.cond.Cond.{Cond, Is, Named, Not', And', Or'}
use Rattle.query_language.specs.declared.cond.Query.{Query}

-- a condition: how a figure compares with a number, whether the part has a name or another, and what is made of these
pub data CondTree : Type 0 where
  Compares : Column → Op → ℕ → CondTree
  IsNamed : List ℕ → Bool → CondTree
  Negation : CondTree → CondTree
  Both : CondTree → CondTree → CondTree
  Either : CondTree → CondTree → CondTree

-- a query: its columns in the order asked, and its condition, if it has one
pub record QueryTree : Type 0 where
  pub columns : List Column
  pub cond : Option CondTree

-- the tree that a condition in memory is
abbrev pub cond_tree : Cond → CondTree
cond_tree (Is column op number) = Compares column op number
cond_tree (Named name equal) = IsNamed name equal
cond_tree (Not' p a) = Negation (cond_tree a)
cond_tree (And' p a q b) = Both (cond_tree a) (cond_tree b)
cond_tree (Or' p a q b) = Either (cond_tree a) (cond_tree b)

-- the tree that a query in memory is
abbrev pub query_tree : Query → QueryTree
query_tree query = record { columns = query.columns; cond = option_map cond_tree query.cond }
