-- The tree of a query, piece by piece. `AND` and `OR` group to the left, and `AND` binds more strongly.
use Rattle.std.specs.Prelude.{ℕ, List, [], ◌∷◌, ◌++◌, map, reverse, Option, Some, None, option_map, Result, Ok, Err}
use Rattle.std.specs.List.{fold}
use Rattle.query_language.specs.declared.column.Column.{Column}
use Rattle.query_language.specs.declared.fault.QueryFault.{QueryFault}
use Rattle.query_language.specs.declared.growth.Growth.{Growth}
use Rattle.query_language.specs.declared.growth.Level.{Level}
use Rattle.query_language.specs.declared.growth.Level.TheVariants as level
use Rattle.query_language.specs.declared.growth.Pending.{Pending}
use Rattle.query_language.specs.declared.nest.Opener.TheVariants as opener
use Rattle.query_language.specs.declared.progress.Piece.{Piece}
use Rattle.query_language.specs.declared.progress.Piece.TheVariants as piece
use Rattle.query_language.specs.declared.progress.Progress.{Progress}
use Rattle.query_language.specs.declared.token.Token.{Token}
use Rattle.query_language.specs.Reading.{Step, step, before_query, check_of}
use Rattle.query_language.specs.Tokens.{tokens_of}
use Rattle.query_language.specs.Trees.{CondTree, Compares, IsNamed, Negation, Both, Either, QueryTree, cond_tree}

-- a condition that isn't over: the terms before its last `OR`, and the factors behind that
pub record PendingTree : Type 0 where
  pub either : Option CondTree
  pub both : Option CondTree

-- what a factor stands inside: a `NOT`, or a `(` in a condition that isn't over
pub data LevelTree : Type 0 where
  Negated : LevelTree
  Inside : PendingTree → LevelTree

-- a query that isn't over; levels are listed from the innermost
pub record GrowthTree : Type 0 where
  pub columns : List Column
  pub pending : PendingTree
  pub levels : List LevelTree

abbrev pub nothing_pending : PendingTree
nothing_pending = record { either = None; both = None }

abbrev pub nothing_grown : GrowthTree
nothing_grown = record { columns = []; pending = nothing_pending; levels = [] }

-- conditions ------------------------------------------------------------------------------------------------------------------

abbrev pub both_with : Option CondTree → CondTree → CondTree
both_with None factor = factor
both_with (Some before) factor = Both before factor

abbrev pub either_with : Option CondTree → CondTree → CondTree
either_with None term = term
either_with (Some before) term = Either before term

-- one more factor of the last term
abbrev pub pending_with : PendingTree → CondTree → PendingTree
pending_with pending factor = record { either = pending.either; both = Some (both_with pending.both factor) }

abbrev pub whole_of : Option CondTree → Option CondTree → Option CondTree
whole_of before (Some term) = Some (either_with before term)
whole_of before None = before

-- the whole condition, if there is any
abbrev pub whole : PendingTree → Option CondTree
whole pending = whole_of pending.either pending.both

-- an `OR`: what there is are the terms before it
abbrev pub behind_or : PendingTree → PendingTree
behind_or pending = record { either = whole pending; both = None }

-- levels ----------------------------------------------------------------------------------------------------------------------

-- a factor with each `NOT` right before it
abbrev pub negated : List LevelTree → CondTree → CondTree
negated [] factor = factor
negated (Negated ∷ levels) factor = negated levels (Negation factor)
negated (Inside outer ∷ levels) factor = factor

-- what is in force behind the factor
abbrev pub behind_nots : List LevelTree → List LevelTree
behind_nots [] = []
behind_nots (Negated ∷ levels) = behind_nots levels
behind_nots (Inside outer ∷ levels) = Inside outer ∷ levels

-- a factor
abbrev pub with_factor : List Column → PendingTree → List LevelTree → CondTree → GrowthTree
with_factor columns pending levels factor = record { columns = columns; pending = pending_with pending (negated levels factor); levels = behind_nots levels }

abbrev pub with_whole : List Column → PendingTree → List LevelTree → Option CondTree → GrowthTree
with_whole columns outer levels (Some factor) = with_factor columns outer levels factor
with_whole columns outer levels None = record { columns = columns; pending = outer; levels = levels }

-- a `)`: what stands inside is a factor of the condition around it
abbrev pub behind_close : List Column → PendingTree → List LevelTree → GrowthTree
behind_close columns pending [] = record { columns = columns; pending = pending; levels = [] }
behind_close columns pending (Negated ∷ levels) = record { columns = columns; pending = pending; levels = levels }
behind_close columns pending (Inside outer ∷ levels) = with_whole columns outer levels (whole pending)

-- one more piece
abbrev pub grow : GrowthTree → Piece → GrowthTree
grow grown piece.Nothing = grown
grow grown (piece.Column column) = record { columns = grown.columns ++ column ∷ []; pending = grown.pending; levels = grown.levels }
grow grown (piece.Opener opener.Not) = record { columns = grown.columns; pending = grown.pending; levels = Negated ∷ grown.levels }
grow grown (piece.Opener opener.Paren) = record { columns = grown.columns; pending = nothing_pending; levels = Inside grown.pending ∷ grown.levels }
grow grown (piece.Is column op number) = with_factor grown.columns grown.pending grown.levels (Compares column op number)
grow grown (piece.Named name equal) = with_factor grown.columns grown.pending grown.levels (IsNamed name equal)
grow grown piece.Close = behind_close grown.columns grown.pending grown.levels
grow grown piece.Or = record { columns = grown.columns; pending = behind_or grown.pending; levels = grown.levels }

-- texts -----------------------------------------------------------------------------------------------------------------------

abbrev pub onto_pieces : Step → (Progress → List Piece) → List Piece
onto_pieces (Ok next) more = next.1 ∷ more next.0
onto_pieces (Err why) more = []

-- what each token adds, as far as they fit
abbrev pub pieces_from : ℕ → Progress → List (ℕ × Token) → List Piece
pieces_from depth progress [] = []
pieces_from depth progress (one ∷ tokens) = onto_pieces (step depth progress one.1) (λ next. pieces_from depth next tokens)

-- the query that has grown
abbrev pub grown_query : GrowthTree → QueryTree
grown_query grown = record { columns = grown.columns; cond = whole grown.pending }

-- the tree that the tokens of a text make, as far as they fit
unfoldable pub tree_of : List ℕ → QueryTree
tree_of text = grown_query (fold grow nothing_grown (pieces_from 32 (before_query 16) (tokens_of text)))

abbrev pub if_query : Result (Unit {0}) QueryFault → QueryTree → Result QueryTree QueryFault
if_query (Ok _) tree = Ok tree
if_query (Err fault) tree = Err fault

-- the query that a text is, or its first fault
unfoldable pub query_of : List ℕ → Result QueryTree QueryFault
query_of text = if_query (check_of text) (tree_of text)

-- memory ----------------------------------------------------------------------------------------------------------------------

abbrev pub pending_tree : Pending → PendingTree
pending_tree pending = record { either = option_map cond_tree pending.either; both = option_map cond_tree pending.both }

abbrev pub level_tree : Level → LevelTree
level_tree level.Not = Negated
level_tree (level.Paren outer) = Inside (pending_tree outer)

abbrev pub levels_of : List Level → List LevelTree
levels_of levels = reverse (map level_tree levels)

abbrev pub growth_tree : Growth → GrowthTree
growth_tree growth = record { columns = growth.columns; pending = pending_tree growth.pending; levels = levels_of growth.levels.items }
