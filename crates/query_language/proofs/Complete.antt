-- What the grammar derives is read.
use Rattle.std.proofs.Common.{◌≡◌, ℕ, suc, ◌+◌, ◌-◌, ◌==◌, ◌≤◌, ◌<◌, Bool, true, false, cond, nat_lt, List, [], ◌∷◌, ◌++◌, length, Option, Some, None, Ok, Err, refl, sym, ap, ◌∙◌, arith, append-nil}
use Rattle.std.proofs.lemmas.List.{append_assoc}
use Rattle.std.specs.Prelude.{codes, decimal}
use Rattle.std.proofs.lemmas.Bool.Decides.{nat_tests}
use Rattle.plan_schema.specs.Name.{is_name}
use Rattle.row_text.proofs.Fields.{number_again}
use Rattle.query_language.specs.Grammar.{Sort, Whole, Term, Factor, equals, Derives, a_term, an_or, a_factor, an_and, a_not, a_paren, a_comparison, a_naming, column_tokens, HasTokens, IsQuery}
use Rattle.query_language.specs.Growing.{PendingTree, LevelTree, Inside, GrowthTree, grow, nothing_pending, nothing_grown, grown_query, negated, behind_nots, pending_with, with_factor, either_with}
use Rattle.query_language.specs.Reading.{step, go, before_query, is_whole, at_listed, at_column, at_more_columns, opened, behind_factor, at_factor, at_factor_word, at_op, at_number, with_number, at_equals, at_name, with_name, at_more_factors, most_number}
use Rattle.query_language.specs.Trees.{CondTree, Compares, IsNamed, Negation, Both, Either, QueryTree}
use Rattle.query_language.specs.Words.{column_word, column_of}
use Rattle.query_language.specs.declared.column.Column.{Column}
use Rattle.query_language.specs.declared.column.Column.TheVariants as columns
use Rattle.query_language.specs.declared.column.Op.{Op}
use Rattle.query_language.specs.declared.fault.QueryRule.TheVariants as rule
use Rattle.query_language.specs.declared.nest.Opener.{Opener}
use Rattle.query_language.specs.declared.nest.Opener.TheVariants as opener
use Rattle.query_language.specs.declared.progress.Awaits.{Awaits}
use Rattle.query_language.specs.declared.progress.Awaits.TheVariants as awaits
use Rattle.query_language.specs.declared.progress.Piece.TheVariants as piece
use Rattle.query_language.specs.declared.progress.Progress.{Progress}
use Rattle.query_language.specs.declared.token.Token.{Token}
use Rattle.query_language.specs.declared.token.Token.TheVariants as token
use Rattle.query_language.proofs.Runs.{State, run, onward, run_two}

abbrev pub at : Awaits → List Opener → Progress
at next nest = record { awaits = next; nest = nest }

abbrev pub pending_of : Option CondTree → Option CondTree → PendingTree
pending_of before factors = record { either = before; both = factors }

abbrev pub grown_of : List Column → PendingTree → List LevelTree → GrowthTree
grown_of listed pending levels = record { columns = listed; pending = pending; levels = levels }

-- what a token leads to --------------------------------------------------------------------------------------------------------

-- the word of a column names it
pub column_again : (column : Column) → column_of (column_word column) ≡ Some column
unfolding column_of
column_again columns.Lead = refl
column_again columns.Safety = refl
column_again columns.Stock = refl
column_again columns.Demand = refl
column_again columns.Receipt = refl
column_again columns.Parents = refl
column_again columns.Gross = refl
column_again columns.Planned = refl
column_again columns.Release = refl
column_again columns.Late = refl
column_again columns.Low = refl
column_again columns.Last = refl

pub at_column_word : (depth : ℕ) (nest : List Opener) (column : Column) → step depth (at awaits.Factor nest) (token.Word (column_word column)) ≡ go (awaits.Op column) nest piece.Nothing
unfolding step at_factor at_factor_word column_of
at_column_word depth nest columns.Lead = refl
at_column_word depth nest columns.Safety = refl
at_column_word depth nest columns.Stock = refl
at_column_word depth nest columns.Demand = refl
at_column_word depth nest columns.Receipt = refl
at_column_word depth nest columns.Parents = refl
at_column_word depth nest columns.Gross = refl
at_column_word depth nest columns.Planned = refl
at_column_word depth nest columns.Release = refl
at_column_word depth nest columns.Late = refl
at_column_word depth nest columns.Low = refl
at_column_word depth nest columns.Last = refl

pub at_compare : (depth : ℕ) (nest : List Opener) (column : Column) (op : Op) → step depth (at (awaits.Op column) nest) (token.Compare op) ≡ go (awaits.Number column op) nest piece.Nothing
unfolding step at_op
at_compare depth nest column op = refl

pub at_digits : (depth : ℕ) (nest : List Opener) (column : Column) (op : Op) (number : ℕ) → number ≤ most_number → step depth (at (awaits.Number column op) nest) (token.Word (decimal number)) ≡ go awaits.MoreFactors (behind_factor nest) (piece.Is column op number)
unfolding step at_number
at_digits depth nest column op number h = ap (with_number column op nest) (number_again 0 most_number number (omega arith) (omega arith) h)

pub at_part : (depth : ℕ) (nest : List Opener) → step depth (at awaits.Factor nest) (token.Word (codes "part")) ≡ go awaits.Equals nest piece.Nothing
unfolding step at_factor at_factor_word
at_part depth nest = refl

pub at_sign : (depth : ℕ) (nest : List Opener) (equal : Bool) → step depth (at awaits.Equals nest) (token.Compare (equals equal)) ≡ go (awaits.Name equal) nest piece.Nothing
unfolding step at_equals
at_sign depth nest true = refl
at_sign depth nest false = refl

pub at_named : (depth : ℕ) (nest : List Opener) (equal : Bool) (name : List ℕ) → is_name name ≡ true → step depth (at (awaits.Name equal) nest) (token.Word name) ≡ go awaits.MoreFactors (behind_factor nest) (piece.Named name equal)
unfolding step at_name
at_named depth nest equal name h = ap (λ b. with_name equal nest (cond b (Some name) None)) h

room_in : (depth n : ℕ) → n < depth → nat_lt n depth ≡ true
room_in depth n h = grind (arith, nat_tests)

pub at_not : (depth : ℕ) (nest : List Opener) → length nest < depth → step depth (at awaits.Factor nest) (token.Word (codes "NOT")) ≡ go awaits.Factor (opener.Not ∷ nest) (piece.Opener opener.Not)
unfolding step at_factor at_factor_word
at_not depth nest h = ap (λ b. opened opener.Not (cond b (Some (opener.Not ∷ nest)) None)) (room_in depth (length nest) h)

pub at_open : (depth : ℕ) (nest : List Opener) → length nest < depth → step depth (at awaits.Factor nest) token.Open ≡ go awaits.Factor (opener.Paren ∷ nest) (piece.Opener opener.Paren)
unfolding step at_factor
at_open depth nest h = ap (λ b. opened opener.Paren (cond b (Some (opener.Paren ∷ nest)) None)) (room_in depth (length nest) h)

pub at_and : (depth : ℕ) (nest : List Opener) → step depth (at awaits.MoreFactors nest) (token.Word (codes "AND")) ≡ go awaits.Factor nest piece.Nothing
unfolding step at_more_factors
at_and depth nest = refl

pub at_or : (depth : ℕ) (nest : List Opener) → step depth (at awaits.MoreFactors nest) (token.Word (codes "OR")) ≡ go awaits.Factor nest piece.Or
unfolding step at_more_factors
at_or depth nest = refl

pub at_close : (depth : ℕ) (nest : List Opener) → step depth (at awaits.MoreFactors (opener.Paren ∷ nest)) token.Close ≡ go awaits.MoreFactors (behind_factor nest) piece.Close
unfolding step at_more_factors
at_close depth nest = refl

-- one token of a run
pub one_step : (depth : ℕ) (progress next : Progress) (grown : GrowthTree) (one : Token) (tokens : List Token) (added : _) → step depth progress one ≡ Ok (next, added) → run depth progress grown (one ∷ tokens) ≡ run depth next (grow grown added) tokens
one_step depth progress next grown one tokens added h = ap (λ s. onward s grown (λ p g. run depth p g tokens)) h

-- derivations ------------------------------------------------------------------------------------------------------------------

-- no `NOT` stands right before
pub record Settled (nest : List Opener) (levels : List LevelTree) : Type 0 where
  pub nest_is : behind_factor nest ≡ nest
  pub levels_are : behind_nots levels ≡ levels
  pub factor_is : (tree : CondTree) → negated levels tree ≡ tree

abbrev Runs : ℕ → Sort → List Token → CondTree → Type 0
Runs d Whole tokens tree =
    (depth : ℕ) (nest : List Opener) (listed : List Column) (levels : List LevelTree) → length nest + d ≤ depth → Settled nest levels
    → (before : Option CondTree) × (term : CondTree) × (run depth (at awaits.Factor nest) (grown_of listed nothing_pending levels) tokens ≡ Some (at awaits.MoreFactors nest, grown_of listed (pending_of before (Some term)) levels)) × (either_with before term ≡ tree)
Runs d Term tokens tree =
    (depth : ℕ) (nest : List Opener) (listed : List Column) (before : Option CondTree) (levels : List LevelTree) → length nest + d ≤ depth → Settled nest levels
    → run depth (at awaits.Factor nest) (grown_of listed (pending_of before None) levels) tokens ≡ Some (at awaits.MoreFactors nest, grown_of listed (pending_of before (Some tree)) levels)
Runs d Factor tokens tree =
    (depth : ℕ) (nest : List Opener) (grown : GrowthTree) → length nest + d ≤ depth
    → run depth (at awaits.Factor nest) grown tokens ≡ Some (at awaits.MoreFactors (behind_factor nest), with_factor grown.columns grown.pending grown.levels tree)

run_term : (d : ℕ) (tokens : List Token) (tree : CondTree) → Runs d Term tokens tree → Runs d Whole tokens tree
run_term d tokens tree h depth nest listed levels room settled = (None, tree, h depth nest listed None levels room settled, refl)

run_or : (d : ℕ) (front back : List Token) (left right : CondTree) → Runs d Whole front left → Runs d Term back right → Runs d Whole (front ++ token.Word (codes "OR") ∷ back) (Either left right)
run_or d front back left right h k depth nest listed levels room settled =
    let a = h depth nest listed levels room settled in (
      Some left,
      right,
      run_two depth (at awaits.Factor nest) (grown_of listed nothing_pending levels) front (token.Word (codes "OR") ∷ back) (at awaits.MoreFactors nest, grown_of listed (pending_of a.0 (Some a.1)) levels) a.2
          ∙ one_step depth (at awaits.MoreFactors nest) (at awaits.Factor nest) (grown_of listed (pending_of a.0 (Some a.1)) levels) (token.Word (codes "OR")) back piece.Or (at_or depth nest)
          ∙ ap (λ t. run depth (at awaits.Factor nest) (grown_of listed (pending_of (Some t) None) levels) back) a.3
          ∙ k depth nest listed (Some left) levels room settled,
      refl,
    )

abbrev Same : State → State → Type 0
Same a b = a ≡ b

-- where no `NOT` stands right before, a factor changes what is pending alone
settled_factor : (nest : List Opener) (listed : List Column) (pending : PendingTree) (levels : List LevelTree) (tree : CondTree) (factors : CondTree) → Settled nest levels → ((t : CondTree) → t ≡ tree → pending_with pending t ≡ pending_of pending.either (Some factors))
    → Same (at awaits.MoreFactors (behind_factor nest), with_factor listed pending levels tree) (at awaits.MoreFactors nest, grown_of listed (pending_of pending.either (Some factors)) levels)
settled_factor nest listed pending levels tree factors h k = λ i. (at awaits.MoreFactors (h.nest_is i), grown_of listed (k (negated levels tree) (h.factor_is tree) i) (h.levels_are i))

run_factor : (d : ℕ) (tokens : List Token) (tree : CondTree) → Runs d Factor tokens tree → Runs d Term tokens tree
run_factor d tokens tree h depth nest listed before levels room settled =
    h depth nest (grown_of listed (pending_of before None) levels) room
    ∙ ap Some (settled_factor nest listed (pending_of before None) levels tree tree settled (λ t e. ap (λ x. pending_of before (Some x)) e))

run_and : (d : ℕ) (front back : List Token) (left right : CondTree) → Runs d Term front left → Runs d Factor back right → Runs d Term (front ++ token.Word (codes "AND") ∷ back) (Both left right)
run_and d front back left right h k depth nest listed before levels room settled =
    run_two depth (at awaits.Factor nest) (grown_of listed (pending_of before None) levels) front (token.Word (codes "AND") ∷ back) (at awaits.MoreFactors nest, grown_of listed (pending_of before (Some left)) levels) (h depth nest listed before levels room settled)
    ∙ one_step depth (at awaits.MoreFactors nest) (at awaits.Factor nest) (grown_of listed (pending_of before (Some left)) levels) (token.Word (codes "AND")) back piece.Nothing (at_and depth nest)
    ∙ k depth nest (grown_of listed (pending_of before (Some left)) levels) room
    ∙ ap Some (settled_factor nest listed (pending_of before (Some left)) levels right (Both left right) settled (λ t e. ap (λ x. pending_of before (Some (Both left x))) e))

run_not : (d : ℕ) (tokens : List Token) (tree : CondTree) → Runs d Factor tokens tree → Runs (suc d) Factor (token.Word (codes "NOT") ∷ tokens) (Negation tree)
run_not d tokens tree h depth nest grown room =
    one_step depth (at awaits.Factor nest) (at awaits.Factor (opener.Not ∷ nest)) grown (token.Word (codes "NOT")) tokens (piece.Opener opener.Not) (at_not depth nest (omega arith))
    ∙ h depth (opener.Not ∷ nest) (grow grown (piece.Opener opener.Not)) (omega arith)

run_paren : (d : ℕ) (tokens : List Token) (tree : CondTree) → Runs d Whole tokens tree → Runs (suc d) Factor (token.Open ∷ tokens ++ token.Close ∷ []) tree
run_paren d tokens tree h depth nest grown room =
    let a = h depth (opener.Paren ∷ nest) grown.columns (Inside grown.pending ∷ grown.levels) (omega arith) (record { nest_is = refl; levels_are = refl; factor_is = λ t. refl }) in
    let inner : GrowthTree = grown_of grown.columns (pending_of a.0 (Some a.1)) (Inside grown.pending ∷ grown.levels) in
    one_step depth (at awaits.Factor nest) (at awaits.Factor (opener.Paren ∷ nest)) grown token.Open (tokens ++ token.Close ∷ []) (piece.Opener opener.Paren) (at_open depth nest (omega arith))
    ∙ run_two depth (at awaits.Factor (opener.Paren ∷ nest)) (grow grown (piece.Opener opener.Paren)) tokens (token.Close ∷ []) (at awaits.MoreFactors (opener.Paren ∷ nest), inner) a.2
    ∙ one_step depth (at awaits.MoreFactors (opener.Paren ∷ nest)) (at awaits.MoreFactors (behind_factor nest)) inner token.Close [] piece.Close (at_close depth nest)
    ∙ ap (λ t. Some (at awaits.MoreFactors (behind_factor nest), with_factor grown.columns grown.pending grown.levels t)) a.3

run_comparison : (d : ℕ) (column : Column) (op : Op) (number : ℕ) → number ≤ most_number → Runs d Factor (token.Word (column_word column) ∷ token.Compare op ∷ token.Word (decimal number) ∷ []) (Compares column op number)
run_comparison d column op number h depth nest grown room =
    one_step depth (at awaits.Factor nest) (at (awaits.Op column) nest) grown (token.Word (column_word column)) (token.Compare op ∷ token.Word (decimal number) ∷ []) piece.Nothing (at_column_word depth nest column)
    ∙ one_step depth (at (awaits.Op column) nest) (at (awaits.Number column op) nest) grown (token.Compare op) (token.Word (decimal number) ∷ []) piece.Nothing (at_compare depth nest column op)
    ∙ one_step depth (at (awaits.Number column op) nest) (at awaits.MoreFactors (behind_factor nest)) grown (token.Word (decimal number)) [] (piece.Is column op number) (at_digits depth nest column op number h)

run_naming : (d : ℕ) (name : List ℕ) (equal : Bool) → is_name name ≡ true → Runs d Factor (token.Word (codes "part") ∷ token.Compare (equals equal) ∷ token.Word name ∷ []) (IsNamed name equal)
run_naming d name equal h depth nest grown room =
    one_step depth (at awaits.Factor nest) (at awaits.Equals nest) grown (token.Word (codes "part")) (token.Compare (equals equal) ∷ token.Word name ∷ []) piece.Nothing (at_part depth nest)
    ∙ one_step depth (at awaits.Equals nest) (at (awaits.Name equal) nest) grown (token.Compare (equals equal)) (token.Word name ∷ []) piece.Nothing (at_sign depth nest equal)
    ∙ one_step depth (at (awaits.Name equal) nest) (at awaits.MoreFactors (behind_factor nest)) grown (token.Word name) [] (piece.Named name equal) (at_named depth nest equal name h)

-- what is derived is read to its tree
pub runs : {d : ℕ} {sort : Sort} {tokens : List Token} {tree : CondTree} → Derives d sort tokens tree → Runs d sort tokens tree
runs (a_term {depth} {tokens} {tree} h) = run_term depth tokens tree (runs h)
runs (an_or {depth} {before} {behind} {left} {right} h k) = run_or depth before behind left right (runs h) (runs k)
runs (a_factor {depth} {tokens} {tree} h) = run_factor depth tokens tree (runs h)
runs (an_and {depth} {before} {behind} {left} {right} h k) = run_and depth before behind left right (runs h) (runs k)
runs (a_not {depth} {tokens} {tree} h) = run_not depth tokens tree (runs h)
runs (a_paren {depth} {tokens} {tree} h) = run_paren depth tokens tree (runs h)
runs (a_comparison {depth} column op number h) = run_comparison depth column op number h
runs (a_naming {depth} name equal h) = run_naming depth name equal h

-- queries ---------------------------------------------------------------------------------------------------------------------

-- the list of columns, and what stands behind it
pub at_listed_word : (depth room : ℕ) (nest : List Opener) (column : Column) → step depth (at (awaits.Column room) nest) (token.Word (column_word column)) ≡ go (awaits.MoreColumns room) nest (piece.Column column)
unfolding step at_column
at_listed_word depth room nest column = ap (at_listed room nest) (column_again column)

pub at_room : (depth room : ℕ) (nest : List Opener) → 0 < room → step depth (at (awaits.MoreColumns room) nest) token.Comma ≡ go (awaits.Column (room - 1)) nest piece.Nothing
unfolding step at_more_columns
at_room depth room nest h =
    let some : (room == 0) ≡ false = grind (arith, nat_tests) in
    ap (λ b. cond b (Err rule.Many) (go (awaits.Column (room - 1)) nest piece.Nothing)) some

pub at_condition : (depth room : ℕ) (nest : List Opener) → step depth (at (awaits.MoreColumns room) nest) (token.Word (codes "WHERE")) ≡ go awaits.Factor nest piece.Nothing
unfolding step at_more_columns
at_condition depth room nest = refl

abbrev Lists : ℕ → ℕ → List Column → List Column → List Token → Type 0
Lists depth room listed more rest =
    (left : ℕ) × (run depth (at (awaits.Column room) []) (grown_of listed nothing_pending []) (column_tokens more ++ rest) ≡ run depth (at (awaits.MoreColumns left) []) (grown_of (listed ++ more) nothing_pending []) rest)

lists : (depth room : ℕ) (listed : List Column) (column : Column) (more : List Column) (rest : List Token) → length more ≤ room → Lists depth room listed (column ∷ more) rest
lists depth room listed column [] rest h = (room, one_step depth (at (awaits.Column room) []) (at (awaits.MoreColumns room) []) (grown_of listed nothing_pending []) (token.Word (column_word column)) rest (piece.Column column) (at_listed_word depth room [] column))
lists depth room listed column (next ∷ more) rest h =
    let e = lists depth (room - 1) (listed ++ column ∷ []) next more rest (omega arith) in (
      e.0,
      one_step depth (at (awaits.Column room) []) (at (awaits.MoreColumns room) []) (grown_of listed nothing_pending []) (token.Word (column_word column)) (token.Comma ∷ column_tokens (next ∷ more) ++ rest) (piece.Column column) (at_listed_word depth room [] column)
          ∙ one_step depth (at (awaits.MoreColumns room) []) (at (awaits.Column (room - 1)) []) (grown_of (listed ++ column ∷ []) nothing_pending []) token.Comma (column_tokens (next ∷ more) ++ rest) piece.Nothing (at_room depth room [] (omega arith))
          ∙ e.1
          ∙ ap (λ t. run depth (at (awaits.MoreColumns e.0) []) (grown_of t nothing_pending []) rest) (append_assoc listed (column ∷ []) (next ∷ more)),
    )

-- a query is read to its tree
pub record IsRun (columns depth : ℕ) (tokens : List Token) (tree : QueryTree) : Type 0 where
  pub state : State
  pub runs : run depth (before_query columns) nothing_grown tokens ≡ Some state
  pub whole : is_whole state.0 ≡ true
  pub tree_is : grown_query state.1 ≡ tree

by_cond : (columns depth : ℕ) (tokens : List Token) (listed : List Column) (tree : Option CondTree) → 0 < length listed → length listed ≤ columns → HasTokens depth listed tree tokens → IsRun columns depth tokens (record { columns = listed; cond = tree })
by_cond columns depth tokens [] tree some few h = absurd (omega arith)
by_cond columns depth tokens (column ∷ more) None some few h =
    let e = lists depth (columns - 1) [] column more [] (omega arith) in
    record {
      state = (at (awaits.MoreColumns e.0) [], grown_of (column ∷ more) nothing_pending []);
      runs = ap (run depth (before_query columns) nothing_grown) (h ∙ sym (append-nil (column_tokens (column ∷ more)))) ∙ e.1;
      whole = refl;
      tree_is = refl;
    }
by_cond columns depth tokens (column ∷ more) (Some tree) some few h =
    let e = lists depth (columns - 1) [] column more (token.Word (codes "WHERE") ∷ h.0) (omega arith) in
    let grown : GrowthTree = grown_of (column ∷ more) nothing_pending [] in
    let r = runs h.2 depth [] (column ∷ more) [] (omega arith) (record { nest_is = refl; levels_are = refl; factor_is = λ t. refl }) in
    record {
      state = (at awaits.MoreFactors [], grown_of (column ∷ more) (pending_of r.0 (Some r.1)) []);
      runs = ap (run depth (before_query columns) nothing_grown) h.1 ∙ e.1
          ∙ one_step depth (at (awaits.MoreColumns e.0) []) (at awaits.Factor []) grown (token.Word (codes "WHERE")) h.0 piece.Nothing (at_condition depth e.0 [])
          ∙ r.2;
      whole = refl;
      tree_is = ap (λ t. record { columns = column ∷ more; cond = Some t }) r.3;
    }

pub query_runs : (columns depth : ℕ) (tokens : List Token) (tree : QueryTree) → IsQuery columns depth tokens tree → IsRun columns depth tokens tree
query_runs columns depth tokens tree h = by_cond columns depth tokens tree.columns tree.cond h.some h.few h.spelled
