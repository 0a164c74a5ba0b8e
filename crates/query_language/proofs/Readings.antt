-- The reading of queries and their grammar say the same.
use Rattle.std.proofs.Common.{◌≡◌, ℕ, ◌<◌, true, List, [], length, Some, Result, Ok, Err, refl, ap, ◌∙◌, subst, arith}
use Rattle.std.specs.Prelude.{◌↔◌, IfOk}
use Rattle.std.specs.List.{fold}
use Rattle.query_language.specs.Grammar.{IsQuery, bare, IsQueryText}
use Rattle.query_language.specs.Growing.{grow, nothing_grown, pieces_from, grown_query, tree_of, if_query, query_of}
use Rattle.query_language.specs.Reading.{before_query, is_whole, check_of}
use Rattle.query_language.specs.Tokens.{tokens_of}
use Rattle.query_language.specs.Trees.{QueryTree, query_tree}
use Rattle.query_language.specs.declared.cond.Query.{Query}
use Rattle.query_language.specs.declared.fault.QueryFault.{QueryFault}
use Rattle.query_language.specs.declared.token.Token.{Token}
use Rattle.query_language.proofs.Complete.{query_runs}
use Rattle.query_language.proofs.Finish.{start, run_kept, whole_query}
use Rattle.query_language.proofs.Runs.{State, run, check_grows, run_checked}

-- trees -----------------------------------------------------------------------------------------------------------------------

-- tokens that are read to where a query may end are one
query_read : (columns depth : ℕ) (tokens : List Token) (state : State) → 0 < columns → run depth (before_query columns) nothing_grown tokens ≡ Some state → is_whole state.0 ≡ true → IsQuery columns depth tokens (grown_query state.1)
query_read columns depth tokens state some h w =
    whole_query columns depth state.0.awaits state.0.nest state.1 tokens (run_kept columns depth (before_query columns) nothing_grown [] tokens state (start columns depth some) h) w

pub query_derived : (text : List ℕ) (tree : QueryTree) → query_of text ≡ Ok tree → IsQueryText text tree
unfolding query_of tree_of check_of
query_derived text tree h = by_check (check_of text) refl h
  where
    by_check : (r : Result (Unit {0}) QueryFault) → check_of text ≡ r → if_query r (tree_of text) ≡ Ok tree → IsQueryText text tree
    by_check (Ok _) is e =
        let g = check_grows 32 (length text) (before_query 16) nothing_grown (tokens_of text) is in
        let same : tree_of text ≡ tree = cc in
        subst (IsQueryText text) same (query_read 16 32 (bare (tokens_of text)) (g.final, fold grow nothing_grown (pieces_from 32 (before_query 16) (tokens_of text))) (omega arith) g.runs g.whole)
    by_check (Err fault) is e = cc

pub query_is_read : (text : List ℕ) (tree : QueryTree) → IsQueryText text tree → query_of text ≡ Ok tree
unfolding query_of tree_of check_of
query_is_read text tree h =
    let r = query_runs 16 32 (bare (tokens_of text)) tree h in
    let c = run_checked 32 (length text) (before_query 16) nothing_grown (tokens_of text) r.state r.whole r.runs in
    ap (λ k. if_query k (tree_of text)) c.check ∙ ap (λ t. Ok t) (ap grown_query c.grows ∙ r.tree_is)

read_as : QueryTree → Result QueryTree QueryFault
read_as tree = Ok tree

one_value : (one other : QueryTree) (r : Result QueryTree QueryFault) → r ≡ Ok one → r ≡ Ok other → one ≡ other
one_value one other r h k = cc

pub one_tree : (text : List ℕ) (one other : QueryTree) → IsQueryText text one → IsQueryText text other → one ≡ other
one_tree text one other h k = one_value one other (query_of text) (query_is_read text one h) (query_is_read text other k)

-- what a check without a fault says of the reading
checked_reads : (text : List ℕ) → check_of text ≡ Ok tt → query_of text ≡ Ok (tree_of text)
unfolding query_of
checked_reads text h = ap (λ r. if_query r (tree_of text)) h

read_is_checked : (text : List ℕ) (tree : QueryTree) → query_of text ≡ Ok tree → check_of text ≡ Ok tt
unfolding query_of
read_is_checked text tree h = by_check (check_of text) h
  where
    by_check : (r : Result (Unit {0}) QueryFault) → if_query r (tree_of text) ≡ Ok tree → r ≡ Ok tt
    by_check (Ok _) e = refl
    by_check (Err fault) e = cc

pub query_is_checked : (text : List ℕ) → (check_of text ≡ Ok tt) ↔ ((tree : QueryTree) × IsQueryText text tree)
query_is_checked text =
    (λ h. (tree_of text, query_derived text (tree_of text) (checked_reads text h)), λ h. read_is_checked text h.0 (query_is_read text h.0 h.1))

pub derived_if_read : {E : Type 0} (text : List ℕ) (r : Result Query E) → IfOk r (λ query. query_of text ≡ Ok (query_tree query)) → IfOk r (λ query. IsQueryText text (query_tree query))
derived_if_read text (Ok query) h = query_derived text (query_tree query) h
derived_if_read text (Err why) h = tt
