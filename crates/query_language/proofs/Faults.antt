-- The fault of a text is its first token that no query continues, or its end.
use Rattle.std.proofs.Common.{◌≡◌, ℕ, suc, ◌+◌, ◌<◌, Bool, true, false, cond, List, [], ◌∷◌, ◌++◌, length, Some, Result, Ok, Err, refl, sym, ap, ◌∙◌, subst, arith}
use Rattle.std.proofs.lemmas.Bool.Decides.{nat_tests}
use Rattle.query_language.specs.Grammar.{IsQuery, bare}
use Rattle.query_language.specs.Growing.{GrowthTree, LevelTree, grow, nothing_grown}
use Rattle.query_language.specs.Laws.{Continues, HasRule, IsFault, AtToken, AtEnd}
use Rattle.query_language.specs.Reading.{Step, step, before_query, is_whole, fault_at, behind, check_from, check_of}
use Rattle.query_language.specs.Tokens.{tokens_of}
use Rattle.query_language.specs.Trees.{QueryTree}
use Rattle.query_language.specs.declared.fault.QueryFault.{QueryFault}
use Rattle.query_language.specs.declared.fault.QueryRule.{QueryRule}
use Rattle.query_language.specs.declared.fault.QueryRule.TheVariants as rule
use Rattle.query_language.specs.declared.nest.Opener.{Opener}
use Rattle.query_language.specs.declared.progress.Awaits.{Awaits}
use Rattle.query_language.specs.declared.progress.Awaits.TheVariants as awaits
use Rattle.query_language.specs.declared.progress.Piece.{Piece}
use Rattle.query_language.specs.declared.progress.Progress.{Progress}
use Rattle.query_language.specs.declared.token.Token.{Token}
use Rattle.query_language.proofs.Complete.{at, query_runs}
use Rattle.query_language.proofs.Finish.{start, run_kept, continued, front_runs, some_columns}
use Rattle.query_language.proofs.Fronts.{BeforeNext, room_left}
use Rattle.query_language.proofs.Limits.{Judged, is_within, wider_at, wider_state, judge, wider_query}
use Rattle.query_language.proofs.Runs.{State, run, onward, run_two}
use Rattle.query_language.proofs.Sound.{kinds, length-kinds, Front}

-- where a check stops -------------------------------------------------------------------------------------------------------------

-- at a token that doesn't fit, or at the end, where a query can't end
data Stops (depth end : ℕ) (progress : Progress) (grown : GrowthTree) (tokens : List (ℕ × Token)) (fault : QueryFault) : Type 0 where
  At : (before : List (ℕ × Token)) (one : ℕ × Token) (after : List (ℕ × Token)) (state : State) → tokens ≡ before ++ one ∷ after → fault.place ≡ one.0 → run depth progress grown (bare before) ≡ Some state → step depth state.0 one.1 ≡ Err fault.rule → Stops depth end progress grown tokens fault
  Short : (state : State) → fault.place ≡ end → fault.rule ≡ rule.End → run depth progress grown (bare tokens) ≡ Some state → is_whole state.0 ≡ false → Stops depth end progress grown tokens fault

abbrev a_fault : QueryFault → Result (Unit {0}) QueryFault
a_fault fault = Err fault

fault_is : (one fault : QueryFault) → a_fault one ≡ a_fault fault → one ≡ fault
fault_is one fault h = cc

stops_end : (depth end : ℕ) (progress : Progress) (grown : GrowthTree) (fault : QueryFault) (b : Bool) → is_whole progress ≡ b → cond b (Ok tt) (fault_at end rule.End) ≡ Err fault → Stops depth end progress grown [] fault
stops_end depth end progress grown fault true is h = cc
stops_end depth end progress grown fault false is h =
    let same = fault_is (record { place = end; rule = rule.End }) fault h in
    Short (progress, grown) (sym (ap (λ f. f.place) same)) (sym (ap (λ f. f.rule) same)) refl is

stops_later : (depth end : ℕ) (progress : Progress) (next : Progress × Piece) (grown : GrowthTree) (one : ℕ × Token) (tokens : List (ℕ × Token)) (fault : QueryFault) → step depth progress one.1 ≡ Ok next → Stops depth end next.0 (grow grown next.1) tokens fault → Stops depth end progress grown (one ∷ tokens) fault
stops_later depth end progress next grown one tokens fault is (At before last after state cut place runs refused) =
    At (one ∷ before) last after state (ap (λ t. one ∷ t) cut) place (ap (λ s. onward s grown (λ p g. run depth p g (bare before))) is ∙ runs) refused
stops_later depth end progress next grown one tokens fault is (Short state place why runs unended) =
    Short state place why (ap (λ s. onward s grown (λ p g. run depth p g (bare tokens))) is ∙ runs) unended

stops_on : (depth end : ℕ) (progress : Progress) (grown : GrowthTree) (one : ℕ × Token) (tokens : List (ℕ × Token)) (fault : QueryFault) (s : Step) → step depth progress one.1 ≡ s
    → ((p : Progress) (g : GrowthTree) → check_from depth end p tokens ≡ Err fault → Stops depth end p g tokens fault)
    → behind one.0 s (λ p. check_from depth end p tokens) ≡ Err fault → Stops depth end progress grown (one ∷ tokens) fault
stops_on depth end progress grown one tokens fault (Ok next) is by h = stops_later depth end progress next grown one tokens fault is (by next.0 (grow grown next.1) h)
stops_on depth end progress grown one tokens fault (Err why) is by h =
    let same = fault_is (record { place = one.0; rule = why }) fault h in
    At [] one tokens (progress, grown) refl (sym (ap (λ f. f.place) same)) refl (is ∙ ap (λ f. Err f.rule) same)

stops : (depth end : ℕ) (progress : Progress) (grown : GrowthTree) (tokens : List (ℕ × Token)) (fault : QueryFault) → check_from depth end progress tokens ≡ Err fault → Stops depth end progress grown tokens fault
stops depth end progress grown [] fault h = stops_end depth end progress grown fault (is_whole progress) refl h
stops depth end progress grown (one ∷ tokens) fault h = stops_on depth end progress grown one tokens fault (step depth progress one.1) refl (λ p g k. stops depth end p g tokens fault k) h

-- what is in force ------------------------------------------------------------------------------------------------------------------

within_levels : (depth : ℕ) (nest : List Opener) (levels : List LevelTree) (all : ℕ) → nest ≡ kinds levels → length levels + all ≡ depth → is_within depth nest ≡ true
within_levels depth nest levels all n h =
    let long : length nest ≡ length levels = ap length n ∙ length-kinds levels in
    let short : length nest < suc depth = omega (arith, long, h) in
    grind (arith, nat_tests)

within_next : (depth : ℕ) (nest : List Opener) (grown : GrowthTree) (front : List Token) → nest ≡ kinds grown.levels → BeforeNext depth grown.levels grown.pending front → is_within depth nest ≡ true
within_next depth nest grown front n b = within_levels depth nest grown.levels b.0 n (room_left depth grown.levels b.0 grown.pending front b.1)

nothing_within : (depth : ℕ) (nest : List Opener) → nest ≡ [] → is_within depth nest ≡ true
nothing_within depth nest h = within_levels depth nest [] depth h (omega arith)

-- no front has more in force than may be
within : (columns depth : ℕ) (next : Awaits) (nest : List Opener) (grown : GrowthTree) (tokens : List Token) → Front columns depth (at next nest) grown tokens → is_within depth nest ≡ true
within columns depth (awaits.Column room) nest grown tokens f = nothing_within depth nest f.0
within columns depth (awaits.MoreColumns room) nest grown tokens f = nothing_within depth nest f.0
within columns depth awaits.Factor nest grown tokens f = within_next depth nest grown f.0 f.2 f.3
within columns depth (awaits.Op column) nest grown tokens f = within_next depth nest grown f.0 f.2 f.3
within columns depth (awaits.Number column op) nest grown tokens f = within_next depth nest grown f.0 f.2 f.3
within columns depth awaits.Equals nest grown tokens f = within_next depth nest grown f.0 f.2 f.3
within columns depth (awaits.Name equal) nest grown tokens f = within_next depth nest grown f.0 f.2 f.3
within columns depth awaits.MoreFactors nest grown tokens f = within_levels depth nest grown.levels f.5.0 f.2 (room_left depth grown.levels f.5.0 _ f.5.1 f.5.4)

-- rules -----------------------------------------------------------------------------------------------------------------------------

-- one more token of a run
one_more : (depth : ℕ) (progress : Progress) (front : List Token) (state : State) (one : Token) (s : Step) → run depth progress nothing_grown front ≡ Some state → step depth state.0 one ≡ s → run depth progress nothing_grown (front ++ one ∷ []) ≡ onward s state.1 (λ p g. run depth p g [])
one_more depth progress front state one s h k = run_two depth progress nothing_grown front (one ∷ []) state h ∙ ap (λ t. onward t state.1 (λ p g. run depth p g [])) k

-- a token that doesn't fit is not the next of a query
no_query : (columns depth : ℕ) (front : List Token) (state : State) (one : Token) (why : QueryRule) → run depth (before_query columns) nothing_grown front ≡ Some state → step depth state.0 one ≡ Err why → Continues columns depth (front ++ one ∷ []) → ⊥
no_query columns depth front state one why h k c =
    let f = front_runs columns depth (front ++ one ∷ []) c in
    let none = one_more depth (before_query columns) front state one (Err why) h k in
    cc

-- nor within any other limits
no_query_at_all : (columns depth : ℕ) (front : List Token) (state : State) (one : Token) → 0 < columns → run depth (before_query columns) nothing_grown front ≡ Some state → ((deeper more : ℕ) → step (depth + deeper) (wider_at more state.0) one ≡ Err rule.Word)
    → (any_columns any_depth : ℕ) → Continues any_columns any_depth (front ++ one ∷ []) → ⊥
no_query_at_all columns depth front state one some h k any_columns any_depth c =
    let f = front_runs any_columns any_depth (front ++ one ∷ []) c in
    let theirs = wider_query depth columns any_depth any_columns (front ++ one ∷ []) f.0 (some_columns any_columns any_depth (front ++ one ∷ []) c) f.1 in
    let deep : any_depth + depth ≡ depth + any_depth = omega arith in
    let wide : any_columns + columns ≡ columns + any_columns = omega arith in
    let same : run (depth + any_depth) (before_query (columns + any_columns)) nothing_grown (front ++ one ∷ []) ≡ Some (wider_state columns f.0) = subst (λ d. run d (before_query (columns + any_columns)) nothing_grown (front ++ one ∷ []) ≡ Some (wider_state columns f.0)) deep (subst (λ w. run (any_depth + depth) (before_query w) nothing_grown (front ++ one ∷ []) ≡ Some (wider_state columns f.0)) wide theirs) in
    let none = one_more (depth + any_depth) (before_query (columns + any_columns)) front (wider_state any_columns state) one (Err rule.Word) (wider_query any_depth any_columns depth columns front state some h) (k any_depth any_columns) in
    cc

-- a token that fits is the next of a query
some_query : (columns depth deeper more : ℕ) (front : List Token) (state : State) (one : Token) (next : Progress × Piece) → 0 < columns → run depth (before_query columns) nothing_grown front ≡ Some state → step (depth + deeper) (wider_at more state.0) one ≡ Ok next → Continues (columns + more) (depth + deeper) (front ++ one ∷ [])
some_query columns depth deeper more front state one next some h k =
    continued (columns + more) (depth + deeper) (front ++ one ∷ []) (next.0, grow state.1 next.1) (omega arith)
    (one_more (depth + deeper) (before_query (columns + more)) front (wider_state more state) one (Ok next) (wider_query deeper more depth columns front state some h) k)

no_more : (n : ℕ) → n + 0 ≡ n
no_more n = omega arith

has_rule : (columns depth : ℕ) (front : List Token) (state : State) (one : Token) (why : QueryRule) → 0 < columns → run depth (before_query columns) nothing_grown front ≡ Some state → is_within depth state.0.nest ≡ true → Judged (λ deeper more. step (depth + deeper) (wider_at more state.0) one) (is_within depth state.0.nest) (Err why) → HasRule columns depth (front ++ one ∷ []) why
has_rule columns depth front state one rule.Word some h w j = no_query_at_all columns depth front state one some h j
has_rule columns depth front state one rule.End some h w j = absurd j
has_rule columns depth front state one rule.Deep some h w j =
    let e = j w in subst (λ c. Continues c (depth + 1) (front ++ one ∷ [])) (no_more columns) (some_query columns depth 1 0 front state one e.0 some h e.1)
has_rule columns depth front state one rule.Many some h w j = subst (λ d. Continues (columns + 1) d (front ++ one ∷ [])) (no_more depth) (some_query columns depth 0 1 front state one j.0 some h j.1)

-- faults ------------------------------------------------------------------------------------------------------------------------------

end_refused : (columns depth : ℕ) (tokens : List Token) (state : State) (tree : QueryTree) → run depth (before_query columns) nothing_grown tokens ≡ Some state → is_whole state.0 ≡ false → IsQuery columns depth tokens tree → ⊥
end_refused columns depth tokens state tree h w q =
    let r = query_runs columns depth tokens tree q in
    let same : Some state ≡ Some r.state = sym h ∙ r.runs in
    let is : state ≡ r.state = cc in
    let both : is_whole r.state.0 ≡ false = sym (ap (λ s. is_whole s.0) is) ∙ w in
    let end = r.whole in
    cc

fault_of : (columns depth end : ℕ) (tokens : List (ℕ × Token)) (fault : QueryFault) → 0 < columns → Stops depth end (before_query columns) nothing_grown tokens fault → IsFault columns depth tokens end fault
fault_of columns depth end tokens fault some (At before one after state cut place runs refused) =
    let f = run_kept columns depth (before_query columns) nothing_grown [] (bare before) state (start columns depth some) runs in
    AtToken (record {
      before = before;
      one = one;
      after = after;
      is = cut;
      place = place;
      continued = continued columns depth (bare before) state some runs;
      refused = no_query columns depth (bare before) state one.1 fault.rule runs refused;
      why = has_rule columns depth (bare before) state one.1 fault.rule some runs (within columns depth state.0.awaits state.0.nest state.1 (bare before) f)
          (subst (λ s. Judged (λ deeper more. step (depth + deeper) (wider_at more state.0) one.1) (is_within depth state.0.nest) s) refused (judge depth state.0 one.1));
    })
fault_of columns depth end tokens fault some (Short state place why runs unended) =
    AtEnd (record { place = place; why = why; continued = continued columns depth (bare tokens) state some runs; refused = λ tree q. end_refused columns depth (bare tokens) state tree runs unended q })

pub fault_is_first : (text : List ℕ) (fault : QueryFault) → check_of text ≡ Err fault → IsFault 16 32 (tokens_of text) (length text) fault
unfolding check_of
fault_is_first text fault h = fault_of 16 32 (length text) (tokens_of text) fault (omega arith) (stops 32 (length text) (before_query 16) nothing_grown (tokens_of text) fault h)
