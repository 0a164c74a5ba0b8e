-- Every front can be finished.
use Rattle.std.proofs.Common.{◌≡◌, ℕ, ◌==◌, ◌<◌, Bool, true, List, [], ◌∷◌, ◌++◌, length, Option, Some, None, Ok, Err, refl, sym, ap, ◌∙◌, subst, arith, append-nil}
use Rattle.std.specs.Prelude.{codes, decimal}
use Rattle.std.proofs.lemmas.List.{append_assoc, nil_from_length}
use Rattle.std.proofs.lemmas.Bool.Decides.{nat_tests}
use Rattle.plan_schema.specs.Name.{is_name}
use Rattle.query_language.specs.Grammar.{Whole, equals, Derives, HasTokens, IsQuery}
use Rattle.query_language.specs.Growing.{LevelTree, Negated, Inside, GrowthTree, grow, nothing_grown, grown_query, whole, either_with}
use Rattle.query_language.specs.Laws.{Continues}
use Rattle.query_language.specs.Reading.{Step, step, before_query, is_whole, is_whole_at, behind_factor}
use Rattle.query_language.specs.Trees.{CondTree}
use Rattle.query_language.specs.Words.{column_word}
use Rattle.query_language.specs.declared.column.Column.{Column}
use Rattle.query_language.specs.declared.column.Column.TheVariants as columns
use Rattle.query_language.specs.declared.column.Op.{Op}
use Rattle.query_language.specs.declared.column.Op.TheVariants as ops
use Rattle.query_language.specs.declared.nest.Opener.{Opener}
use Rattle.query_language.specs.declared.nest.Opener.TheVariants as opener
use Rattle.query_language.specs.declared.progress.Awaits.{Awaits}
use Rattle.query_language.specs.declared.progress.Awaits.TheVariants as awaits
use Rattle.query_language.specs.declared.progress.Piece.{Piece}
use Rattle.query_language.specs.declared.progress.Piece.TheVariants as piece
use Rattle.query_language.specs.declared.progress.Progress.{Progress}
use Rattle.query_language.specs.declared.token.Token.{Token}
use Rattle.query_language.specs.declared.token.Token.TheVariants as token
use Rattle.query_language.proofs.Complete.{at, at_column_word, at_compare, at_digits, at_sign, at_named, at_close, at_listed_word, one_step, query_runs}
use Rattle.query_language.proofs.Fronts.{AreSettled, Behind, pending_whole}
use Rattle.query_language.proofs.Runs.{State, run, onward, then_run, run-append}
use Rattle.query_language.proofs.Sound.{kinds, length-kinds, Front, Kept, keeps}

-- what has been read ------------------------------------------------------------------------------------------------------------

pub start : (columns depth : ℕ) → 0 < columns → Front columns depth (before_query columns) nothing_grown []
start columns depth h = (refl, refl, refl, omega arith, refl)

step_kept : (columns depth : ℕ) (grown : GrowthTree) (front tokens : List Token) (s : Step) (state : State) → Kept columns depth grown front s
    → ((p : Progress) (g : GrowthTree) → Front columns depth p g front → run depth p g tokens ≡ Some state → Front columns depth state.0 state.1 (front ++ tokens))
    → onward s grown (λ p g. run depth p g tokens) ≡ Some state → Front columns depth state.0 state.1 (front ++ tokens)
step_kept columns depth grown front tokens (Ok next) state k by h = by next.0 (grow grown next.1) k h
step_kept columns depth grown front tokens (Err why) state k by h = cc

-- a run goes on with the front of a query
pub run_kept : (columns depth : ℕ) (progress : Progress) (grown : GrowthTree) (front tokens : List Token) (state : State) → Front columns depth progress grown front → run depth progress grown tokens ≡ Some state → Front columns depth state.0 state.1 (front ++ tokens)
run_kept columns depth progress grown front [] state f h =
    let same : (progress, grown) ≡ state = cc in
    subst (λ t. Front columns depth state.0 state.1 t) (sym (append-nil front)) (subst (λ s. Front columns depth s.0 s.1 front) same f)
run_kept columns depth progress grown front (one ∷ tokens) state f h =
    subst (λ t. Front columns depth state.0 state.1 t) (append_assoc front (one ∷ []) tokens)
    (step_kept columns depth grown (front ++ one ∷ []) tokens (step depth progress one) state (keeps columns depth progress.awaits progress.nest grown front one f)
    (λ p g k r. run_kept columns depth p g (front ++ one ∷ []) tokens state k r) h)

no_levels : (nest : List Opener) (levels : List LevelTree) → nest ≡ kinds levels → (length nest == 0) ≡ true → levels ≡ []
no_levels nest levels n h =
    let none : length nest ≡ 0 = grind (arith, nat_tests) in
    nil_from_length levels (sym (length-kinds levels) ∙ sym (ap length n) ∙ none)

whole_front : (depth : ℕ) (before : Option CondTree) (term : CondTree) (front : List Token) → Behind depth [] before term front → Derives depth Whole front (either_with before term)
whole_front depth before term front h =
    subst (λ t. Derives depth Whole t (either_with before term)) (sym h.3) (subst (λ d. Derives d Whole (h.1 ++ h.2) (either_with before term)) h.4.0 (pending_whole h.0 before h.1 h.2 term h.4.1 h.5))

-- where a query may end, the tokens are one
pub whole_query : (columns depth : ℕ) (next : Awaits) (nest : List Opener) (grown : GrowthTree) (tokens : List Token) → Front columns depth (at next nest) grown tokens → is_whole_at next nest ≡ true → IsQuery columns depth tokens (grown_query grown)
whole_query columns depth (awaits.Column room) nest grown tokens f h = cc
whole_query columns depth (awaits.MoreColumns room) nest grown tokens f h =
    record { some = f.4; few = omega (arith, f.3); spelled = subst (λ p. HasTokens depth grown.columns (whole p) tokens) (sym f.1) f.5 }
whole_query columns depth awaits.Factor nest grown tokens f h = cc
whole_query columns depth (awaits.Op column) nest grown tokens f h = cc
whole_query columns depth (awaits.Number column op) nest grown tokens f h = cc
whole_query columns depth awaits.Equals nest grown tokens f h = cc
whole_query columns depth (awaits.Name equal) nest grown tokens f h = cc
whole_query columns depth awaits.MoreFactors nest grown tokens f h =
    let none : grown.levels ≡ [] = no_levels nest grown.levels f.2 h in
    record {
      some = f.1.1;
      few = f.1.2;
      spelled = subst (λ t. HasTokens depth grown.columns t tokens) (sym (ap whole f.4)) (f.0, f.1.0, whole_front depth grown.pending.either f.3 f.0 (subst (λ l. Behind depth l grown.pending.either f.3 f.0) none f.5));
    }

-- what is to come ---------------------------------------------------------------------------------------------------------------

record Finishes (depth : ℕ) (progress : Progress) (grown : GrowthTree) : Type 0 where
  pub rest : List Token
  pub state : State
  pub runs : run depth progress grown rest ≡ Some state
  pub ends : is_whole state.0 ≡ true

by_step : (depth : ℕ) (progress next : Progress) (grown : GrowthTree) (one : Token) (added : Piece) → step depth progress one ≡ Ok (next, added) → Finishes depth next (grow grown added) → Finishes depth progress grown
by_step depth progress next grown one added h f =
    record { rest = one ∷ f.rest; state = f.state; runs = one_step depth progress next grown one f.rest added h ∙ f.runs; ends = f.ends }

-- every `(` gets its `)`
close_all : (depth : ℕ) (nest : List Opener) (grown : GrowthTree) → Finishes depth (at awaits.MoreFactors (behind_factor nest)) grown
close_all depth [] grown = record { rest = []; state = (at awaits.MoreFactors [], grown); runs = refl; ends = refl }
close_all depth (opener.Not ∷ nest) grown = close_all depth nest grown
close_all depth (opener.Paren ∷ nest) grown =
    by_step depth (at awaits.MoreFactors (opener.Paren ∷ nest)) (at awaits.MoreFactors (behind_factor nest)) grown token.Close piece.Close (at_close depth nest) (close_all depth nest (grow grown piece.Close))

finish_number : (depth : ℕ) (column : Column) (op : Op) (nest : List Opener) (grown : GrowthTree) → Finishes depth (at (awaits.Number column op) nest) grown
finish_number depth column op nest grown =
    by_step depth (at (awaits.Number column op) nest) (at awaits.MoreFactors (behind_factor nest)) grown (token.Word (decimal 0)) (piece.Is column op 0) (at_digits depth nest column op 0 (omega arith)) (close_all depth nest (grow grown (piece.Is column op 0)))

finish_op : (depth : ℕ) (column : Column) (nest : List Opener) (grown : GrowthTree) → Finishes depth (at (awaits.Op column) nest) grown
finish_op depth column nest grown =
    by_step depth (at (awaits.Op column) nest) (at (awaits.Number column ops.Eq) nest) grown (token.Compare ops.Eq) piece.Nothing (at_compare depth nest column ops.Eq) (finish_number depth column ops.Eq nest grown)

finish_factor : (depth : ℕ) (nest : List Opener) (grown : GrowthTree) → Finishes depth (at awaits.Factor nest) grown
finish_factor depth nest grown =
    by_step depth (at awaits.Factor nest) (at (awaits.Op columns.Lead) nest) grown (token.Word (column_word columns.Lead)) piece.Nothing (at_column_word depth nest columns.Lead) (finish_op depth columns.Lead nest grown)

finish_name : (depth : ℕ) (equal : Bool) (nest : List Opener) (grown : GrowthTree) → Finishes depth (at (awaits.Name equal) nest) grown
unfolding is_name
finish_name depth equal nest grown =
    by_step depth (at (awaits.Name equal) nest) (at awaits.MoreFactors (behind_factor nest)) grown (token.Word (codes "A")) (piece.Named (codes "A") equal) (at_named depth nest equal (codes "A") refl) (close_all depth nest (grow grown (piece.Named (codes "A") equal)))

finish_equals : (depth : ℕ) (nest : List Opener) (grown : GrowthTree) → Finishes depth (at awaits.Equals nest) grown
finish_equals depth nest grown =
    by_step depth (at awaits.Equals nest) (at (awaits.Name true) nest) grown (token.Compare (equals true)) piece.Nothing (at_sign depth nest true) (finish_name depth true nest grown)

settled_kinds : (levels : List LevelTree) → AreSettled levels → behind_factor (kinds levels) ≡ kinds levels
settled_kinds [] h = refl
settled_kinds (Negated ∷ levels) h = absurd h
settled_kinds (Inside around ∷ levels) h = refl

finish : (columns depth : ℕ) (next : Awaits) (nest : List Opener) (grown : GrowthTree) (tokens : List Token) → Front columns depth (at next nest) grown tokens → Finishes depth (at next nest) grown
finish listed depth (awaits.Column room) nest grown tokens f =
    record {
      rest = token.Word (column_word columns.Lead) ∷ [];
      state = (at (awaits.MoreColumns room) nest, grow grown (piece.Column columns.Lead));
      runs = one_step depth (at (awaits.Column room) nest) (at (awaits.MoreColumns room) nest) grown (token.Word (column_word columns.Lead)) [] (piece.Column columns.Lead) (at_listed_word depth room nest columns.Lead);
      ends = refl;
    }
finish listed depth (awaits.MoreColumns room) nest grown tokens f = record { rest = []; state = (at (awaits.MoreColumns room) nest, grown); runs = refl; ends = refl }
finish listed depth awaits.Factor nest grown tokens f = finish_factor depth nest grown
finish listed depth (awaits.Op column) nest grown tokens f = finish_op depth column nest grown
finish listed depth (awaits.Number column op) nest grown tokens f = finish_number depth column op nest grown
finish listed depth awaits.Equals nest grown tokens f = finish_equals depth nest grown
finish listed depth (awaits.Name equal) nest grown tokens f = finish_name depth equal nest grown
finish listed depth awaits.MoreFactors nest grown tokens f =
    let settled : behind_factor nest ≡ nest = ap behind_factor f.2 ∙ settled_kinds grown.levels f.5.6 ∙ sym f.2 in
    subst (λ n. Finishes depth (at awaits.MoreFactors n) grown) settled (close_all depth nest grown)

-- fronts --------------------------------------------------------------------------------------------------------------------------

-- tokens that are read to their end are the front of a query
pub continued : (columns depth : ℕ) (front : List Token) (state : State) → 0 < columns → run depth (before_query columns) nothing_grown front ≡ Some state → Continues columns depth front
continued columns depth front state some h =
    let f = run_kept columns depth (before_query columns) nothing_grown [] front state (start columns depth some) h in
    let e = finish columns depth state.0.awaits state.0.nest state.1 front f in
    let all = run_kept columns depth state.0 state.1 front e.rest e.state f e.runs in
    (e.rest, grown_query e.state.1, whole_query columns depth e.state.0.awaits e.state.0.nest e.state.1 (front ++ e.rest) all e.ends)

some_before : (depth : ℕ) (rest : List Token) (o : Option State) (final : State) → then_run depth rest o ≡ Some final → (state : State) × (o ≡ Some state)
some_before depth rest (Some state) final h = (state, refl)
some_before depth rest None final h = cc

-- the front of a query is read to its end
pub front_runs : (columns depth : ℕ) (front : List Token) → Continues columns depth front → (state : State) × (run depth (before_query columns) nothing_grown front ≡ Some state)
front_runs columns depth front h =
    let r = query_runs columns depth (front ++ h.0) h.1 h.2 in
    some_before depth h.0 (run depth (before_query columns) nothing_grown front) r.state (sym (run-append depth (before_query columns) nothing_grown front h.0) ∙ r.runs)

pub some_columns : (columns depth : ℕ) (front : List Token) → Continues columns depth front → 0 < columns
some_columns columns depth front h = omega (arith, h.2.some, h.2.few)
