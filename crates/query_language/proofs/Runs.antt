-- Runs over tokens without their places.
use Rattle.std.proofs.Common.{◌≡◌, ℕ, Bool, true, false, List, [], ◌∷◌, ◌++◌, Option, Some, None, Result, Ok, Err, refl, ap, ◌∙◌, cond}
use Rattle.std.specs.List.{fold}
use Rattle.query_language.specs.Grammar.{bare}
use Rattle.query_language.specs.Growing.{GrowthTree, grow, onto_pieces, pieces_from}
use Rattle.query_language.specs.Reading.{Step, step, is_whole, behind, fault_at, check_from}
use Rattle.query_language.specs.declared.fault.QueryFault.{QueryFault}
use Rattle.query_language.specs.declared.fault.QueryRule.TheVariants as rule
use Rattle.query_language.specs.declared.progress.Progress.{Progress}
use Rattle.query_language.specs.declared.token.Token.{Token}

-- how far a query has been read, and what has grown
abbrev pub State : Type 0
State = Progress × GrowthTree

abbrev pub onward : Step → GrowthTree → (Progress → GrowthTree → Option State) → Option State
onward (Ok next) grown more = more next.0 (grow grown next.1)
onward (Err why) grown more = None

abbrev pub run : ℕ → Progress → GrowthTree → List Token → Option State
run depth progress grown [] = Some (progress, grown)
run depth progress grown (one ∷ tokens) = onward (step depth progress one) grown (λ next more. run depth next more tokens)

abbrev pub then_run : ℕ → List Token → Option State → Option State
then_run depth tokens (Some state) = run depth state.0 state.1 tokens
then_run depth tokens None = None

onward_two : (depth : ℕ) (s : Step) (grown : GrowthTree) (back : List Token) (all front : Progress → GrowthTree → Option State) → ((p : Progress) (g : GrowthTree) → all p g ≡ then_run depth back (front p g)) → onward s grown all ≡ then_run depth back (onward s grown front)
onward_two depth (Ok next) grown back all front h = h next.0 (grow grown next.1)
onward_two depth (Err why) grown back all front h = refl

-- a run over two lists is one after the other
pub run-append : (depth : ℕ) (progress : Progress) (grown : GrowthTree) (front back : List Token) → run depth progress grown (front ++ back) ≡ then_run depth back (run depth progress grown front)
run-append depth progress grown [] back = refl
run-append depth progress grown (one ∷ front) back = onward_two depth (step depth progress one) grown back _ _ (λ p g. run-append depth p g front back)

pub run_two : (depth : ℕ) (progress : Progress) (grown : GrowthTree) (front back : List Token) (state : State) → run depth progress grown front ≡ Some state → run depth progress grown (front ++ back) ≡ run depth state.0 state.1 back
run_two depth progress grown front back state h = run-append depth progress grown front back ∙ ap (then_run depth back) h

-- a run that comes to an end where a query may end
pub record Ends (depth : ℕ) (progress : Progress) (grown : GrowthTree) (tokens : List Token) : Type 0 where
  pub state : State
  pub runs : run depth progress grown tokens ≡ Some state
  pub whole : is_whole state.0 ≡ true

-- the same token by token -------------------------------------------------------------------------------------------------------

-- what a check that finds no fault says of the run
pub record Grows (depth : ℕ) (progress : Progress) (grown : GrowthTree) (tokens : List (ℕ × Token)) : Type 0 where
  pub final : Progress
  pub runs : run depth progress grown (bare tokens) ≡ Some (final, fold grow grown (pieces_from depth progress tokens))
  pub whole : is_whole final ≡ true

whole_end : (end : ℕ) (b : Bool) → cond b (Ok tt) (fault_at end rule.End) ≡ Ok tt → b ≡ true
whole_end end true h = refl
whole_end end false h = cc

grows_on : (depth : ℕ) (s : Step) (place : ℕ) (grown : GrowthTree) (tokens : List (ℕ × Token)) (check : Progress → Result (Unit {0}) QueryFault) → ((p : Progress) (g : GrowthTree) → check p ≡ Ok tt → Grows depth p g tokens) → behind place s check ≡ Ok tt
    → (final : Progress) × (onward s grown (λ p g. run depth p g (bare tokens)) ≡ Some (final, fold grow grown (onto_pieces s (λ p. pieces_from depth p tokens)))) × (is_whole final ≡ true)
grows_on depth (Ok next) place grown tokens check h k = let e = h next.0 (grow grown next.1) k in (e.final, e.runs, e.whole)
grows_on depth (Err why) place grown tokens check h k = cc

pub check_grows : (depth end : ℕ) (progress : Progress) (grown : GrowthTree) (tokens : List (ℕ × Token)) → check_from depth end progress tokens ≡ Ok tt → Grows depth progress grown tokens
check_grows depth end progress grown [] h = record { final = progress; runs = refl; whole = whole_end end (is_whole progress) h }
check_grows depth end progress grown (one ∷ tokens) h =
    let e = grows_on depth (step depth progress one.1) one.0 grown tokens (λ p. check_from depth end p tokens) (λ p g k. check_grows depth end p g tokens k) h in
    record { final = e.0; runs = e.1; whole = e.2 }

-- a run to where a query may end is checked without a fault
pub record IsChecked (depth end : ℕ) (progress : Progress) (grown : GrowthTree) (tokens : List (ℕ × Token)) (state : State) : Type 0 where
  pub check : check_from depth end progress tokens ≡ Ok tt
  pub grows : fold grow grown (pieces_from depth progress tokens) ≡ state.1

runs_on : (depth end : ℕ) (s : Step) (place : ℕ) (grown : GrowthTree) (tokens : List (ℕ × Token)) (state : State)
    → ((p : Progress) (g : GrowthTree) → run depth p g (bare tokens) ≡ Some state → IsChecked depth end p g tokens state) → onward s grown (λ p g. run depth p g (bare tokens)) ≡ Some state
    → (behind place s (λ p. check_from depth end p tokens) ≡ Ok tt) × (fold grow grown (onto_pieces s (λ p. pieces_from depth p tokens)) ≡ state.1)
runs_on depth end (Ok next) place grown tokens state h k = let e = h next.0 (grow grown next.1) k in (e.check, e.grows)
runs_on depth end (Err why) place grown tokens state h k = cc

pub run_checked : (depth end : ℕ) (progress : Progress) (grown : GrowthTree) (tokens : List (ℕ × Token)) (state : State) → is_whole state.0 ≡ true → run depth progress grown (bare tokens) ≡ Some state → IsChecked depth end progress grown tokens state
run_checked depth end progress grown [] state w h =
    let same : (progress, grown) ≡ state = cc in
    record { check = ap (λ b. cond b (Ok tt) (fault_at end rule.End)) (ap (λ s. is_whole s.0) same ∙ w); grows = ap (λ s. s.1) same }
run_checked depth end progress grown (one ∷ tokens) state w h =
    let e = runs_on depth end (step depth progress one.1) one.0 grown tokens state (λ p g k. run_checked depth end p g tokens state w k) h in
    record { check = e.0; grows = e.1 }
