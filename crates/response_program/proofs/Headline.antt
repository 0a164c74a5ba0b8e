-- A run within a run: one file more is made before it and given back behind it.
use Rattle.std.proofs.Common.{◌≡◌, ◌≢◌, ℕ, ◌+◌, ◌-◌, List, [], ◌∷◌, Some, false, suc, zero, sym, subst, ◌∙◌}
use Rattle.std.specs.Prelude.{take, slice_get}
use Rattle.std.specs.List.{AllByRecursion}
use Rattle.plan_schema.specs.declared.change.Entry.{Entry}
use Rattle.plan_schema.specs.Contents.{Contents}
use Rattle.plan_schema.specs.Outside.{StaysBut, IsKeptOrEmpty}
use Rattle.scenario_rules.specs.Journal.{IsLegal}
use Rattle.request_loop.specs.Serving.{is_past_limit}
use Rattle.sessions.specs.Serving.{IsServed, IsServedShort}
use Rattle.response_program.specs.declared.ending.Totals.{Totals}
use Rattle.response_program.specs.Names.{Pair, Names, IsApart}
use Rattle.response_program.specs.Views.{View, NoneFell}
use Rattle.response_program.specs.Desks.{session_of}
use Rattle.response_program.specs.Runs as runs
use Rattle.response_program.specs.Runs.{Tells, AreHeld, AreCut, AreDoneOver, AreCutOver, IsTooLongIn, ReadsTo, IsDone, IsShort, IsTooLong}
use Rattle.response_program.proofs.Named.{all_kept, some_kept}
use Rattle.response_program.proofs.Unhurt.{whole_longer}

-- no entries are a legal history
pub no_entries : (base : Contents) → IsLegal base []
no_entries base = record { sound = λ k. tt; accepted = λ k. tt }

-- a shelf on which a file was made tells
pub made_tells : (name : List ℕ) (old new : View) → Tells old → IsKeptOrEmpty (old.held name) (new.held name) → StaysBut name old.held new.held → Tells new
made_tells name old new tells here others other = some_kept (tells other) (all_kept name old.held new.held here others other)

-- a file of this name is made before, and given back behind
module _ (name : List ℕ) (old mid late new : View) (before : StaysBut name old.held mid.held) (after : StaysBut name late.held new.held) (making : NoneFell old mid) (giving : NoneFell late new) where
  pub held_over : (pairs : List Pair) (inputs outputs : List (List ℕ)) → AllByRecursion (IsApart name) pairs → AreHeld mid late pairs inputs outputs → AreHeld old new pairs inputs outputs
  held_over [] [] [] apart h = tt
  held_over (pair ∷ pairs) (input ∷ inputs) (output ∷ outputs) apart h =
      (sym (before pair.input apart.0.0) ∙ h.0, after pair.output apart.0.1 ∙ h.1, held_over pairs inputs outputs apart.1 h.2)
  held_over [] [] (output ∷ outputs) apart h = absurd h
  held_over [] (input ∷ inputs) outputs apart h = absurd h
  held_over (pair ∷ pairs) [] outputs apart h = absurd h
  held_over (pair ∷ pairs) (input ∷ inputs) [] apart h = absurd h

  empty_over : (pairs : List Pair) → AllByRecursion (IsApart name) pairs → AllByRecursion (λ (other : Pair). late.held other.output ≡ Some []) pairs → AllByRecursion (λ (other : Pair). new.held other.output ≡ Some []) pairs
  empty_over [] apart h = tt
  empty_over (pair ∷ pairs) apart h = (after pair.output apart.0.1 ∙ h.0, empty_over pairs apart.1 h.1)

  pub cut_over : (contents : Contents) (session : ℕ) (earlier entries : List Entry) (pairs : List Pair) → AllByRecursion (IsApart name) pairs → AreCut mid late contents session earlier pairs entries
      → AreCut old new contents session earlier pairs entries
  cut_over contents _ _ _ _ apart (runs.whole session count earlier between entries pair pairs input held served rest) =
      runs.whole session count earlier between entries pair pairs input (sym (before pair.input apart.0.0) ∙ held)
      (subst (λ after. IsServed (session_of contents session earlier) between input (Some []) after count) (sym (after pair.output apart.0.1)) served)
      (cut_over contents (session + 1) between entries pairs apart.1 rest)
  cut_over contents _ _ _ _ apart (runs.short session earlier entries pair pairs input held served rest) =
      runs.short session earlier entries pair pairs input (sym (before pair.input apart.0.0) ∙ held)
      (subst (λ after. IsServedShort (session_of contents session earlier) entries input (Some []) after) (sym (after pair.output apart.0.1)) served)
      (empty_over pairs apart.1 rest)

  pub done_over : (names : Names) (contents : Contents) (entries : List Entry) → AllByRecursion (IsApart name) names.pairs → AreDoneOver mid late names contents entries → AreDoneOver old new names contents entries
  done_over names contents entries apart h =
      record { rounds = h.rounds; shape = h.shape; held = held_over names.pairs _ _ apart h.held; legal = h.legal; within = h.within }

  pub cut_all_over : (names : Names) (contents : Contents) (entries : List Entry) → AllByRecursion (IsApart name) names.pairs → AreCutOver mid late names contents entries → AreCutOver old new names contents entries
  cut_all_over names contents entries apart h =
      record {
        in_order = λ each. cut_over contents 1 [] entries names.pairs apart (h.in_order each);
        in_rounds = λ other.
            (let cut = h.in_rounds other in
            record { rounds = cut.rounds; shape = cut.shape; held = held_over names.pairs _ _ apart cut.held; cut = cut.cut; whole = whole_longer old mid late new making giving names.pairs cut.rounds cut.whole });
      }

  -- the pair at a place is one of the pairs
  apart_at : (pairs : List Pair) (k : ℕ) (pair : Pair) → slice_get pairs k ≡ Some pair → AllByRecursion (IsApart name) pairs → IsApart name pair
  apart_at [] k pair at apart = cc
  apart_at (first ∷ pairs) zero pair at apart = let same : first ≡ pair = cc in subst (IsApart name) same apart.0
  apart_at (first ∷ pairs) (suc k) pair at apart = apart_at pairs k pair at apart.1

  within_over : (k : ℕ) (pairs : List Pair) → AllByRecursion (IsApart name) pairs
      → AllByRecursion (λ (other : Pair). (text : List ℕ) → mid.held other.input ≡ Some text → is_past_limit text ≡ false) (take k pairs)
      → AllByRecursion (λ (other : Pair). (text : List ℕ) → old.held other.input ≡ Some text → is_past_limit text ≡ false) (take k pairs)
  within_over zero pairs apart h = tt
  within_over (suc k) [] apart h = tt
  within_over (suc k) (pair ∷ pairs) apart h = (λ text is. h.0 text (before pair.input apart.0.0 ∙ is), within_over k pairs apart.1 h.1)

  pub long_over : (names : Names) (session : ℕ) → AllByRecursion (IsApart name) names.pairs → IsTooLongIn mid names session → IsTooLongIn old names session
  long_over names session apart h =
      record {
        pair = h.pair;
        at = h.at;
        input = h.input;
        held = sym (before h.pair.input (apart_at names.pairs (session - 1) h.pair h.at apart).0) ∙ h.held;
        past = h.past;
        earlier = within_over (session - 1) names.pairs apart h.earlier;
      }

  -- the journal too is another file
  module _ (names : Names) (apart : AllByRecursion (IsApart name) names.pairs) (no_journal : names.journal ≢ name) (no_base : names.base ≢ name) where
    reads_over : (contents : Contents) → ReadsTo mid names contents → ReadsTo old names contents
    reads_over contents h = record { base = h.base; held = sym (before names.base no_base) ∙ h.held; read = h.read }

    pub all_done_over : (totals : Totals) → IsDone mid late names totals → IsDone old new names totals
    all_done_over totals h =
        record {
          contents = h.contents;
          base_is = reads_over h.contents h.base_is;
          entries = h.entries;
          totals_are = h.totals_are;
          run = record {
            journal_is = after names.journal no_journal ∙ h.run.journal_is;
            sessions = done_over names h.contents h.entries apart h.run.sessions;
          };
        }

    pub short_over : IsShort mid late names → IsShort old new names
    short_over h =
        record {
          contents = h.contents;
          base_is = reads_over h.contents h.base_is;
          entries = h.entries;
          run = record {
            legal = h.run.legal;
            journal_is = after names.journal no_journal ∙ h.run.journal_is;
            outputs = cut_all_over names h.contents h.entries apart h.run.outputs;
          };
        }

    pub too_long_over : (session : ℕ) → IsTooLong mid names session → IsTooLong old names session
    too_long_over session h =
        record { contents = h.contents; base_is = reads_over h.contents h.base_is; input = long_over names session apart h.input }
