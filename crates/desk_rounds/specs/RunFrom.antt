-- What becomes of rounds of desks that are run one after the other, and of the passes that they are run with.
use Rattle.std.specs.Prelude.{◌≡◌, ℕ, List, [], ◌∷◌, ◌++◌, Option, MatchBool}
use Rattle.byte_lines.specs.declared.rounds.Desk.{Desk}
use Rattle.turn_table.specs.Story.{Begins}
use Rattle.turn_table.specs.Passes.{TurnId}
use Rattle.plan_book.specs.Books.{Story}
use Rattle.plan_office.specs.Turns.{Known}
use Rattle.desk_rounds.specs.Four.{EachFour}
use Rattle.desk_rounds.specs.RoundsRun.{all_ended, IsDeskRun}

-- the meanings of sources and of sinks come first
module _ {S K : Type 0} (left : S → Option (List ℕ)) (reads : S → ℕ) (source_label : S → List ℕ) (taken : K → Option (List ℕ)) (writes : K → ℕ) (sink_label : K → List ℕ) where
  module _ (turn : TurnId) where
    -- Rounds, each desk with the pass at its place, before which the main pass had seen one story and behind which it has seen another. The
    -- rounds after one in which a session didn't end are as they were, and so are their passes.
    abbrev pub AreRunFrom : Story → Story → List (List (Desk S K)) → List (List (Desk S K)) → List Known → List Known → Type 0
    AreRunFrom before last [] [] passes passes_then = (passes_then ≡ passes) × Begins before last
    AreRunFrom before last (desks ∷ rounds) (desks_then ∷ more) passes passes_then =
        (after : Story) × (here : List Known) × (later : List Known) × (here_then : List Known) × (later_then : List Known)
        × Begins before after × (passes ≡ here ++ later) × (passes_then ≡ here_then ++ later_then)
        × EachFour (IsDeskRun left reads source_label taken writes sink_label turn before after) desks here desks_then here_then
        × MatchBool (all_ended desks_then) (AreRunFrom after last rounds more later later_then) ((more ≡ rounds) × (later_then ≡ later) × Begins after last)
    AreRunFrom before last _ _ passes passes_then = ⊥
