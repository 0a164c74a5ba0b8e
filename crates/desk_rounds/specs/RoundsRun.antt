-- What becomes of a round of desks that is run, each desk with a pass of its own.
use Rattle.std.specs.Prelude.{◌≡◌, ℕ, Bool, true, false, List, Option, Some}
use Rattle.std.specs.List.{list_all}
use Rattle.byte_lines.specs.declared.rounds.Desk.{Desk}
use Rattle.byte_lines.specs.declared.rounds.Served.{Served}
use Rattle.byte_lines.specs.declared.rounds.Served.TheVariants as ends
use Rattle.turn_table.specs.Story.{Begins}
use Rattle.turn_table.specs.Passes.{TurnId, HasOwn}
use Rattle.plan_book.specs.Books.{Story}
use Rattle.plan_office.specs.Turns.{Known}
use Rattle.desk_rounds.specs.DesksServed.{IsDeskServed}

-- whether a session ended, its input read to the end or to the request to quit
abbrev pub ended_as : Option Served → Bool
ended_as (Some (ends.Ended count)) = true
ended_as served = false

-- whether a session stopped for want of memory, since no turn was left, or since what keeps the changes failed
abbrev pub is_wanting : Option Served → Bool
is_wanting (Some ends.Memory) = true
is_wanting (Some ends.Worn) = true
is_wanting (Some ends.BookFault) = true
is_wanting served = false

-- whether all sessions of a round ended
abbrev pub all_ended : {S K : Type 0} → List (Desk S K) → Bool
all_ended desks = list_all (λ desk. ended_as desk.served) desks

-- the meanings of sources and of sinks come first
module _ {S K : Type 0} (left : S → Option (List ℕ)) (reads : S → ℕ) (source_label : S → List ℕ) (taken : K → Option (List ℕ)) (writes : K → ℕ) (sink_label : K → List ℕ) where
  -- One desk of a round, before which the main pass had seen this story, and behind which it has seen that: the desk's pass saw what the
  -- main pass had, the desk was served with it, and the main pass has seen since what it had then.
  pub record IsDeskRun (turn : TurnId) (before after : Story) (desk : Desk S K) (pass : Known) (desk_then : Desk S K) (pass_then : Known) : Type 0 where
    pub begun : Known
    pub brought : begun ≡ record pass { seen = begun.seen }
    pub ahead : Begins before begun.seen
    pub own : HasOwn begun
    pub ended : Known
    pub served : IsDeskServed left reads source_label taken writes sink_label turn desk begun desk_then ended
    pub told : Begins ended.seen after
    pub met : pass_then ≡ record ended { seen = pass_then.seen }
