-- What becomes of a desk that is served with a pass.
use Rattle.std.specs.Prelude.{◌≡◌, ℕ, List, Option, Some}
use Rattle.byte_lines.specs.declared.rounds.Desk.{Desk}
use Rattle.byte_lines.specs.declared.rounds.Served.{Served}
use Rattle.turn_table.specs.Passes.{TurnId}
use Rattle.plan_book.specs.declared.ground.Ground.{Ground}
use Rattle.plan_office.specs.Turns.{Known}
use Rattle.request_loop.specs.Handed.{Ending}
use Rattle.sessions.specs.InTurns.{IsReady}
use Rattle.sessions.specs.Ends.{PassEnding}
use Rattle.sessions.specs.Serving.{ServesInTurns}

-- the meanings of sources and of sinks come first
module _ {S K : Type 0} (left : S → Option (List ℕ)) (reads : S → ℕ) (source_label : S → List ℕ) (taken : K → Option (List ℕ)) (writes : K → ℕ) (sink_label : K → List ℕ) where
  -- a desk was served, and says how its session ended; its pass may be served with again
  pub record IsDeskServed (turn : TurnId) (desk : Desk S K) (pass : Known) (desk_then : Desk S K) (pass_then : Known) : Type 0 where
    pub served : Served
    pub told : desk_then.served ≡ Some served
    pub ready : IsReady turn pass_then
    pub cause : Ending reads source_label writes sink_label desk.source desk_then.source desk.sink desk_then.sink served
    pub pass_is : PassEnding pass pass_then served
    pub session : (began : Ground) (input : List ℕ) → pass.basis ≡ Some began → left desk.source ≡ Some input → ServesInTurns began pass pass_then input (taken desk.sink) (taken desk_then.sink) served
