-- A core with the walks of its questions.
use Rattle.std.specs.Prelude.{ℕ, List, [], Option, None, unwrap_or, set, slice_get}
use Rattle.plan_core.specs.State.{State}
use Rattle.core_runs.specs.declared.in_work.InWork.{InWork}

-- the walks of all questions, in the order of asking: none for a question without a walk, and for one whose walk is out of work
abbrev pub Walks : Type 0
Walks = List (Option InWork)

-- the walk of the question with a number, where it is in work
abbrev pub walk_at : Walks → ℕ → Option InWork
walk_at walks number = unwrap_or (slice_get walks number) None

-- the walks, where the one of a question is left so; a question that wasn't asked has none
abbrev pub with_walk : Walks → ℕ → Option InWork → Walks
with_walk walks number left = set walks number left

-- a core and the walks of its questions
pub record Machine : Type 0 where
  pub core : State
  pub walks : Walks

-- a core of which nothing was asked
abbrev pub unasked : State → Machine
unasked core = record { core = core; walks = [] }
