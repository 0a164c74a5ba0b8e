-- What a round of a walk leaves of a core.
use Rattle.std.specs.Prelude.{◌≡◌, List}
use Rattle.plan_schema.specs.declared.name.Name.{Name}
use Rattle.planning_rules.specs.Plan.{Known}
use Rattle.plan_walk.specs.declared.round.Round.{Round}
use Rattle.plan_walk.specs.declared.round.Tally.{Tally}
use Rattle.plan_walk.specs.View.{View}
use Rattle.plan_walk.specs.Walk.{Settles}
use Rattle.plan_core.specs.State.{State, added}

-- a round: what was netted is taken in and then all hits of the memo are, and the tally has this work more
pub record HasRound (old new : State) (walk walk_then : View) (solved : List (Name × Known)) (round : Round) : Type 0 where
  pub work : Tally
  pub settles : Settles walk walk_then old.pairs new.pairs old.most solved round work
  pub same : new ≡ record old { pairs = new.pairs; tally = added old.tally work }

-- a round for which there was no memory: the memo alone may have changed
abbrev pub IsCutShort : State → State → Type 0
IsCutShort old new = new ≡ record old { pairs = new.pairs }
