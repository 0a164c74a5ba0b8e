-- A session that takes turns at an office: what it sees is what its pass has seen.
use Rattle.std.specs.Prelude.{◌≡◌, ◌≤◌, true, [], Some, None, unwrap_or}
use Rattle.turn_table.specs.Passes.{TurnId, IsFree, HasOwn}
use Rattle.plan_book.specs.declared.ground.Ground.{Ground}
use Rattle.plan_office.specs.Turns.{Known}
use Rattle.sessions.specs.Sights.{Sight}

-- a pass that a session may be served with: it is of this turn and holds nothing, it knows what it made and what the book began with, and
-- its number is one that a session may have
pub record IsReady (turn : TurnId) (p : Known) : Type 0 where
  pub free : IsFree turn p
  pub own : HasOwn p
  pub some : 1 ≤ p.number
  pub most : p.number ≤ 16
  pub began : Ground
  pub based : p.basis ≡ Some began

-- what no turn changes of what a pass knows
abbrev pub unturned : Known → Known
unturned p = record p { seen = []; own = []; draws = 0; ticket = None; faults = 0; held = None }

-- what a book without a basis would have begun with
abbrev pub nothing : Ground
nothing = record { base = []; earlier = [] }

abbrev pub sight_of : Known → Sight Known
sight_of p = record {
  place = record { may_change = true; session = p.number; began = unwrap_or p.basis nothing; rest = unturned p };
  seen = p.seen;
  own = p.own;
  faults = p.faults;
}
