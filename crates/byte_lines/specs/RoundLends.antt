-- The desks of a round, lent.
use Rattle.std.specs.Prelude.{List}
use Rattle.std.specs.Borrow.{Fml, RattleType, MutBor, Array, Lends}
use Rattle.byte_lines.specs.declared.rounds.Desk.{Desk}
use Rattle.byte_lines.specs.Desks.{with_front}
use Rattle.byte_lines.specs.contracts.rounds.Desk as desk
use Rattle.byte_lines.specs.contracts.rounds.Round as round

-- a round ends with the desks as they were left
abbrev pub LendsDesks : (S K : RattleType) → MutBor (List (Desk S.Denot K.Denot)) → MutBor (List (Desk S.Denot K.Denot)) → Fml
LendsDesks S K desks lent = Lends (round.the_row S K) (Array (desk.the_row S K) 0) desks lent (with_front desks.now)
