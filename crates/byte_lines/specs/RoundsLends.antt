-- The desks of one of the rounds, lent.
use Rattle.std.specs.Prelude.{ℕ, List, [], slice_set}
use Rattle.std.specs.List.{slice_index_or}
use Rattle.std.specs.Borrow.{Fml, RattleType, MutBor, Array, Lends}
use Rattle.byte_lines.specs.declared.rounds.Desk.{Desk}
use Rattle.byte_lines.specs.Desks.{with_front}
use Rattle.byte_lines.specs.contracts.rounds.Desk as desk
use Rattle.byte_lines.specs.contracts.rounds.Rounds as all

module _ (S K : RattleType) (rounds : MutBor (List (List (Desk S.Denot K.Denot)))) (at : ℕ) where
  -- the rounds with the desks of one as they were left
  abbrev pub with_round : List (Desk S.Denot K.Denot) → List (List (Desk S.Denot K.Denot))
  with_round left = slice_set rounds.now at (with_front (slice_index_or rounds.now at []) left)

  -- the rounds end with the desks of one as they were left
  abbrev pub LendsRound : MutBor (List (Desk S.Denot K.Denot)) → Fml
  LendsRound lent = Lends (all.the_row S K) (Array (desk.the_row S K) 0) rounds lent with_round
