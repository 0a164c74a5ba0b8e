-- What a seat at the table of a turn knows, by matters.
use Rattle.std.specs.Prelude.{ℕ, Bool, List, Option}

-- Its tickets: how many it drew, the highest of them, whether that one still waits for its turn or has it, and whether it has it.
pub record Tickets : Type 0 where
  pub draws : ℕ
  pub highest : Option ℕ
  pub waits : Bool
  pub in_turn : Bool

-- Its numbers: its own, one that it has drawn for a new seat, how many it has drawn so, and the ended numbers that it took in, each with all its entries.
pub record Numbers (E : Type 0) : Type 0 where
  pub number : Option ℕ
  pub spare : Option ℕ
  pub splits : ℕ
  pub joined : List (ℕ × List (ℕ × E))

-- The story: how much it has seen, the shorter of the two lists at its last join, its own entries, and whether it noted the story in this turn.
pub record Reading (E : Type 0) : Type 0 where
  pub seen : List (ℕ × E)
  pub met : List (ℕ × E)
  pub own : List (ℕ × E)
  pub noted : Bool

-- The value: whether it holds it, whether it is the one that puts the first value in, the faults of the value that it took or gives,
-- how many turns were given back as failed, the faults of the first value, and the basis.
pub record Holding (G : Type 0) : Type 0 where
  pub holds : Bool
  pub begins : Bool
  pub counted : ℕ
  pub failures : ℕ
  pub begun : ℕ
  pub basis : Option G
