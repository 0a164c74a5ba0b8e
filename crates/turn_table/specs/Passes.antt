-- What a pass knows, what the calls of a turn do to it, and what they tell.
use Rattle.std.specs.Prelude.{◌≡◌, ℕ, ◌+◌, ◌<◌, ◌≤◌, min, Bool, true, false, cond, List, [], ◌∷◌, ◌++◌, length, map, Option, Some, None, MatchBool}
use Rattle.atomic_table.specs.Seated.{TableId}
use Rattle.turn_table.specs.declared.view.View.{View}
use Rattle.turn_table.specs.Story.{entries_of, Begins, AreKept, Added, longer, past}
use Rattle.turn_table.specs.Rule.{times, is_late, greatest, fewest}
use Rattle.turn_table.specs.Steps.{Seated, higher, IsIdle, IsHolder, IsRight}

-- which turn it is
abbrev pub TurnId : Type 0
TurnId = TableId

-- What a pass knows, where with each entry stands the number of its maker:
-- which turn it is of, and the turn's first ticket;
-- its number, the beginning of the story that it has seen, and the entries that it made itself;
-- the numbers that were joined into it, each with all its entries;
-- how many tickets it drew, and the highest of them; how many passes it has split off;
-- how many turns, of its own and of those joined into it, were given back as failed;
-- the count of faults and the basis of the turn's first value;
-- and, while it holds the value, the count of faults that this had when it was taken.
pub record Knowledge (E G : Type 0) : Type 0 where
  pub turn : TurnId
  pub first : ℕ
  pub number : ℕ
  pub seen : List (ℕ × E)
  pub own : List (ℕ × E)
  pub joined : List (ℕ × List (ℕ × E))
  pub draws : ℕ
  pub ticket : Option ℕ
  pub splits : ℕ
  pub faults : ℕ
  pub begun : ℕ
  pub basis : Option G
  pub held : Option ℕ

module _ {E G : Type 0} where
  -- what a seat with this number knows
  abbrev pub known : TurnId → ℕ → View E G → Knowledge E G
  known turn number v = record {
    turn = turn;
    first = v.first;
    number = number;
    seen = v.reading.seen;
    own = v.reading.own;
    joined = v.numbers.joined;
    draws = v.tickets.draws;
    ticket = v.tickets.highest;
    splits = v.numbers.splits;
    faults = v.holding.failures;
    begun = v.holding.begun;
    basis = v.holding.basis;
    held = cond v.holding.holds (Some v.holding.counted) None;
  }

  -- it is of this turn and doesn't hold the value
  abbrev pub IsFree : TurnId → Knowledge E G → Type 0
  IsFree turn p = (p.turn ≡ turn) × (p.held ≡ None)

  -- it takes no turn any more: its highest ticket is one that is not served
  abbrev pub is_worn : Knowledge E G → Bool
  is_worn p = is_late p.ticket

  -- its number, and those joined into it
  abbrev pub numbers_in : Knowledge E G → List ℕ
  numbers_in p = p.number ∷ map (λ j. j.0) p.joined

  -- all other passes were joined into it: number 0 is among its numbers, and as many were joined as were split off
  abbrev pub IsWhole : Knowledge E G → Type 0
  IsWhole p = (1 ≤ times 0 (numbers_in p)) × (length p.joined ≡ p.splits)

  -- in what it has seen, the entries of its number are those that it made, once each and in order
  abbrev pub HasOwn : Knowledge E G → Type 0
  HasOwn p = entries_of p.number p.seen ≡ p.own

  -- the pass that a turn begins with
  abbrev pub first_pass : TurnId → ℕ → ℕ → G → Knowledge E G
  first_pass turn first faults basis = record {
    turn = turn;
    first = first;
    number = 0;
    seen = [];
    own = [];
    joined = [];
    draws = 0;
    ticket = None;
    splits = 0;
    faults = 0;
    begun = faults;
    basis = Some basis;
    held = None;
  }

  -- a pass that is split off has the next number, has seen the same, and has done nothing yet
  abbrev pub new_pass : Knowledge E G → Knowledge E G
  new_pass p = record p { number = p.splits + 1; own = []; joined = []; draws = 0; ticket = None; splits = 0; faults = 0; held = None }

  abbrev pub after_split : Knowledge E G → Knowledge E G
  after_split p = record p { splits = p.splits + 1 }

  -- a pass into which another was joined
  abbrev pub joined_pass : Knowledge E G → Knowledge E G → Knowledge E G
  joined_pass p q = record p {
    seen = longer p.seen q.seen;
    joined = p.joined ++ (q.number, q.own) ∷ q.joined;
    draws = p.draws + q.draws;
    ticket = higher p.ticket q.ticket;
    splits = p.splits + q.splits;
    faults = p.faults + q.faults;
  }

  -- a pass that has seen what another has
  abbrev pub met_pass : Knowledge E G → Knowledge E G → Knowledge E G
  met_pass p q = record p { seen = longer p.seen q.seen }

  -- a pass that has given the value back, with this story
  abbrev pub given_pass : Knowledge E G → List (ℕ × E) → Bool → Knowledge E G
  given_pass p story failed = record p { seen = story; own = p.own ++ past p.seen story; faults = p.faults + cond failed 1 0; held = None }

  -- a ticket drawn by it is above all that it had, at least the first ticket and the draws that it knew, and just this
  -- sum where it is whole
  pub record IsTicketOf (p : Knowledge E G) (n : ℕ) : Type 0 where
    pub above : (k : ℕ) → p.ticket ≡ Some k → k < n
    pub least : p.first + p.draws ≤ n
    pub whole : IsWhole p → n ≡ p.first + p.draws

  -- from p to q no ticket was drawn where p was worn, and else one
  abbrev pub DrawsOne : Knowledge E G → Knowledge E G → Type 0
  DrawsOne p q = MatchBool (is_worn p) ((q.draws ≡ p.draws) × (q.ticket ≡ p.ticket)) ((n : ℕ) × (q.draws ≡ p.draws + 1) × (q.ticket ≡ Some n) × IsTicketOf p n)

  -- where it is whole, each ticket that it had is below the first and its draws
  abbrev pub HadTickets : Knowledge E G → Type 0
  HadTickets p = IsWhole p → (k : ℕ) → p.ticket ≡ Some k → k < p.first + p.draws

  -- A taken story begins with what the pass had seen. The entries of its number in it are its own, and those of each
  -- number joined into it are the kept ones. Where the pass is whole, no further number has entries.
  pub record IsStoryOf (p : Knowledge E G) (story : List (ℕ × E)) : Type 0 where
    pub grows : Begins p.seen story
    pub own : entries_of p.number story ≡ p.own
    pub joined : AreKept story p.joined
    pub others : IsWhole p → (k : ℕ) → times k (numbers_in p) ≡ 0 → entries_of k story ≡ []

  -- a taken value has at least the faults of the first one, and more where the pass knows of a failed turn
  pub record AreFaultsOf (p : Knowledge E G) (faults : ℕ) : Type 0 where
    pub least : p.begun ≤ faults
    pub above : 0 < p.faults → fewest p.begun 1 ≤ faults

  -- a story that may be given back: the taken one, or that and one more entry, made by the pass
  abbrev pub GoesOn : Knowledge E G → List (ℕ × E) → Type 0
  GoesOn p story = (more : List (ℕ × E)) × (story ≡ p.seen ++ more) × Added p.number more

  -- a count of faults that may be given back: not below the taken one, and above it where the turn failed, unless the taken one is the
  -- last that 64 bits hold
  abbrev pub MayCount : Knowledge E G → ℕ → Bool → Type 0
  MayCount p faults failed = (taken : ℕ) × (p.held ≡ Some taken) × (taken ≤ faults) × (failed ≡ true → min (taken + 1) greatest ≤ faults)

module _ {T E G : Type 0} where
  -- the seat of a pass stands between two turns, or it holds the value, which the pass has handed out
  pub record IsSeatOf (number seen_len : ℕ) (ticket : Option ℕ) (m : Seated T E G) : Type 0 where
    pub number_is : m.0.numbers.number ≡ Some number
    pub no_spare : m.0.numbers.spare ≡ None
    pub seen_len_is : seen_len ≡ length m.0.reading.seen
    pub ticket_is : ticket ≡ m.0.tickets.highest
    pub idle : m.0.holding.holds ≡ false → IsIdle m.0 × (m.1 ≡ [])
    pub busy : m.0.holding.holds ≡ true → IsHolder m.0 × (m.1 ≡ (0, None) ∷ [])
    pub right : IsRight m.0
