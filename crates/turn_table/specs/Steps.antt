-- The kinds of step: who may make each, what it does to the view, and what it tells.
use Rattle.std.specs.Prelude.{◌≡◌, ℕ, ◌+◌, ◌<◌, ◌≤◌, max, nat_lt, true, false, cond, List, [], ◌∷◌, ◌++◌, length, Option, Some, None}
use Rattle.std.specs.Option.{option_map_or}
use Rattle.atomic_table.specs.Table.{Me, Step}
use Rattle.turn_table.specs.declared.view.View.{View}
use Rattle.turn_table.specs.Story.{entries_of, Begins, AreKept, longer, shorter, past}
use Rattle.turn_table.specs.Rule.{most, fewest, size, has_ticket, has, TicketBelow}
use Rattle.turn_table.specs.Views.{Tickets}

abbrev pub Seated : Type 0 → Type 0 → Type 0 → Type 0
Seated T E G = Me (Option T) (View E G)

abbrev pub no_tickets : Tickets
no_tickets = record { draws = 0; highest = None; waits = false; in_turn = false }

-- the higher of two tickets
abbrev pub higher : Option ℕ → Option ℕ → Option ℕ
higher None b = b
higher (Some a) None = Some a
higher (Some a) (Some b) = Some (max a b)

module _ {E G : Type 0} where
  -- the first seat, which is to put the first value in and then be number 0
  abbrev pub beginner : ℕ → View E G
  beginner first = record {
    of = record {};
    first = first;
    tickets = no_tickets;
    numbers = record { number = None; spare = Some 0; splits = 0; joined = [] };
    reading = record { seen = []; met = []; own = []; noted = false };
    holding = record { holds = false; begins = true; counted = 0; failures = 0; begun = 0; basis = None };
  }

  -- it has taken the empty slot out
  abbrev pub opener : ℕ → View E G
  opener first = record (beginner first) { holding = record { holds = true; begins = true; counted = 0; failures = 0; begun = 0; basis = None } }

  -- the first value is put in
  abbrev pub starter : ℕ → ℕ → G → View E G
  starter first faults basis = record (beginner first) {
    numbers = record { number = Some 0; spare = None; splits = 0; joined = [] };
    holding = record { holds = false; begins = false; counted = 0; failures = 0; begun = faults; basis = Some basis };
  }

  -- a ticket was drawn, which waits where it is to be served
  abbrev pub with_ticket : ℕ → View E G → View E G
  with_ticket n v = record v { tickets = record { draws = v.tickets.draws + 1; highest = Some n; waits = nat_lt n most; in_turn = v.tickets.in_turn } }

  abbrev pub at_turn : View E G → View E G
  at_turn v = record v { tickets = record v.tickets { in_turn = true }; reading = record v.reading { noted = false } }

  -- a look at the turns served: it is the seat's turn, or nothing changes
  abbrev pub looked : ℕ → View E G → View E G
  looked served v = cond (has_ticket served v) (at_turn v) v

  -- the value was taken out, with this story and so many faults
  abbrev pub with_value : List (ℕ × E) → ℕ → View E G → View E G
  with_value story faults v = record v { reading = record v.reading { seen = story; noted = true }; holding = record v.holding { holds = true; counted = faults } }

  -- the mark was noted, for a value with so many faults, and set where the turn failed
  abbrev pub with_mark : ℕ → ℕ → View E G → View E G
  with_mark failed faults v = record v { holding = record v.holding { counted = faults; failures = v.holding.failures + failed } }

  -- the value was put back, with this story
  abbrev pub without_value : List (ℕ × E) → View E G → View E G
  without_value story v = record v { reading = record v.reading { seen = story; own = v.reading.own ++ past v.reading.seen story }; holding = record v.holding { holds = false } }

  abbrev pub after_turn : View E G → View E G
  after_turn v = record v { tickets = record v.tickets { waits = false; in_turn = false } }

  -- a number was drawn for a new seat
  abbrev pub with_spare : ℕ → View E G → View E G
  with_spare n v = record v { numbers = record v.numbers { spare = Some n; splits = v.numbers.splits + 1 } }

  -- a seat is split: the old one, and the new one, which has the spare number, or is a copy without one
  abbrev pub left_seat : View E G → View E G
  left_seat v = record v { numbers = record v.numbers { spare = None } }

  abbrev pub right_seat : View E G → View E G
  right_seat v = record {
    of = record {};
    first = v.first;
    tickets = no_tickets;
    numbers = record { number = v.numbers.spare; spare = None; splits = 0; joined = [] };
    reading = record { seen = v.reading.seen; met = []; own = []; noted = false };
    holding = record { holds = false; begins = false; counted = 0; failures = 0; begun = v.holding.begun; basis = v.holding.basis };
  }

  -- the number of a seat that ends, with its entries
  abbrev pub ended : View E G → List (ℕ × List (ℕ × E))
  ended v = option_map_or (λ k. (k, v.reading.own) ∷ []) v.numbers.number []

  -- two seats are joined: the one that stays, and the spent one
  abbrev pub merged : View E G → View E G → View E G
  merged v w = record v {
    tickets = record v.tickets { draws = v.tickets.draws + w.tickets.draws; highest = higher v.tickets.highest w.tickets.highest };
    numbers = record v.numbers { splits = v.numbers.splits + w.numbers.splits; joined = v.numbers.joined ++ (ended w ++ w.numbers.joined) };
    reading = record v.reading { seen = longer v.reading.seen w.reading.seen; met = shorter v.reading.seen w.reading.seen };
    holding = record v.holding { failures = v.holding.failures + w.holding.failures };
  }

  abbrev pub spent : View E G
  spent = record {
    of = record {};
    first = 0;
    tickets = no_tickets;
    numbers = record { number = None; spare = None; splits = 0; joined = [] };
    reading = record { seen = []; met = []; own = []; noted = false };
    holding = record { holds = false; begins = false; counted = 0; failures = 0; begun = 0; basis = None };
  }

  -- a seat between two turns, and one that holds the value
  pub record IsIdle (v : View E G) : Type 0 where
    pub no_wait : v.tickets.waits ≡ false
    pub no_turn : v.tickets.in_turn ≡ false
    pub empty : v.holding.holds ≡ false
    pub settled : v.holding.begins ≡ false

  pub record IsHolder (v : View E G) : Type 0 where
    pub waits : v.tickets.waits ≡ true
    pub in_turn : v.tickets.in_turn ≡ true
    pub noted : v.reading.noted ≡ true
    pub full : v.holding.holds ≡ true
    pub settled : v.holding.begins ≡ false

  -- it has the turn, and the value is still at home; and the value is at home again
  pub record MayTake (v : View E G) : Type 0 where
    pub in_turn : v.tickets.in_turn ≡ true
    pub empty : v.holding.holds ≡ false
    pub settled : v.holding.begins ≡ false

  pub record MayWait (v : View E G) : Type 0 where
    pub waits : v.tickets.waits ≡ true
    pub no_turn : v.tickets.in_turn ≡ false
    pub empty : v.holding.holds ≡ false
    pub settled : v.holding.begins ≡ false

  -- it knows all seats' numbers: number 0 is among its own, and it has as many more as were split
  pub record KnowsAll (v : View E G) : Type 0 where
    pub first_there : 1 ≤ has 0 v
    pub all_there : size v ≡ 1 + v.numbers.splits

  -- what holds of what a numbered seat knows, at any time: in what it has seen its own entries are all of its number,
  -- and where it knows all numbers, its tickets are below `first` and its draws
  pub record IsRight (v : View E G) : Type 0 where
    pub own : (k : ℕ) → v.numbers.number ≡ Some k → entries_of k v.reading.seen ≡ v.reading.own
    pub tickets : KnowsAll v → TicketBelow (v.first + v.tickets.draws) v

  -- what is known of the story that was taken: it begins with what had been seen; the entries of each known number are those that were kept;
  -- and where all numbers are known, no other has entries
  pub record IsStoryFor (v : View E G) (story : List (ℕ × E)) : Type 0 where
    pub grows : Begins v.reading.seen story
    pub own : (k : ℕ) → v.numbers.number ≡ Some k → entries_of k story ≡ v.reading.own
    pub joined : AreKept story v.numbers.joined
    pub others : KnowsAll v → (k : ℕ) → has k v ≡ 0 → entries_of k story ≡ []

  -- what is known of the count of faults of the value that was taken
  pub record AreFaultsFor (v : View E G) (faults : ℕ) : Type 0 where
    pub least : v.holding.begun ≤ faults
    pub above : 0 < v.holding.failures → fewest v.holding.begun 1 ≤ faults

  -- a ticket is drawn by a seat whose tickets are all below it; it is at least `first` and the seat's draws, and just that where the seat knows all numbers
  pub record IsTicketFor (v : View E G) (n : ℕ) : Type 0 where
    pub above : TicketBelow n v
    pub least : v.first + v.tickets.draws ≤ n
    pub all : KnowsAll v → n ≡ v.first + v.tickets.draws

module _ {T E G : Type 0} where
  -- take the empty slot out, for the first value
  abbrev pub Opened : Seated T E G → ℕ → Seated T E G → Type 0
  Opened m found n = n ≡ (opener m.0.first, (0, None) ∷ [])

  -- draw a ticket
  pub record Drew (st : Step (Option T)) (m : Seated T E G) (found : ℕ) (n : Seated T E G) : Type 0 where
    pub seat : n ≡ (with_ticket found m.0, m.1)
    pub ticket : IsTicketFor m.0 found
    pub right : IsRight n.0

  -- look whether it is its turn
  abbrev pub Looked : Step (Option T) → Seated T E G → ℕ → Seated T E G → Type 0
  Looked st m found n = n ≡ (looked found m.0, m.1)

  -- leave
  pub record Leaves (st : Step (Option T)) (m : Seated T E G) (found : ℕ) (n : Seated T E G) : Type 0 where
    pub seat : n ≡ (after_turn m.0, m.1)
    pub right : IsRight n.0

  -- draw a number for a new seat, which is one more than the splits before, and has no entries
  pub record Numbered (st : Step (Option T)) (m : Seated T E G) (found : ℕ) (n : Seated T E G) : Type 0 where
    pub seat : n ≡ (with_spare found m.0, m.1)
    pub next : found ≡ m.0.numbers.splits + 1
    pub unused : entries_of found m.0.reading.seen ≡ []
    pub size_is : size m.0 ≤ 1 + m.0.numbers.splits

  -- look at what a join has brought together: both lists begin one story
  pub record Compared (st : Step (Option T)) (m : Seated T E G) (found : ℕ) (n : Seated T E G) : Type 0 where
    pub seat : n ≡ m
    pub story : List (ℕ × E)
    pub seen : Begins m.0.reading.seen story
    pub met : Begins m.0.reading.met story
    pub right : IsRight m.0

module _ {T E G : Type 0} (story : T → List (ℕ × E)) (faults : T → ℕ) (basis : T → G) where
  -- put the first value in
  abbrev pub Started : Seated T E G → ℕ → Seated T E G → Type 0
  Started m found n = (value : T) → m.1 ≡ (0, Some value) ∷ [] → n ≡ (starter m.0.first (faults value) (basis value), [])

  -- note the story and take the value out
  pub record Took (m : Seated T E G) (found : ℕ) (n : Seated T E G) : Type 0 where
    pub value : T
    pub slot : n.1 ≡ (0, Some value) ∷ m.1
    pub seat : n.0 ≡ with_value (story value) (faults value) m.0
    pub story_is : IsStoryFor m.0 (story value)
    pub faults_are : AreFaultsFor m.0 (faults value)
    pub basis_is : m.0.holding.basis ≡ Some (basis value)
    pub counted : found ≡ length (story value)
    pub right : IsRight n.0

  -- note the mark, and set it where the turn failed
  abbrev pub Marked : Step (Option T) → Seated T E G → ℕ → Seated T E G → Type 0
  Marked st m found n = (value : T) → m.1 ≡ (0, Some value) ∷ [] → n ≡ (with_mark st.first (faults value) m.0, m.1)

  -- note the story, count one more entry or none, and put the value back
  abbrev pub Gave : Seated T E G → ℕ → Seated T E G → Type 0
  Gave m found n = (value : T) → m.1 ≡ (0, Some value) ∷ [] → n ≡ (without_value (story value) m.0, [])
