-- The rule of a turn: what holds of the table's words, of the value and of what all seats know, between any two steps.
-- A seat is a pass as the table sees it, or a copy of one without a number. What it knows stands in `Views.antt`.
use Rattle.std.specs.Prelude.{◌≡◌, ℕ, ◌+◌, ◌<◌, ◌≤◌, ◌==◌, ◌&&◌, not, nat_lt, nat_le, min, max, Bool, true, false, cond, List, [], ◌∷◌, ◌++◌, length, map, Option, Some, None, is_some}
use Rattle.std.specs.Option.{option_map_or}
use mathlib.Core.Option.{some, none}
use mathlib.Core.Option.{Option as Maybe}
use lib.ListN.{get_elem?}
use Rattle.atomic_table.specs.Table.{State}
use Rattle.turn_table.specs.declared.view.View.{View}
use Rattle.turn_table.specs.Story.{entries_of, Begins, AreKept}

-- the number of tickets that are served, 2 ^ 62
abbrev pub most : ℕ
most = 4611686018427387904

-- the last value that 64 bits hold, where a count of faults stops
abbrev pub greatest : ℕ
greatest = 18446744073709551615

-- the fewest faults of a value that began with so many, where the mark is so
abbrev pub fewest : ℕ → ℕ → ℕ
fewest begun mark = max begun (min (begun + mark) greatest)

abbrev pub total : {A : Type 0} → (A → ℕ) → List A → ℕ
total f [] = 0
total f (x ∷ xs) = f x + total f xs

-- how often a number stands in a list
abbrev pub times : ℕ → List ℕ → ℕ
times k [] = 0
times k (x ∷ xs) = cond (x == k) 1 0 + times k xs

-- 1 from a on and below b, and else 0
abbrev pub once : ℕ → ℕ → ℕ → ℕ
once a b x = cond (nat_le a x && nat_lt x b) 1 0

abbrev pub listed : Option ℕ → List ℕ
listed None = []
listed (Some k) = k ∷ []

-- a ticket that is not served
abbrev pub is_late : Option ℕ → Bool
is_late ticket = option_map_or (λ k. nat_le most k) ticket false

module _ {E G : Type 0} where
  abbrev pub is_numbered : View E G → Bool
  is_numbered v = is_some v.numbers.number

  -- all the numbers that it has: its own, the spare one and those that it took in
  abbrev pub numbers_of : View E G → List ℕ
  numbers_of v = listed v.numbers.number ++ (listed v.numbers.spare ++ map (λ j. j.0) v.numbers.joined)

  abbrev pub has : ℕ → View E G → ℕ
  has k v = times k (numbers_of v)

  abbrev pub size : View E G → ℕ
  size v = length (numbers_of v)

  -- how many seats in it may still draw a ticket
  abbrev pub active : View E G → ℕ
  active v = cond (is_numbered v && not (is_late v.tickets.highest)) 1 0 + length (listed v.numbers.spare)

  abbrev pub has_ticket : ℕ → View E G → Bool
  has_ticket x v = option_map_or (λ k. k == x) v.tickets.highest false

  -- the ticket x waits in it, or has the turn
  abbrev pub stands : ℕ → View E G → ℕ
  stands x v = cond (v.tickets.waits && has_ticket x v) 1 0

  abbrev pub turns : View E G → ℕ
  turns v = cond v.tickets.in_turn 1 0

  abbrev pub numbered : View E G → ℕ
  numbered v = cond (is_numbered v) 1 0

  abbrev pub holds_it : View E G → ℕ
  holds_it v = cond v.holding.holds 1 0

  abbrev pub begins_it : View E G → ℕ
  begins_it v = cond v.holding.begins 1 0

  -- a fact of each seat
  abbrev pub Each : (View E G → Type 0) → List (View E G) → Type 0
  Each P vs = (id : ℕ) (v : View E G) → get_elem? vs id ≡ some v → P v

  -- its highest ticket is below this number
  abbrev pub TicketBelow : ℕ → View E G → Type 0
  TicketBelow tickets v = (k : ℕ) → v.tickets.highest ≡ Some k → k < tickets

  -- a seat in its turn has the ticket that is served
  abbrev pub TurnIsServed : ℕ → View E G → Type 0
  TurnIsServed served v = v.tickets.in_turn ≡ true → (v.tickets.waits ≡ true) × (v.tickets.highest ≡ Some served)

  -- a seat without a number has drawn no ticket
  abbrev pub OnlyNumberedDraw : View E G → Type 0
  OnlyNumberedDraw v = is_numbered v ≡ false → v.tickets.draws ≡ 0

  -- Tickets: those drawn are `first` and the draws of all seats. Those below 2 ^ 62 that are not yet served stand one
  -- each in the seats that wait or have the turn. The word never reaches 2 ^ 64, since each seat draws at most one ticket
  -- that is not served, and no more than 2 ^ 62 + 1 numbers are given out.
  pub record TicketsKept (first numbers tickets served : ℕ) (vs : List (View E G)) : Type 0 where
    pub few : numbers ≤ most + 1
    pub seats : total active vs ≤ numbers
    pub room : tickets + total active vs ≤ most + numbers
    pub drawn : tickets ≡ first + total (λ v. v.tickets.draws) vs
    pub behind : served ≤ tickets
    pub below : Each (TicketBelow tickets) vs
    pub standing : (x : ℕ) → total (stands x) vs ≡ once served (min tickets most) x
    pub turn : Each (TurnIsServed served) vs
    pub only : Each OnlyNumberedDraw vs

  -- only the seat that has the number 0, or took it in, knows of splits
  abbrev pub FirstSplits : View E G → Type 0
  FirstSplits v = 0 < v.numbers.splits → 1 ≤ has 0 v

  -- Numbers: those given out stand once each among the seats, and they are 0 and as many more as were split off.
  pub record NumbersKept (numbers : ℕ) (vs : List (View E G)) : Type 0 where
    pub apart : (k : ℕ) → total (has k) vs ≡ once 0 numbers k
    pub sized : total size vs ≡ numbers
    pub grown : numbers ≡ 1 + total (λ v. v.numbers.splits) vs
    pub splitter : Each FirstSplits vs

  -- what a seat knows of the story is so
  pub record Reads (log : List (ℕ × E)) (v : View E G) : Type 0 where
    pub seen : Begins v.reading.seen log
    pub met : Begins v.reading.met log
    pub own_seen : (k : ℕ) → v.numbers.number ≡ Some k → entries_of k v.reading.seen ≡ v.reading.own
    pub own_all : (k : ℕ) → v.numbers.number ≡ Some k → entries_of k log ≡ v.reading.own
    pub spare : (k : ℕ) → v.numbers.spare ≡ Some k → entries_of k log ≡ []
    pub joined : AreKept log v.numbers.joined

  -- a seat that noted the story in its turn has seen all of it
  abbrev pub NotedAll : List (ℕ × E) → View E G → Type 0
  NotedAll log v = v.tickets.in_turn ≡ true → v.reading.noted ≡ true → v.reading.seen ≡ log

  -- The story: the word counts its entries, numbers not given out have none, and what each seat knows of it is so.
  pub record StoryKept (numbers entries : ℕ) (log : List (ℕ × E)) (vs : List (View E G)) : Type 0 where
    pub counted : entries ≡ length log
    pub later : (k : ℕ) → numbers ≤ k → entries_of k log ≡ []
    pub reads : Each (Reads log) vs
    pub noted : Each (NotedAll log) vs

  -- what every seat with a number knows of the beginning
  pub record KnowsBeginning (first begun : ℕ) (basis : Option G) (v : View E G) : Type 0 where
    pub first_is : v.first ≡ first
    pub begun_is : v.holding.begun ≡ begun
    pub basis_is : v.holding.basis ≡ basis

  abbrev pub Knows : ℕ → ℕ → Option G → View E G → Type 0
  Knows first begun basis v = is_numbered v ≡ true → KnowsBeginning first begun basis v

  -- a fault is known only where the mark is 1
  abbrev pub FailedIsMarked : ℕ → View E G → Type 0
  FailedIsMarked mark v = 0 < v.holding.failures → mark ≡ 1

  -- only a seat in its turn holds the value, and only one with a number is in its turn
  abbrev pub HoldsInTurn : View E G → Type 0
  HoldsInTurn v = v.holding.holds ≡ true → v.holding.begins ≡ false → v.tickets.in_turn ≡ true

  abbrev pub TurnIsNumbered : View E G → Type 0
  TurnIsNumbered v = v.tickets.in_turn ≡ true → is_numbered v ≡ true

  -- the value that it took or gives has the faults that the mark asks for
  abbrev pub CountsEnough : ℕ → View E G → Type 0
  CountsEnough least v = v.tickets.in_turn ≡ true → v.reading.noted ≡ true → least ≤ v.holding.counted

  -- Holders: the mark is 0 or 1, and what each seat knows of the beginning, of failed turns and of the value is so.
  pub record HoldersKept (first begun mark : ℕ) (basis : Option G) (vs : List (View E G)) : Type 0 where
    pub mark_is : mark ≤ 1
    pub knows : Each (Knows first begun basis) vs
    pub failed : Each (FailedIsMarked mark) vs
    pub in_turn : Each HoldsInTurn vs
    pub numbered : Each TurnIsNumbered vs
    pub counts : Each (CountsEnough (fewest begun mark)) vs

module _ {T E G : Type 0} (story : T → List (ℕ × E)) (faults : T → ℕ) (basis : T → G) where
  -- Where the value is: not yet put in, while no seat has a number (`empty`, `filling`); at home, with the story, the
  -- basis and enough faults; or out with the seat that has the turn.
  pub data Place (log : List (ℕ × E)) (begun mark : ℕ) (root : Option G) (vs : List (View E G)) : List (Maybe (Option T)) → Type 0 where
    empty : total numbered vs ≡ 0 → log ≡ [] → mark ≡ 0 → total holds_it vs ≡ 0 → total begins_it vs ≡ 1 → Place log begun mark root vs (some None ∷ [])
    filling : total numbered vs ≡ 0 → log ≡ [] → mark ≡ 0 → Each (λ v. v.holding.begins ≡ true → v.holding.holds ≡ true) vs → total begins_it vs ≡ 1 → Place log begun mark root vs (none ∷ [])
    home : (x : T) → story x ≡ log → fewest begun mark ≤ faults x → root ≡ Some (basis x) → total holds_it vs ≡ 0 → total begins_it vs ≡ 0 → Place log begun mark root vs (some (Some x) ∷ [])
    out : total holds_it vs ≡ 1 → total begins_it vs ≡ 0 → Place log begun mark root vs (none ∷ [])

  -- The words count the numbers given out, the tickets, the turns served and the entries; the fifth is the mark.
  pub record Kept (first : ℕ) (s : State (Option T) (View E G)) : Type 0 where
    pub numbers : ℕ
    pub tickets : ℕ
    pub served : ℕ
    pub entries : ℕ
    pub mark : ℕ
    pub begun : ℕ
    pub root : Option G
    pub log : List (ℕ × E)
    pub words : s.words ≡ numbers ∷ tickets ∷ served ∷ entries ∷ mark ∷ []
    pub queue : TicketsKept first numbers tickets served s.views
    pub names : NumbersKept numbers s.views
    pub history : StoryKept numbers entries log s.views
    pub holders : HoldersKept first begun mark root s.views
    pub place : Place log begun mark root s.views s.homes
