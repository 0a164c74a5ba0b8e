-- Passes of many desks: split off, brought up to the main pass, and joined.
use Rattle.std.specs.Prelude.{◌≡◌, ℕ, zero, suc, ◌+◌, List, [], ◌∷◌, ◌++◌, ◌<◌, ◌≤◌, length, get_or, fold, reverse}
use Rattle.std.specs.List.{AllByRecursion}
use Rattle.turn_table.specs.Story.{Begins}
use Rattle.turn_table.specs.Passes.{TurnId, IsFree, HasOwn, new_pass, joined_pass}
use Rattle.plan_office.specs.Turns.{Known}

-- a pass behind so many splits
abbrev pub after_splits : Known → ℕ → Known
after_splits p n = record p { splits = p.splits + n }

-- the passes that were split off
abbrev pub split_passes : Known → ℕ → List Known
split_passes p zero = []
split_passes p (suc n) = split_passes p n ++ new_pass (after_splits p n) ∷ []

-- the main pass, into which these were joined, has seen all that each of them has
pub record AreJoined (turn : TurnId) (p q : Known) (others : List Known) : Type 0 where
  pub pass : q ≡ fold joined_pass p others
  pub free : IsFree turn q
  pub grows : Begins p.seen q.seen
  pub seen : AllByRecursion (λ other. Begins other.seen q.seen) others

-- a pass was brought up to another: nothing changed but what it has seen, and this goes on from both
pub record IsMet (main p q : Known) : Type 0 where
  pub same : q ≡ record p { seen = q.seen }
  pub ahead : Begins main.seen q.seen
  pub grows : Begins p.seen q.seen
  pub own : HasOwn q

-- some of these were joined, from the last on, and these are left
pub record JoinedSoFar (turn : TurnId) (p q : Known) (all left : List Known) : Type 0 where
  pub done : List Known
  pub parts : all ≡ left ++ reverse done
  pub joined : AreJoined turn p q done
  pub ready : AllByRecursion (IsFree turn) left

-- a pass only saw more
pub record SawMore (turn : TurnId) (p q : Known) : Type 0 where
  pub same : q ≡ record p { seen = q.seen }
  pub free : IsFree turn q
  pub grows : Begins p.seen q.seen

-- the first so many of some passes were brought up to the main one, and the others are as they were
pub record AreMet (main : Known) (before after : List Known) (count : ℕ) : Type 0 where
  pub long : length after ≡ length before
  pub met : (k : ℕ) (d : Known) → k < count → IsMet main (get_or before k d) (get_or after k d)
  pub others : (k : ℕ) (d : Known) → count ≤ k → get_or after k d ≡ get_or before k d

-- a pass has seen all that the first so many of some passes had
abbrev pub HasSeen : Known → List Known → ℕ → Type 0
HasSeen p others count = (k : ℕ) (d : Known) → k < count → Begins (get_or others k d).seen p.seen
