-- What becomes of rounds of desks that are run, one round after the other.
use Rattle.std.specs.Prelude.{◌≡◌, ℕ, ◌+◌, ◌<◌, ◌≤◌, List, [], ◌∷◌, length, Option, Some, MatchBool}
use Rattle.std.specs.List.{AllByRecursion}
use Rattle.byte_lines.specs.declared.rounds.Desk.{Desk}
use Rattle.byte_lines.specs.declared.rounds.Served.TheVariants as ends
use Rattle.byte_lines.specs.Desks.{all_desks}
use Rattle.turn_table.specs.Story.{Begins, entries_of}
use Rattle.turn_table.specs.Passes.{TurnId, IsFree, IsWhole, IsStoryOf, HasOwn, first_pass}
use Rattle.plan_book.specs.declared.ground.Ground.{Ground}
use Rattle.plan_book.specs.Books.{Story}
use Rattle.plan_office.specs.Turns.{Known}
use Rattle.desk_rounds.specs.DesksServed.{IsDeskServed}
use Rattle.desk_rounds.specs.RoundsRun.{all_ended}

-- the pass that an office began with, which has done nothing yet
pub record IsBegun (turn : TurnId) (p : Known) : Type 0 where
  pub first : ℕ
  pub faults : ℕ
  pub ground : Ground
  pub is : p ≡ first_pass turn first faults ground

-- no session with this number or a further one made an entry
abbrev pub HasNoneFrom : ℕ → Story → Type 0
HasNoneFrom number whole = (k : ℕ) → number ≤ k → entries_of k whole ≡ []

-- the meanings of sources and of sinks come first
module _ {S K : Type 0} (left : S → Option (List ℕ)) (reads : S → ℕ) (source_label : S → List ℕ) (taken : K → Option (List ℕ)) (writes : K → ℕ) (sink_label : K → List ℕ) where
  -- the turn, what its book began with, and the whole story at the end
  module _ (turn : TurnId) (basis : Option Ground) (whole : Story) where
    -- One desk of a run, with the number of its session, in a round before which the main pass had seen this story and behind which it has
    -- seen that: it was served with a pass of this number that had made nothing and had seen all that the main pass had; the main pass has
    -- seen since what the desk's pass had at the end; and in the whole story the entries of the number are those that the pass made.
    pub record IsDeskOf (number : ℕ) (before after : Story) (desk desk_then : Desk S K) : Type 0 where
      pub begun : Known
      pub number_is : begun.number ≡ number
      pub basis_is : begun.basis ≡ basis
      pub unused : begun.own ≡ []
      pub own : HasOwn begun
      pub ahead : Begins before begun.seen
      pub ended : Known
      pub served : IsDeskServed left reads source_label taken writes sink_label turn desk begun desk_then ended
      pub told : Begins ended.seen after
      pub kept : entries_of number whole ≡ ended.own

    -- the desks of a round, numbered on from this
    abbrev pub AreDesksOf : ℕ → Story → Story → List (Desk S K) → List (Desk S K) → Type 0
    AreDesksOf number before after [] [] = Unit {0}
    AreDesksOf number before after (desk ∷ desks) (desk_then ∷ more) = IsDeskOf number before after desk desk_then × AreDesksOf (number + 1) before after desks more
    AreDesksOf number before after _ _ = ⊥

    -- Rounds, numbered on from this, before which the main pass had seen this story. Those after a round in which a session didn't end are
    -- as they were. The story at the end goes on from what the main pass has seen, and no number has entries but those of desks that were
    -- served.
    abbrev pub AreRunOver : ℕ → Story → List (List (Desk S K)) → List (List (Desk S K)) → Type 0
    AreRunOver number before [] [] = Begins before whole × HasNoneFrom number whole
    AreRunOver number before (desks ∷ rounds) (desks_then ∷ more) =
        (after : Story) × Begins before after × AreDesksOf number before after desks desks_then
        × MatchBool (all_ended desks_then) (AreRunOver (number + length desks) after rounds more) ((more ≡ rounds) × Begins after whole × HasNoneFrom (number + length desks) whole)
    AreRunOver number before _ _ = ⊥

  -- Rounds were run with the pass that the office began with: all passes were joined into it, so that the book can be handed out; and over
  -- every story that its book may have then, the desks are those of a run. A fault of the book was told only where the pass knows of one.
  pub record AreRun (turn : TurnId) (p q : Known) (olds news : List (List (Desk S K))) : Type 0 where
    pub free : IsFree turn q
    pub whole : IsWhole q
    pub basis : q.basis ≡ p.basis
    pub first : q.first ≡ p.first
    pub begun : q.begun ≡ p.begun
    pub over : (story : Story) → IsStoryOf q story → (entries_of 0 story ≡ []) × AreRunOver turn p.basis story 1 [] olds news
    pub failed : AllByRecursion (λ (desk : Desk S K). desk.served ≡ Some ends.BookFault → 0 < q.faults) (all_desks news)
