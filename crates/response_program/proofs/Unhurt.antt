-- Sessions that met no fault, as the shelf tells it.
use Rattle.std.proofs.Common.{ℕ, suc, zero, List, [], ◌∷◌, length, subst}
use Rattle.std.specs.Prelude.{take, drop}
use Rattle.plan_schema.specs.Outside.{Rose}
use Rattle.plan_schema.proofs.Writes.{rose_later, rose_after}
use Rattle.desk_rounds.specs.Two.{EachTwo}
use Rattle.desk_rounds.specs.Three.{EachThree}
use Rattle.desk_rounds.specs.Told.{Spoken, IsWholly}
use Rattle.response_program.specs.Names.{Pair}
use Rattle.response_program.specs.Views.{View, NoneFell}
use Rattle.response_program.specs.Outcomes.{Outcome, NotRead, NotWritten, HasCause}
use Rattle.response_program.specs.Desks.{DeskView}
use Rattle.response_program.specs.InRounds.{AreNamed, IsUnhurtDesk, AreWholeDesks}
use Rattle.response_program.specs.Runs.{IsUnhurt, AreWholeUnhurt}
use Rattle.response_program.proofs.Opened.{AreFresh}
use Rattle.response_program.proofs.Served as faults
use Rattle.response_program.proofs.Served.{IsFaulty, rose_fresh}

module _ (old new : View) where
  -- what failed at a desk is counted by the shelf
  pub record IsBound (pair : Pair) (desk then : DeskView) : Type 0 where
    pub read : Rose desk.reads then.reads → Rose (old.reads pair.input) (new.reads pair.input)
    pub written : Rose desk.writes then.writes → Rose (old.writes pair.output) (new.writes pair.output)

  pub all_bound : (pairs : List Pair) (olds news : List DeskView) → AreFresh old pairs olds → AreNamed pairs news → ((outcome : Outcome) → IsFaulty news outcome → HasCause old new outcome) → EachThree IsBound pairs olds news
  all_bound [] [] [] fresh named cause = tt
  all_bound (pair ∷ pairs) (desk ∷ olds) (then ∷ news) fresh named cause = (
    record {
      read = λ rose. subst (λ (p : Pair). Rose (old.reads p.input) (new.reads p.input)) named.0 (cause (NotRead then.pair.input) (faults.read then news (rose_fresh fresh.0.no_reads rose)));
      written = λ rose. subst (λ (p : Pair). Rose (old.writes p.output) (new.writes p.output)) named.0 (cause (NotWritten then.pair.output) (faults.written then news (rose_fresh fresh.0.no_writes rose)));
    },
    all_bound pairs olds news fresh.1 named.1 (λ outcome fault. cause outcome (faults.later then news outcome fault)),
  )
  all_bound [] (desk ∷ olds) news fresh named cause = absurd fresh
  all_bound (pair ∷ pairs) [] news fresh named cause = absurd fresh
  all_bound [] [] (then ∷ news) fresh named cause = absurd named
  all_bound (pair ∷ pairs) (desk ∷ olds) [] fresh named cause = absurd named

  unhurt_desk : (pair : Pair) (desk then : DeskView) (spoken : Spoken) → IsBound pair desk then → IsUnhurt old new pair spoken → IsUnhurtDesk desk then spoken
  unhurt_desk pair desk then spoken bound un = record { read = λ rose. un.read (bound.read rose); written = λ rose. un.written (bound.written rose); within = un.within }

  -- of the desks of a round
  wholes_here : (pairs : List Pair) (olds news : List DeskView) (round : List Spoken) → EachThree IsBound pairs olds news
      → EachThree (λ desk then spoken. IsUnhurtDesk desk then spoken → IsWholly spoken) (take (length round) olds) (take (length round) news) round
      → EachTwo (λ pair spoken. IsUnhurt old new pair spoken → IsWholly spoken) (take (length round) pairs) round
  wholes_here [] [] [] [] bound h = tt
  wholes_here [] [] [] (spoken ∷ round) bound h = absurd h
  wholes_here (pair ∷ pairs) (desk ∷ olds) (then ∷ news) [] bound h = tt
  wholes_here (pair ∷ pairs) (desk ∷ olds) (then ∷ news) (spoken ∷ round) bound h =
      (λ un. h.0 (unhurt_desk pair desk then spoken bound.0 un), wholes_here pairs olds news round bound.1 h.1)
  wholes_here [] [] (then ∷ news) round bound h = absurd bound
  wholes_here [] (desk ∷ olds) news round bound h = absurd bound
  wholes_here (pair ∷ pairs) [] news round bound h = absurd bound
  wholes_here (pair ∷ pairs) (desk ∷ olds) [] round bound h = absurd bound

  unhurt_here : (pairs : List Pair) (olds news : List DeskView) (round : List Spoken) → EachThree IsBound pairs olds news → EachTwo (IsUnhurt old new) (take (length round) pairs) round
      → EachThree IsUnhurtDesk (take (length round) olds) (take (length round) news) round
  unhurt_here [] [] [] [] bound h = tt
  unhurt_here [] [] [] (spoken ∷ round) bound h = absurd h
  unhurt_here (pair ∷ pairs) (desk ∷ olds) (then ∷ news) [] bound h = tt
  unhurt_here (pair ∷ pairs) (desk ∷ olds) (then ∷ news) (spoken ∷ round) bound h = (unhurt_desk pair desk then spoken bound.0 h.0, unhurt_here pairs olds news round bound.1 h.1)
  unhurt_here [] [] (then ∷ news) round bound h = absurd bound
  unhurt_here [] (desk ∷ olds) news round bound h = absurd bound
  unhurt_here (pair ∷ pairs) [] news round bound h = absurd bound
  unhurt_here (pair ∷ pairs) (desk ∷ olds) [] round bound h = absurd bound

  bound_behind : (k : ℕ) (pairs : List Pair) (olds news : List DeskView) → EachThree IsBound pairs olds news → EachThree IsBound (drop k pairs) (drop k olds) (drop k news)
  bound_behind zero pairs olds news bound = bound
  bound_behind (suc k) [] [] [] bound = tt
  bound_behind (suc k) (pair ∷ pairs) (desk ∷ olds) (then ∷ news) bound = bound_behind k pairs olds news bound.1
  bound_behind (suc k) [] [] (then ∷ news) bound = absurd bound
  bound_behind (suc k) [] (desk ∷ olds) news bound = absurd bound
  bound_behind (suc k) (pair ∷ pairs) [] news bound = absurd bound
  bound_behind (suc k) (pair ∷ pairs) (desk ∷ olds) [] bound = absurd bound

  pub whole_over : (pairs : List Pair) (olds news : List DeskView) (rounds : List (List Spoken)) → EachThree IsBound pairs olds news → AreWholeDesks olds news rounds → AreWholeUnhurt old new pairs rounds
  whole_over pairs olds news [] bound h = tt
  whole_over pairs olds news (round ∷ rounds) bound h = (
    wholes_here pairs olds news round bound h.0,
    λ un. whole_over (drop (length round) pairs) (drop (length round) olds) (drop (length round) news) rounds (bound_behind (length round) pairs olds news bound) (h.1 (unhurt_here pairs olds news round bound un)),
  )

-- over a longer stretch
module _ (old mid late new : View) (making : NoneFell old mid) (giving : NoneFell late new) where
  unhurt_within : (pair : Pair) (spoken : Spoken) → IsUnhurt old new pair spoken → IsUnhurt mid late pair spoken
  unhurt_within pair spoken un =
      record {
        read = λ rose. un.read (rose_later _ _ _ (rose_after _ _ _ (making.reads pair.input) rose) (giving.reads pair.input));
        written = λ rose. un.written (rose_later _ _ _ (rose_after _ _ _ (making.writes pair.output) rose) (giving.writes pair.output));
        within = un.within;
      }

  wholes_longer : (pairs : List Pair) (round : List Spoken) → EachTwo (λ pair spoken. IsUnhurt mid late pair spoken → IsWholly spoken) pairs round → EachTwo (λ pair spoken. IsUnhurt old new pair spoken → IsWholly spoken) pairs round
  wholes_longer [] [] h = tt
  wholes_longer (pair ∷ pairs) (spoken ∷ round) h = (λ un. h.0 (unhurt_within pair spoken un), wholes_longer pairs round h.1)
  wholes_longer [] (spoken ∷ round) h = absurd h
  wholes_longer (pair ∷ pairs) [] h = absurd h

  unhurt_shorter : (pairs : List Pair) (round : List Spoken) → EachTwo (IsUnhurt old new) pairs round → EachTwo (IsUnhurt mid late) pairs round
  unhurt_shorter [] [] h = tt
  unhurt_shorter (pair ∷ pairs) (spoken ∷ round) h = (unhurt_within pair spoken h.0, unhurt_shorter pairs round h.1)
  unhurt_shorter [] (spoken ∷ round) h = absurd h
  unhurt_shorter (pair ∷ pairs) [] h = absurd h

  pub whole_longer : (pairs : List Pair) (rounds : List (List Spoken)) → AreWholeUnhurt mid late pairs rounds → AreWholeUnhurt old new pairs rounds
  whole_longer pairs [] h = tt
  whole_longer pairs (round ∷ rounds) h =
      (wholes_longer (take (length round) pairs) round h.0, λ un. whole_longer (drop (length round) pairs) rounds (h.1 (unhurt_shorter (take (length round) pairs) round un)))
