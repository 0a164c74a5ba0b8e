-- What sessions were sent and what they wrote: the files of pairs, both opened to be read.
use Rattle.std.specs.Prelude.{◌≡◌, ◌⊎◌, ℕ, Bool, true, List, [], ◌∷◌, Option, Some, None, map}
use Rattle.plan_schema.specs.Outside.{Rose}
use Rattle.byte_lines.specs.declared.rounds.Desk.{Desk}
use Rattle.byte_lines.specs.declared.rounds.Served.TheVariants as ends
use Rattle.program_words.specs.Rounds.{pair_of, rounds_in}
use Rattle.program_words.specs.declared.rounds.PlacedPair.{PlacedPair}
use Rattle.response_program.specs.Names.{Pair}
use Rattle.response_program.specs.Views.{View}
use Rattle.response_program.specs.Outcomes.{Outcome, NotOpened, NoMemory}
use Rattle.response_program.specs.InRounds.{filled}

-- a name is that of a file of one of these pairs
abbrev pub IsOfPairs : List Pair → List ℕ → Type 0
IsOfPairs [] name = ⊥
IsOfPairs (pair ∷ pairs) name = ((name ≡ pair.input) ⊎ (name ≡ pair.output)) ⊎ IsOfPairs pairs name

-- one of their files can't be opened, or there is no memory
abbrev pub AreUnopened : List Pair → Outcome → Type 0
AreUnopened pairs (NotOpened name) = IsOfPairs pairs name
AreUnopened pairs NoMemory = Unit {0}
AreUnopened pairs outcome = ⊥

-- a source's meanings: what is left, its count of faults and its label
module _ {S : Type 0} (left : S → Option (List ℕ)) (faults : S → ℕ) (label : S → List ℕ) where
  -- a source of what a shelf holds under a name
  pub record IsSourceOf (shelf : View) (name : List ℕ) (source : S) : Type 0 where
    pub holds : left source ≡ shelf.held name
    pub named : label source ≡ name
    pub fresh : faults source ≡ 0

  -- the desk of a pair: its source is that of the input, its sink that of the output
  pub record IsDeskOf (shelf : View) (pair : Pair) (desk : Desk S S) : Type 0 where
    pub input : IsSourceOf shelf pair.input desk.source
    pub output : IsSourceOf shelf pair.output desk.sink
    pub unserved : desk.served ≡ None

  abbrev pub AreDesksOf : View → List Pair → List (Desk S S) → Type 0
  AreDesksOf shelf [] [] = Unit {0}
  AreDesksOf shelf (pair ∷ pairs) (desk ∷ desks) = IsDeskOf shelf pair desk × AreDesksOf shelf pairs desks
  AreDesksOf shelf pairs desks = ⊥

  -- the desks of pairs stand in rounds, as the pairs say, behind those that stood there
  pub record AreSeated (shelf : View) (begins : Bool) (olds news : List (List (Desk S S))) (pairs : List PlacedPair) : Type 0 where
    pub desks : List (Desk S S)
    pub rounds_are : news ≡ filled begins olds pairs desks
    pub opened : AreDesksOf shelf (map pair_of pairs) desks

  -- a desk that can be given back under the names of a pair: where one of its sources is told to have failed, its count rose
  pub record CanGoBack (pair : Pair) (desk : Desk S S) : Type 0 where
    pub input : label desk.source ≡ pair.input
    pub output : label desk.sink ≡ pair.output
    pub read : desk.served ≡ Some ends.ReadFault → Rose 0 (faults desk.source)
    pub read_output : desk.served ≡ Some ends.WriteFault → Rose 0 (faults desk.sink)

  abbrev pub AllCanGoBack : List Pair → List (Desk S S) → Type 0
  AllCanGoBack [] [] = Unit {0}
  AllCanGoBack (pair ∷ pairs) (desk ∷ desks) = CanGoBack pair desk × AllCanGoBack pairs desks
  AllCanGoBack pairs desks = ⊥

-- a name of these pairs whose count of failed reads rose
pub record IsUnreadOf (old new : View) (pairs : List Pair) (name : List ℕ) : Type 0 where
  pub which : IsOfPairs pairs name
  pub rose : Rose (old.reads name) (new.reads name)

-- the desks of a run's pairs stand in rounds, as its words say
pub record AreOpenedFor {S : Type 0} (left : S → Option (List ℕ)) (faults : S → ℕ) (label : S → List ℕ) (shelf : View) (rounds : List (List Pair)) (desks : List (List (Desk S S))) : Type 0 where
  pub placed : List PlacedPair
  pub rounds_are : rounds_in placed ≡ rounds
  pub seated : AreSeated left faults label shelf true [] desks placed
