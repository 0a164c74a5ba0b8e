-- A fact of each place of three lists of one length.
use Rattle.std.specs.Prelude.{List, [], ◌∷◌}

module _ {A B C : Type 0} (P : A → B → C → Type 0) where
  abbrev pub EachThree : List A → List B → List C → Type 0
  EachThree [] [] [] = Unit {0}
  EachThree (a ∷ as') (b ∷ bs) (c ∷ cs) = P a b c × EachThree as' bs cs
  EachThree _ _ _ = ⊥
