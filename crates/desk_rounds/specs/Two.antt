-- A fact of each place of two lists of one length.
use Rattle.std.specs.Prelude.{List, [], ◌∷◌}

module _ {A B : Type 0} (P : A → B → Type 0) where
  abbrev pub EachTwo : List A → List B → Type 0
  EachTwo [] [] = Unit {0}
  EachTwo (a ∷ as') (b ∷ bs) = P a b × EachTwo as' bs
  EachTwo _ _ = ⊥
