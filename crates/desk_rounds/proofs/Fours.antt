-- A fact of each place of lists that are put together.
use Rattle.std.proofs.Common.{List, [], ◌∷◌, ◌++◌}
use Rattle.desk_rounds.specs.Four.{EachFour}

module _ {A B C D : Type 0} (P : A → B → C → D → Type 0) where
  pub EachFour-append : (xs : List A) (ys : List B) (zs : List C) (ws : List D) (xs' : List A) (ys' : List B) (zs' : List C) (ws' : List D)
      → EachFour P xs ys zs ws → EachFour P xs' ys' zs' ws' → EachFour P (xs ++ xs') (ys ++ ys') (zs ++ zs') (ws ++ ws')
  EachFour-append [] [] [] [] xs' ys' zs' ws' h h' = h'
  EachFour-append (x ∷ xs) (y ∷ ys) (z ∷ zs) (w ∷ ws) xs' ys' zs' ws' h h' = (h.0, EachFour-append xs ys zs ws xs' ys' zs' ws' h.1 h')
  EachFour-append [] [] [] (w ∷ ws) xs' ys' zs' ws' h h' = absurd h
  EachFour-append [] [] (z ∷ zs) ws xs' ys' zs' ws' h h' = absurd h
  EachFour-append [] (y ∷ ys) zs ws xs' ys' zs' ws' h h' = absurd h
  EachFour-append (x ∷ xs) [] zs ws xs' ys' zs' ws' h h' = absurd h
  EachFour-append (x ∷ xs) (y ∷ ys) [] ws xs' ys' zs' ws' h h' = absurd h
  EachFour-append (x ∷ xs) (y ∷ ys) (z ∷ zs) [] xs' ys' zs' ws' h h' = absurd h
