-- What holds of each walk of a list, after one of them is left otherwise, and with one more.
use Rattle.std.proofs.Common.{◌≡◌, ℕ, zero, suc, List, [], ◌∷◌, ◌++◌, refl, sym, ap}
use Rattle.std.specs.Prelude.{Option, Some, None, IfSome, unwrap_or, slice_get, set}

module _ {A : Type 0} (P : A → Type 0) where
  -- it holds of each that is there
  abbrev pub Each : List (Option A) → Type 0
  Each xs = (k : ℕ) → IfSome (unwrap_or (slice_get xs k) None) P

  rest : (x : Option A) (xs : List (Option A)) → Each (x ∷ xs) → Each xs
  rest x xs each k = each (suc k)

  pub each_set : (xs : List (Option A)) (n : ℕ) (left : Option A) → Each xs → IfSome left P → Each (set xs n left)
  each_set [] n left each here k = each k
  each_set (x ∷ xs) zero left each here zero = here
  each_set (x ∷ xs) zero left each here (suc k) = each (suc k)
  each_set (x ∷ xs) (suc n) left each here zero = each zero
  each_set (x ∷ xs) (suc n) left each here (suc k) = each_set xs n left (rest x xs each) here k

  pub each_more : (xs : List (Option A)) (last : Option A) → Each xs → IfSome last P → Each (xs ++ last ∷ [])
  each_more [] last each here zero = here
  each_more [] last each here (suc k) = each k
  each_more (x ∷ xs) last each here zero = each zero
  each_more (x ∷ xs) last each here (suc k) = each_more xs last (rest x xs each) here k

-- what is left last counts
pub set_again : {A : Type 0} (xs : List A) (n : ℕ) (a b : A) → set (set xs n a) n b ≡ set xs n b
set_again [] n a b = refl
set_again (x ∷ xs) zero a b = refl
set_again (x ∷ xs) (suc n) a b = ap (λ ys. x ∷ ys) (set_again xs n a b)

-- where none is there, none can be left
pub set_none : {A : Type 0} (xs : List (Option A)) (n : ℕ) → unwrap_or (slice_get xs n) None ≡ None → set xs n None ≡ xs
set_none [] n none = refl
set_none (x ∷ xs) zero none = ap (λ o. o ∷ xs) (sym none)
set_none (x ∷ xs) (suc n) none = ap (λ ys. x ∷ ys) (set_none xs n none)

pub if_some_as : {A : Type 0} (P Q : A → Type 0) (o : Option A) → ((x : A) → P x → Q x) → IfSome o P → IfSome o Q
if_some_as P Q None f h = h
if_some_as P Q (Some x) f h = f x h
