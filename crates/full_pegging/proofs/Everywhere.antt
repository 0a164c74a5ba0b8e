-- What holds of each element of a list.
use Rattle.std.proofs.Common.{◌≡◌, List, [], ◌∷◌, ◌++◌, map, refl, Bool, true, false, cond}
use Rattle.std.specs.Prelude.{ℕ, zero, suc, get_or, filter, Option, Some, None}
use Rattle.std.specs.List.{AllByRecursion, cons_option, filter_map, flat_map}

pub all_append : {X : Type 0} (P : X → Type 0) (xs ys : List X) → AllByRecursion P xs → AllByRecursion P ys → AllByRecursion P (xs ++ ys)
all_append P [] ys h k = k
all_append P (x ∷ xs) ys h k = (h.0, all_append P xs ys h.1 k)

pub all_mapped : {X Y : Type 0} (f : X → Y) (P : X → Type 0) (Q : Y → Type 0) → ((x : X) → P x → Q (f x)) → (xs : List X) → AllByRecursion P xs → AllByRecursion Q (map f xs)
all_mapped f P Q so [] h = tt
all_mapped f P Q so (x ∷ xs) h = (so x h.0, all_mapped f P Q so xs h.1)

pub all_always : {X : Type 0} (P : X → Type 0) → ((x : X) → P x) → (xs : List X) → AllByRecursion P xs
all_always P so [] = tt
all_always P so (x ∷ xs) = (so x, all_always P so xs)

-- what holds of every image
pub all_images : {X Y : Type 0} (f : X → Y) (Q : Y → Type 0) → ((x : X) → Q (f x)) → (xs : List X) → AllByRecursion Q (map f xs)
all_images f Q so [] = tt
all_images f Q so (x ∷ xs) = (so x, all_images f Q so xs)

pub all_flat : {X Y : Type 0} (f : X → List Y) (P : X → Type 0) (Q : Y → Type 0) → ((x : X) → P x → AllByRecursion Q (f x)) → (xs : List X) → AllByRecursion P xs → AllByRecursion Q (flat_map f xs)
all_flat f P Q so [] h = tt
all_flat f P Q so (x ∷ xs) h = all_append Q (f x) (flat_map f xs) (so x h.0) (all_flat f P Q so xs h.1)

pub all_flat_always : {X Y : Type 0} (f : X → List Y) (Q : Y → Type 0) → ((x : X) → AllByRecursion Q (f x)) → (xs : List X) → AllByRecursion Q (flat_map f xs)
all_flat_always f Q so [] = tt
all_flat_always f Q so (x ∷ xs) = all_append Q (f x) (flat_map f xs) (so x) (all_flat_always f Q so xs)

pub all_kept : {X : Type 0} (p : X → Bool) (P Q : X → Type 0) → ((x : X) → P x → p x ≡ true → Q x) → (xs : List X) → AllByRecursion P xs → AllByRecursion Q (filter p xs)
all_kept p P Q so [] h = tt
all_kept p P Q so (x ∷ xs) h = by_cases (all_kept p P Q so xs h.1) (p x) (so x h.0)
  where
    by_cases : AllByRecursion Q (filter p xs) → (b : Bool) → (b ≡ true → Q x) → AllByRecursion Q (cond b (x ∷ filter p xs) (filter p xs))
    by_cases rest true one = (one refl, rest)
    by_cases rest false one = rest

pub all_given : {X Y : Type 0} (g : X → Option Y) (P : X → Type 0) (Q : Y → Type 0) → ((x : X) (y : Y) → P x → g x ≡ Some y → Q y) → (xs : List X) → AllByRecursion P xs → AllByRecursion Q (filter_map g xs)
all_given g P Q so [] h = tt
all_given {X = X} {Y = Y} g P Q so (x ∷ xs) h = by_cases (all_given g P Q so xs h.1) (g x) (λ y e. so x y h.0 e)
  where
    by_cases : AllByRecursion Q (filter_map g xs) → (o : Option Y) → ((y : Y) → o ≡ Some y → Q y) → AllByRecursion Q (cons_option o (filter_map g xs))
    by_cases rest None one = rest
    by_cases rest (Some y) one = (one y refl, rest)

pub all_weaker : {X : Type 0} (P Q : X → Type 0) → ((x : X) → P x → Q x) → (xs : List X) → AllByRecursion P xs → AllByRecursion Q xs
all_weaker P Q so [] h = tt
all_weaker P Q so (x ∷ xs) h = (so x h.0, all_weaker P Q so xs h.1)

-- what is read of a list, or in its place beyond its end
pub all_read : {X : Type 0} (P : X → Type 0) (xs : List X) (i : ℕ) (d : X) → AllByRecursion P xs → P d → P (get_or xs i d)
all_read P [] i d h past = past
all_read P (x ∷ xs) zero d h past = h.0
all_read P (x ∷ xs) (suc i) d h past = all_read P xs i d h.1 past
