-- What names of files tell of what is held.
use Rattle.std.proofs.Common.{◌≡◌, ◌≢◌, ℕ, List, [], ◌∷◌, ◌++◌, Bool, true, false, nat_eq, Option, refl, sym, subst, ◌∙◌, inl, inr}
use Rattle.std.specs.Prelude.{IsSome}
use Rattle.std.specs.List.{AllByRecursion, list_all}
use Rattle.std.specs.Cmp.Lexicographic.{pointwise, same_text, other_text}
use Rattle.std.proofs.lemmas.Bool.{and_parts}
use Rattle.plan_schema.specs.Outside.{IsKeptOrEmpty, StaysBut}

-- two names are the same or not
pub by_name : {P : Type 0} (a b : List ℕ) → (a ≡ b → P) → (a ≢ b → P) → P
by_name {P} a b if_same if_other =
    elim (pointwise nat_eq a b) as (λ t. pointwise nat_eq a b ≡ t → P) [
      | true ↦ λ e. if_same (same_text a b (sym e))
      | false ↦ λ e. if_other (other_text a b (sym e))
    ] refl

-- what was kept or made empty, once more
pub kept_then : {a b c : Option (List ℕ)} → IsKeptOrEmpty a b → IsKeptOrEmpty b c → IsKeptOrEmpty a c
kept_then (inl e) (inl f) = inl (f ∙ e)
kept_then (inr e) (inl f) = inr (f ∙ e)
kept_then (inl e) (inr f) = inr f
kept_then (inr e) (inr f) = inr f

pub some_kept : {a b : Option (List ℕ)} → IsSome a → IsKeptOrEmpty a b → IsSome b
some_kept some (inl same) = subst IsSome (sym same) some
some_kept some (inr empty) = subst IsSome (sym empty) refl

-- where one name alone may have been made empty, all names were kept or made empty
pub all_kept : (name : List ℕ) (before now : List ℕ → Option (List ℕ)) → IsKeptOrEmpty (before name) (now name) → StaysBut name before now → (other : List ℕ) → IsKeptOrEmpty (before other) (now other)
all_kept name before now here others other =
    by_name other name (λ same. subst (λ n. IsKeptOrEmpty (before n) (now n)) (sym same) here) (λ apart. inl (others other apart))

-- what a test tells of each element
pub each : {A : Type 0} (p : A → Bool) (Q : A → Type 0) → ((x : A) → p x ≡ true → Q x) → (xs : List A) → list_all p xs ≡ true → AllByRecursion Q xs
each p Q f [] h = tt
each p Q f (x ∷ xs) h = let both = and_parts (p x) (list_all p xs) h in (f x both.0, each p Q f xs both.1)

pub all_map : {A : Type 0} (P Q : A → Type 0) → ((x : A) → P x → Q x) → (xs : List A) → AllByRecursion P xs → AllByRecursion Q xs
all_map P Q f [] h = tt
all_map P Q f (x ∷ xs) h = (f x h.0, all_map P Q f xs h.1)

-- what holds of all elements holds of those behind some
pub all_behind : {A : Type 0} (P : A → Type 0) (front xs : List A) → AllByRecursion P (front ++ xs) → AllByRecursion P xs
all_behind P [] xs h = h
all_behind P (x ∷ front) xs h = all_behind P front xs h.1

-- and of those in front of others
pub all_front : {A : Type 0} (P : A → Type 0) (front xs : List A) → AllByRecursion P (front ++ xs) → AllByRecursion P front
all_front P [] xs h = tt
all_front P (x ∷ front) xs h = (h.0, all_front P front xs h.1)
