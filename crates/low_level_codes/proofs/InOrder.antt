-- Names that are found in ascending order.
use Rattle.std.proofs.Common.{◌≡◌, ◌⊎◌, inl, inr, List, [], ◌∷◌, ◌++◌, refl, sym, ◌∙◌, ap, subst, Bool, true, false, ◌&&◌, ◌||◌}
use Rattle.std.proofs.lemmas.Bool.{and_parts}
use Rattle.std.proofs.lemmas.List.Folds.{list_any-append, list_all-append}
use Rattle.std.specs.Prelude.{Option, Some, None}
use Rattle.std.specs.List.{list_all, AllByRecursion}
use Rattle.std.specs.Ordering.{is_lt}
use Rattle.std.specs.declared.cmp.Ordering.{Ordering}
use Rattle.std.specs.declared.cmp.Ordering.TheVariants.{Less, Equal, Greater}
use Rattle.std.specs.Cmp.Lexicographic.{nat_list_cmp_total}
use Rattle.plan_schema.specs.declared.name.Name.{Name}
use Rattle.plan_schema.specs.Key.{name_eq, name_cmp}
use Rattle.planning_rules.proofs.LevelLaws.{one_name, same_name}
use Rattle.low_level_codes.specs.Levels.{are_ascending}
use Rattle.low_level_codes.specs.Numbers.{holds, goes_after}
use Rattle.low_level_codes.proofs.Places.{never}

both : (a b : Bool) → a ≡ true → b ≡ true → (a && b) ≡ true
both true b x y = y
both false b x y = never x

less_is : (o : Ordering) → is_lt o ≡ true → o ≡ Less
less_is Less h = refl
less_is Equal h = never h
less_is Greater h = never h

-- the last name is the greatest
abbrev pub EndsAt : Option Name → List Name → Type 0
EndsAt None found = found ≡ []
EndsAt (Some last) found = AllByRecursion (λ m. (name_cmp m last ≡ Less) ⊎ (m ≡ last)) found

all_less : (last n : Name) (ms : List Name) → name_cmp last n ≡ Less → AllByRecursion (λ m. (name_cmp m last ≡ Less) ⊎ (m ≡ last)) ms → AllByRecursion (λ m. name_cmp m n ≡ Less) ms
all_less last n [] h a = tt
all_less last n (m ∷ ms) h a = (by_place a.0, all_less last n ms h a.1)
  where
    by_place : (name_cmp m last ≡ Less) ⊎ (m ≡ last) → name_cmp m n ≡ Less
    by_place (inl less) = nat_list_cmp_total.trans m last n less h
    by_place (inr same) = ap (λ x. name_cmp x n) same ∙ h

appended : (ms : List Name) (n : Name) → AllByRecursion (λ m. name_cmp m n ≡ Less) ms → are_ascending ms ≡ true → are_ascending (ms ++ n ∷ []) ≡ true
appended [] n a h = refl
appended (m ∷ ms) n a h =
    let two = and_parts (list_all (λ x. is_lt (name_cmp m x)) ms) (are_ascending ms) h in
    let last : list_all (λ x. is_lt (name_cmp m x)) (n ∷ []) ≡ true = both (is_lt (name_cmp m n)) true (ap is_lt a.0) refl in
    let each : list_all (λ x. is_lt (name_cmp m x)) (ms ++ n ∷ []) ≡ true = list_all-append (λ x. is_lt (name_cmp m x)) ms (n ∷ []) ∙ both (list_all (λ x. is_lt (name_cmp m x)) ms) (list_all (λ x. is_lt (name_cmp m x)) (n ∷ [])) two.0 last in
    both (list_all (λ x. is_lt (name_cmp m x)) (ms ++ n ∷ [])) (are_ascending (ms ++ n ∷ [])) each (appended ms n a.1 two.1)

ends_there : (ms : List Name) (n : Name) → AllByRecursion (λ m. name_cmp m n ≡ Less) ms → AllByRecursion (λ m. (name_cmp m n ≡ Less) ⊎ (m ≡ n)) (ms ++ n ∷ [])
ends_there [] n a = (inr refl, tt)
ends_there (m ∷ ms) n a = (inl a.0, ends_there ms n a.1)

-- one name more, after the last
pub one_more : (last : Option Name) (found : List Name) (n : Name) → EndsAt last found → are_ascending found ≡ true → goes_after last n ≡ true
    → (are_ascending (found ++ n ∷ []) ≡ true) × EndsAt (Some n) (found ++ n ∷ [])
one_more None found n e h after = subst (λ ms. (are_ascending (ms ++ n ∷ []) ≡ true) × EndsAt (Some n) (ms ++ n ∷ [])) (sym e) (refl, (inr refl, tt))
one_more (Some last) found n e h after =
    let less = all_less last n found (less_is (name_cmp last n) after) e in
    (appended found n less h, ends_there found n less)

pub held_more : (old : List Name) (name n : Name) → holds old n ≡ true → holds (old ++ name ∷ []) n ≡ true
held_more old name n h = list_any-append (λ m. name_eq n m) old (name ∷ []) ∙ ap (λ b. b || (name_eq n name || false)) h

or_there : (a b : Bool) → b ≡ true → (a || (b || false)) ≡ true
or_there true b h = refl
or_there false true h = refl
or_there false false h = h

pub held_here : (old : List Name) (name : Name) → holds (old ++ name ∷ []) name ≡ true
held_here old name = list_any-append (λ m. name_eq name m) old (name ∷ []) ∙ or_there (holds old name) (name_eq name name) (same_name name)

either : (a b : Bool) → (a || (b || false)) ≡ true → (a ≡ true) ⊎ (b ≡ true)
either true b h = inl refl
either false true h = inr refl
either false false h = never h

pub held_one : (old : List Name) (name n : Name) → holds (old ++ name ∷ []) n ≡ true → (holds old n ≡ true) ⊎ (name ≡ n)
held_one old name n h = elim (either (holds old n) (name_eq n name) (sym (list_any-append (λ m. name_eq n m) old (name ∷ [])) ∙ h)) [
  | inl was ↦ inl was
  | inr same ↦ inr (sym (one_name n name same))
]
