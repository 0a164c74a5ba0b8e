-- Desks in rounds, as a list of lists.
use Rattle.std.specs.Prelude.{ℕ, ◌-◌, Bool, true, false, List, [], ◌∷◌, ◌++◌, length, take, drop, if◌then◌else◌, sum_by}

-- how many desks there are
abbrev pub desk_count : {D : Type 0} → List (List D) → ℕ
desk_count rounds = sum_by length rounds

-- all desks, in order
abbrev pub all_desks : {D : Type 0} → List (List D) → List D
all_desks [] = []
all_desks (round ∷ rounds) = round ++ all_desks rounds

-- whether there are no desks
abbrev pub no_desks : {D : Type 0} → List (List D) → Bool
no_desks [] = true
no_desks ([] ∷ rounds) = no_desks rounds
no_desks ((desk ∷ desks) ∷ rounds) = false

-- the rounds with one more desk in the last
abbrev pub with_desk : {D : Type 0} → List (List D) → D → List (List D)
with_desk [] desk = []
with_desk (round ∷ []) desk = (round ++ desk ∷ []) ∷ []
with_desk (round ∷ next ∷ rounds) desk = round ∷ with_desk (next ∷ rounds) desk

-- the rounds without the last desk of all
abbrev pub without_last_desk : {D : Type 0} → List (List D) → List (List D)
without_last_desk [] = []
without_last_desk (round ∷ rounds) = if no_desks rounds then take (length round - 1) round ∷ rounds else round ∷ without_last_desk rounds

-- a list whose first items are replaced; where a lent slice was left, which keeps its length, these are all items
abbrev pub with_front : {D : Type 0} → List D → List D → List D
with_front desks left = take (length desks) (left ++ drop (length left) desks)
