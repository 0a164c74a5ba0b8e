-- The working days before a day, gone through from the start.
use Rattle.std.proofs.Common.{◌≡◌, ℕ, suc, zero, ◌+◌, ◌≤◌, List, [], ◌∷◌, ◌++◌, sym, ◌∙◌, ap, subst, arith, add-one, reverse, Bool, true, false, cond}
use Rattle.std.specs.Prelude.{filter, slice_get}
use Rattle.std.proofs.lemmas.List.{reverse-append}
use Rattle.planning_rules.specs.Days.{back, day_or_late, days_below, working_before, works_on}

-- a day that works comes after those that have passed
pub passed_more : (calendar : List Bool) (passed : List ℕ) (day : ℕ) → passed ≡ reverse (working_before calendar day) → works_on calendar day ≡ true → passed ++ day ∷ [] ≡ reverse (working_before calendar (day + 1))
passed_more calendar passed day so_far works =
    let before : List ℕ = working_before calendar day in
    ap (λ days. days ++ day ∷ []) so_far ∙ sym (reverse-append (day ∷ []) before) ∙ ap (λ b. reverse (cond b (day ∷ before) before)) (sym works) ∙ ap (λ n. reverse (working_before calendar n)) (sym (add-one day))

-- one that doesn't work changes nothing
pub passed_same : (calendar : List Bool) (passed : List ℕ) (day : ℕ) → passed ≡ reverse (working_before calendar day) → works_on calendar day ≡ false → passed ≡ reverse (working_before calendar (day + 1))
passed_same calendar passed day so_far rests =
    let before : List ℕ = working_before calendar day in
    so_far ∙ ap (λ b. reverse (cond b (day ∷ before) before)) (sym rests) ∙ ap (λ n. reverse (working_before calendar n)) (sym (add-one day))

one_more : (works : Bool) (days : List ℕ) (u most lead : ℕ) → u ≤ most → ((k : ℕ) → (day_or_late (slice_get days k)).0 ≤ most) → (day_or_late (slice_get (cond works (u ∷ days) days) lead)).0 ≤ most
one_more true days u most zero h rest = h
one_more true days u most (suc lead) h rest = rest lead
one_more false days u most lead h rest = rest lead

none_later : (works : ℕ → Bool) (u most lead : ℕ) → u ≤ most → (day_or_late (slice_get (filter works (days_below u)) lead)).0 ≤ most
none_later works zero most lead h = h
none_later works (suc u) most lead h =
    let less : u ≤ most = omega arith in
    one_more (works u) (filter works (days_below u)) u most lead less (λ k. none_later works u most k less)

back_within : (calendar : List Bool) (u lead : ℕ) → (back calendar u lead).0 ≤ u
back_within calendar u zero = omega arith
back_within calendar u (suc lead) = none_later (works_on calendar) u u lead (omega arith)

-- a release day is no later than the day of the receipt
pub told_within : (calendar : List Bool) (u lead : ℕ) (told : ℕ × Bool) → told ≡ back calendar u lead → told.0 ≤ u
told_within calendar u lead told e = subst (λ r. r.0 ≤ u) (sym e) (back_within calendar u lead)
