-- Desks in rounds.
use Rattle.std.proofs.Common.{◌≡◌, ◌∙◌, ℕ, ◌-◌, ◌<◌, zero, suc, true, false, List, [], ◌∷◌, ◌++◌, length, take, drop, get_or, refl, sym, ap, arith, append_assoc, append-nil, length-append, slice_set}
use Rattle.std.proofs.Math.Seq.{take-append_seam}
use Rattle.byte_lines.specs.Desks.{with_desk, all_desks, no_desks, without_last_desk, with_front}

-- the last round with one more desk
pub with_desk-set : {D : Type 0} (rounds : List (List D)) (round : List D) (desk : D) (last : ℕ) → length rounds ≡ suc last → get_or rounds last round ≡ round
    → slice_set rounds last (round ++ desk ∷ []) ≡ with_desk rounds desk
with_desk-set [] round desk last l e = absurd (omega arith)
with_desk-set {D = D} (first ∷ []) round desk zero l e = ap (λ (r : List D). (r ++ desk ∷ []) ∷ []) (sym e)
with_desk-set (first ∷ []) round desk (suc last) l e = absurd (omega arith)
with_desk-set (first ∷ next ∷ rounds) round desk zero l e = absurd (omega arith)
with_desk-set {D = D} (first ∷ next ∷ rounds) round desk (suc last) l e = ap (λ (rs : List (List D)). first ∷ rs) (with_desk-set (next ∷ rounds) round desk last (omega arith) e)

-- where there are no desks, no round changes
pub without_last_desk-none : {D : Type 0} (rounds : List (List D)) → no_desks rounds ≡ true → without_last_desk rounds ≡ rounds
without_last_desk-none [] e = refl
without_last_desk-none ([] ∷ rounds) e = let none : no_desks rounds ≡ true = e in rw none refl
without_last_desk-none ((desk ∷ desks) ∷ rounds) e = cc

pub all_desks-none : {D : Type 0} (rounds : List (List D)) → no_desks rounds ≡ true → all_desks rounds ≡ []
all_desks-none [] e = refl
all_desks-none ([] ∷ rounds) e = all_desks-none rounds e
all_desks-none ((desk ∷ desks) ∷ rounds) e = cc

some_first : {D : Type 0} (front : List D) (desk : D) (rounds : List (List D)) → no_desks ((front ++ desk ∷ []) ∷ rounds) ≡ false
some_first [] desk rounds = refl
some_first (first ∷ front) desk rounds = refl

-- some round has a desk
pub no_desks-some : {D : Type 0} (rounds : List (List D)) (round front : List D) (desk : D) (at : ℕ) → at < length rounds → get_or rounds at round ≡ front ++ desk ∷ [] → no_desks rounds ≡ false
no_desks-some [] round front desk at l e = absurd (omega arith)
no_desks-some {D = D} (first ∷ rounds) round front desk zero l e = ap (λ (r : List D). no_desks (r ∷ rounds)) e ∙ some_first front desk rounds
no_desks-some ([] ∷ rounds) round front desk (suc at) l e = no_desks-some rounds round front desk at (omega arith) e
no_desks-some ((d ∷ ds) ∷ rounds) round front desk (suc at) l e = refl

without_last : {D : Type 0} (front : List D) (desk : D) → take (length (front ++ desk ∷ []) - 1) (front ++ desk ∷ []) ≡ front
without_last front desk =
    let n : length (front ++ desk ∷ []) - 1 ≡ length front = omega (arith, length-append front (desk ∷ [])) in
    ap (λ m. take m (front ++ desk ∷ [])) n ∙ take-append_seam front (desk ∷ [])

-- the desk that stands last in the last round with desks is taken out
pub without_last_desk-set : {D : Type 0} (rounds : List (List D)) (round front : List D) (desk : D) (at : ℕ) → at < length rounds → get_or rounds at round ≡ front ++ desk ∷ [] → no_desks (drop (suc at) rounds) ≡ true
    → slice_set rounds at front ≡ without_last_desk rounds
without_last_desk-set [] round front desk at l e none = absurd (omega arith)
without_last_desk-set {D = D} (first ∷ rounds) round front desk zero l e none =
    let empty : no_desks rounds ≡ true = none in
    rw empty (ap (λ (r : List D). r ∷ rounds) (sym (ap (λ (r : List D). take (length r - 1) r) e ∙ without_last front desk)))
without_last_desk-set {D = D} (first ∷ rounds) round front desk (suc at) l e none =
    let some : no_desks rounds ≡ false = no_desks-some rounds round front desk at (omega arith) e in
    rw some (ap (λ (rs : List (List D)). first ∷ rs) (without_last_desk-set rounds round front desk at (omega arith) e none))

-- all the desks are then those left, and the one taken out
pub all_desks-set : {D : Type 0} (rounds : List (List D)) (round front : List D) (desk : D) (at : ℕ) → at < length rounds → get_or rounds at round ≡ front ++ desk ∷ [] → no_desks (drop (suc at) rounds) ≡ true
    → all_desks rounds ≡ all_desks (slice_set rounds at front) ++ desk ∷ []
all_desks-set [] round front desk at l e none = absurd (omega arith)
all_desks-set {D = D} (first ∷ rounds) round front desk zero l e none =
    let empty : all_desks rounds ≡ [] = all_desks-none rounds none in
    ap (λ (ds : List D). first ++ ds) empty ∙ append-nil first ∙ e ∙ ap (λ (ds : List D). ds ++ desk ∷ []) (sym (append-nil front)) ∙ ap (λ (ds : List D). front ++ ds ++ desk ∷ []) (sym empty)
all_desks-set {D = D} (first ∷ rounds) round front desk (suc at) l e none =
    ap (λ (ds : List D). first ++ ds) (all_desks-set rounds round front desk at (omega arith) e none) ∙ sym (append_assoc first (all_desks (slice_set rounds at front)) (desk ∷ []))

-- what was left of a lent slice, which keeps its length, is all
pub with_front-whole : {D : Type 0} (desks left : List D) → length left ≡ length desks → with_front desks left ≡ left
with_front-whole {D = D} desks left e = ap (λ n. take n (left ++ drop (length left) desks)) (sym e) ∙ take-append_seam left (drop (length left) desks)
