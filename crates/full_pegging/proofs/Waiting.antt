-- Units that land, and units that wait.
use Rattle.std.proofs.Common.{◌≡◌, ℕ, zero, suc, ◌+◌, ◌*◌, ◌<◌, ◌≤◌, List, [], ◌∷◌, ◌++◌, length, get_or, set, refl, sym, ◌∙◌, ap, arith}
use Rattle.std.proofs.lemmas.List.Sums.{sum_by-cons}
use Rattle.std.proofs.Math.Nat.{mul_assoc, suc-mul}
use Rattle.std.specs.Prelude.{sum_by}
use Rattle.std.specs.declared.vec.Vec.{Vec}
use Rattle.full_pegging.specs.declared.units.Units.{Units}
use Rattle.std.specs.List.{range_with_len}
use Rattle.full_pegging.specs.declared.follow.PartRows.{PartRows}
use Rattle.full_pegging.specs.Rows.{rows_weight}
use Rattle.full_pegging.specs.Following.{waiting_weight}

each_alike : (value n a : ℕ) → sum_by (λ unit. value) (range_with_len a n) ≡ n * value
each_alike value zero a = omega arith
each_alike value (suc n) a =
    let rest = each_alike value n (a + 1) in
    let times = suc-mul n value in
    sum_by-cons (λ (unit : ℕ). value) a (range_with_len (a + 1) n) ∙ omega (arith, rest, times)

-- units that all weigh alike
pub alike : (value first many times : ℕ) → times * sum_by (λ unit. value) (range_with_len first many) ≡ (times * many) * value
alike value first many times = ap (λ s. times * s) (each_alike value many first) ∙ sym (mul_assoc times many value)

-- one part's rows are put in place of others
pub rows_set : (measure : ℕ → ℕ → ℕ) (waiting : List PartRows) (q : ℕ) (part d : PartRows) → q < length waiting
    → waiting_weight measure (set waiting q part) + rows_weight (measure q) (get_or waiting q d).rows.items ≡ waiting_weight measure waiting + rows_weight (measure q) part.rows.items
rows_set measure [] q part d low = absurd (omega arith)
rows_set measure (first ∷ waiting) zero part d low = omega arith
rows_set measure (first ∷ waiting) (suc q) part d low =
    let short : q < length waiting = omega arith in
    let rest = rows_set (λ place. measure (suc place)) waiting q part d short in
    omega (arith, rest)

-- those of the parts behind it stay
pub rows_elsewhere : (waiting : List PartRows) (q k : ℕ) (part d : PartRows) → q < k → get_or (set waiting q part) k d ≡ get_or waiting k d
rows_elsewhere [] q k part d after = refl
rows_elsewhere (first ∷ waiting) q zero part d after = absurd (omega arith)
rows_elsewhere (first ∷ waiting) zero (suc k) part d after = refl
rows_elsewhere (first ∷ waiting) (suc q) (suc k) part d after = let less : q < k = omega arith in rows_elsewhere waiting q k part d less

-- one part's rows are among all
pub rows_within : (measure : ℕ → ℕ → ℕ) (waiting : List PartRows) (q : ℕ) (d : PartRows) → q < length waiting → rows_weight (measure q) (get_or waiting q d).rows.items ≤ waiting_weight measure waiting
rows_within measure [] q d low = absurd (omega arith)
rows_within measure (first ∷ waiting) zero d low = omega arith
rows_within measure (first ∷ waiting) (suc q) d low =
    let short : q < length waiting = omega arith in
    let rest = rows_within (λ place. measure (suc place)) waiting q d short in
    omega (arith, rest)

-- nothing waits
pub none_wait : (measure : ℕ → ℕ → ℕ) (waiting : List PartRows) → ((k : ℕ) (d : PartRows) → k < length waiting → (get_or waiting k d).rows.items ≡ []) → waiting_weight measure waiting ≡ 0
none_wait measure [] none = refl
none_wait measure (first ∷ waiting) none =
    let here = ap (rows_weight (measure 0)) (none 0 first (omega arith)) in
    let rest = none_wait (λ place. measure (suc place)) waiting (λ k d low. none (suc k) d (omega (arith, low))) in
    omega (arith, here, rest)

-- one more part
pub one_part : (measure : ℕ → ℕ → ℕ) (waiting : List PartRows) (part : PartRows) (count : ℕ) → length waiting ≡ count → waiting_weight measure (waiting ++ part ∷ []) ≡ waiting_weight measure waiting + rows_weight (measure count) part.rows.items
one_part measure [] part count long = ap (λ k. rows_weight (measure k) part.rows.items + 0) long ∙ omega arith
one_part measure (first ∷ waiting) part zero long = absurd (omega (arith, long))
one_part measure (first ∷ waiting) part (suc count) long =
    let less : length waiting ≡ count = omega (arith, long) in
    let rest = one_part (λ place. measure (suc place)) waiting part count less in
    omega (arith, rest)

-- rows that are others weigh what those weigh
pub weigh_rows : {Z : Type 0} (measure : ℕ → ℕ) (rows others : Vec Units Z) → rows ≡ others → rows_weight measure rows.items ≡ rows_weight measure others.items
weigh_rows measure rows others same = λ i. rows_weight measure (same i).items

pub long_set : (waiting : List PartRows) (q : ℕ) (part : PartRows) → length (set waiting q part) ≡ length waiting
long_set [] q part = refl
long_set (first ∷ waiting) zero part = refl
long_set (first ∷ waiting) (suc q) part = ap suc (long_set waiting q part)
