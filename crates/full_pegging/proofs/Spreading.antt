-- How units in a row go into units of their parent.
use Rattle.std.proofs.Common.{◌≡◌, ◌⊎◌, ℕ, zero, suc, ◌+◌, ◌-◌, ◌*◌, ◌/◌, ◌%◌, ◌<◌, ◌≤◌, min, inl, inr, List, [], ◌∷◌, map, refl, sym, ◌∙◌, ap, arith, le_refl}
use Rattle.std.proofs.lemmas.Bool.{cases_lt}
use Rattle.std.proofs.lemmas.List.Sums.{sum_by-cons}
use Rattle.std.proofs.lemmas.Nat.{div-mul-add, mod-mul-add, div-add-mod', mod_below, mul-le}
use Rattle.std.proofs.Math.Nat.{mul_assoc, mul-add, add-mul, suc-mul}
use Rattle.std.specs.Prelude.{sum_by, ◌^◌}
use Rattle.std.specs.List.{range_with_len}

-- numbers in a row, up to some of them and from there on
pub sums_split : (f : ℕ → ℕ) (n m a : ℕ) → sum_by f (range_with_len a (m + n)) ≡ sum_by f (range_with_len a m) + sum_by f (range_with_len (a + m) n)
sums_split f n zero a =
    let same : zero + n ≡ n = omega arith in
    let here : a ≡ a + zero = omega arith in
    (λ i. sum_by f (range_with_len (here i) (same i))) ∙ omega arith
sums_split f n (suc m) a =
    let more : suc m + n ≡ suc (m + n) = omega arith in
    let place : (a + 1) + m ≡ a + suc m = omega arith in
    let first = sum_by-cons f a (range_with_len (a + 1) (m + n)) in
    let again = sums_split f n m (a + 1) in
    let here = sum_by-cons f a (range_with_len (a + 1) m) in
    let rest : sum_by f (range_with_len ((a + 1) + m) n) ≡ sum_by f (range_with_len (a + suc m) n) = ap (λ s. sum_by f (range_with_len s n)) place in
    ap (λ k. sum_by f (range_with_len a k)) more ∙ omega (arith, first, again, here, rest)

-- numbers that are counted from another one on
pub sums_moved : (f : ℕ → ℕ) (b n a : ℕ) → sum_by (λ k. f (b + k)) (range_with_len a n) ≡ sum_by f (range_with_len (b + a) n)
sums_moved f b zero a = refl
sums_moved f b (suc n) a =
    let place : b + (a + 1) ≡ (b + a) + 1 = omega arith in
    sum_by-cons (λ k. f (b + k)) a (range_with_len (a + 1) n) ∙ ap (λ s. f (b + a) + s) (sums_moved f b n (a + 1) ∙ ap (λ s. sum_by f (range_with_len s n)) place)
    ∙ sym (sum_by-cons f (b + a) (range_with_len ((b + a) + 1) n))

pub sums_mapped : {X : Type 0} (measure : X → ℕ) (f : ℕ → X) (ns : List ℕ) → sum_by measure (map f ns) ≡ sum_by (λ n. measure (f n)) ns
sums_mapped measure f [] = refl
sums_mapped measure f (n ∷ ns) = sum_by-cons measure (f n) (map f ns) ∙ ap (λ s. measure (f n) + s) (sums_mapped measure f ns) ∙ sym (sum_by-cons (λ k. measure (f k)) n ns)

one_sum : (f : ℕ → ℕ) (a : ℕ) → sum_by f (range_with_len a 1) ≡ f a
one_sum f a = sum_by-cons f a [] ∙ omega arith

-- units that go into one
into_one : (measure : ℕ → ℕ) (before per q m r o : ℕ) → o ≡ q * per + r → r + m ≤ per → sum_by (λ unit. measure (before + unit / per)) (range_with_len o m) ≡ m * measure (before + q)
into_one measure before per q zero r o is fits = omega arith
into_one measure before per q (suc m) r o is fits =
    let low : r < per = omega arith in
    let here : o / per ≡ q = ap (λ k. k / per) is ∙ div-mul-add q per r low in
    let next : o + 1 ≡ q * per + (r + 1) = omega arith in
    let short : (r + 1) + m ≤ per = omega arith in
    let rest = into_one measure before per q m (r + 1) (o + 1) next short in
    let times = suc-mul m (measure (before + q)) in
    sum_by-cons (λ unit. measure (before + unit / per)) o (range_with_len (o + 1) m) ∙ (λ i. measure (before + here i) + rest i) ∙ omega (arith, times)

-- units that fill some
into_filled : (measure : ℕ → ℕ) (before per k q o : ℕ) → o ≡ q * per → sum_by (λ unit. measure (before + unit / per)) (range_with_len o (k * per)) ≡ per * sum_by measure (range_with_len (before + q) k)
into_filled measure before per zero q o is =
    let none : zero * per ≡ 0 = omega arith in
    ap (λ n. sum_by (λ unit. measure (before + unit / per)) (range_with_len o n)) none ∙ omega arith
into_filled measure before per (suc k) q o is =
    let once = suc-mul k per in
    let many : suc k * per ≡ per + k * per = omega (arith, once) in
    let here : o ≡ q * per + 0 = omega arith in
    let up = suc-mul q per in
    let next : o + per ≡ suc q * per = omega (arith, up) in
    let place : before + suc q ≡ (before + q) + 1 = omega arith in
    let fits : 0 + per ≤ per = omega arith in
    let one = into_one measure before per q per 0 o here fits in
    let rest = into_filled measure before per k (suc q) (o + per) next in
    ap (λ n. sum_by (λ unit. measure (before + unit / per)) (range_with_len o n)) many
    ∙ sums_split (λ unit. measure (before + unit / per)) (k * per) per o
    ∙ (λ i. one i + rest i)
    ∙ sym (mul-add per (measure (before + q)) (sum_by measure (range_with_len (before + suc q) k)))
    ∙ ap (λ s. per * s) (ap (λ p. measure (before + q) + sum_by measure (range_with_len p k)) place ∙ sym (sum_by-cons measure (before + q) (range_with_len ((before + q) + 1) k)))

-- units in a row: those that go into the unit begun, those that fill units, and those that are left
into_all : (measure : ℕ → ℕ) (before per first many head rest : ℕ) → 1 ≤ per → head ≡ min many (per - first % per) → rest ≡ many - head
    → sum_by (λ unit. measure (before + unit / per)) (range_with_len first many)
    ≡ head * measure (before + first / per) + (per * sum_by measure (range_with_len (before + (first / per + 1)) (rest / per)) + (rest % per) * measure (before + ((first / per + 1) + rest / per)))
into_all measure before per first many head rest some is left = by_cases (cases_lt (per - first % per) many)
  where
    by_cases : ((per - first % per) < many) ⊎ (many ≤ per - first % per)
        → sum_by (λ unit. measure (before + unit / per)) (range_with_len first many)
        ≡ head * measure (before + first / per) + (per * sum_by measure (range_with_len (before + (first / per + 1)) (rest / per)) + (rest % per) * measure (before + ((first / per + 1) + rest / per)))
    by_cases (inl more) =
        let low : first % per < per = mod_below first per some in
        let whole : first ≡ first / per * per + first % per = sym (div-add-mod' first per) in
        let exact : head ≡ per - first % per = omega arith in
        let all : many ≡ head + rest = omega arith in
        let parts : rest ≡ rest / per * per + rest % per = sym (div-add-mod' rest per) in
        let up = add-mul (first / per) 1 per in
        let next : first + head ≡ (first / per + 1) * per = omega (arith, up) in
        let more_up = add-mul (first / per + 1) (rest / per) per in
        let last : (first + head) + rest / per * per ≡ ((first / per + 1) + rest / per) * per + 0 = omega (arith, more_up) in
        let fits : first % per + head ≤ per = omega arith in
        let below : rest % per < per = mod_below rest per some in
        let short : 0 + rest % per ≤ per = omega arith in
        let a = into_one measure before per (first / per) head (first % per) first whole fits in
        let b = into_filled measure before per (rest / per) (first / per + 1) (first + head) next in
        let d = into_one measure before per ((first / per + 1) + rest / per) (rest % per) 0 ((first + head) + rest / per * per) last short in
        ap (λ n. sum_by (λ unit. measure (before + unit / per)) (range_with_len first n)) all
        ∙ sums_split (λ unit. measure (before + unit / per)) rest head first
        ∙ ap (λ s. sum_by (λ unit. measure (before + unit / per)) (range_with_len first head) + s)
        (ap (λ n. sum_by (λ unit. measure (before + unit / per)) (range_with_len (first + head) n)) parts ∙ sums_split (λ unit. measure (before + unit / per)) (rest % per) (rest / per * per) (first + head))
        ∙ (λ i. a i + (b i + d i))
    by_cases (inr less) =
        let low : first % per < per = mod_below first per some in
        let whole : first ≡ first / per * per + first % per = sym (div-add-mod' first per) in
        let exact : head ≡ many = omega arith in
        let none : rest ≡ 0 * per + 0 = omega arith in
        let fits : first % per + many ≤ per = omega arith in
        let no_filled : rest / per ≡ 0 = ap (λ k. k / per) none ∙ div-mul-add 0 per 0 some in
        let no_left : rest % per ≡ 0 = ap (λ k. k % per) none ∙ mod-mul-add 0 per 0 some in
        let a = into_one measure before per (first / per) many (first % per) first whole fits in
        let filled : per * sum_by measure (range_with_len (before + (first / per + 1)) (rest / per)) ≡ 0 = ap (λ k. per * sum_by measure (range_with_len (before + (first / per + 1)) k)) no_filled ∙ omega arith in
        let last : (rest % per) * measure (before + ((first / per + 1) + rest / per)) ≡ 0 = ap (λ k. k * measure (before + ((first / per + 1) + rest / per))) no_left ∙ omega arith in
        let same : head * measure (before + first / per) ≡ many * measure (before + first / per) = ap (λ k. k * measure (before + first / per)) exact in
        a ∙ omega (arith, filled, last, same)

-- no unit is filled, or each is counted as often as it should be
filled_weight : (measure : ℕ → ℕ) (at filled each full : ℕ) → (0 < filled → each ≡ full) → each * sum_by measure (range_with_len at filled) ≡ full * sum_by measure (range_with_len at filled)
filled_weight measure at zero each full some = omega arith
filled_weight measure at (suc k) each full some = ap (λ e. e * sum_by measure (range_with_len at (suc k))) (some (omega arith))

-- what units weigh is what the units of their parent weigh that they go into
pub spread : (measure : ℕ → ℕ) (before per first many times head rest each : ℕ) → 1 ≤ per → head ≡ min many (per - first % per) → rest ≡ many - head → (0 < rest / per → each ≡ times * per)
    → times * head * sum_by measure (range_with_len (before + first / per) 1)
    + (each * sum_by measure (range_with_len ((before + first / per) + 1) (rest / per)) + times * (rest % per) * sum_by measure (range_with_len (((before + first / per) + 1) + rest / per) 1))
    ≡ times * sum_by (λ unit. measure (before + unit / per)) (range_with_len first many)
spread measure before per first many times head rest each some is left counted =
    let a : times * head * sum_by measure (range_with_len (before + first / per) 1) ≡ times * (head * measure (before + first / per)) =
    ap (λ s. times * head * s) (one_sum measure (before + first / per)) ∙ mul_assoc times head (measure (before + first / per)) in
    let place : (before + first / per) + 1 ≡ before + (first / per + 1) = omega arith in
    let b : each * sum_by measure (range_with_len ((before + first / per) + 1) (rest / per)) ≡ times * (per * sum_by measure (range_with_len (before + (first / per + 1)) (rest / per))) =
    filled_weight measure ((before + first / per) + 1) (rest / per) each (times * per) counted
    ∙ ap (λ p. times * per * sum_by measure (range_with_len p (rest / per))) place ∙ mul_assoc times per (sum_by measure (range_with_len (before + (first / per + 1)) (rest / per))) in
    let end : ((before + first / per) + 1) + rest / per ≡ before + ((first / per + 1) + rest / per) = omega arith in
    let d : times * (rest % per) * sum_by measure (range_with_len (((before + first / per) + 1) + rest / per) 1) ≡ times * ((rest % per) * measure (before + ((first / per + 1) + rest / per))) =
    ap (λ s. times * (rest % per) * s) (one_sum measure (((before + first / per) + 1) + rest / per) ∙ ap measure end) ∙ mul_assoc times (rest % per) (measure (before + ((first / per + 1) + rest / per))) in
    let x = head * measure (before + first / per) in
    let y = per * sum_by measure (range_with_len (before + (first / per + 1)) (rest / per)) in
    let z = (rest % per) * measure (before + ((first / per + 1) + rest / per)) in
    (λ i. a i + (b i + d i)) ∙ ap (λ s. times * x + s) (sym (mul-add times y z)) ∙ sym (mul-add times x (y + z)) ∙ ap (λ s. times * s) (sym (into_all measure before per first many head rest some is left))

-- units up to a number and from it on weigh what all weigh
pub split_weight : (measure : ℕ → ℕ) (first many times below : ℕ) → below ≤ many
    → times * sum_by measure (range_with_len first below) + times * sum_by measure (range_with_len (first + below) (many - below)) ≡ times * sum_by measure (range_with_len first many)
split_weight measure first many times below fits =
    let all : below + (many - below) ≡ many = omega arith in
    sym (mul-add times (sum_by measure (range_with_len first below)) (sum_by measure (range_with_len (first + below) (many - below))))
    ∙ ap (λ s. times * s) (sym (sums_split measure (many - below) below first) ∙ ap (λ n. sum_by measure (range_with_len first n)) all)

-- bounds -------------------------------------------------------------------------------------------------------------------

pub part_fits : (times part all : ℕ) → part ≤ all → times * all < 2 ^ 64 → times * part < 2 ^ 64
part_fits times part all most fits = let more = mul-le times part times all (le_refl times) most in omega (arith, more)

pub quotient_most : (n per : ℕ) → n / per * per ≤ n
quotient_most n per = let e = div-add-mod' n per in omega (arith, e)

pub quotient_least : (n per : ℕ) → 1 ≤ per → n / per ≤ n
quotient_least n per some =
    let most = quotient_most n per in
    let more = mul-le (n / per) 1 (n / per) per (le_refl (n / per)) some in
    omega (arith, most, more)

pub remainder_most : (n per : ℕ) → n % per ≤ n
remainder_most n per = let e = div-add-mod' n per in omega (arith, e)
