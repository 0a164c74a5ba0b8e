-- The units of the demand of a name stand peg by peg, in the order of the pegs and day by day.
use Rattle.std.proofs.Common.{◌≡◌, ℕ, zero, suc, ◌+◌, ◌-◌, ◌/◌, ◌<◌, List, [], ◌∷◌, ◌++◌, length, get_or, refl, sym, ◌∙◌, ap, subst, arith, length-append}
use Rattle.std.proofs.lemmas.List.{get_or-append-add, get_or_append_left}
use Rattle.std.proofs.lemmas.List.FromFn.{length-map-range_with_len}
use Rattle.std.proofs.lemmas.List.Sums.{sum_by-cons}
use Rattle.std.proofs.lemmas.Grind.{flat_map-append}
use Rattle.std.specs.Prelude.{Option, sum, sum_by, take}
use Rattle.std.specs.List.{range_with_len, flat_map}
use Rattle.plan_schema.specs.declared.name.Name.{Name}
use Rattle.plan_schema.specs.declared.key.Key.TheVariants as keys
use Rattle.plan_schema.specs.Contents.{Contents, record_at}
use Rattle.planning_rules.specs.Days.{days_of}
use Rattle.planning_rules.specs.Plan.{Known, released, gross_on}
use Rattle.planning_rules.specs.Pegs.{Peg, FromDemand, FromParent, peg_qty, pegs_from}
use Rattle.planning_rules.specs.Trace.{End, AtDemand, Surplus, end_at, per_in, peg_ends}
use Rattle.planning_rules.proofs.PegLaws.{pegs_are_gross}
use Rattle.full_pegging.specs.Weights.{PegsStandInARow}

-- what stands in one of several lists stands behind those before it
flat_at : {X A : Type 0} (f : X → List A) (before : List X) (x : X) (behind : List X) (j : ℕ) (d : A) → j < length (f x)
    → get_or (flat_map f (before ++ x ∷ behind)) (length (flat_map f before) + j) d ≡ get_or (f x) j d
flat_at f before x behind j d low =
    ap (λ l. get_or l (length (flat_map f before) + j) d) (flat_map-append f before (x ∷ behind))
    ∙ get_or-append-add (flat_map f before) (f x ++ flat_map f behind) j d
    ∙ get_or_append_left (f x) (flat_map f behind) d j low

flat_fits : {X A : Type 0} (f : X → List A) (before : List X) (x : X) (behind : List X) (j : ℕ) → j < length (f x) → length (flat_map f before) + j < length (flat_map f (before ++ x ∷ behind))
flat_fits f before x behind j low =
    let all = ap length (flat_map-append f before (x ∷ behind)) in
    let two = length-append (flat_map f before) (f x ++ flat_map f behind) in
    let three = length-append (f x) (flat_map f behind) in
    omega (arith, all, two, three)

-- a number among some in a row
range_at : (t n a : ℕ) → t < n → range_with_len a n ≡ range_with_len a t ++ (a + t) ∷ range_with_len ((a + t) + 1) (n - suc t)
range_at t zero a low = absurd (omega arith)
range_at zero (suc n) a low =
    let place : a ≡ a + 0 = omega arith in
    let many : n ≡ suc n - 1 = omega arith in
    λ i. place i ∷ range_with_len (place i + 1) (many i)
range_at (suc t) (suc n) a low =
    let less : t < n = omega arith in
    let place : (a + 1) + t ≡ a + suc t = omega arith in
    let many : n - suc t ≡ suc n - suc (suc t) = omega arith in
    ap (λ ns. a ∷ ns) (range_at t n (a + 1) less ∙ λ i. range_with_len (a + 1) t ++ place i ∷ range_with_len (place i + 1) (many i))

module _ (ends : Name → List End) (plans : Name → Option Known) (c : Contents) (n : Name) where
  pub peg_length : (t : ℕ) (peg : Peg) → length (peg_ends ends plans c n t peg) ≡ peg_qty peg
  peg_length t (FromDemand order qty) = length-map-range_with_len (λ unit. AtDemand n order) 0 qty
  peg_length t (FromParent p qty) = length-map-range_with_len (λ unit. end_at p (ends p) (sum (take t (released (plans p))) + unit / per_in (record_at c (keys.Bill p n)))) 0 qty

  pegs_length : (t : ℕ) (pegs : List Peg) → length (flat_map (peg_ends ends plans c n t) pegs) ≡ sum_by peg_qty pegs
  pegs_length t [] = refl
  pegs_length t (peg ∷ pegs) =
      length-append (peg_ends ends plans c n t peg) (flat_map (peg_ends ends plans c n t) pegs)
      ∙ (λ i. peg_length t peg i + pegs_length t pegs i) ∙ sym (sum_by-cons peg_qty peg pegs)

  days_length : (ts : List ℕ) → length (flat_map (λ t. flat_map (peg_ends ends plans c n t) (pegs_from plans c n t)) ts) ≡ sum_by (gross_on plans c n) ts
  days_length [] = refl
  days_length (t ∷ ts) =
      length-append (flat_map (peg_ends ends plans c n t) (pegs_from plans c n t)) (flat_map (λ t. flat_map (peg_ends ends plans c n t) (pegs_from plans c n t)) ts)
      ∙ (λ i. (pegs_length t (pegs_from plans c n t) ∙ pegs_are_gross plans c n t) i + days_length ts i) ∙ sym (sum_by-cons (gross_on plans c n) t ts)

pub pegs_stand_in_a_row : PegsStandInARow
pegs_stand_in_a_row ends plans c n t before behind peg unit within are low =
    let pe = peg_ends ends plans c n t in
    let f = λ (day : ℕ). flat_map (peg_ends ends plans c n day) (pegs_from plans c n day) in
    let there = days_length ends plans c n (range_with_len 0 t) in
    let here = pegs_length ends plans c n t before in
    let long = peg_length ends plans c n t peg in
    let short : unit < length (pe peg) = omega (arith, long) in
    let place : (sum_by (gross_on plans c n) (range_with_len 0 t) + sum_by peg_qty before) + unit ≡ length (flat_map f (range_with_len 0 t)) + (length (flat_map pe before) + unit) = omega (arith, there, here) in
    let start : 0 + t ≡ t = omega arith in
    let days : range_with_len 0 (days_of c) ≡ range_with_len 0 t ++ t ∷ range_with_len (t + 1) (days_of c - suc t) =
    range_at t (days_of c) 0 within ∙ λ i. range_with_len 0 t ++ start i ∷ range_with_len (start i + 1) (days_of c - suc t) in
    let fits : length (flat_map pe before) + unit < length (f t) =
    subst (λ ps. length (flat_map pe before) + unit < length (flat_map pe ps)) (sym are) (flat_fits pe before peg behind unit short) in
    ap (λ p. get_or (flat_map f (range_with_len 0 (days_of c))) p (Surplus n)) place
    ∙ ap (λ ds. get_or (flat_map f ds) (length (flat_map f (range_with_len 0 t)) + (length (flat_map pe before) + unit)) (Surplus n)) days
    ∙ flat_at f (range_with_len 0 t) t (range_with_len (t + 1) (days_of c - suc t)) (length (flat_map pe before) + unit) (Surplus n) fits
    ∙ ap (λ ps. get_or (flat_map pe ps) (length (flat_map pe before) + unit) (Surplus n)) are
    ∙ flat_at pe before peg behind unit (Surplus n) short
